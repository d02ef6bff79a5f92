-- A CEC 2.0 profile (document 02, W-203): what it changes, and what it leaves as document 01 has it.
-- Assumes nothing.
use Prim.Native.Nat.{ℕ, ◌+◌, ◌*◌}
use mathlib.Core.Bool.{false, ◌&&◌}
use mathlib.Core.List.{[], ◌∷◌}
use mathlib.Core.Logic.{◌⊎◌, ⊎_elim, ◌≢◌}
use mathlib.Core.Path.{◌≡◌}
use lib.Dec.{eqb}
use borrow.Author.Tests.{ne_eqb}
use Rattle.constants.specs.Kernel.{CEC-MSG-GIVE-FEATURES, CEC-OP-CEC-VERSION-2-0}
use Rattle.lists.specs.Tests.{and-true, and-false, or-false}
use Rattle.message.specs.Message.{destination, opcode}
use Rattle.message.specs.declared.Message.{Message}
use Rattle.rules.specs.Core.{may_answer, is_question, core_answer}
use Rattle.rules.specs.Features.{asks_features}
use Rattle.rules.specs.Incoming.{heard, heard_with}
use Rattle.rules.specs.State.{State}
use Rattle.settings.specs.declared.Settings.{Settings}

not_asked : (x : Settings) (code : ℕ) → (code ≢ CEC-MSG-GIVE-FEATURES) ⊎ (x.version ≢ CEC-OP-CEC-VERSION-2-0) → asks_features x code ≡ false
not_asked x code =
    ⊎_elim
    (λ p. rw (ne_eqb code CEC-MSG-GIVE-FEATURES p))
    (λ p. rw (ne_eqb x.version CEC-OP-CEC-VERSION-2-0 p, and-false (eqb code CEC-MSG-GIVE-FEATURES)))

-- "every message but A5, and with 4 or 5 A5 too, is dealt with as document 01 says": with its questions and its answers, in every state
pub as_document_01 : (s : State) (m : Message) (ts : ℕ)
    → (opcode m.bytes ≢ CEC-MSG-GIVE-FEATURES) ⊎ (s.settings.version ≢ CEC-OP-CEC-VERSION-2-0)
    → heard s m ts ≡ heard_with s (may_answer s m && is_question (opcode m.bytes)) (core_answer s.settings m) m ts
as_document_01 s m ts p = rw (not_asked s.settings (opcode m.bytes) p, or-false (is_question (opcode m.bytes)))

-- "With version 6 the core answers A5 with A6 to address 15: version and those three bytes", where it may answer at all
pub features_answered : (s : State) (m : Message) (ts : ℕ) → opcode m.bytes ≡ 0xA5 → s.settings.version ≡ 6
    → heard s m ts ≡ heard_with s (may_answer s m) ((destination m.bytes * 16 + 15) ∷ 0xA6 ∷ 6 ∷ s.settings.all_device_types ∷ s.settings.rc_profile ∷ s.settings.device_features ∷ []) m ts
features_answered s m ts p q = rw (p, q, and-true (may_answer s m))
