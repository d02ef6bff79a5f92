-- A CEC 2.0 profile: one core message more (document 02, W-203). Document 01's questions and answers are as they were.
-- Assumes nothing.
use Rattle.std.specs.Prelude.{ℕ, Bool, cond, ◌&&◌, ◌||◌, List, [], ◌∷◌, eqb}
use Rattle.constants.specs.Kernel.{CEC-LOG-ADDR-BROADCAST, CEC-MSG-GIVE-FEATURES, CEC-MSG-REPORT-FEATURES, CEC-OP-CEC-VERSION-2-0}
use Rattle.message.specs.Message.{destination, opcode}
use Rattle.message.specs.declared.Message.{Message}
use Rattle.rules.specs.Core.{header, may_answer_by, is_question, core_answer}
use Rattle.rules.specs.Derived.{Derived, counted}
use Rattle.rules.specs.State.{State}
use Rattle.settings.specs.declared.Settings.{Settings}

-- "With version 6 the core answers A5"; "With version 4 or 5 .. A5 is no core message."
abbrev pub asks_features : Settings → ℕ → Bool
asks_features x code = eqb code CEC-MSG-GIVE-FEATURES && eqb x.version CEC-OP-CEC-VERSION-2-0

-- "with A6 to address 15: version and those three bytes"
abbrev pub features_answer : Settings → ℕ → List ℕ
features_answer x here =
    header here CEC-LOG-ADDR-BROADCAST
    ∷ CEC-MSG-REPORT-FEATURES
    ∷ x.version
    ∷ x.all_device_types
    ∷ x.rc_profile
    ∷ x.device_features
    ∷ []

-- the core's questions under these settings: document 01's and this one
abbrev pub is_question_for : Settings → ℕ → Bool
is_question_for x code = is_question code || asks_features x code

-- its answers; the answer is asked for a question only
abbrev pub answer_for : Settings → Message → List ℕ
answer_for x m = cond (asks_features x (opcode m.bytes)) (features_answer x (destination m.bytes)) (core_answer x m)

-- "Passthrough leaves it to the follower": the limits are those of every core answer
abbrev pub is_answered_by : Derived → State → Message → Bool
is_answered_by d s m = may_answer_by d s m && is_question_for s.settings (opcode m.bytes)

abbrev pub is_answered : State → Message → Bool
is_answered = is_answered_by counted
