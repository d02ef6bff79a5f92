-- The opcode of the reply that each kind of entry shows (document 02, W-207).
-- Assumes nothing.
use Prim.Native.Nat.{ℕ}
use mathlib.Core.Bool.{Bool, true, false}
use mathlib.Core.Path.{◌≡◌, refl, sym, ap, ◌∙◌}
use native.Mathlib.Omega.{arith}
use lib.Dec.{eqb}
use lib.ListN.{get_or, length-take}
use lib.Seq.{get_or-take}
use Rattle.lists.specs.Tests.{split}
use Rattle.message.proofs.Rule.{reply_long, rule_says}
use Rattle.message.specs.Message.{contents, is_feature_abort, opcode}
use Rattle.message.specs.Reply.{is_wanted}
use Rattle.message.specs.Rule.{RULE-FEATURE-ABORT, first_rule}
use Rattle.message.specs.declared.Message.{Message}
use Rattle.rules.proofs.Entries.{reply_entry_shows}
use Rattle.rules.specs.Incoming.{reply_entry}
use Rattle.rules.specs.Opcodes.{OpcodesByKind}
use Rattle.wait.specs.Wait.{answered_by, rule_for}
use Rattle.wait.specs.declared.Wait.{Wait}

first_abort : (f w : Bool) → eqb (first_rule f w true) RULE-FEATURE-ABORT ≡ f
first_abort true w = refl
first_abort false true = refl
first_abort false false = refl

shown_opcode : (w : Wait) (m : Message) (ts : ℕ) → (reply_entry w m ts).reply ≡ opcode m.bytes
shown_opcode w m ts = split (is_feature_abort (opcode m.bytes)) (λ q. rw q) (λ q. rw q)

module _ (m : Message) (w : Wait) (e : answered_by m w ≡ true) where
  -- what is shown is of the bytes that came
  came_opcode : opcode m.bytes ≡ get_or (contents m) 1 0
  came_opcode =
      let long = reply_long (contents w.sent) (contents m) w.reply e in
      sym (get_or-take m.length m.bytes 1 0 (omega (arith, long, length-take m.length m.bytes)))

  rule_opcode : rule_for m w ≡ first_rule (is_feature_abort (opcode m.bytes)) (is_wanted (opcode m.bytes) w.reply) true
  rule_opcode = rw came_opcode ((rule_says (contents w.sent) (contents m) w.reply).opcode e)

  -- the rule is 1 exactly for a Feature Abort
  pub rule_abort : eqb (rule_for m w) RULE-FEATURE-ABORT ≡ is_feature_abort (opcode m.bytes)
  rule_abort = ap (λ (rule : ℕ). eqb rule RULE-FEATURE-ABORT) rule_opcode ∙ first_abort (is_feature_abort (opcode m.bytes)) (is_wanted (opcode m.bytes) w.reply)

pub opcodes_by_kind : OpcodesByKind
opcodes_by_kind = record {
  results = λ n status c m ts. refl;
  aborted_results = λ t. refl;
  result_copies = λ status c m ts. refl;
  message_copies = λ m ts. refl;
  timeouts = λ w. refl;
  aborted_waits = λ w. refl;
  replies = λ m w ts e. shown_opcode w m ts ∙ came_opcode m w e;
  rules = λ m w ts e. rw (shown_opcode w m ts) (rule_opcode m w e);
  statuses = λ m w ts e. rw (rule_abort m w e) (reply_entry_shows w m ts).received;
}
