-- The opcode of the reply that each kind of entry shows (document 02, W-207). `guarantee`: Opcodes says it of every entry after any calls.
-- Assumes nothing.
use Rattle.std.specs.Prelude.{ℕ, true, cond, ◌≡◌, eqb, get_or}
use Rattle.entry.specs.Entry.{result_entry, result_copy, message_copy}
use Rattle.entry.specs.declared.Counts.{Counts}
use Rattle.message.specs.Message.{contents, is_feature_abort}
use Rattle.message.specs.Reply.{is_wanted}
use Rattle.message.specs.Rule.{RULE-FEATURE-ABORT, first_rule}
use Rattle.message.specs.declared.Message.{Message}
use Rattle.rules.specs.Incoming.{reply_entry}
use Rattle.rules.specs.Time.{timeout_entry}
use Rattle.rules.specs.Unconfigure.{aborted_result, abort_entry}
use Rattle.transmission.specs.declared.Transmission.{Transmission}
use Rattle.wait.specs.Wait.{answered_by, rule_for}
use Rattle.wait.specs.declared.Wait.{Wait}

pub record OpcodesByKind : Type 0 where
  -- "Results and copies show 0."
  pub results : (n status : ℕ) (c : Counts) (m : Message) (ts : ℕ) → (result_entry n status c m ts).reply ≡ 0
  pub aborted_results : (t : Transmission) → (aborted_result t).reply ≡ 0
  pub result_copies : (status : ℕ) (c : Counts) (m : Message) (ts : ℕ) → (result_copy status c m ts).reply ≡ 0
  pub message_copies : (m : Message) (ts : ℕ) → (message_copy m ts).reply ≡ 0
  -- "timeouts and aborted waits show the wanted one"
  pub timeouts : (w : Wait) → (timeout_entry w).reply ≡ w.reply
  pub aborted_waits : (w : Wait) → (abort_entry w).reply ≡ w.reply
  -- "Each reply entry also shows the opcode that really came"
  pub replies : (m : Message) (w : Wait) (ts : ℕ) → answered_by m w ≡ true → (reply_entry w m ts).reply ≡ get_or (contents m) 1 0
  -- so it tells the rule: 0x00, the opcode wanted, or the other of the pair
  pub rules : (m : Message) (w : Wait) (ts : ℕ) → answered_by m w ≡ true
      → rule_for m w ≡ first_rule (is_feature_abort (reply_entry w m ts).reply) (is_wanted (reply_entry w m ts).reply w.reply) true
  -- and rx_status is 0x05 exactly for rule 1
  pub statuses : (m : Message) (w : Wait) (ts : ℕ) → answered_by m w ≡ true → (reply_entry w m ts).rx_status ≡ cond (eqb (rule_for m w) RULE-FEATURE-ABORT) 0x05 0x01
