-- What the entries in the inboxes show of the reply: each kind shows it, and so does every entry after any calls.
-- Assumes nothing.
use Prim.Native.Nat.{ℕ}
use mathlib.Core.Bool.{false}
use mathlib.Core.Logic.{◌≢◌}
use mathlib.Core.Path.{◌≡◌, refl}
use native.Mathlib.Omega.{arith}
use lib.Dec.{eqb}
use Rattle.constants.specs.Kernel.{CEC-RX-STATUS-OK, CEC-RX-STATUS-TIMEOUT, CEC-RX-STATUS-ABORTED}
use Rattle.entry.specs.Entry.{result_entry, rx_entry, matched}
use Rattle.entry.specs.declared.Counts.{Counts}
use Rattle.guarantee.proofs.EveryEntry.{Kinds, every_entry}
use Rattle.guarantee.specs.Opcodes.{OpcodeShown, AlwaysShown, ReceivedShown}
use Rattle.inbox.specs.Inboxes.{oldest}
use Rattle.lists.specs.Tests.{split, clash}
use Rattle.message.specs.Message.{opcode, is_feature_abort}
use Rattle.message.specs.declared.Message.{Message}
use Rattle.rules.proofs.Checks.{unless_answer}
use Rattle.rules.specs.Call.{received}
use Rattle.rules.specs.Handles.{has_bit}
use Rattle.rules.specs.Incoming.{reply_entry}
use Rattle.rules.specs.Receive.{do_receive, receive_refusal}
use Rattle.wait.specs.declared.Wait.{Wait}

-- ---- each kind of entry
-- a result, of a number or a copy, shows 0, and no receive status
result_shown : (n status : ℕ) (c : Counts) (m : Message) (ts : ℕ) → OpcodeShown (result_entry n status c m ts)
result_shown n status c m ts = record { results = λ _. refl; copies = λ _. refl; replies = λ _ q. clash q refl; feature_aborts = λ _ q. clash q refl }

-- so does the copy of a message, and what stands past the end of an inbox: they bear number 0
unnumbered_shown : (status : ℕ) (m : Message) (ts : ℕ) → OpcodeShown (rx_entry 0 status m 0 0 ts)
unnumbered_shown status m ts = record { results = λ _. refl; copies = λ _. refl; replies = λ n _. absurd (n refl); feature_aborts = λ n _. absurd (n refl) }

-- a wait that ends without a reply shows what was wanted, and no OK bit
ended_shown : (status : ℕ) → status ≢ 0 → has_bit CEC-RX-STATUS-OK status ≡ false → (w : Wait) → w.sequence ≢ 0 → OpcodeShown (rx_entry w.sequence status w.sent w.reply w.tx_ts 0)
ended_shown status s b w n = record {
  results = λ p. absurd (s p);
  copies = λ p. absurd (n p);
  replies = λ _ q. clash q b;
  feature_aborts = λ _ q. clash q b;
}

-- a reply shows the opcode of its message, which is 0 exactly for Feature Abort
matched_shown : (status : ℕ) → status ≢ 0 → (w : Wait) (m : Message) (ts : ℕ) → w.sequence ≢ 0 → eqb (opcode m.bytes) 0 ≡ eqb status 0x05 → OpcodeShown (matched w.sequence status m w.tx_ts ts)
matched_shown status s w m ts n e = record {
  results = λ p. absurd (s p);
  copies = λ p. absurd (n p);
  replies = λ _ _. refl;
  feature_aborts = λ _ _. e;
}

reply_shown : (w : Wait) (m : Message) (ts : ℕ) → w.sequence ≢ 0 → OpcodeShown (reply_entry w m ts)
reply_shown w m ts n =
    split (is_feature_abort (opcode m.bytes))
    (λ e. rw e (matched_shown 0x05 (omega arith) w m ts n e))
    (λ e. rw e (matched_shown 0x01 (omega arith) w m ts n e))

-- whatever the clock says
kinds : Kinds (λ k e. OpcodeShown e)
kinds = record {
  later = λ k l e h a. a;
  none = λ k. unnumbered_shown 0 _ 0;
  results = λ n status c m ts k l. result_shown n status c m ts;
  copies = λ m k. unnumbered_shown CEC-RX-STATUS-OK m k;
  replies = λ w m k n l. reply_shown w m k n;
  timeouts = λ w k n l. ended_shown CEC-RX-STATUS-TIMEOUT (omega arith) refl w n;
  aborts = λ w k n l. ended_shown CEC-RX-STATUS-ABORTED (omega arith) refl w n;
}

-- ---- every entry
pub always_shown : AlwaysShown
always_shown c calls = every_entry (λ k e. OpcodeShown e) kinds c calls

-- a receive gives the oldest entry of an inbox
pub received_shown : ReceivedShown
unfolding do_receive
received_shown s h e k q =
    let d = unless_answer s _ (receive_refusal s h) (received e) (λ n z. let y : ◌≡◌ {A = ℕ} 0 1 = cc in omega arith) q in
    let z : received (oldest s.inboxes h) ≡ received e = d.2 in
    let p : oldest s.inboxes h ≡ e = cc in
    rw p at (k h 0)
