-- What the entries in the inboxes show of times: each kind shows it, and so does every entry after any calls.
-- Assumes nothing.
use Prim.Native.Nat.{ℕ, ◌≤◌}
use mathlib.Core.Bool.{true, false}
use mathlib.Core.Logic.{◌≢◌}
use mathlib.Core.Path.{◌≡◌, refl}
use native.Mathlib.Omega.{arith}
use Rattle.constants.specs.Kernel.{CEC-RX-STATUS-OK, CEC-RX-STATUS-TIMEOUT, CEC-RX-STATUS-ABORTED}
use Rattle.entry.specs.Entry.{result_entry, rx_entry, matched, message_copy, no_entry}
use Rattle.entry.specs.declared.Counts.{Counts}
use Rattle.entry.specs.declared.Entry.{Entry}
use Rattle.guarantee.proofs.EveryEntry.{every_entry}
use Rattle.guarantee.specs.Timestamps.{TimesShown, AlwaysTimed}
use Rattle.lists.specs.Tests.{split, clash}
use Rattle.message.specs.Message.{opcode, is_feature_abort}
use Rattle.message.specs.declared.Message.{Message}
use Rattle.rules.specs.Handles.{has_bit}
use Rattle.rules.specs.Incoming.{reply_entry}
use Rattle.wait.specs.declared.Wait.{Wait}

later_timed : (k l : ℕ) (e : Entry) → k ≤ l → TimesShown k e → TimesShown l e
later_timed k l e h a = record {
  copies = a.copies;
  replies = a.replies;
  unreceived = a.unreceived;
  sent_before = omega (arith, a.sent_before);
  received_before = omega (arith, a.received_before);
}

none_timed : (k : ℕ) → TimesShown k no_entry
none_timed k = record { copies = λ _ _. refl; replies = λ n _. absurd (n refl); unreceived = λ _. refl; sent_before = omega arith; received_before = omega arith }

result_timed : (n status : ℕ) (c : Counts) (m : Message) (ts k : ℕ) → ts ≤ k → TimesShown k (result_entry n status c m ts)
result_timed n status c m ts k l = record { copies = λ _ r. absurd (r refl); replies = λ _ q. clash q refl; unreceived = λ _. refl; sent_before = l; received_before = omega arith }

copy_timed : (m : Message) (k : ℕ) → TimesShown k (message_copy m k)
copy_timed m k = record { copies = λ _ _. refl; replies = λ n _. absurd (n refl); unreceived = λ q. clash refl q; sent_before = omega arith; received_before = omega arith }

-- a wait that ends without a reply
ended_timed : (status : ℕ) → has_bit CEC-RX-STATUS-OK status ≡ false → (w : Wait) (k : ℕ) → w.sequence ≢ 0 → w.tx_ts ≤ k → TimesShown k (rx_entry w.sequence status w.sent w.reply w.tx_ts 0)
ended_timed status b w k n l = record {
  copies = λ z _. absurd (n z);
  replies = λ _ q. clash q b;
  unreceived = λ _. refl;
  sent_before = l;
  received_before = omega arith;
}

-- and with one
matched_timed : (status : ℕ) → has_bit CEC-RX-STATUS-OK status ≡ true → (w : Wait) (m : Message) (k : ℕ) → w.sequence ≢ 0 → w.tx_ts ≤ k → TimesShown k (matched w.sequence status m w.tx_ts k)
matched_timed status b w m k n l = record {
  copies = λ z _. absurd (n z);
  replies = λ _ _. l;
  unreceived = λ q. clash b q;
  sent_before = l;
  received_before = omega arith;
}

reply_timed : (w : Wait) (m : Message) (k : ℕ) → w.sequence ≢ 0 → w.tx_ts ≤ k → TimesShown k (reply_entry w m k)
reply_timed w m k n l =
    split (is_feature_abort (opcode m.bytes))
    (λ e. rw e (matched_timed 0x05 refl w m k n l))
    (λ e. rw e (matched_timed 0x01 refl w m k n l))

pub always_timed : AlwaysTimed
always_timed c calls = every_entry TimesShown (record {
  later = later_timed;
  none = none_timed;
  results = result_timed;
  copies = copy_timed;
  replies = reply_timed;
  timeouts = ended_timed CEC-RX-STATUS-TIMEOUT refl;
  aborts = ended_timed CEC-RX-STATUS-ABORTED refl;
}) c calls
