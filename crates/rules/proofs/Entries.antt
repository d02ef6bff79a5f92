-- What each kind of entry shows as number and statuses.
-- Assumes nothing.
use Prim.Native.Nat.{ℕ}
use mathlib.Core.Bool.{cond}
use mathlib.Core.Path.{◌≡◌, refl}
use Rattle.constants.specs.Kernel.{CEC-RX-STATUS-TIMEOUT, CEC-RX-STATUS-ABORTED, CEC-TX-STATUS-ABORTED}
use Rattle.entry.specs.Entry.{result_entry, result_copy, reply, feature_abort_reply, message_copy}
use Rattle.entry.specs.declared.Counts.{Counts}
use Rattle.entry.specs.declared.Entry.{Entry}
use Rattle.lists.specs.Tests.{split}
use Rattle.message.specs.Message.{opcode, is_feature_abort}
use Rattle.message.specs.declared.Message.{Message}
use Rattle.rules.specs.Incoming.{reply_entry}
use Rattle.rules.specs.Time.{timeout_entry}
use Rattle.rules.specs.Unconfigure.{aborted_result, abort_entry}
use Rattle.transmission.specs.declared.Transmission.{Transmission}
use Rattle.wait.specs.declared.Wait.{Wait}

pub record Shows (number tx rx : ℕ) (e : Entry) : Type 0 where
  pub sequence : e.sequence ≡ number
  pub transmitted : e.tx_status ≡ tx
  pub received : e.rx_status ≡ rx

pub result_shows : (n status : ℕ) (c : Counts) (m : Message) (ts : ℕ) → Shows n status 0 (result_entry n status c m ts)
result_shows n status c m ts = record { sequence = refl; transmitted = refl; received = refl }

pub result_copy_shows : (status : ℕ) (c : Counts) (m : Message) (ts : ℕ) → Shows 0 status 0 (result_copy status c m ts)
result_copy_shows status c m ts = record { sequence = refl; transmitted = refl; received = refl }

reply_shows : (n : ℕ) (m : Message) (sent ts : ℕ) → Shows n 0 0x01 (reply n m sent ts)
reply_shows n m sent ts = record { sequence = refl; transmitted = refl; received = refl }

feature_abort_reply_shows : (n : ℕ) (m : Message) (sent ts : ℕ) → Shows n 0 0x05 (feature_abort_reply n m sent ts)
feature_abort_reply_shows n m sent ts = record { sequence = refl; transmitted = refl; received = refl }

pub aborted_result_shows : (t : Transmission) → Shows t.sequence CEC-TX-STATUS-ABORTED 0 (aborted_result t)
aborted_result_shows t = record { sequence = refl; transmitted = refl; received = refl }

pub timeout_entry_shows : (w : Wait) → Shows w.sequence 0 CEC-RX-STATUS-TIMEOUT (timeout_entry w)
timeout_entry_shows w = record { sequence = refl; transmitted = refl; received = refl }

pub abort_entry_shows : (w : Wait) → Shows w.sequence 0 CEC-RX-STATUS-ABORTED (abort_entry w)
abort_entry_shows w = record { sequence = refl; transmitted = refl; received = refl }

pub message_copy_shows : (m : Message) (ts : ℕ) → Shows 0 0 0x01 (message_copy m ts)
message_copy_shows m ts = record { sequence = refl; transmitted = refl; received = refl }

-- the entry of a reply, Feature Abort or not
pub reply_entry_shows : (w : Wait) (m : Message) (ts : ℕ) → Shows w.sequence 0 (cond (is_feature_abort (opcode m.bytes)) 0x05 0x01) (reply_entry w m ts)
reply_entry_shows w m ts =
    split (is_feature_abort (opcode m.bytes))
    (λ e. rw e (feature_abort_reply_shows w.sequence m _ ts))
    (λ e. rw e (reply_shows w.sequence m _ ts))
