-- Logs and what their replay prints. Assumes nothing.
use mathlib.Core.List.{List, [], ◌∷◌, ◌++◌}
use mathlib.Core.Path.{◌≡◌, refl}
use Prim.Native.Nat.{ℕ}
use lib.ListN.{replicate}
use Rattle.session_log.specs.Record.{body_length, call_of}
use Rattle.session_log.specs.Session.{fresh_session, bad, played, grown, next, fed, finished}
use Rattle.session_log.specs.Text.{decimal}
use Rattle.message.specs.Message.{message}
use Rattle.rules.proofs.KnownAnswers.{every_rule}
use Rattle.rules.specs.BusResult.{do_bus_result, is_final, kept_counts}
use Rattle.rules.specs.BusStart.{do_bus_start}
use Rattle.rules.specs.Call.{unless, check}
use Rattle.rules.specs.Configure.{do_configure}
use Rattle.rules.specs.Core.{sends, answers, notes}
use Rattle.rules.specs.Deliver.{copy_to_by, copies_by}
use Rattle.rules.specs.Mode.{do_mode}
use Rattle.rules.specs.Number.{sequence_after}
use Rattle.rules.specs.Open.{do_open}
use Rattle.rules.specs.Owed.{room_owed, replies_wanted, is_taken}
use Rattle.rules.specs.Receive.{do_receive}
use Rattle.rules.specs.State.{fresh}
use Rattle.rules.specs.Transmit.{do_transmit}

-- a log that prints a text
abbrev Prints : List ℕ → List ℕ → Type 0
Prints log text = (fed fresh_session log).text ++ finished (fed fresh_session log).session ≡ text

-- "The log 01 00 05 00 0C prints exactly `1 0`, `5 11`, `bad 4`."
pub document_example : Prints (0x01 ∷ 0x00 ∷ 0x05 ∷ 0x00 ∷ 0x0C ∷ []) (49 ∷ 32 ∷ 48 ∷ 10 ∷ 53 ∷ 32 ∷ 49 ∷ 49 ∷ 10 ∷ 98 ∷ 97 ∷ 100 ∷ 32 ∷ 52 ∷ 10 ∷ [])
unfolding body_length call_of bad played grown next finished decimal fresh unless check do_open do_receive
document_example = refl

pub empty_log : Prints [] []
unfolding finished
empty_log = refl

-- 03 00 prints `cut 0`
pub cut_record : Prints (0x03 ∷ 0x00 ∷ []) (99 ∷ 117 ∷ 116 ∷ 32 ∷ 48 ∷ 10 ∷ [])
unfolding body_length grown next finished decimal
cut_record = refl

-- 06 prints `6 11`
pub nothing_to_start : Prints (0x06 ∷ []) (54 ∷ 32 ∷ 49 ∷ 49 ∷ 10 ∷ [])
unfolding body_length call_of played grown next finished decimal fresh unless check do_bus_start
nothing_to_start = refl

-- a mode of 4 bytes, the low one first: 01 01 03 00 11 00 00 00 prints `1 0`, `3 0`
pub low_byte_first : Prints (0x01 ∷ 0x01 ∷ 0x03 ∷ 0x00 ∷ 0x11 ∷ 0x00 ∷ 0x00 ∷ 0x00 ∷ []) (49 ∷ 32 ∷ 48 ∷ 10 ∷ 51 ∷ 32 ∷ 48 ∷ 10 ∷ [])
unfolding body_length call_of played grown next finished decimal fresh unless check do_open do_mode
low_byte_first = refl

-- a poll to 15, with a time of 8 bytes: 2 to the 56th, and then 255, which is refused: `9 0`, `9 22`
abbrev poll_record : List ℕ → List ℕ
poll_record time = (0x09 ∷ 0x01 ∷ 0x0F ∷ replicate 15 0) ++ time

pub earlier_time : Prints (poll_record (replicate 7 0 ++ (0x01 ∷ [])) ++ poll_record (0xFF ∷ replicate 7 0)) (57 ∷ 32 ∷ 48 ∷ 10 ∷ 57 ∷ 32 ∷ 50 ∷ 50 ∷ 10 ∷ [])
unfolding every_rule body_length call_of played grown next finished decimal
earlier_time = refl

-- open, configure, transmit 40 8F, start, a result with status 01 at time 0, receive: `5 0 1 1 0 2`
abbrev session : List ℕ
session =
    (0x01 ∷ 0x01 ∷ [])
    ++ ((0x0A ∷ 0x00 ∷ 0x10 ∷ 0x10 ∷ 0x00 ∷ 0x05 ∷ 0x04 ∷ 0xB0 ∷ 0xA0 ∷ 0x00 ∷ 0x01 ∷ 0x42 ∷ []) ++ (replicate 16 0
    ++ ((0x04 ∷ 0x00 ∷ 0x02 ∷ 0x40 ∷ 0x8F ∷ []) ++ (replicate 23 0
    ++ ((0x06 ∷ 0x07 ∷ 0x01 ∷ []) ++ (replicate 12 0 ++ (0x05 ∷ 0x00 ∷ [])))))))

abbrev lines : List ℕ
lines =
    49 ∷ 32 ∷ 48 ∷ 10 ∷ 49 ∷ 48 ∷ 32 ∷ 48 ∷ 10 ∷ 52 ∷ 32 ∷ 48 ∷ 10 ∷ 54 ∷ 32 ∷ 48 ∷ 10 ∷ 55 ∷ 32 ∷ 48 ∷ 10
    ∷ 53 ∷ 32 ∷ 48 ∷ 32 ∷ 49 ∷ 32 ∷ 49 ∷ 32 ∷ 48 ∷ 32 ∷ 50 ∷ 10 ∷ []

pub received_entry : Prints session lines
unfolding body_length call_of played grown next finished decimal message fresh room_owed replies_wanted is_taken copy_to_by
    copies_by unless check do_open sequence_after do_transmit do_receive do_bus_start do_bus_result is_final kept_counts do_configure sends answers notes
received_entry = refl
