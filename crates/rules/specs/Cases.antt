-- Cases to run the definitions on: what is done, from which state, and what the last call should give.
-- Assumes nothing.
use Rattle.std.specs.Prelude.{ℕ, Bool, true, false, ◌&&◌, List, [], ◌∷◌, ◌++◌, eqb, replicate, length}
use Rattle.entry.specs.Entry.{no_counts}
use Rattle.handle.specs.declared.Row.{Row}
use Rattle.lists.specs.Tests.{bit}
use Rattle.rules.specs.Call.{Call, Request, Answer, refused, done, opened, accepted, received, started, listed, address, call_open, call_transmit, call_receive, call_bus_start, call_bus_result, call_message, call_configure}
use Rattle.rules.specs.State.{State, fresh}
use Rattle.rules.specs.Step.{after, step}
use Rattle.settings.specs.declared.Settings.{Settings}

-- the first row of a listing
abbrev pub row_shown : List Row → List ℕ
row_shown [] = []
row_shown (r ∷ rows) = r.number ∷ bit r.is_open ∷ r.mode ∷ r.entries ∷ r.owed ∷ r.lost ∷ []

-- what an answer shows as numbers: the errno, or 0 and its values
abbrev pub shown : Answer → List ℕ
shown (refused errno) = errno ∷ []
shown done = 0 ∷ []
shown (opened h) = 0 ∷ h ∷ []
shown (accepted number status) = 0 ∷ number ∷ status ∷ []
shown (received e) = 0 ∷ e.sequence ∷ e.tx_status ∷ e.rx_status ∷ e.message.length ∷ e.counts.arb_lost ∷ e.counts.nack ∷ e.counts.low_drive ∷ e.counts.error ∷ e.reply ∷ e.tx_ts ∷ e.rx_ts ∷ []
shown (started m) = 0 ∷ m.length ∷ m.bytes
shown (listed rows) = 0 ∷ row_shown rows
shown (address a) = 0 ∷ a ∷ []

-- the answer of the last of a list of calls
abbrev pub last_answer : State → Answer → List Call → Answer
last_answer s a [] = a
last_answer s a (c ∷ cs) = last_answer (step s c).state (step s c).answer cs

abbrev pub bench_settings : Settings
bench_settings = record {
  physical_address = 0x1000;
  mask = 0x0010;
  version = 5;
  device_type = 4;
  vendor_id = 0x00A0B0;
  name_length = 1;
  name = 0x42 ∷ replicate 13 0;
  all_device_types = 0;
  rc_profile = 0;
  device_features = 0;
}

-- "Address 0x1000, mask 0x0010, both capabilities, privileged handle 0 alone open, in mode 0x01, unless said."
abbrev pub bench : Bool → State
bench privileged =
    after (fresh (record { transmit = true; monitor_all = true }))
    (call_open privileged
    ∷ call_configure bench_settings
    ∷ [])

-- bytes, and zeros after them
abbrev pub request : List ℕ → ℕ → Request
request bytes reply = record { length = length bytes; bytes = bytes ++ replicate 16 0; reply = reply; timeout = 0; flags = 0 }

-- at a time; at time 0, where times are no matter
abbrev pub incoming_at : List ℕ → ℕ → Call
incoming_at bytes ts = call_message (length bytes) (bytes ++ replicate 16 0) ts

abbrev pub incoming : List ℕ → Call
incoming bytes = incoming_at bytes 0

-- "sent 40 8F wants 90", its result 0x01 received; then what came, and a receive
abbrev pub asked : List ℕ → List Call
asked came =
    call_transmit 0 (request (0x40 ∷ 0x8F ∷ []) 0x90)
    ∷ call_bus_start
    ∷ call_bus_result 0x01 no_counts 0
    ∷ call_receive 0
    ∷ incoming came
    ∷ call_receive 0
    ∷ []

-- a message on the wire, and its result
abbrev pub resulting : ℕ → List Call
resulting status = call_transmit 0 (request (0x40 ∷ 0x8F ∷ []) 0) ∷ call_bus_start ∷ call_bus_result status no_counts 0 ∷ []

pub record Case : Type 0 where
  pub start : State
  pub calls : List Call
  pub gives : List ℕ

abbrev pub same : List ℕ → List ℕ → Bool
same [] [] = true
same [] (y ∷ ys) = false
same (x ∷ xs) [] = false
same (x ∷ xs) (y ∷ ys) = eqb x y && same xs ys

-- whether every case gives what it should
abbrev pub all_given : List Case → Bool
all_given [] = true
all_given (c ∷ cs) = same (shown (last_answer c.start done c.calls)) c.gives && all_given cs
