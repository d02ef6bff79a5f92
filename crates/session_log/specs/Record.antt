-- The records of a log (document 02, W-201): "Each record is one byte of kind, then a body whose length the kind fixes".
-- A record is the list of its bytes, the kind first, so that the body's first byte is at place 1.
-- Assumes nothing.
use Rattle.std.specs.Prelude.{ℕ, zero, suc, ◌+◌, ◌*◌, Bool, cond, ◌&&◌, not, List, [], ◌∷◌, eqb, leb, get_or, take, drop}
use Rattle.entry.specs.declared.Counts.{Counts}
use Rattle.rules.specs.Call.{Call, Request, call_open, call_close, call_mode, call_transmit, call_receive, call_bus_start, call_bus_result, call_message, call_time, call_configure, call_unconfigure}
use Rattle.settings.specs.declared.Settings.{Settings}

-- 01 open, 02 close, 03 mode, 04 transmit, 05 receive, 06 start, 07 result, 08 time, 09 message, 0A configure, 0B unconfigure
abbrev pub is_kind : ℕ → Bool
is_kind kind = leb 1 kind && leb kind 11

-- the lengths of the bodies by kind; there is no kind 0. W-208: "Replay kinds 07 and 09 grow by 8 bytes at the end", the time
abbrev pub body_lengths : List ℕ
body_lengths = 0 ∷ 1 ∷ 1 ∷ 5 ∷ 27 ∷ 1 ∷ 0 ∷ 13 ∷ 4 ∷ 25 ∷ 27 ∷ 0 ∷ []

unfoldable pub body_length : ℕ → ℕ
body_length kind = get_or body_lengths kind 0

-- the longest record: a transmit or a configure
abbrev pub record_max : ℕ
record_max = 28

-- the byte at a place
abbrev pub byte_at : List ℕ → ℕ → ℕ
byte_at r at = get_or r at 0

-- "Numbers are low byte first"
abbrev pub number_at : List ℕ → ℕ → ℕ → ℕ
number_at r at zero = 0
number_at r at (suc n) = byte_at r at + 256 * number_at r (at + 1) n

abbrev pub kind_of : List ℕ → ℕ
kind_of r = byte_at r 0

-- "privilege is no only for 0"
abbrev pub open_of : List ℕ → Call
open_of r = call_open (not (eqb (byte_at r 1) 0))

-- handle, mode
abbrev pub mode_of : List ℕ → Call
mode_of r = call_mode (byte_at r 1) (number_at r 2 4)

-- length, 16 bytes, reply, timeout 4, flags 4, after the handle. "bytes past a length are ignored" by the rules: `request_message`
abbrev pub request_in : List ℕ → Request
request_in r = record { length = byte_at r 2; bytes = take 16 (drop 3 r); reply = byte_at r 19; timeout = number_at r 20 4; flags = number_at r 24 4 }

abbrev pub transmit_of : List ℕ → Call
transmit_of r = call_transmit (byte_at r 1) (request_in r)

-- four counts, after the status, and then the time
abbrev pub counts_in : List ℕ → Counts
counts_in r = record { arb_lost = byte_at r 2; nack = byte_at r 3; low_drive = byte_at r 4; error = byte_at r 5 }

abbrev pub result_of : List ℕ → Call
result_of r = call_bus_result (byte_at r 1) (counts_in r) (number_at r 6 8)

-- length, 16 bytes, time
abbrev pub incoming_of : List ℕ → Call
incoming_of r = call_message (byte_at r 1) (take 16 (drop 2 r)) (number_at r 18 8)

-- address 2, mask 2, version, type, vendor 3, name length, 14 bytes; W-203: "Replay kind 0A grows by these three bytes at the end"
abbrev pub settings_in : List ℕ → Settings
settings_in r = record {
  physical_address = number_at r 1 2;
  mask = number_at r 3 2;
  version = byte_at r 5;
  device_type = byte_at r 6;
  vendor_id = number_at r 7 3;
  name_length = byte_at r 10;
  name = take 14 (drop 11 r);
  all_device_types = byte_at r 25;
  rc_profile = byte_at r 26;
  device_features = byte_at r 27;
}

abbrev pub configure_of : List ℕ → Call
configure_of r = call_configure (settings_in r)

-- the call of a record, by its kind
unfoldable pub call_of : List ℕ → Call
call_of r =
    cond (eqb (kind_of r) 1) (open_of r)
    (cond (eqb (kind_of r) 2) (call_close (byte_at r 1))
    (cond (eqb (kind_of r) 3) (mode_of r)
    (cond (eqb (kind_of r) 4) (transmit_of r)
    (cond (eqb (kind_of r) 5) (call_receive (byte_at r 1))
    (cond (eqb (kind_of r) 6) call_bus_start
    (cond (eqb (kind_of r) 7) (result_of r)
    (cond (eqb (kind_of r) 8) (call_time (number_at r 1 4))
    (cond (eqb (kind_of r) 9) (incoming_of r)
    (cond (eqb (kind_of r) 10) (configure_of r) call_unconfigure)))))))))
