-- The replay of a log that comes byte by byte (document 02, W-201): "The reader takes the log in portions cut anywhere".
-- Assumes nothing.
use Rattle.std.specs.Prelude.{ℕ, suc, ◌+◌, ◌-◌, ◌%◌, Bool, true, false, cond, ◌&&◌, ◌||◌, not, List, [], ◌∷◌, ◌++◌, eqb, ltb, leb, length}
use Rattle.lists.specs.Vector.{put}
use Rattle.session_log.specs.Record.{is_kind, body_length, record_max, kind_of, call_of}
use Rattle.session_log.specs.Text.{numbers_of, line_of, bad_line, cut_line, line_max}
use Rattle.rules.specs.State.{State, fresh}
use Rattle.rules.specs.Step.{step}

-- the adapter, the bytes of a record that is not whole yet, the place of its kind in the log, and whether an unknown kind has come
pub record Session : Type 0 where
  pub state : State
  pub held : List ℕ
  pub place : ℕ
  pub ended : Bool

-- "the adapter is fresh, with both capabilities"
abbrev pub fresh_session : Session
fresh_session = record { state = fresh (record { transmit = true; monitor_all = true }); held = []; place = 0; ended = false }

-- "Offsets and places over portions are 64 bits and wrap."
abbrev pub place_after : ℕ → ℕ → ℕ
place_after place n = (place + n) % 18446744073709551616

-- the session after some bytes, and what it has printed
pub record Printed : Type 0 where
  pub session : Session
  pub text : List ℕ

-- "An unknown kind prints `bad` and its offset and stops"
unfoldable pub bad : Session → Printed
bad s = record { session = record { state = s.state; held = []; place = s.place; ended = true }; text = bad_line s.place }

-- a whole record is played, and its line is printed
unfoldable pub played : Session → List ℕ → Printed
played s r = let o = step s.state (call_of r) in record {
  session = record { state = o.state; held = []; place = place_after s.place (length r); ended = false };
  text = line_of (kind_of r) (numbers_of o.answer);
}

abbrev pub is_whole : List ℕ → Bool
is_whole r = leb (1 + body_length (kind_of r)) (length r)

-- the record so far, with one byte more
unfoldable pub grown : Session → List ℕ → Printed
grown s r = cond (is_whole r) (played s r) (record { session = record { state = s.state; held = r; place = s.place; ended = false }; text = [] })

-- one byte of the log: the kind of a record, or one byte more of the record that has begun
unfoldable pub next : Session → ℕ → Printed
next s b = cond (eqb (length s.held) 0 && not (is_kind b)) (bad s) (grown s (put record_max s.held b))

-- any number of bytes; after an unknown kind nothing is read
abbrev pub fed : Session → List ℕ → Printed
fed s [] = record { session = s; text = [] }
fed s (b ∷ bs) = cond s.ended (record { session = s; text = [] })
    (let p = next s b in
    let rest = fed p.session bs in
    record { session = rest.session; text = p.text ++ rest.text })

-- "a cut record at the end prints `cut` and its offset"
unfoldable pub finished : Session → List ℕ
finished s = cond (s.ended || eqb (length s.held) 0) [] (cut_line s.place)

-- a portion with a buffer for the lines: how many of its bytes were taken
pub record Taken : Type 0 where
  pub session : Session
  pub taken : ℕ
  pub text : List ℕ

-- where the buffer has no room for any line more, or an unknown kind has come, the rest is not taken
abbrev pub taken : Session → List ℕ → ℕ → Taken
taken s [] room = record { session = s; taken = 0; text = [] }
taken s (b ∷ bs) room = cond (s.ended || ltb room line_max) (record { session = s; taken = 0; text = [] })
    (let rest = taken (next s b).session bs (room - length (next s b).text) in
    record { session = rest.session; taken = suc rest.taken; text = (next s b).text ++ rest.text })
