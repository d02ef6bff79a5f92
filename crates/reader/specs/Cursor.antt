-- Where a log is read, after some bytes more of a record (`Reading.next`, in numbers alone).
-- Assumes nothing.
use Rattle.std.specs.Prelude.{ℕ, min, Bool, true, false, cond, not, ◌&&◌, ◌==◌, nat_lt}
use Rattle.session_log.specs.Record.{is_kind, body_length, record_max}
use Rattle.reading.specs.Reading.{place_after}
use Rattle.reader.specs.declared.Cursor.{Cursor}

-- a count over 28 counts as 28
abbrev pub at_most28 : ℕ → ℕ
at_most28 n = min n record_max

-- an unknown kind has come
abbrev pub is_bad : Cursor → ℕ → Bool
is_bad c kind = c.count == 0 && not (is_kind kind)

-- a record of a kind is whole with so many bytes
abbrev pub is_complete : ℕ → ℕ → Bool
is_complete kind count = nat_lt (body_length kind) count

-- the cursor where so many bytes of a record of a kind have come
unfoldable pub next_cursor : Cursor → ℕ → ℕ → Cursor
next_cursor c kind count =
    cond (is_bad c kind) (record { count = 0; place = c.place; ended = true })
    (cond (is_complete kind count) (record { count = 0; place = place_after c.place (at_most28 count); ended = false })
    (record { count = count; place = c.place; ended = false }))

-- the number of the call that a whole record stands for: its kind, 11 for an unknown one as in `Record.call_of`; 0 where nothing is played
unfoldable pub call_number : Cursor → ℕ → ℕ → ℕ
call_number c kind count = cond (is_bad c kind) 0 (cond (is_complete kind count) (cond (is_kind kind) kind 11) 0)
