-- The bytes and the cursor that code has as a reading (`Reading`), and a turn of it (document 02, W-201).
-- Assumes nothing.
use Rattle.std.specs.Prelude.{ℕ, cond, Option, None, Some, List, [], ◌∷◌, take}
use Rattle.reading.specs.Reading as reading
use Rattle.reading.specs.Reading.{Reading}
use Rattle.session_log.specs.Record.{is_kind, kind_of}
use Rattle.reader.specs.Kind.{kind_number}
use Rattle.reader.specs.declared.Cursor.{Cursor}
use Rattle.reader.specs.declared.Turn.{Turn}
use Rattle.reader.specs.declared.Whole.{Whole}

-- the bytes of a record that is not whole yet are the first of 28; a count over 28 counts as 28
abbrev pub reading_of : List ℕ → Cursor → Reading
reading_of bytes c = record { held = take c.count bytes; place = c.place; ended = c.ended }

-- a record that is whole is the first bytes of 28
abbrev pub came_of : Option Whole → List ℕ → List (List ℕ)
came_of None bytes = []
came_of (Some whole) bytes = take whole.length bytes ∷ []

abbrev pub turn_of : Turn → List ℕ → reading.Turn
turn_of t bytes = record {
  read = record { reading = reading_of bytes t.cursor; came = came_of t.came bytes };
  taken = t.taken;
}

-- the number of the call that a whole record stands for: its kind, 11 for an unknown one as in `Record.call_of`; 0 where none has come
abbrev pub call_in : List (List ℕ) → ℕ
call_in [] = 0
call_in (g ∷ gs) = cond (is_kind (kind_of g)) (kind_of g) 11

-- the same of the record that a turn of the code has made whole
abbrev pub number_of : Option Whole → ℕ
number_of None = 0
number_of (Some whole) = kind_number whole.kind
