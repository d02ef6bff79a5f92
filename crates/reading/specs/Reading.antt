-- Reading a log, whatever is done with its records (document 02, W-201): its records and how it ends, as a whole and in portions.
-- All that reads a log stands on this: the replay, and the comparison of two logs. `proofs/Reading` shows what is said at the end of this file.
-- Assumes nothing.
use Rattle.std.specs.Prelude.{ℕ, zero, suc, ◌+◌, ◌%◌, Bool, true, false, cond, ◌&&◌, not, List, [], ◌∷◌, ◌++◌, ◌≡◌, eqb, ltb, leb, length, take, drop}
use Rattle.lists.specs.Vector.{put}
use Rattle.session_log.specs.Record.{is_kind, body_length, record_max, kind_of}

-- "Offsets and places over portions are 64 bits and wrap."
abbrev pub place_after : ℕ → ℕ → ℕ
place_after place n = (place + n) % 18446744073709551616

-- where a log ends: after a whole record, at an unknown kind, or in a record that is cut
pub data Ending : Type 0 where
  at_end : Ending
  bad_at : ℕ → Ending
  cut_at : ℕ → Ending

pub record Log : Type 0 where
  pub records : List (List ℕ)
  pub ending : Ending

abbrev pub ends : Ending → Log
ends e = record { records = []; ending = e }

abbrev pub with : List ℕ → Log → Log
with r l = record { records = r ∷ l.records; ending = l.ending }

-- at most n records of a log, the first of them at a place
abbrev pub read_at : ℕ → ℕ → List ℕ → Log
read_at zero place bytes = ends at_end
read_at (suc n) place [] = ends at_end
read_at (suc n) place (kind ∷ rest) = cond (not (is_kind kind)) (ends (bad_at place))
    (cond (ltb (length rest) (body_length kind)) (ends (cut_at place))
    (with (kind ∷ take (body_length kind) rest) (read_at n (place_after place (1 + body_length kind)) (drop (body_length kind) rest))))

-- a log has no more records than bytes
abbrev pub log_of : List ℕ → Log
log_of bytes = read_at (length bytes) 0 bytes

-- "The reader takes the log in portions cut anywhere": the bytes of a record that is not whole yet, the place of its kind in the log, and whether an unknown kind has come
pub record Reading : Type 0 where
  pub held : List ℕ
  pub place : ℕ
  pub ended : Bool

-- between two records, the next one at a place
abbrev pub reading_at : ℕ → Reading
reading_at place = record { held = []; place = place; ended = false }

-- the reading after some bytes, and the whole records that came
pub record Read : Type 0 where
  pub reading : Reading
  pub came : List (List ℕ)

-- nothing has come
abbrev pub still : Reading → Read
still r = record { reading = r; came = [] }

-- an unknown kind ends the log, and is no record
unfoldable pub unknown : Reading → Read
unknown r = still (record { held = []; place = r.place; ended = true })

abbrev pub is_whole : List ℕ → Bool
is_whole g = leb (1 + body_length (kind_of g)) (length g)

-- the record so far, with one byte more
unfoldable pub grown : Reading → List ℕ → Read
grown r g =
    cond (is_whole g) (record { reading = reading_at (place_after r.place (length g)); came = g ∷ [] })
    (still (record { held = g; place = r.place; ended = false }))

-- one byte of the log: the kind of a record, or one byte more of the record that has begun
unfoldable pub next : Reading → ℕ → Read
next r b = cond (eqb (length r.held) 0 && not (is_kind b)) (unknown r) (grown r (put record_max r.held b))

-- what was read, and then more bytes
abbrev pub joined : Read → Read → Read
joined n m = record { reading = m.reading; came = n.came ++ m.came }

-- any number of bytes; after an unknown kind nothing is read
abbrev pub read : Reading → List ℕ → Read
read r [] = still r
read r (b ∷ bs) = cond r.ended (still r) (joined (next r b) (read (next r b).reading bs))

-- where the log ends, if nothing more comes
unfoldable pub end_of : Reading → Ending
end_of r = cond r.ended (bad_at r.place) (cond (eqb (length r.held) 0) at_end (cut_at r.place))

-- a turn: the bytes of a portion up to the end of a record, or an unknown kind; what was read, and how many bytes that took
pub record Turn : Type 0 where
  pub read : Read
  pub taken : ℕ

-- neither a whole record nor an unknown kind has come
abbrev pub is_part : Read → Bool
is_part n = eqb (length n.came) 0 && not n.reading.ended

abbrev pub turn : Reading → List ℕ → Turn
turn r [] = record { read = still r; taken = 0 }
turn r (b ∷ bs) = cond r.ended (record { read = still r; taken = 0 })
    (let rest = turn (next r b).reading bs in
    cond (is_part (next r b)) (record { read = rest.read; taken = suc rest.taken }) (record { read = next r b; taken = 1 }))

-- the place after some records, the first of them at a place
abbrev pub place_of : ℕ → List (List ℕ) → ℕ
place_of place [] = place
place_of place (r ∷ rs) = place_of (place_after place (length r)) rs

-- A log read from its first byte: the records of the log came, it ends as the log does, and the reading is at the place after its records.
abbrev pub ReadsLog : Type 0
ReadsLog = (bytes : List ℕ)
    → let n = read (reading_at 0) bytes in
    (n.came ≡ (log_of bytes).records)
    × (end_of n.reading ≡ (log_of bytes).ending)
    × (n.reading.place ≡ place_of 0 (log_of bytes).records)

-- Where a log is cut does not matter.
abbrev pub CutsApart : Type 0
CutsApart = (r : Reading) (xs ys : List ℕ) → read r (xs ++ ys) ≡ joined (read r xs) (read (read r xs).reading ys)

-- Nor does it matter that a portion is read by turns.
abbrev pub ByTurns : Type 0
ByTurns = (r : Reading) (bytes : List ℕ) → let t = turn r bytes in read r bytes ≡ joined t.read (read t.read.reading (drop t.taken bytes))
