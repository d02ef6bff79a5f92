-- Two logs compared while both come in portions (document 02, W-209), cut anywhere and by turns.
-- Of each log at most one whole record waits for one of the other log, so nothing grows with the logs.
-- `proofs/Comparing` shows what is said at the end of this file.
-- Assumes nothing.
use Rattle.std.specs.Prelude.{ℕ, zero, suc, ◌+◌, Bool, true, false, cond, ◌&&◌, ◌||◌, not, List, [], ◌∷◌, ◌≡◌, eqb, length, take, drop}
use Rattle.comparison.specs.Compare.{meant, same_bytes, sides, What, in_kind, in_body, in_end, Difference, Verdict, differs, first_from, kinds, Comparison, compare}
use Rattle.reading.specs.Reading.{Reading, reading_at, end_of, turn, place_after}
use Rattle.session_log.specs.Record.{kind_of}

-- how far the comparison has come: the number and the place of the next two records, or the first difference
pub data Progress : Type 0 where
  going : ℕ → ℕ → Progress
  decided : Difference → Progress

-- up to the first difference both logs are at one place
abbrev pub decided_at : ℕ → ℕ → What → Progress
decided_at n place w = decided (record { number = n; offsets = sides place place; what = w })

-- the two records of one number: kind before body
abbrev pub met : Progress → List ℕ → List ℕ → Progress
met (decided d) l r = decided d
met (going n place) l r =
    cond (not (eqb (kind_of l) (kind_of r))) (decided_at n place in_kind)
    (cond (not (same_bytes (meant l) (meant r))) (decided_at n place in_body)
    (going (place_after n 1) (place_after place (length l))))

-- a record where the other log has none
abbrev pub alone : Progress → Progress
alone (decided d) = decided d
alone (going n place) = decided_at n place in_end

-- counts of some kinds with one record more of a kind
abbrev pub counted : List ℕ → List ℕ → ℕ → List ℕ
counted [] cs kind = []
counted (k ∷ ks) [] kind = []
counted (k ∷ ks) (c ∷ cs) kind = cond (eqb kind k) (place_after c 1) c ∷ counted ks cs kind

-- the eleven counts with some records more
abbrev pub tallied : List ℕ → List (List ℕ) → List ℕ
tallied cs [] = cs
tallied cs (r ∷ rs) = tallied (counted kinds cs (kind_of r)) rs

-- one of the two logs: how far it is read, the whole record that waits for one of the other log, the counts, and whether nothing more comes
pub record Side : Type 0 where
  pub reading : Reading
  pub waiting : List (List ℕ)
  pub counts : List ℕ
  pub over : Bool

abbrev pub is_waiting : Side → Bool
is_waiting s = not (eqb (length s.waiting) 0)

-- "A bad or cut log is .. taken as ending there."
abbrev pub is_done : Side → Bool
is_done s = s.over || s.reading.ended

-- a log that can take bytes
abbrev pub is_wanted : Side → Bool
is_wanted s = not (is_waiting s) && not (is_done s)

-- a log after a portion, and how many bytes of it were taken
pub record FedSide : Type 0 where
  pub side : Side
  pub taken : ℕ

-- up to the end of a record; nothing while a record waits, or once nothing more comes
unfoldable pub fed_side : Side → List ℕ → FedSide
fed_side s bytes = let t = turn s.reading bytes in
    cond (is_waiting s || s.over) (record { side = s; taken = 0 })
    (record {
      side = record { reading = t.read.reading; waiting = t.read.came; counts = tallied s.counts t.read.came; over = false };
      taken = t.taken;
    })

pub record Comparing : Type 0 where
  pub left : Side
  pub right : Side
  pub progress : Progress

-- a log without the record that waited, or with those after it
abbrev pub with_waiting : Side → List (List ℕ) → Side
with_waiting s rs = record { reading = s.reading; waiting = rs; counts = s.counts; over = s.over }

-- two records that wait meet; one that waits for a log that is done has none to meet
abbrev pub settled_by : Comparing → List (List ℕ) → List (List ℕ) → Comparing
settled_by c [] [] = c
settled_by c (l ∷ ls) (r ∷ rs) = record { left = with_waiting c.left ls; right = with_waiting c.right rs; progress = met c.progress l r }
settled_by c (l ∷ ls) [] = cond (is_done c.right) (record { left = with_waiting c.left ls; right = c.right; progress = alone c.progress }) c
settled_by c [] (r ∷ rs) = cond (is_done c.left) (record { left = c.left; right = with_waiting c.right rs; progress = alone c.progress }) c

unfoldable pub settled : Comparing → Comparing
settled c = settled_by c c.left.waiting c.right.waiting

abbrev pub fresh_side : Side
fresh_side = record { reading = reading_at 0; waiting = []; counts = 0 ∷ 0 ∷ 0 ∷ 0 ∷ 0 ∷ 0 ∷ 0 ∷ 0 ∷ 0 ∷ 0 ∷ 0 ∷ []; over = false }

abbrev pub fresh_comparing : Comparing
fresh_comparing = record { left = fresh_side; right = fresh_side; progress = going 0 0 }

-- one of the two logs, by its side
abbrev pub side_of : Bool → Comparing → Side
side_of right c = cond right c.right c.left

abbrev pub with_side : Bool → Side → Comparing → Comparing
with_side right s c = cond right (record { left = c.left; right = s; progress = c.progress }) (record { left = s; right = c.right; progress = c.progress })

-- a turn of one of the logs: its bytes up to the end of a record
unfoldable pub turned : Comparing → Bool → List ℕ → Comparing
turned c right bytes = settled (with_side right (fed_side (side_of right c) bytes).side c)

abbrev pub turn_length : Comparing → Bool → List ℕ → ℕ
turn_length c right bytes = (fed_side (side_of right c) bytes).taken

-- a portion of each log, and how many bytes of each were taken
pub record Fed : Type 0 where
  pub comparing : Comparing
  pub left : ℕ
  pub right : ℕ

abbrev pub further : ℕ → ℕ → Fed → Fed
further n m f = record { comparing = f.comparing; left = n + f.left; right = m + f.right }

-- a log wants bytes, and has some
abbrev pub can_take : Side → List ℕ → Bool
can_take s bytes = is_wanted s && not (eqb (length bytes) 0)

-- at most n turns, the left log's first
abbrev pub fed_by : ℕ → Comparing → List ℕ → List ℕ → Fed
fed_by zero c a b = record { comparing = c; left = 0; right = 0 }
fed_by (suc n) c a b =
    let l = turn_length c false a in
    let r = turn_length c true b in
    cond (can_take c.left a) (further l 0 (fed_by n (turned c false a) (drop l a) b))
    (cond (can_take c.right b) (further 0 r (fed_by n (turned c true b) a (drop r b)))
    (record { comparing = c; left = 0; right = 0 }))

-- each turn takes a byte at least
unfoldable pub fed : Comparing → List ℕ → List ℕ → Fed
fed c a b = fed_by (length a + length b) c a b

-- nothing more comes of one of the logs
abbrev pub closed_side : Side → Side
closed_side s = record { reading = s.reading; waiting = s.waiting; counts = s.counts; over = true }

unfoldable pub over : Comparing → Bool → Comparing
over c right = settled (with_side right (closed_side (side_of right c)) c)

-- the answer, if nothing more comes of either log
abbrev pub verdict_by : Progress → List (List ℕ) → List (List ℕ) → Verdict
verdict_by (decided d) ls rs = differs d
verdict_by (going n place) ls rs = first_from n (sides place place) ls rs

unfoldable pub answer_of : Comparing → Comparison
answer_of c = record {
  verdict = verdict_by c.progress c.left.waiting c.right.waiting;
  counts = sides c.left.counts c.right.counts;
  endings = sides (end_of c.left.reading) (end_of c.right.reading);
}

-- what is done with a comparer: portions are offered, at most so many of the bytes that are left of each log; or it is said that nothing more comes of a log, where none is left
pub data Move : Type 0 where
  offer : ℕ → ℕ → Move
  close : Bool → Move

-- a comparer, and the bytes that are left of each log
pub record Rest : Type 0 where
  pub comparing : Comparing
  pub left : List ℕ
  pub right : List ℕ

abbrev pub moved : Rest → Move → Rest
moved w (offer n m) = let f = fed w.comparing (take n w.left) (take m w.right) in record {
  comparing = f.comparing;
  left = drop f.left w.left;
  right = drop f.right w.right;
}
moved w (close right) = cond (eqb (length (cond right w.right w.left)) 0) (record { comparing = over w.comparing right; left = w.left; right = w.right }) w

abbrev pub moved_all : Rest → List Move → Rest
moved_all w [] = w
moved_all w (m ∷ ms) = moved_all (moved w m) ms

-- all of a log has been read: no byte of it is left, or an unknown kind has come
abbrev pub is_read : Side → List ℕ → Bool
is_read s bytes = eqb (length bytes) 0 || s.reading.ended

-- Any cutting of both logs gives the comparison of the two logs, once both are read.
abbrev pub AnyCutting : Type 0
AnyCutting = (a b : List ℕ) (moves : List Move)
    → let w = moved_all (record { comparing = fresh_comparing; left = a; right = b }) moves in
    is_read w.comparing.left w.left ≡ true
    → is_read w.comparing.right w.right ≡ true
    → answer_of w.comparing ≡ compare a b

-- And it gets there: whatever was offered, both logs are done, or one of them wants bytes,
abbrev pub NeverStuck : Type 0
NeverStuck = (a b : List ℕ) (moves : List Move)
    → let c = (moved_all (record { comparing = fresh_comparing; left = a; right = b }) moves).comparing in
    ((is_done c.left && is_done c.right) || (is_wanted c.left || is_wanted c.right)) ≡ true

-- and a log that wants bytes has taken all that it was offered.
abbrev pub AllTaken : Type 0
AllTaken = (c : Comparing) (a b : List ℕ)
    → let f = fed c a b in
    (is_wanted f.comparing.left ≡ true → f.left ≡ length a) × (is_wanted f.comparing.right ≡ true → f.right ≡ length b)
