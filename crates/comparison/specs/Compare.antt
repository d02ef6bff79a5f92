-- Two logs compared (document 02, W-209): "Given two logs of W-201, say whether they are equal; if not, the number, from 0, of the first record that differs,
-- its offset in both, and whether kind, body or end differs. Also give, for each kind, the count in each log."
-- `proofs/Compare` shows what is said at the end of this file.
-- Assumes nothing.
use Rattle.std.specs.Prelude.{ℕ, zero, suc, ◌+◌, ◌<◌, Bool, true, false, cond, ◌&&◌, ◌||◌, not, List, [], ◌∷◌, ◌++◌, map, ◌↔◌, ◌≡◌, eqb, ltb, leb, length, get_or, take, drop}
use Rattle.lists.specs.Sums.{count}
use Rattle.reading.specs.Reading.{Ending, at_end, bad_at, cut_at, Log, log_of, place_after, place_of}
use Rattle.session_log.specs.Record.{byte_at, kind_of}

-- of the first `size` bytes those past a length as 0; a length over the size leaves none past it
abbrev pub cleared : ℕ → ℕ → List ℕ → List ℕ
cleared n zero bytes = bytes
cleared n (suc size) [] = []
cleared zero (suc size) (b ∷ bytes) = 0 ∷ cleared zero size bytes
cleared (suc n) (suc size) (b ∷ bytes) = b ∷ cleared n size bytes

-- where a record has a length, and for how many bytes there is room after it
pub record Field : Type 0 where
  pub length_at : ℕ
  pub size : ℕ

-- 04 transmit: handle, length, 16 bytes, ..; 09 message: length, 16 bytes, ..; 0A configure: .., name length, 14 bytes, ..; no other kind has a length
unfoldable pub field_of : ℕ → Field
field_of kind =
    cond (eqb kind 4) (record { length_at = 2; size = 16 })
    (cond (eqb kind 9) (record { length_at = 1; size = 16 })
    (cond (eqb kind 10) (record { length_at = 10; size = 14 })
    (record { length_at = 0; size = 0 })))

-- "Bytes past a length don't make a difference, all others do.": a record with those bytes as 0
unfoldable pub meant : List ℕ → List ℕ
meant r = let f = field_of (kind_of r) in take (1 + f.length_at) r ++ cleared (byte_at r f.length_at) f.size (drop (1 + f.length_at) r)

-- whether a place of a record is that of a byte past its length
abbrev pub is_past : List ℕ → ℕ → Bool
is_past r at = let f = field_of (kind_of r) in leb (1 + f.length_at + byte_at r f.length_at) at && ltb at (1 + f.length_at + f.size)

abbrev pub same_bytes : List ℕ → List ℕ → Bool
same_bytes [] [] = true
same_bytes [] (c ∷ cs) = false
same_bytes (b ∷ bs) [] = false
same_bytes (b ∷ bs) (c ∷ cs) = eqb b c && same_bytes bs cs

-- what there is of each of the two logs
pub record Sides (A : Type 0) : Type 0 where
  pub left : A
  pub right : A

abbrev pub sides : {A : Type 0} → A → A → Sides A
sides l r = record { left = l; right = r }

-- "whether kind, body or end differs"
pub data What : Type 0 where
  in_kind : What
  in_body : What
  in_end : What

-- "the number, from 0, of the first record that differs, its offset in both"; where a log has ended, the place where it has
pub record Difference : Type 0 where
  pub number : ℕ
  pub offsets : Sides ℕ
  pub what : What

pub data Verdict : Type 0 where
  equal : Verdict
  differs : Difference → Verdict

abbrev pub differs_at : ℕ → Sides ℕ → What → Verdict
differs_at n at w = differs (record { number = n; offsets = at; what = w })

-- the first difference of the records from number n on, each log at its place. Numbers are 64 bits and wrap, as offsets do
abbrev pub first_from : ℕ → Sides ℕ → List (List ℕ) → List (List ℕ) → Verdict
first_from n at [] [] = equal
first_from n at [] (r ∷ rs) = differs_at n at in_end
first_from n at (l ∷ ls) [] = differs_at n at in_end
first_from n at (l ∷ ls) (r ∷ rs) =
    cond (not (eqb (kind_of l) (kind_of r))) (differs_at n at in_kind)
    (cond (not (same_bytes (meant l) (meant r))) (differs_at n at in_body)
    (first_from (place_after n 1) (sides (place_after at.left (length l)) (place_after at.right (length r))) ls rs))

-- "for each kind, the count": of a whole log, not only up to the first difference. Counts are 64 bits and wrap, as offsets do
abbrev pub of_kind : ℕ → List (List ℕ) → ℕ
of_kind kind rs = place_after 0 (count (λ r. eqb (kind_of r) kind) rs)

-- the eleven kinds
abbrev pub kinds : List ℕ
kinds = 1 ∷ 2 ∷ 3 ∷ 4 ∷ 5 ∷ 6 ∷ 7 ∷ 8 ∷ 9 ∷ 10 ∷ 11 ∷ []

abbrev pub counts_of : List (List ℕ) → List ℕ
counts_of rs = map (λ kind. of_kind kind rs) kinds

-- the answer: "A bad or cut log is named as such with its offset and taken as ending there."
pub record Comparison : Type 0 where
  pub verdict : Verdict
  pub counts : Sides (List ℕ)
  pub endings : Sides Ending

unfoldable pub compared : Log → Log → Comparison
compared l r = record {
  verdict = first_from 0 (sides 0 0) l.records r.records;
  counts = sides (counts_of l.records) (counts_of r.records);
  endings = sides l.ending r.ending;
}

abbrev pub compare : List ℕ → List ℕ → Comparison
compare a b = compared (log_of a) (log_of b)

-- the sides of an answer swapped, and nothing else
abbrev pub swap : {A : Type 0} → Sides A → Sides A
swap s = sides s.right s.left

abbrev pub swap_verdict : Verdict → Verdict
swap_verdict equal = equal
swap_verdict (differs d) = differs (record { number = d.number; offsets = swap d.offsets; what = d.what })

abbrev pub swap_sides : Comparison → Comparison
swap_sides c = record { verdict = swap_verdict c.verdict; counts = swap c.counts; endings = swap c.endings }

-- "Swapping the inputs swaps the sides of the answer and nothing else."
abbrev pub Swapped : Type 0
Swapped = (a b : List ℕ) → compare b a ≡ swap_sides (compare a b)

-- Two logs are equal exactly if their records agree but for bytes past a length, however the logs end.
abbrev pub EqualExactly : Type 0
EqualExactly = (a b : List ℕ) → ((compare a b).verdict ≡ equal) ↔ (map meant (log_of a).records ≡ map meant (log_of b).records)

-- "Bytes past a length don't make a difference, all others do.": a byte past a length is meant as 0, every other as itself, and none is left out or added.
abbrev pub PastLength : Type 0
PastLength = (r : List ℕ) → ((at : ℕ) → byte_at (meant r) at ≡ cond (is_past r at) 0 (byte_at r at)) × (length (meant r) ≡ length r)

-- what differs between two lists of records at a number
abbrev pub Differs : List (List ℕ) → List (List ℕ) → ℕ → What → Type 0
Differs ls rs n in_kind = (n < length ls) × (n < length rs) × (eqb (kind_of (get_or ls n [])) (kind_of (get_or rs n [])) ≡ false)
Differs ls rs n in_body = (n < length ls) × (n < length rs) × (kind_of (get_or ls n []) ≡ kind_of (get_or rs n [])) × (same_bytes (meant (get_or ls n [])) (meant (get_or rs n [])) ≡ false)
Differs ls rs n in_end = ((eqb (length ls) n || eqb (length rs) n) ≡ true) × (eqb (length ls) (length rs) ≡ false)

-- What a difference says: there are so many records before it, which agree; it is where it says; both offsets are those after these records, and they are the same.
pub record First (ls rs : List (List ℕ)) (d : Difference) : Type 0 where
  pub before : ℕ
  pub number : d.number ≡ place_after 0 before
  pub agree : map meant (take before ls) ≡ map meant (take before rs)
  pub here : Differs ls rs before d.what
  pub on_left : d.offsets.left ≡ place_of 0 (take before ls)
  pub on_right : d.offsets.right ≡ place_of 0 (take before rs)
  pub level : d.offsets.left ≡ d.offsets.right

abbrev pub FirstDifference : Type 0
FirstDifference = (a b : List ℕ) (d : Difference) → (compare a b).verdict ≡ differs d → First (log_of a).records (log_of b).records d

-- the offset with which a log is named bad or cut
abbrev pub NamedAt : ℕ → Ending → Type 0
NamedAt place at_end = Unit {0}
NamedAt place (bad_at at) = at ≡ place
NamedAt place (cut_at at) = at ≡ place

-- A log that is named bad or cut is so at the place after its records: where it is taken as ending, and where a difference in the end is.
abbrev pub NamedWhereItEnds : Type 0
NamedWhereItEnds = (bytes : List ℕ) → NamedAt (place_of 0 (log_of bytes).records) (log_of bytes).ending
