-- Two logs compared: the sides swap, and what the answer says is so.
-- Assumes nothing.
use Prim.Native.Nat.{ℕ, zero, suc, ◌+◌, ◌%◌, ◌≤◌, ◌<◌}
use mathlib.Core.Bool.{Bool, true, false, cond, ◌&&◌, ◌||◌, not}
use mathlib.Core.List.{List, [], ◌∷◌, ◌++◌, map, nil≢cons, cons≢nil, head-eq_of_cons-eq, tail-eq_of_cons-eq}
use mathlib.Core.Path.{◌≡◌, refl, sym, ap, ap₂, ◌∙◌}
use native.Mathlib.Nat.{add-zero, mod-add-mod}
use native.Mathlib.Omega.{arith}
use lib.Dec.{eqb, ltb, leb, leb-suc-suc, eqb-zero-suc, eqb-suc-zero, eqb-suc-suc}
use lib.ListN.{length, get_or, take, drop, length-append, take-append-drop}
use borrow.Author.Tests.{eqb-true, eqb-false, eq-eqb, ne_eqb, lt-ltb, le-ltb, le-leb, lt-leb}
use Rattle.lists.specs.Tests.{split, clash, both, eqb_refl, cond_same, and-false, or-true}
use Rattle.comparison.specs.Compare.{cleared, field_of, meant, is_past, same_bytes, Sides, sides, swap, What, in_kind, in_body, in_end, Difference, Verdict, equal, differs, differs_at, first_from, compared, compare, swap_verdict, Swapped, EqualExactly, PastLength, Differs, First, FirstDifference, NamedAt, NamedWhereItEnds}
use Rattle.reading.specs.Reading.{Ending, Reading, reading_at, end_of, read, log_of, place_after, place_of}
use Rattle.session_log.specs.Record.{byte_at, kind_of}
use Rattle.reading.proofs.Reading.{reads_log}

pub cond_under : {A B : Type 0} (f : A → B) (b : Bool) (x y : A) → cond b (f x) (f y) ≡ f (cond b x y)
cond_under f true x y = refl
cond_under f false x y = refl

-- tests of equality, swapped
eqb_swap : (a b : ℕ) → eqb a b ≡ eqb b a
eqb_swap a b = split (eqb a b)
    (λ e. rw e (sym (eq-eqb b a (sym (eqb-true a b e)))))
    (λ e. rw e (sym (ne_eqb b a (λ q. eqb-false a b e (sym q)))))

same_swap : (bs cs : List ℕ) → same_bytes bs cs ≡ same_bytes cs bs
same_swap [] [] = refl
same_swap [] (c ∷ cs) = refl
same_swap (b ∷ bs) [] = refl
same_swap (b ∷ bs) (c ∷ cs) = ap₂ ◌&&◌ (eqb_swap b c) (same_swap bs cs)

pub same_true : (bs cs : List ℕ) → same_bytes bs cs ≡ true → bs ≡ cs
same_true [] [] e = refl
same_true [] (c ∷ cs) e = clash refl (sym e)
same_true (b ∷ bs) [] e = clash refl (sym e)
same_true (b ∷ bs) (c ∷ cs) e = let m = both (eqb b c) (same_bytes bs cs) e in ap₂ ◌∷◌ (eqb-true b c m.0) (same_true bs cs m.1)

pub same_refl : (bs : List ℕ) → same_bytes bs bs ≡ true
same_refl [] = refl
same_refl (b ∷ bs) = rw (eqb_refl b) (same_refl bs)

first_swap : (n : ℕ) (at : Sides ℕ) (ls rs : List (List ℕ)) → first_from n (swap at) rs ls ≡ swap_verdict (first_from n at ls rs)
first_swap n at [] [] = refl
first_swap n at [] (r ∷ rs) = refl
first_swap n at (l ∷ ls) [] = refl
first_swap n at (l ∷ ls) (r ∷ rs) =
    let on = sides (place_after at.left (length l)) (place_after at.right (length r)) in
    let later = first_from (place_after n 1) on ls rs in
    rw (eqb_swap (kind_of r) (kind_of l), same_swap (meant r) (meant l), first_swap (place_after n 1) on ls rs)
    (ap (cond (not (eqb (kind_of l) (kind_of r))) (differs_at n (swap at) in_kind)) (cond_under swap_verdict (not (same_bytes (meant l) (meant r))) (differs_at n at in_body) later)
    ∙ cond_under swap_verdict (not (eqb (kind_of l) (kind_of r))) (differs_at n at in_kind) (cond (not (same_bytes (meant l) (meant r))) (differs_at n at in_body) later))

-- "Swapping the inputs swaps the sides of the answer and nothing else."
pub swapped : Swapped
unfolding compared
swapped a b =
    ap (λ (v : Verdict). record { verdict = v; counts = swap (compare a b).counts; endings = swap (compare a b).endings }) (first_swap 0 (sides 0 0) (log_of a).records (log_of b).records)

-- whether a place is that of a byte past the n first ones of so many, the first of them at p
abbrev past : ℕ → ℕ → ℕ → ℕ → Bool
past p n size at = leb (p + n) at && ltb at (p + size)

past-suc : (p n size at : ℕ) → past (suc p) n size (suc at) ≡ past p n size at
past-suc p n size at = ap₂ ◌&&◌
    (ap (λ (x : ℕ). leb x (suc at)) (shift p n) ∙ leb-suc-suc (p + n) at)
    (ap (λ (x : ℕ). ltb (suc at) x) (shift p size) ∙ leb-suc-suc (suc at) (p + size))
  where
    shift : (a b : ℕ) → suc a + b ≡ suc (a + b)
    shift a b = omega arith

past_on : (n size at : ℕ) → past 0 (suc n) (suc size) (suc at) ≡ past 0 n size at
past_on n size at = ap₂ ◌&&◌
    (ap (λ (x : ℕ). leb x (suc at)) (shift n) ∙ leb-suc-suc (0 + n) at)
    (ap (λ (x : ℕ). ltb (suc at) x) (shift size) ∙ leb-suc-suc (suc at) (0 + size))
  where
    shift : (b : ℕ) → 0 + suc b ≡ suc (0 + b)
    shift b = omega arith

past_zero : (size at : ℕ) → past 0 0 (suc size) (suc at) ≡ past 0 0 size at
past_zero size at = ap₂ ◌&&◌
    (le-leb (0 + 0) (suc at) (omega arith) ∙ sym (le-leb (0 + 0) at (omega arith)))
    (ap (λ (x : ℕ). ltb (suc at) x) (shift size) ∙ leb-suc-suc (suc at) (0 + size))
  where
    shift : (b : ℕ) → 0 + suc b ≡ suc (0 + b)
    shift b = omega arith

not-before : (p n size at : ℕ) → at < p + n → past p n size at ≡ false
not-before p n size at h = rw (lt-leb (p + n) at h)

not_after : (p n size at : ℕ) → p + size ≤ at → past p n size at ≡ false
not_after p n size at h = rw (le-ltb at (p + size) h, and-false)

-- the bytes past a length are 0, the others stay
cleared_nil : (n size : ℕ) → cleared n size [] ≡ []
cleared_nil n zero = refl
cleared_nil n (suc size) = refl

byte_cleared : (n size : ℕ) (bytes : List ℕ) (at : ℕ) → get_or (cleared n size bytes) at 0 ≡ cond (past 0 n size at) 0 (get_or bytes at 0)
byte_cleared n zero bytes at = rw (not_after 0 n 0 at (omega arith))
byte_cleared n (suc size) [] at = sym (cond_same (past 0 n (suc size) at) 0)
byte_cleared zero (suc size) (b ∷ bytes) zero = rw (lt-ltb 0 (0 + suc size) (omega arith))
byte_cleared zero (suc size) (b ∷ bytes) (suc at) = rw (past_zero size at) (byte_cleared zero size bytes at)
byte_cleared (suc n) (suc size) (b ∷ bytes) zero = rw (not-before 0 (suc n) (suc size) 0 (omega arith))
byte_cleared (suc n) (suc size) (b ∷ bytes) (suc at) = rw (past_on n size at) (byte_cleared n size bytes at)

byte_text : (p n size : ℕ) (r : List ℕ) (at : ℕ) → get_or (take p r ++ cleared n size (drop p r)) at 0 ≡ cond (past p n size at) 0 (get_or r at 0)
byte_text zero n size r at = byte_cleared n size r at
byte_text (suc p) n size [] at = rw (cleared_nil n size) (sym (cond_same (past (suc p) n size at) 0))
byte_text (suc p) n size (b ∷ r) zero = rw (not-before (suc p) n size 0 (omega arith))
byte_text (suc p) n size (b ∷ r) (suc at) = rw (past-suc p n size at) (byte_text p n size r at)

pub past_byte : (r : List ℕ) (at : ℕ) → byte_at (meant r) at ≡ cond (is_past r at) 0 (byte_at r at)
unfolding meant
past_byte r at = let f = field_of (kind_of r) in byte_text (1 + f.length_at) (byte_at r f.length_at) f.size r at

-- the kind is not past a length
pub kind_not_past : (r : List ℕ) → is_past r 0 ≡ false
kind_not_past r = let f = field_of (kind_of r) in not-before (1 + f.length_at) (byte_at r f.length_at) f.size 0 (omega arith)

pub kind_meant : (r : List ℕ) → kind_of (meant r) ≡ kind_of r
kind_meant r = past_byte r 0 ∙ ap (λ (b : Bool). cond b 0 (kind_of r)) (kind_not_past r)

-- nor is the length itself
pub length_not_past : (r : List ℕ) → is_past r (field_of (kind_of r)).length_at ≡ false
length_not_past r = let f = field_of (kind_of r) in not-before (1 + f.length_at) (byte_at r f.length_at) f.size f.length_at (omega arith)

length_cleared : (n size : ℕ) (bytes : List ℕ) → length (cleared n size bytes) ≡ length bytes
length_cleared n zero bytes = refl
length_cleared n (suc size) [] = refl
length_cleared zero (suc size) (b ∷ bytes) = ap suc (length_cleared zero size bytes)
length_cleared (suc n) (suc size) (b ∷ bytes) = ap suc (length_cleared n size bytes)

pub length_meant : (r : List ℕ) → length (meant r) ≡ length r
unfolding meant
length_meant r =
    let f = field_of (kind_of r) in
    let p = 1 + f.length_at in
    length-append (take p r) (cleared (byte_at r f.length_at) f.size (drop p r))
    ∙ ap (λ (n : ℕ). length (take p r) + n) (length_cleared (byte_at r f.length_at) f.size (drop p r))
    ∙ sym (length-append (take p r) (drop p r))
    ∙ ap length (take-append-drop p r)

-- "Bytes past a length don't make a difference, all others do."
pub past_length : PastLength
past_length r = (past_byte r, length_meant r)

-- two records that mean the same have one kind and one length
pub meant_kind : (l r : List ℕ) → meant l ≡ meant r → kind_of l ≡ kind_of r
meant_kind l r e = sym (kind_meant l) ∙ ap kind_of e ∙ kind_meant r

pub meant_length : (l r : List ℕ) → meant l ≡ meant r → length l ≡ length r
meant_length l r e = sym (length_meant l) ∙ ap length e ∙ length_meant r

-- the three ways to go on from two records
module _ (n : ℕ) (at : Sides ℕ) (l r : List ℕ) (ls rs : List (List ℕ)) where
  -- the places after the two records
  abbrev pub onward : Sides ℕ
  onward = sides (place_after at.left (length l)) (place_after at.right (length r))

  pub first_kind : eqb (kind_of l) (kind_of r) ≡ false → first_from n at (l ∷ ls) (r ∷ rs) ≡ differs_at n at in_kind
  first_kind e = rw e

  pub first_body : eqb (kind_of l) (kind_of r) ≡ true → same_bytes (meant l) (meant r) ≡ false → first_from n at (l ∷ ls) (r ∷ rs) ≡ differs_at n at in_body
  first_body e f = rw (e, f)

  pub first_on : eqb (kind_of l) (kind_of r) ≡ true → same_bytes (meant l) (meant r) ≡ true → first_from n at (l ∷ ls) (r ∷ rs) ≡ first_from (place_after n 1) onward ls rs
  first_on e f = rw (e, f)

-- a difference is not equality
abbrev is_equal : Verdict → Bool
is_equal equal = true
is_equal (differs d) = false

not_equal : {P : Type 0} (d : Difference) → differs d ≡ equal → P
not_equal d e = clash (ap is_equal e) refl

equal_meant : (n : ℕ) (at : Sides ℕ) (ls rs : List (List ℕ)) → first_from n at ls rs ≡ equal → map meant ls ≡ map meant rs
equal_meant n at [] [] e = refl
equal_meant n at [] (r ∷ rs) e = not_equal _ e
equal_meant n at (l ∷ ls) [] e = not_equal _ e
equal_meant n at (l ∷ ls) (r ∷ rs) e =
    split (eqb (kind_of l) (kind_of r))
    (λ k. split (same_bytes (meant l) (meant r))
    (λ b. ap₂ ◌∷◌ (same_true (meant l) (meant r) b) (equal_meant (place_after n 1) (onward n at l r ls rs) ls rs (sym (first_on n at l r ls rs k b) ∙ e)))
    (λ b. not_equal _ (sym (first_body n at l r ls rs k b) ∙ e)))
    (λ k. not_equal _ (sym (first_kind n at l r ls rs k) ∙ e))

meant_equal : (n : ℕ) (at : Sides ℕ) (ls rs : List (List ℕ)) → map meant ls ≡ map meant rs → first_from n at ls rs ≡ equal
meant_equal n at [] [] e = refl
meant_equal n at [] (r ∷ rs) e = absurd (nil≢cons e)
meant_equal n at (l ∷ ls) [] e = absurd (cons≢nil e)
meant_equal n at (l ∷ ls) (r ∷ rs) e =
    let h : meant l ≡ meant r = head-eq_of_cons-eq e in
    let k : eqb (kind_of l) (kind_of r) ≡ true = eq-eqb (kind_of l) (kind_of r) (meant_kind l r h) in
    let b : same_bytes (meant l) (meant r) ≡ true = ap (same_bytes (meant l)) (sym h) ∙ same_refl (meant l) in
    first_on n at l r ls rs k b ∙ meant_equal (place_after n 1) (onward n at l r ls rs) ls rs (tail-eq_of_cons-eq e)

-- Two logs are equal exactly if their records mean the same, however they end.
pub equal_exactly : EqualExactly
unfolding compared
equal_exactly a b = (equal_meant 0 (sides 0 0) (log_of a).records (log_of b).records, meant_equal 0 (sides 0 0) (log_of a).records (log_of b).records)

-- a difference is of so many records on, and at the places after them
record From (n : ℕ) (at : Sides ℕ) (ls rs : List (List ℕ)) (d : Difference) : Type 0 where
  on : ℕ
  number : d.number ≡ place_after n on
  before : map meant (take on ls) ≡ map meant (take on rs)
  here : Differs ls rs on d.what
  on_left : d.offsets.left ≡ place_of at.left (take on ls)
  on_right : d.offsets.right ≡ place_of at.right (take on rs)

abbrev FromOf : ℕ → Sides ℕ → List (List ℕ) → List (List ℕ) → Verdict → Type 0
FromOf n at ls rs equal = Unit {0}
FromOf n at ls rs (differs d) = From n at ls rs d

at_once : (n : ℕ) (at : Sides ℕ) (ls rs : List (List ℕ)) (w : What) → place_after n 0 ≡ n → Differs ls rs 0 w → From n at ls rs (record { number = n; offsets = at; what = w })
at_once n at ls rs w z h = record { on = 0; number = sym z; before = refl; here = h; on_left = refl; on_right = refl }

-- numbers of 64 bits
place_zero : (n k : ℕ) → place_after (place_after n k) 0 ≡ place_after n k
place_zero n k = mod-add-mod (n + k) 18446744073709551616 0 ∙ ap (λ (x : ℕ). x % 18446744073709551616) (add-zero (n + k))

place_on : (n k : ℕ) → place_after (place_after n 1) k ≡ place_after n (suc k)
place_on n k = let e : n + 1 + k ≡ n + suc k = omega arith in mod-add-mod (n + 1) 18446744073709551616 k ∙ ap (λ (x : ℕ). x % 18446744073709551616) e

later_differs : (l r : List ℕ) (ls rs : List (List ℕ)) (k : ℕ) (w : What) → Differs ls rs k w → Differs (l ∷ ls) (r ∷ rs) (suc k) w
later_differs l r ls rs k in_kind h = (omega (arith, h.0), omega (arith, h.1), h.2)
later_differs l r ls rs k in_body h = (omega (arith, h.0), omega (arith, h.1), h.2, h.3)
later_differs l r ls rs k in_end h = (ap₂ ◌||◌ (eqb-suc-suc (length ls) k) (eqb-suc-suc (length rs) k) ∙ h.0, eqb-suc-suc (length ls) (length rs) ∙ h.1)

from_later : (n : ℕ) (at : Sides ℕ) (l r : List ℕ) (ls rs : List (List ℕ)) (v : Verdict) → meant l ≡ meant r
    → FromOf (place_after n 1) (onward n at l r ls rs) ls rs v → FromOf n at (l ∷ ls) (r ∷ rs) v
from_later n at l r ls rs equal e f = tt
from_later n at l r ls rs (differs d) e f = record {
  on = suc f.on;
  number = f.number ∙ place_on n f.on;
  before = ap₂ ◌∷◌ e f.before;
  here = later_differs l r ls rs f.on d.what f.here;
  on_left = f.on_left;
  on_right = f.on_right;
}

first_from_lem : (n : ℕ) (at : Sides ℕ) (ls rs : List (List ℕ)) → place_after n 0 ≡ n → FromOf n at ls rs (first_from n at ls rs)
first_from_lem n at [] [] z = tt
first_from_lem n at [] (r ∷ rs) z = at_once n at [] (r ∷ rs) in_end z (refl, eqb-zero-suc (length rs))
first_from_lem n at (l ∷ ls) [] z = at_once n at (l ∷ ls) [] in_end z (or-true (eqb (length (l ∷ ls)) 0), eqb-suc-zero (length ls))
first_from_lem n at (l ∷ ls) (r ∷ rs) z =
    let on = onward n at l r ls rs in
    split (eqb (kind_of l) (kind_of r))
    (λ k. split (same_bytes (meant l) (meant r))
    (λ b. rw (first_on n at l r ls rs k b)
    (from_later n at l r ls rs (first_from (place_after n 1) on ls rs) (same_true (meant l) (meant r) b) (first_from_lem (place_after n 1) on ls rs (place_zero n 1))))
    (λ b. rw (first_body n at l r ls rs k b) (at_once n at (l ∷ ls) (r ∷ rs) in_body z (omega arith, omega arith, eqb-true (kind_of l) (kind_of r) k, b))))
    (λ k. rw (first_kind n at l r ls rs k) (at_once n at (l ∷ ls) (r ∷ rs) in_kind z (omega arith, omega arith, k)))

-- records that mean the same take the same place
same_place : (place : ℕ) (ls rs : List (List ℕ)) → map meant ls ≡ map meant rs → place_of place ls ≡ place_of place rs
same_place place [] [] e = refl
same_place place [] (r ∷ rs) e = absurd (nil≢cons e)
same_place place (l ∷ ls) [] e = absurd (cons≢nil e)
same_place place (l ∷ ls) (r ∷ rs) e =
    ap (λ (n : ℕ). place_of (place_after place n) ls) (meant_length l r (head-eq_of_cons-eq e)) ∙ same_place (place_after place (length r)) ls rs (tail-eq_of_cons-eq e)

from_first : (ls rs : List (List ℕ)) (d : Difference) → From 0 (sides 0 0) ls rs d → First ls rs d
from_first ls rs d f = record {
  before = f.on;
  number = f.number;
  agree = f.before;
  here = f.here;
  on_left = f.on_left;
  on_right = f.on_right;
  level = f.on_left ∙ same_place 0 (take f.on ls) (take f.on rs) f.before ∙ sym f.on_right;
}

-- What a difference says is so.
pub first_difference : FirstDifference
unfolding compared
first_difference a b d e =
    from_first (log_of a).records (log_of b).records d (rw e at (first_from_lem 0 (sides 0 0) (log_of a).records (log_of b).records refl))

named_reading : (r : Reading) → NamedAt r.place (end_of r)
unfolding end_of
named_reading r =
    split r.ended (λ e. rw e refl)
    (λ e. rw e (split (eqb (length r.held) 0) (λ z. rw z tt) (λ z. rw z refl)))

-- A log that is named bad or cut is so at the place after its records.
pub named_where_it_ends : NamedWhereItEnds
named_where_it_ends bytes =
    let m = reads_log bytes in
    let r = (read (reading_at 0) bytes).reading in
    named_same r.place _ (end_of r) _ m.2 m.1 (named_reading r)
  where
    named_same : (p q : ℕ) (e f : Ending) → p ≡ q → e ≡ f → NamedAt p e → NamedAt q f
    named_same p q e f h k n = rw (← h, ← k) n
