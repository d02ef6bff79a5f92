-- The lent rows once the first n are the adapter's, and what a listing is at its two ends.
-- Assumes nothing.
use Prim.Native.Nat.{ℕ, zero, suc, ◌+◌, ◌≤◌, ◌<◌}
use mathlib.Core.List.{List, [], ◌∷◌, ◌++◌, map, append_assoc}
use mathlib.Core.Path.{◌≡◌, refl, sym, ◌∙◌, ap}
use native.Mathlib.Numerals.{add-one}
use native.Mathlib.Omega.{arith}
use lib.Dec.{eqb}
use lib.ListN.{length, set, drop, length-append, length-drop, drop_of_length-le}
use lib.Seq.{drop-cons, set_at}
use borrow.Author.Tests.{lt-ltb, le-ltb, eqb-true}
use Rattle.adapter.specs.Adapter.{state_of}
use Rattle.adapter.specs.declared.Adapter.{Adapter}
use Rattle.constants.specs.Kernel.{EINVAL}
use Rattle.handle.specs.declared.Row.{Row}
use Rattle.listing.specs.Rows.{listed_of}
use Rattle.lists.specs.Tests.{split}
use Rattle.rules.specs.Call.{Outcome, call_listing, unless, check, refused, listed}
use Rattle.rules.specs.Deliver.{handle_numbers}
use Rattle.rules.specs.Listing.{row_of, rows_after, do_listing}
use Rattle.rules.specs.State.{State}
use Rattle.rules.specs.Step.{step}

-- a name for the adapter's row, so that it stays one
unfoldable pub row_in : Adapter → ℕ → Row
row_in a i = row_of (state_of a) i

-- the first n rows
abbrev pub rows_to : Adapter → ℕ → List Row
rows_to a zero = []
rows_to a (suc n) = rows_to a n ++ (row_in a n ∷ [])

-- the slice once its first n rows are the adapter's: the others are as they were
abbrev pub written : Adapter → ℕ → List Row → List Row
written a n rs = rows_to a n ++ drop n rs

length_rows_to : (a : Adapter) (n : ℕ) → length (rows_to a n) ≡ n
length_rows_to a zero = refl
length_rows_to a (suc n) = length-append (rows_to a n) (row_in a n ∷ []) ∙ ap (λ (k : ℕ). k + 1) (length_rows_to a n) ∙ add-one n

pub length_written : (a : Adapter) (n : ℕ) (rs : List Row) → n ≤ length rs → length (written a n rs) ≡ length rs
length_written a n rs h = omega (arith, length-append (rows_to a n) (drop n rs), length_rows_to a n, length-drop n rs)

pub written_next : (a : Adapter) (n : ℕ) (rs : List Row) → n < length rs → set (written a n rs) n (row_in a n) ≡ written a (n + 1) rs
written_next a n rs h =
    ap (λ (l : List Row). set (rows_to a n ++ l) n (row_in a n)) (drop-cons rs n (row_in a n) h) ∙ set_at (rows_to a n) _ (drop (suc n) rs) (row_in a n) n (length_rows_to a n)
    ∙ sym (append_assoc (rows_to a n) (row_in a n ∷ []) (drop (suc n) rs)) ∙ ap (λ (k : ℕ). written a k rs) (sym (add-one n))

-- what the listing promises of an errno and the rows afterwards
abbrev pub Says : Adapter → List Row → ℕ → List Row → Type 0
Says a rs errno zs = (zs ≡ rows_after (state_of a) rs) × (listed_of (state_of a) errno zs ≡ step (state_of a) (call_listing rs))

pub short_says : (a : Adapter) (rs : List Row) → length rs < 8 → Says a rs EINVAL rs
unfolding rows_after do_listing unless check
short_says a rs h = let e = lt-ltb (length rs) 8 h in (rw e, rw e)

pub full_says : (a : Adapter) (rs : List Row) → 8 ≤ length rs → Says a rs 0 (written a 8 rs)
unfolding row_in rows_after do_listing unless check
full_says a rs h = let e = le-ltb (length rs) 8 h in (rw e, rw e)

pub no_refusal : (e : ℕ) (rs : List Row) → refused e ≡ listed rs → ⊥
no_refusal e rs q = let p : ◌≡◌ {A = ℕ} 0 1 = cc in omega (arith, p)

-- of eight rows all are filled, and none refused
pub eight_filled : (s : State) (errno : ℕ) (rs zs : List Row) → length rs ≡ 8 → zs ≡ rows_after s rs → listed_of s errno zs ≡ step s (call_listing rs) → (errno ≡ 0) × (zs ≡ map (row_of s) handle_numbers)
unfolding rows_after do_listing unless check
eight_filled s errno rs zs long q o =
    let e = le-ltb (length rs) 8 (omega (arith, long)) in
    (split (eqb errno 0) (eqb-true errno 0) (λ f. absurd (no_refusal errno _ (ap (λ (x : Outcome). x.answer) (rw (f, e) at o)))), q ∙ rw (e, drop_of_length-le rs {i = 8} (omega (arith, long))))
