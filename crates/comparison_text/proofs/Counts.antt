-- The lines of the counts, one kind after the other.
-- Assumes nothing.
use Prim.Native.Nat.{ℕ, zero, suc, ◌+◌, ◌*◌, ◌≤◌, ◌<◌}
use mathlib.Core.List.{List, [], ◌∷◌, ◌++◌, append_assoc, append-nil}
use mathlib.Core.Path.{◌≡◌, refl, sym, ap, ◌∙◌}
use native.Mathlib.Numerals.{add-one}
use native.Mathlib.Omega.{arith}
use lib.Dec.{eqb}
use lib.ListN.{length, take, get_or}
use borrow.Author.Tests.{eqb-true}
use Rattle.comparison.specs.Compare.{kinds}
use Rattle.comparison.specs.Text.{count_lines}
use Rattle.comparison_text.proofs.Long.{line_most}
use Rattle.lists.specs.Below.{below}
use Rattle.session_log.specs.Text.{line_of}
use Rattle.text.proofs.Puts.{joined, spelt}
use Rattle.text.specs.Line.{PutAt}

next : (ks ls rs : List ℕ) (i : ℕ) → i < length ks → i < length ls → i < length rs
    → count_lines (take (suc i) ks) (take (suc i) ls) (take (suc i) rs)
    ≡ count_lines (take i ks) (take i ls) (take i rs) ++ line_of (get_or ks i 0) (get_or ls i 0 ∷ get_or rs i 0 ∷ [])
next [] ls rs i h g f = absurd (omega arith)
next (k ∷ ks) [] rs i h g f = absurd (omega arith)
next (k ∷ ks) (l ∷ ls) [] i h g f = absurd (omega arith)
next (k ∷ ks) (l ∷ ls) (r ∷ rs) zero h g f = append-nil (line_of k (l ∷ r ∷ []))
next (k ∷ ks) (l ∷ ls) (r ∷ rs) (suc i) h g f =
    ap (λ (t : List ℕ). line_of k (l ∷ r ∷ []) ++ t) (next ks ls rs i (omega arith) (omega arith) (omega arith))
    ∙ sym (append_assoc (line_of k (l ∷ r ∷ [])) (count_lines (take i ks) (take i ls) (take i rs)) (line_of (get_or ks i 0) (get_or ls i 0 ∷ get_or rs i 0 ∷ [])))

kind_at : (i : ℕ) → i < 11 → get_or kinds i 0 ≡ i + 1
kind_at i h = eqb-true (get_or kinds i 0) (i + 1) (below (λ j. eqb (get_or kinds j 0) (j + 1)) 11 refl i h)

-- the lines of the first i kinds
pub record Counting (out : List ℕ) (at : ℕ) (ls rs out' : List ℕ) (end i : ℕ) : Type 0 where
  pub lines : PutAt out at (count_lines (take i kinds) (take i ls) (take i rs)) end out'
  pub most : end ≤ at + 45 * i
  pub within : i ≤ 11

module _ {out : List ℕ} {at : ℕ} {ls rs out' : List ℕ} {end i : ℕ} (c : Counting out at ls rs out' end i) (l : length ls ≡ 11) (r : length rs ≡ 11) where
  pub goes : {end' : ℕ} {out'' : List ℕ} → i < 11 → PutAt out' end (line_of (i + 1) (get_or ls i 0 ∷ get_or rs i 0 ∷ [])) end' out'' → Counting out at ls rs out'' end' (i + 1)
  goes h p =
      let n = next kinds ls rs i h (omega arith) (omega arith) in
      record {
        lines = rw (add-one i) (spelt (sym (rw (kind_at i h) at n)) (joined c.lines p));
        most = omega (arith, c.most, p.place, line_most (i + 1) (get_or ls i 0) (get_or rs i 0) (omega arith));
        within = omega arith;
      }
