-- One record more of a kind, in a table of eleven counts.
-- Assumes nothing.
use Rattle.std.proofs.Common.{◌≡◌, ℕ, zero, suc, ◌+◌, ◌-◌, ◌<◌, ◌≤◌, Bool, false, cond, eqb, List, [], ◌∷◌, length, get_or, set, sym, refl, ap, ◌∙◌, ap₂, arith, eq-eqb, ne_eqb}
use Rattle.comparison.specs.Compare.{kinds}
use Rattle.comparison.specs.Comparing.{counted}
use Rattle.reading.specs.Reading.{place_after}

-- n numbers from m on
abbrev from : ℕ → ℕ → List ℕ
from m zero = []
from m (suc n) = m ∷ from (suc m) n

-- a kind that none of them is
counted_none : (m n : ℕ) (cs : List ℕ) (kind : ℕ) → length cs ≡ n → ((i : ℕ) → i < n → eqb kind (m + i) ≡ false) → counted (from m n) cs kind ≡ cs
counted_none m zero [] kind e h = refl
counted_none m zero (c ∷ cs) kind e h = absurd (omega arith)
counted_none m (suc n) [] kind e h = absurd (omega arith)
counted_none m (suc n) (c ∷ cs) kind e h =
    let first : m + 0 ≡ m = omega arith in
    let d : eqb kind m ≡ false = rw first at (h 0 (omega arith)) in
    ap₂ (λ (b : Bool) (l : List ℕ). cond b (place_after c 1) c ∷ l) d
    (counted_none (suc m) n cs kind (omega arith) (λ i k. let s : suc m + i ≡ m + suc i = omega arith in rw s (h (suc i) (omega arith))))

counted_at : (m n i : ℕ) (cs : List ℕ) → length cs ≡ n → i < n → counted (from m n) cs (m + i) ≡ set cs i (place_after (get_or cs i 0) 1)
counted_at m zero i cs e h = absurd (omega arith)
counted_at m (suc n) i [] e h = absurd (omega arith)
counted_at m (suc n) zero (c ∷ cs) e h =
    ap₂ (λ (b : Bool) (l : List ℕ). cond b (place_after c 1) c ∷ l) (eq-eqb (m + 0) m (omega arith))
    (counted_none (suc m) n cs (m + 0) (omega arith) (λ j k. ne_eqb (m + 0) (suc m + j) (λ q. omega arith)))
counted_at m (suc n) (suc i) (c ∷ cs) e h =
    let s : m + suc i ≡ suc m + i = omega arith in
    ap₂ (λ (b : Bool) (l : List ℕ). cond b (place_after c 1) c ∷ l) (ne_eqb (m + suc i) m (λ q. omega arith))
    (ap (counted (from (suc m) n) cs) s ∙ counted_at (suc m) n i cs (omega arith) (omega arith))

pub count_known : (cs : List ℕ) (kind i : ℕ) → length cs ≡ 11 → 1 ≤ kind → kind ≤ 11 → i ≡ kind - 1 → set cs i (place_after (get_or cs i 0) 1) ≡ counted kinds cs kind
count_known cs kind i e low high q =
    let s : 1 + i ≡ kind = omega arith in
    sym (counted_at 1 11 i cs e (omega arith)) ∙ ap (counted kinds cs) s
