-- Physical addresses of four hex digits, as a tree (document 02, W-205).
-- Assumes nothing.
use Rattle.std.specs.Prelude.{ℕ, zero, suc, ◌-◌, ◌/◌, ◌%◌, Bool, cond, not, ◌&&◌, ◌||◌, List, [], ◌∷◌, ◌≡◌, eqb, ltb}
use Rattle.constants.specs.Kernel.{CEC-PHYS-ADDR-INVALID}

-- "four hex digits"
abbrev pub digits : ℕ → List ℕ
digits a = (a / 4096) ∷ (a / 256 % 16) ∷ (a / 16 % 16) ∷ (a % 16) ∷ []

abbrev pub are_zero : List ℕ → Bool
are_zero [] = Bool.true
are_zero (d ∷ ds) = eqb d 0 && are_zero ds

-- "no non-zero digit follows a zero"
abbrev pub zeros_last : List ℕ → Bool
zeros_last [] = Bool.true
zeros_last (d ∷ ds) = cond (eqb d 0) (are_zero ds) (zeros_last ds)

-- "An address is well formed if no non-zero digit follows a zero and it is not 0xFFFF." It is said of numbers of 16 bits, as which the code has every address
unfoldable pub is_well_formed : ℕ → Bool
is_well_formed a = zeros_last (digits a) && not (eqb a CEC-PHYS-ADDR-INVALID)

-- the place of the last non-zero digit, 0 for 0.0.0.0
unfoldable pub depth : ℕ → ℕ
depth a = cond (not (eqb (a % 16) 0)) 4 (cond (not (eqb (a % 256) 0)) 3 (cond (not (eqb (a % 4096) 0)) 2 (cond (not (eqb a 0)) 1 0)))

-- "Its parent clears the last non-zero digit, and 0.0.0.0 has no parent": it stays as it is
unfoldable pub parent : ℕ → ℕ
parent a = cond (not (eqb (a % 16) 0)) (a - a % 16) (cond (not (eqb (a % 256) 0)) (a - a % 256) (cond (not (eqb (a % 4096) 0)) (a - a % 4096) 0))

-- the parent, so many times
abbrev pub up : ℕ → ℕ → ℕ
up zero a = a
up (suc n) a = up n (parent a)

-- ancestors: "an address counts as its own"
abbrev pub IsAncestor : ℕ → ℕ → Type 0
IsAncestor x a = (n : ℕ) × (x ≡ up n a)

-- up from the deeper of two that differ, or from both if they are as deep
unfoldable pub up_from : (ℕ → ℕ → ℕ) → ℕ → ℕ → ℕ
up_from later a b = cond (eqb a b) a (cond (ltb (depth a) (depth b)) (later a (parent b)) (cond (ltb (depth b) (depth a)) (later (parent a) b) (later (parent a) (parent b))))

-- the same again, for two addresses no deeper than n
abbrev pub common : ℕ → ℕ → ℕ → ℕ
common zero a b = a
common (suc n) a b = up_from (common n) a b

-- "the deepest common ancestor (an address counts as its own)"
unfoldable pub common_ancestor : ℕ → ℕ → ℕ
common_ancestor a b = common 4 a b

-- an address, or one of its ancestors over at most n levels
abbrev pub reaches : ℕ → ℕ → ℕ → Bool
reaches zero x a = eqb x a
reaches (suc n) x a = eqb x a || reaches n x (parent a)

-- "whether the first lies on the path from 0.0.0.0 to the second (yes if equal)"
unfoldable pub on_path : ℕ → ℕ → Bool
on_path a b = reaches 4 a b

-- the weight of the digit after a depth: 4096 for the first digit, 1 for the fourth
unfoldable pub weight_at : ℕ → ℕ
weight_at d = cond (eqb d 0) 4096 (cond (eqb d 1) 256 (cond (eqb d 2) 16 1))

-- the digit after a depth
abbrev pub digit_at : ℕ → ℕ → ℕ
digit_at d a = a / weight_at d % 16
