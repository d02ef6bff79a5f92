-- Well-formed addresses: the tests as the code has them, and a non-zero digit at each place up to the depth.
-- Assumes nothing.
use Prim.Native.Nat.{ℕ, zero, suc, ◌+◌, ◌-◌, ◌*◌, ◌/◌, ◌%◌, ◌≤◌, ◌<◌}
use mathlib.Core.Bool.{Bool, true, false, cond, not, ◌&&◌, ◌||◌, and_assoc}
use mathlib.Core.List.{List, [], ◌∷◌}
use mathlib.Core.Path.{◌≡◌, refl, sym, ap, ◌∙◌}
use native.Mathlib.Omega.{arith}
use lib.Dec.{eqb}
use borrow.Author.Tests.{eqb-true, eqb-false, ne_eqb, not-true}
use Rattle.constants.specs.Kernel.{CEC-PHYS-ADDR-INVALID}
use Rattle.lists.specs.Tests.{split, both, clash, and-true, or-true, cond_same}
use Rattle.route.specs.Address.{digits, are_zero, zeros_last, is_well_formed, depth, parent, up, IsAncestor, weight_at, digit_at}
use Rattle.route.proofs.Digits.{parent_keeps, digit_depth, is_child}
use Rattle.route.proofs.Tree.{by_depth, depth_le, parent_depth}

-- a digit may follow another: it is 0, or the other is not
abbrev may_follow : ℕ → ℕ → Bool
may_follow d e = not (eqb d 0) || eqb e 0

abbrev second_may_follow : ℕ → Bool
second_may_follow a = may_follow (a / 4096) (a / 256 % 16)

abbrev third_may_follow : ℕ → Bool
third_may_follow a = may_follow (a / 256 % 16) (a / 16 % 16)

abbrev fourth_may_follow : ℕ → Bool
fourth_may_follow a = may_follow (a / 16 % 16) (a % 16)

-- one digit after another, as tests
if_may_follow : (p q z y : Bool) → cond p (q && z) (cond q z y) ≡ ((not p || q) && cond q z y)
if_may_follow true true z y = refl
if_may_follow true false z y = refl
if_may_follow false q z y = refl

-- one digit after another
next_may_follow : (d e : ℕ) (ds : List ℕ) → zeros_last (d ∷ e ∷ ds) ≡ (may_follow d e && zeros_last (e ∷ ds))
next_may_follow d e ds = if_may_follow (eqb d 0) (eqb e 0) (are_zero ds) (zeros_last ds)

-- four digits
each_may_follow : (x y z w : ℕ) → zeros_last (x ∷ y ∷ z ∷ w ∷ []) ≡ (may_follow x y && may_follow y z && may_follow z w)
each_may_follow x y z w =
    let last : zeros_last (z ∷ w ∷ []) ≡ may_follow z w = next_may_follow z w [] ∙ rw cond_same (and-true (may_follow z w)) in
    next_may_follow x y (z ∷ w ∷ [])
    ∙ ap (λ (t : Bool). may_follow x y && t) (next_may_follow y z (w ∷ []) ∙ ap (λ (t : Bool). may_follow y z && t) last)
    ∙ sym (and_assoc (may_follow x y) (may_follow y z) (may_follow z w))

-- the code's tests: each digit may follow the one before it, and the address is not 0xFFFF
pub well_formed_tests : (a : ℕ) → (second_may_follow a && third_may_follow a && fourth_may_follow a && not (eqb a CEC-PHYS-ADDR-INVALID)) ≡ is_well_formed a
unfolding is_well_formed
well_formed_tests a = ap (λ (t : Bool). t && not (eqb a CEC-PHYS-ADDR-INVALID)) (sym (each_may_follow (a / 4096) (a / 256 % 16) (a / 16 % 16) (a % 16)))

-- the first three of four tests
three_true : (p q r s : Bool) → (p && q && r && s) ≡ true → (p ≡ true) × (q ≡ true) × (r ≡ true)
three_true true true true s e = (refl, refl, refl)
three_true true true false s e = clash e refl
three_true true false r s e = clash e refl
three_true false q r s e = clash e refl

-- each digit of a well-formed address may follow
all_follow : (a : ℕ) → is_well_formed a ≡ true → (second_may_follow a ≡ true) × (third_may_follow a ≡ true) × (fourth_may_follow a ≡ true)
all_follow a w = three_true (second_may_follow a) (third_may_follow a) (fourth_may_follow a) (not (eqb a CEC-PHYS-ADDR-INVALID)) (well_formed_tests a ∙ w)

-- a digit that may follow, in numbers
may_follow_le : (d e : ℕ) → may_follow d e ≡ true → e ≤ 15 → e ≤ 15 * d
may_follow_le d e f l =
    split (eqb d 0)
    (λ z. let g = rw z at f in omega (arith, eqb-true))
    (λ z. omega (arith, eqb-false d 0 z))

-- "no non-zero digit follows a zero", digit by digit
digits_follow : (a : ℕ) → a < 65536 → is_well_formed a ≡ true → (i : ℕ) → i < 3 → digit_at (suc i) a ≤ 15 * digit_at i a
unfolding weight_at
digits_follow a l w zero m = omega (arith, may_follow_le (a / 4096) (a / 256 % 16) (all_follow a w).0 (omega arith))
digits_follow a l w (suc zero) m = may_follow_le (a / 256 % 16) (a / 16 % 16) (all_follow a w).1 (omega arith)
digits_follow a l w (suc (suc zero)) m = omega (arith, may_follow_le (a / 16 % 16) (a % 16) (all_follow a w).2 (omega arith))
digits_follow a l w (suc (suc (suc i))) m = absurd (omega arith)

-- a non-zero digit at each place up to the depth
abbrev pub IsFull : ℕ → Type 0
IsFull a = (i : ℕ) → i < depth a → 1 ≤ digit_at i a

-- from the last non-zero digit back to the first
pub well_formed_full : (a : ℕ) → a < 65536 → is_well_formed a ≡ true → IsFull a
well_formed_full a l w i d = back (depth a - suc i) i (omega arith)
  where
    back : (n i : ℕ) → i + suc n ≡ depth a → 1 ≤ digit_at i a
    back zero i e = let last : depth a - 1 ≡ i = omega arith in rw last at (is_child a l (omega arith)).least
    back (suc n) i e = omega (arith, digits_follow a l w i (omega (arith, depth_le a)), back n (suc i) (omega arith))

-- a parent is no larger
pub parent_le : (a : ℕ) → parent a ≤ a
parent_le a = by_depth (λ _ p. p ≤ a) a (omega arith)

-- a parent has its digits up to its depth too
pub parent_full : (a : ℕ) → IsFull a → IsFull (parent a)
parent_full a f i l = let m : suc i < depth a = omega (arith, parent_depth a) in rw (parent_keeps i a m) (f i (omega arith))

-- where each digit before the depth is there, each may follow the one before it
full_follows : (a : ℕ) → IsFull a → (i : ℕ) → i < 3 → may_follow (digit_at i a) (digit_at (suc i) a) ≡ true
full_follows a f i l =
    split (eqb (digit_at (suc i) a) 0)
    (λ e. rw e (or-true (not (eqb (digit_at i a) 0))))
    (λ e.
    let d = digit_depth (suc i) a (omega arith) (omega (arith, eqb-false (digit_at (suc i) a) 0 e)) in
    rw (ne_eqb (digit_at i a) 0 (λ z. omega (arith, f i (omega arith)))))

-- so that the address is well formed
full_well_formed : (a : ℕ) → a < CEC-PHYS-ADDR-INVALID → IsFull a → is_well_formed a ≡ true
unfolding weight_at
full_well_formed a l f =
    let first : a / 4096 % 16 ≡ a / 4096 = omega arith in
    let last : a / 1 % 16 ≡ a % 16 = omega arith in
    let second = rw first at (full_follows a f 0 (omega arith)) in
    let fourth = rw last at (full_follows a f 2 (omega arith)) in
    sym (well_formed_tests a) ∙ rw (second, full_follows a f 1 (omega arith), fourth, ne_eqb a CEC-PHYS-ADDR-INVALID (λ z. omega arith))

-- going up leads to well-formed addresses only
up_well_formed : (n a : ℕ) → a < CEC-PHYS-ADDR-INVALID → IsFull a → is_well_formed (up n a) ≡ true
up_well_formed zero a l f = full_well_formed a l f
up_well_formed (suc n) a l f = up_well_formed n (parent a) (omega (arith, parent_le a)) (parent_full a f)

-- each ancestor of a well-formed address is well formed
pub ancestor_well_formed : (x a : ℕ) → a < 65536 → is_well_formed a ≡ true → IsAncestor x a → is_well_formed x ≡ true
unfolding is_well_formed
ancestor_well_formed x a l w p =
    let other = not-true (eqb a CEC-PHYS-ADDR-INVALID) (both (zeros_last (digits a)) (not (eqb a CEC-PHYS-ADDR-INVALID)) w).1 in
    rw p.1 (up_well_formed p.0 a (omega (arith, eqb-false a CEC-PHYS-ADDR-INVALID other)) (well_formed_full a l w))
