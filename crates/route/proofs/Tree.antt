-- Physical addresses as a tree: the deepest common ancestor, for all numbers.
-- Assumes nothing.
use Prim.Native.Nat.{ℕ, zero, suc, ◌-◌, ◌%◌, ◌≤◌, ◌<◌}
use mathlib.Core.Logic.{◌≢◌}
use mathlib.Core.Path.{◌≡◌, refl, sym, ap, ◌∙◌}
use native.Mathlib.Omega.{arith}
use lib.Dec.{eqb, ltb}
use borrow.Author.Tests.{eqb-true, eqb-false, ltb-true, ltb-false}
use Rattle.lists.specs.Tests.{split}
use Rattle.route.specs.Address.{depth, parent, up, IsAncestor, up_from, common, common_ancestor}
use Rattle.route.specs.Route.{IsDeepest}

-- what holds of the depth and the parent, by the last non-zero digit
pub record ByDepth (a : ℕ) (P : ℕ → ℕ → Type 0) : Type 0 where
  pub fourth : a % 16 ≢ 0 → P 4 (a - a % 16)
  pub third : a % 16 ≡ 0 → a % 256 ≢ 0 → P 3 (a - a % 256)
  pub second : a % 256 ≡ 0 → a % 4096 ≢ 0 → P 2 (a - a % 4096)
  pub first : a % 4096 ≡ 0 → a ≢ 0 → P 1 0
  pub none : a ≡ 0 → P 0 0

-- a proof by the last non-zero digit
pub by_depth : (P : ℕ → ℕ → Type 0) (a : ℕ) → ByDepth a P → P (depth a) (parent a)
unfolding depth parent
by_depth P a k =
    split (eqb (a % 16) 0)
    (λ e. rw e (split (eqb (a % 256) 0)
    (λ f. rw f (split (eqb (a % 4096) 0)
    (λ g. rw g (split (eqb a 0)
    (λ h. rw h (k.none (eqb-true a 0 h)))
    (λ h. rw h (k.first (eqb-true (a % 4096) 0 g) (eqb-false a 0 h)))))
    (λ g. rw g (k.second (eqb-true (a % 256) 0 f) (eqb-false (a % 4096) 0 g)))))
    (λ f. rw f (k.third (eqb-true (a % 16) 0 e) (eqb-false (a % 256) 0 f)))))
    (λ e. rw e (k.fourth (eqb-false (a % 16) 0 e)))

-- there are four digits
pub depth_le : (a : ℕ) → depth a ≤ 4
depth_le a = by_depth (λ d _. d ≤ 4) a (omega arith)

-- only 0.0.0.0 has the depth 0
depth_zero : (a : ℕ) → depth a ≡ 0 → a ≡ 0
depth_zero a = by_depth (λ d _. d ≡ 0 → a ≡ 0) a (omega arith)

-- two of the depth 0 are the same
both_zero : (a b : ℕ) → depth a ≡ 0 → depth b ≡ 0 → a ≡ b
both_zero a b d e = depth_zero a d ∙ sym (depth_zero b e)

-- no deeper than n
within : (n a : ℕ) → ByDepth a (λ d _. d ≤ n) → depth a ≤ n
within n = by_depth (λ d _. d ≤ n)

-- a parent is less deep, but for 0.0.0.0
pub parent_depth : (a : ℕ) → depth (parent a) ≤ depth a - 1
parent_depth a = by_depth (λ d p. depth p ≤ d - 1) a (record {
  fourth = λ _. within 3 (a - a % 16) (omega arith);
  third = λ _ _. within 2 (a - a % 256) (omega arith);
  second = λ _ _. within 1 (a - a % 4096) (omega arith);
  first = λ _ _. within 0 0 (omega arith);
  none = λ _. within 0 0 (omega arith);
})

-- going up leads no deeper
up_depth : (n a : ℕ) → depth (up n a) ≤ depth a
up_depth zero a = omega arith
up_depth (suc n) a = omega (arith, up_depth n (parent a), parent_depth a)

-- an ancestor is no deeper
ancestor_depth : (x a : ℕ) → IsAncestor x a → depth x ≤ depth a
ancestor_depth x a p = rw p.1 (up_depth p.0 a)

-- an address is its own ancestor
pub ancestor_self : (x a : ℕ) → x ≡ a → IsAncestor x a
ancestor_self x a e = (zero, e)

-- an ancestor of the parent is one
pub ancestor_parent : (x a : ℕ) → IsAncestor x (parent a) → IsAncestor x a
ancestor_parent x a p = (suc p.0, p.1)

-- any other than the address itself is one of the parent
pub ancestor_other : (x a : ℕ) → x ≢ a → IsAncestor x a → IsAncestor x (parent a)
ancestor_other x a d (zero, e) = absurd (d e)
ancestor_other x a d (suc n, e) = (n, e)

-- one as deep as the address is the address
pub ancestor_same : (x a : ℕ) → depth a ≤ depth x → IsAncestor x a → x ≡ a
ancestor_same x a d (zero, e) = e
ancestor_same x a d (suc n, e) =
    let p = ancestor_depth x (parent a) (n, e) in
    both_zero x a (omega (arith, parent_depth a)) (omega (arith, parent_depth a))

-- any other is less deep
pub ancestor_less : (x a : ℕ) → x ≢ a → IsAncestor x a → depth x < depth a
ancestor_less x a d p =
    split (ltb (depth x) (depth a))
    (ltb-true (depth x) (depth a))
    (λ e. absurd (d (ancestor_same x a (ltb-false (depth x) (depth a) e) p)))

-- two that are each other's ancestors are the same
pub ancestors_same : (x y : ℕ) → IsAncestor x y → IsAncestor y x → x ≡ y
ancestors_same x y p q = ancestor_same x y (ancestor_depth y x q) p

-- two addresses have one deepest common ancestor
deepest_same : (a b x y : ℕ) → IsDeepest a b x → IsDeepest a b y → x ≡ y
deepest_same a b x y r s = ancestors_same x y (s.deepest x r.first r.second) (r.deepest y s.first s.second)

-- of an address and itself it is the address
same_deepest : (a b : ℕ) → a ≡ b → IsDeepest a b a
same_deepest a b e = record { first = ancestor_self a a refl; second = ancestor_self a b e; deepest = λ y p q. p }

-- the order of the two does not matter
turned : (a b x : ℕ) → IsDeepest b a x → IsDeepest a b x
turned a b x r = record { first = r.second; second = r.first; deepest = λ y p q. r.deepest y q p }

-- that of the parent of the deeper and the other is that of both
second_up : (a b x : ℕ) → depth a < depth b → IsDeepest a (parent b) x → IsDeepest a b x
second_up a b x l r = record {
  first = r.first;
  second = ancestor_parent x b r.second;
  deepest = λ y p q. r.deepest y p (ancestor_other y b (λ e. omega (arith, ancestor_depth y a p, ap depth e)) q);
}

first_up : (a b x : ℕ) → depth b < depth a → IsDeepest (parent a) b x → IsDeepest a b x
first_up a b x l r = turned a b x (second_up b a x l (turned b (parent a) x r))

-- that of the parents of two that differ and are as deep is that of the two
both_up : (a b x : ℕ) → a ≢ b → depth a ≡ depth b → IsDeepest (parent a) (parent b) x → IsDeepest a b x
both_up a b x d s r = record {
  first = ancestor_parent x a r.first;
  second = ancestor_parent x b r.second;
  deepest = λ y p q. r.deepest y
      (ancestor_other y a (λ e. d (sym e ∙ ancestor_same y b (omega (arith, ap depth e)) q)) p)
      (ancestor_other y b (λ e. d (sym (ancestor_same y a (omega (arith, ap depth e)) p) ∙ e)) q);
}

-- one step up, for two no deeper than n + 1
step_deepest : (n : ℕ) (later : ℕ → ℕ → ℕ)
    → ((a b : ℕ) → depth a ≤ n → depth b ≤ n → IsDeepest a b (later a b))
    → (a b : ℕ) → depth a ≤ suc n → depth b ≤ suc n → IsDeepest a b (up_from later a b)
unfolding up_from
step_deepest n later r a b h g =
    let x = parent_depth a in
    let y = parent_depth b in
    split (eqb a b)
    (λ e. rw e (same_deepest a b (eqb-true a b e)))
    (λ e. rw e (split (ltb (depth a) (depth b))
    (λ l. let m = ltb-true (depth a) (depth b) l in rw l (second_up a b _ m (r a (parent b) (omega arith) (omega arith))))
    (λ l. rw l (split (ltb (depth b) (depth a))
    (λ k. let m = ltb-true (depth b) (depth a) k in rw k (first_up a b _ m (r (parent a) b (omega arith) (omega arith))))
    (λ k.
    let s : depth a ≡ depth b = omega (arith, ltb-false (depth a) (depth b) l, ltb-false (depth b) (depth a) k) in
    rw k (both_up a b _ (eqb-false a b e) s (r (parent a) (parent b) (omega arith) (omega arith))))))))

-- n steps up, for two no deeper than n
common_within : (n a b : ℕ) → depth a ≤ n → depth b ≤ n → IsDeepest a b (common n a b)
common_within zero a b h g = same_deepest a b (both_zero a b (omega arith) (omega arith))
common_within (suc n) a b h g = step_deepest n (common n) (common_within n) a b h g

-- four steps up, for any two
pub common_deepest : (a b : ℕ) → IsDeepest a b (common_ancestor a b)
unfolding common_ancestor
common_deepest a b = common_within 4 a b (depth_le a) (depth_le b)

-- what is deepest is the answer; so is the answer after each step up that the code takes
is_common : (a b x : ℕ) → IsDeepest a b x → x ≡ common_ancestor a b
is_common a b x r = deepest_same a b x _ r (common_deepest a b)

pub common_same : (a b : ℕ) → a ≡ b → a ≡ common_ancestor a b
common_same a b e = is_common a b a (same_deepest a b e)

pub common_second : (a b : ℕ) → depth a < depth b → common_ancestor a (parent b) ≡ common_ancestor a b
common_second a b l = is_common a b _ (second_up a b _ l (common_deepest a (parent b)))

pub common_first : (a b : ℕ) → depth b < depth a → common_ancestor (parent a) b ≡ common_ancestor a b
common_first a b l = is_common a b _ (first_up a b _ l (common_deepest (parent a) b))

pub common_both : (a b : ℕ) → a ≢ b → depth a ≡ depth b → common_ancestor (parent a) (parent b) ≡ common_ancestor a b
common_both a b d s = is_common a b _ (both_up a b _ d s (common_deepest (parent a) (parent b)))

-- both parents of two that differ and are as deep are less deep
pub parents_less : (a b : ℕ) → a ≢ b → depth a ≡ depth b → (depth (parent a) < depth a) × (depth (parent b) < depth b)
parents_less a b d s =
    let n : depth a ≢ 0 = λ z. d (both_zero a b z (sym s ∙ z)) in
    let x = parent_depth a in
    let y = parent_depth b in
    omega arith
