-- The path from 0.0.0.0 to an address: it goes through the address's ancestors, and through no other.
-- Assumes nothing.
use Prim.Native.Nat.{ℕ, zero, suc, ◌≤◌}
use mathlib.Core.Bool.{true}
use mathlib.Core.Path.{◌≡◌, refl, sym, ◌∙◌}
use native.Mathlib.Omega.{arith}
use lib.Dec.{eqb}
use borrow.Author.Tests.{eqb-true, eqb-false, eq-eqb, ne_eqb}
use Rattle.lists.specs.Tests.{split, clash}
use Rattle.route.specs.Address.{depth, parent, IsAncestor, common_ancestor, reaches, on_path}
use Rattle.route.proofs.Tree.{depth_le, parent_depth, ancestor_self, ancestor_parent, ancestor_other, ancestor_same, ancestors_same, common_deepest}

-- what is reached over n levels is an ancestor
reaches_ancestor : (n x a : ℕ) → reaches n x a ≡ true → IsAncestor x a
reaches_ancestor zero x a r = ancestor_self x a (eqb-true x a r)
reaches_ancestor (suc n) x a r =
    split (eqb x a)
    (λ e. ancestor_self x a (eqb-true x a e))
    (λ e. ancestor_parent x a (reaches_ancestor n x (parent a) (rw e at r)))

-- what lies on the path is an ancestor
pub on_path_ancestor : (a b : ℕ) → on_path a b ≡ true → IsAncestor a b
unfolding on_path
on_path_ancestor a b p = reaches_ancestor 4 a b p

-- over n levels each ancestor of an address no deeper than n is reached
ancestor_reaches : (n x a : ℕ) → depth a ≤ n → IsAncestor x a → reaches n x a ≡ true
ancestor_reaches zero x a d p = eq-eqb x a (ancestor_same x a (omega arith) p)
ancestor_reaches (suc n) x a d p =
    split (eqb x a)
    (λ e. rw e)
    (λ e. rw e (ancestor_reaches n x (parent a) (omega (arith, parent_depth a)) (ancestor_other x a (eqb-false x a e) p)))

-- each ancestor lies on the path
pub ancestor_on_path : (a b : ℕ) → IsAncestor a b → on_path a b ≡ true
unfolding on_path
ancestor_on_path a b p = ancestor_reaches 4 a b (depth_le b) p

-- the test of the code: the first is the deepest common ancestor
pub on_path_lem : (a b : ℕ) → on_path a b ≡ eqb (common_ancestor a b) a
on_path_lem a b =
    let r = common_deepest a b in
    split (on_path a b)
    (λ e.
    let p = r.deepest a (ancestor_self a a refl) (on_path_ancestor a b e) in
    e ∙ sym (eq-eqb (common_ancestor a b) a (ancestors_same (common_ancestor a b) a r.first p)))
    (λ e. e ∙ sym (ne_eqb (common_ancestor a b) a (λ q. clash (ancestor_on_path a b (rw q at r.second)) e)))
