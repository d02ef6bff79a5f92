-- Through the port that is answered one comes to the second address: the child there lies on the path to it.
-- Assumes nothing.
use Prim.Native.Nat.{ℕ, zero, suc, ◌-◌, ◌≤◌, ◌<◌}
use mathlib.Core.Bool.{true}
use mathlib.Core.Logic.{◌≢◌}
use mathlib.Core.Path.{◌≡◌, refl}
use native.Mathlib.Omega.{arith}
use lib.Dec.{eqb, ltb}
use borrow.Author.Tests.{eqb-true, eqb-false, ne_eqb, ltb-true, ltb-false}
use Rattle.lists.specs.Tests.{split}
use Rattle.route.specs.Address.{is_well_formed, depth, parent, up, IsAncestor, on_path, digit_at}
use Rattle.route.specs.Route.{port, child, IsPort}
use Rattle.route.proofs.Digits.{parent_keeps, digit_depth, is_child}
use Rattle.route.proofs.Path.{on_path_ancestor, ancestor_on_path}
use Rattle.route.proofs.Tree.{depth_le, parent_depth, ancestor_less, ancestor_self, ancestor_parent}
use Rattle.route.proofs.WellFormed.{IsFull, well_formed_full, parent_le, parent_full}

-- with no zero before the last digit, a parent is less deep by one
parent_deep : (a : ℕ) → IsFull a → depth (parent a) ≡ depth a - 1
parent_deep a f =
    let h = parent_depth a in
    let g = depth_le a in
    split (ltb 1 (depth a))
    (λ e.
    let i = depth a - 2 in
    let l = ltb-true 1 (depth a) e in
    let k : 1 ≤ digit_at i (parent a) = rw (parent_keeps i a (omega arith)) (f i (omega arith)) in
    omega (arith, digit_depth i (parent a) (omega arith) k))
    (λ e. omega (arith, ltb-false 1 (depth a) e))

-- the second's digit after the first's depth is not 0, and the first's child there is an ancestor
record IsOnward (a b : ℕ) : Type 0 where
  pub least : 1 ≤ digit_at (depth a) b
  pub onward : IsAncestor (child a (digit_at (depth a) b)) b

-- from the parent
parent_onward : (b : ℕ) → b < 65536 → IsFull b → parent b ≢ b → IsOnward (parent b) b
parent_onward b l f d =
    let c = is_child b l (omega (arith, ancestor_less (parent b) b d (1, refl))) in
    let e = parent_deep b f in
    record { least = rw e c.least; onward = rw e (ancestor_self _ b c.made) }

-- from any other ancestor, as from the parent's
up_onward : (n a b : ℕ) → b < 65536 → IsFull b → a ≡ up n b → a ≢ b → IsOnward a b
up_onward zero a b l f e d = absurd (d e)
up_onward (suc n) a b l f e d =
    split (eqb a (parent b))
    (λ t. let q = eqb-true a (parent b) t in rw q (parent_onward b l f (rw q at d)))
    (λ t.
    let o = eqb-false a (parent b) t in
    let r = up_onward n a (parent b) (omega (arith, parent_le b)) (parent_full b f) e o in
    let k = parent_keeps (depth a) b (omega (arith, ancestor_less a (parent b) o (n, e), parent_depth b)) in
    record { least = rw (← k) r.least; onward = rw (← k) (ancestor_parent _ b r.onward) })

-- the answered port leads to the second address
pub port_leads : (a b : ℕ) → b < 65536 → is_well_formed b ≡ true → on_path a b ≡ true → a ≢ b → IsPort a b (port a b (on_path a b))
port_leads a b l w p d =
    let q = on_path_ancestor a b p in
    let r = up_onward q.0 a b l (well_formed_full b l w) q.1 d in
    rw (p, ne_eqb a b d) (record { least = r.least; most = omega arith; onward = ancestor_on_path _ b r.onward })
