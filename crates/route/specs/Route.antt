-- The question on two addresses (document 02, W-205).
-- Assumes nothing.
use Rattle.std.specs.Prelude.{ℕ, ◌+◌, ◌*◌, ◌≤◌, Bool, true, false, cond, not, ◌&&◌, ◌≡◌, eqb}
use Rattle.constants.specs.Kernel.{EINVAL}
use Rattle.route.specs.Address.{is_well_formed, depth, common_ancestor, on_path, weight_at, digit_at, IsAncestor}
use Rattle.route.specs.declared.Route.{Route}

-- "through which of the first's ports (1 to 15, or 0 if the two are equal or the first is off the path)"
abbrev pub port : ℕ → ℕ → Bool → ℕ
port a b on = cond (on && not (eqb a b)) (digit_at (depth a) b) 0

-- the address at a port of another
abbrev pub child : ℕ → ℕ → ℕ
child a p = a + p * weight_at (depth a)

-- "A question with an ill formed address is EINVAL": nothing else is in the answer
abbrev pub refused_route : ℕ → Route
refused_route errno = record { errno = errno; ancestor = 0; on_path = false; port = 0 }

-- "Given two well-formed addresses it answers the deepest common ancestor .., whether the first lies on the path .., and through which of the first's ports"
unfoldable pub route_of : ℕ → ℕ → Route
route_of a b =
    cond (is_well_formed a && is_well_formed b)
    (record { errno = 0; ancestor = common_ancestor a b; on_path = on_path a b; port = port a b (on_path a b) })
    (refused_route EINVAL)

-- the deepest common ancestor: an ancestor of both, and every common ancestor is one of it
pub record IsDeepest (a b x : ℕ) : Type 0 where
  pub first : IsAncestor x a
  pub second : IsAncestor x b
  pub deepest : (y : ℕ) → IsAncestor y a → IsAncestor y b → IsAncestor y x

-- through port p of the first one comes to the second: the first's child there lies on the path
pub record IsPort (a b p : ℕ) : Type 0 where
  pub least : 1 ≤ p
  pub most : p ≤ 15
  pub onward : on_path (child a p) b ≡ true
