-- The slots of the handles: one more is looked at for a role.
-- Assumes nothing.
use Prim.Native.Nat.{ℕ, ◌+◌, ◌<◌}
use mathlib.Core.Bool.{Bool, ◌&&◌, ◌||◌, not}
use mathlib.Core.List.{List}
use mathlib.Core.Path.{◌≡◌, sym}
use lib.Dec.{eqb}
use lib.ListN.{length, get_or, take}
use Rattle.lists.specs.Places.{without, any_others}
use Rattle.lists.specs.Sums.{any}
use Rattle.lists.specs.Tests.{split}
use Rattle.handle.specs.declared.Handle.{Handle}
use Rattle.rules.specs.Handles.{in_role}
use Rattle.rules.specs.State.{closed_handle}

-- a loop over all handles but one: one more is looked at for a role
pub role_next : (p : ℕ → Bool) (l : List Handle) (h i : ℕ) (v r : Bool) → i < length l → v ≡ any (in_role p) (without h (take i l)) → r ≡ p (get_or l i closed_handle).mode
    → (v || (not (eqb i h) && (get_or l i closed_handle).is_open) && r) ≡ any (in_role p) (without h (take (i + 1) l))
role_next p l h i v r b e q =
    let x = get_or l i closed_handle in
    let one : ((not (eqb i h) && x.is_open) && r) ≡ (not (eqb i h) && (x.is_open && r)) = split (eqb i h) (λ f. rw f) (λ f. rw f) in
    rw (one, e, q) (sym (any_others (in_role p) l h i closed_handle b))
