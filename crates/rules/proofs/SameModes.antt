-- Where no handle is opened or closed and no mode is set: the handles differ in their lost counts at most (document 01, "The adapter's parts").
-- Assumes nothing.
use Prim.Native.Nat.{ℕ}
use mathlib.Core.Bool.{Bool}
use mathlib.Core.List.{List, map}
use mathlib.Core.Path.{◌≡◌, refl, sym, ap, ◌∙◌}
use lib.ListN.{length, get_or, set, length-map, get_or-map}
use lib.Seq.{set-get_or}
use Rattle.handle.specs.declared.Handle.{Handle}
use Rattle.lists.specs.Elements.{map-set}
use Rattle.lists.specs.Sums.{sum, sum-map, count}
use Rattle.lists.specs.Tests.{bit}
use Rattle.rules.specs.Deliver.{loses}
use Rattle.rules.specs.Handles.{handle_at, is_open, in_role}
use Rattle.rules.specs.State.{State, Capabilities, closed_handle, with_handles}

-- a handle but for its lost count
abbrev pub lossless : Handle → Handle
lossless x = record { is_open = x.is_open; privileged = x.privileged; mode = x.mode; lost = 0 }

-- the capabilities and handles of two states
pub record Alike (c d : Capabilities) (xs ys : List Handle) : Type 0 where
  pub capabilities : d ≡ c
  pub handles : map lossless ys ≡ map lossless xs

abbrev pub SameModes : State → State → Type 0
SameModes s t = Alike s.capabilities t.capabilities s.handles t.handles

-- the other parts may change; and one after the other
pub modes_refl : (s : State) → SameModes s s
modes_refl s = record { capabilities = refl; handles = refl }

pub modes_trans : (s t u : State) → SameModes s t → SameModes t u → SameModes s u
modes_trans s t u a b = record { capabilities = b.capabilities ∙ a.capabilities; handles = b.handles ∙ a.handles }

-- a copy is lost
pub modes_lost : (s : State) (g : ℕ) → SameModes s (with_handles s (set s.handles g (loses (handle_at s g))))
modes_lost s g = record {
  capabilities = refl;
  handles = map-set lossless s.handles g (loses (handle_at s g))
      ∙ ap (set (map lossless s.handles) g) (sym (get_or-map lossless s.handles g closed_handle))
      ∙ set-get_or (map lossless s.handles) g closed_handle;
}

-- what follows: as many handles, each open or closed, privileged and in its mode as it was, and as many in each role
module _ (s t : State) (m : SameModes s t) where
  pub same_many : length t.handles ≡ length s.handles
  same_many = sym (length-map t.handles lossless) ∙ ap length m.handles ∙ length-map s.handles lossless

  pub same_handle : (h : ℕ) → lossless (handle_at t h) ≡ lossless (handle_at s h)
  same_handle h =
      sym (get_or-map lossless t.handles h closed_handle)
      ∙ ap (λ (l : List Handle). get_or l h closed_handle) m.handles
      ∙ get_or-map lossless s.handles h closed_handle

  pub same_open : (h : ℕ) → is_open t h ≡ is_open s h
  same_open h = ap (λ (x : Handle). x.is_open) (same_handle h)

  pub same_roles : (p : ℕ → Bool) → count (in_role p) t.handles ≡ count (in_role p) s.handles
  same_roles p =
      let f : Handle → ℕ = λ x. bit (in_role p x) in
      sym (sum-map f lossless t.handles) ∙ ap (sum f) m.handles ∙ sum-map f lossless s.handles
