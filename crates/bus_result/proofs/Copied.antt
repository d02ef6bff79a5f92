-- Copies change the handles and the inboxes alone.
-- Assumes nothing.
use Prim.Native.Nat.{ℕ}
use mathlib.Core.Bool.{Bool, cond}
use mathlib.Core.List.{List, [], ◌∷◌}
use mathlib.Core.Path.{◌≡◌, refl, sym, ap, ◌∙◌}
use lib.Dec.{eqb}
use Rattle.entry.specs.declared.Entry.{Entry}
use Rattle.handle.specs.declared.Handle.{Handle}
use Rattle.lists.specs.Tests.{split}
use Rattle.parts.specs.Parts.{state_of, with_changed}
use Rattle.parts.specs.declared.Parts.{Parts}
use Rattle.rules.specs.Deliver.{copies, copy_to, each, handle_numbers, copy_to_by, copies_by}
use Rattle.rules.specs.Derived.{room_taken}
use Rattle.rules.specs.Handles.{handle_at}
use Rattle.rules.specs.State.{State, with_handles, with_inboxes}

abbrev only : State → State → Type 0
only s t = t ≡ with_inboxes (with_handles s t.handles) t.inboxes

copy_to_only : (e : Entry) (s : State) (h : ℕ) → only s (copy_to e s h)
unfolding copy_to_by
copy_to_only e s h = split (eqb (room_taken s h) 16) (λ q. rw q) (λ q. rw q)

each_only : (f : State → ℕ → State) → ((s : State) (x : ℕ) → only s (f s x)) → (s : State) (xs : List ℕ) → only s (each f s xs)
each_only f k s [] = refl
each_only f k s (x ∷ xs) = let t = each f (f s x) xs in each_only f k (f s x) xs ∙ ap (λ (u : State). with_inboxes (with_handles u t.handles) t.inboxes) (k s x)

copies_only : (p : Handle → Bool) (e : Entry) (s : State) → only s (copies p e s)
unfolding copies_by
copies_only p e s =
    each_only (λ t g. cond (p (handle_at t g)) (copy_to e t g) t)
    (λ t g. split (p (handle_at t g)) (λ q. rw q (copy_to_only e t g)) (λ q. rw q))
    s
    handle_numbers

-- what copies change, stored in the parts
pub copied_change : (p r : Parts) (f : Handle → Bool) (e : Entry) → state_of r ≡ copies f e (state_of p)
    → state_of (with_changed p r.handles r.counts r.entries p.active p.clock) ≡ copies f e (state_of p)
copied_change p r f e s = ap (λ (t : State). with_inboxes (with_handles (state_of p) t.handles) t.inboxes) s ∙ sym (copies_only f e (state_of p))
