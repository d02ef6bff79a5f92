-- Entries delivered one after the other change the inboxes alone.
-- Assumes nothing.
use Prim.Native.Nat.{ℕ}
use mathlib.Core.List.{List, [], ◌∷◌}
use mathlib.Core.Path.{◌≡◌, refl}
use Rattle.entry.specs.declared.Entry.{Entry}
use Rattle.inbox.specs.Inboxes.{delivered_all}
use Rattle.rules.specs.Deliver.{deliver, each}
use Rattle.rules.specs.State.{State, with_inboxes}

pub each_delivers : {A : Type 0} (owner : A → ℕ) (entry : A → Entry) (s : State) (xs : List A)
    → each (λ t x. deliver t (owner x) (entry x)) s xs ≡ with_inboxes s (delivered_all owner entry s.inboxes xs)
each_delivers owner entry s [] = refl
each_delivers owner entry s (x ∷ xs) = each_delivers owner entry (deliver s (owner x) (entry x)) xs
