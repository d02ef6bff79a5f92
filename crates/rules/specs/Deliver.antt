-- How entries come into inboxes (document 01, "The adapter's parts").
-- Assumes nothing.
use Rattle.std.specs.Prelude.{ℕ, ◌+◌, min, Bool, cond, List, [], ◌∷◌, eqb, set}
use Rattle.entry.specs.declared.Entry.{Entry}
use Rattle.handle.specs.declared.Handle.{Handle}
use Rattle.inbox.specs.Inboxes.{delivered}
use Rattle.rules.specs.Handles.{handle_at}
use Rattle.rules.specs.Derived.{Derived, counted, room_taken_by}
use Rattle.rules.specs.State.{State, with_handles, with_inboxes}

-- an entry to handle h. To a number over 7, which is nobody's, nothing goes; a full inbox stays, which no reached state comes to
abbrev pub deliver : State → ℕ → Entry → State
deliver s h e = with_inboxes s (delivered s.inboxes h e)

-- "The count starts at 0 on open and stays at 4,294,967,295."
abbrev pub loses : Handle → Handle
loses x = record { is_open = x.is_open; privileged = x.privileged; mode = x.mode; lost = min (x.lost + 1) 4294967295 }

-- a copy for handle h: "Copies for followers and monitors are dropped, and the handle's lost count raised, exactly if entries plus owed room is 16 at that moment"
unfoldable pub copy_to_by : Derived → Entry → State → ℕ → State
copy_to_by d e s h = cond (eqb (room_taken_by d s h) 16) (with_handles s (set s.handles h (loses (handle_at s h)))) (deliver s h e)

abbrev pub copy_to : Entry → State → ℕ → State
copy_to = copy_to_by counted

-- a list of things done one after the other
abbrev pub each : {A : Type 0} → (State → A → State) → State → List A → State
each f s [] = s
each f s (x ∷ xs) = each f (f s x) xs

-- the handle numbers, ascending
abbrev pub handle_numbers : List ℕ
handle_numbers = 0 ∷ 1 ∷ 2 ∷ 3 ∷ 4 ∷ 5 ∷ 6 ∷ 7 ∷ []

-- copies to the handles that pass a test, "ascending"
unfoldable pub copies_by : Derived → (Handle → Bool) → Entry → State → State
copies_by d p e s = each (λ t h. cond (p (handle_at t h)) (copy_to_by d e t h) t) s handle_numbers

abbrev pub copies : (Handle → Bool) → Entry → State → State
copies = copies_by counted
