-- A copy that is kept or lost, and copies one after the other.
-- Assumes nothing.
use Prim.Native.Nat.{ℕ, zero, suc, ◌+◌, ◌<◌}
use mathlib.Core.Bool.{Bool, true, false, cond, ◌||◌}
use mathlib.Core.List.{List, [], ◌∷◌, ◌++◌}
use mathlib.Core.Logic.{◌≢◌}
use mathlib.Core.Path.{◌≡◌, refl, ap, ap₂, ◌∙◌}
use native.Mathlib.Numerals.{add-one}
use native.Mathlib.Omega.{arith}
use lib.ListN.{get_or, length, set, take}
use lib.Seq.{take-suc}
use borrow.Author.Tests.{eq-eqb, ne_eqb}
use Rattle.std.specs.List.{list_any, range_with_len}
use Rattle.std.specs.Prelude.{Option, None}
use Rattle.copies.specs.Kinds.{gets_copies}
use Rattle.copies.specs.declared.Receivers.{Receivers}
use Rattle.entry.specs.declared.Entry.{Entry}
use Rattle.handle.specs.declared.Handle.{Handle}
use Rattle.handles.specs.declared.Handles.{Handles}
use Rattle.lists.specs.Sums.{any}
use Rattle.lists.specs.Tests.{and-false, neither}
use Rattle.parts.specs.Parts.{with_changed}
use Rattle.parts.specs.declared.Parts.{Parts}
use Rattle.rules.specs.Deliver.{copies, copy_to, deliver, each, handle_numbers, loses, copy_to_by, copies_by}
use Rattle.rules.specs.Derived.{room_taken}
use Rattle.rules.specs.Handles.{handle_at, in_role}
use Rattle.rules.specs.State.{State, closed_handle, with_handles}

-- one turn of the copies
abbrev pub copy_if : Option Receivers → Entry → State → ℕ → State
copy_if kind e t h = cond (in_role (gets_copies kind) (handle_at t h)) (copy_to e t h) t

module _ (kind : Option Receivers) (e : Entry) (s : State) (h : ℕ) where
  pub turn_lost : (hs : List Handle) → in_role (gets_copies kind) (handle_at s h) ≡ true → room_taken s h ≡ 16 → hs ≡ set s.handles h (loses (handle_at s h))
      → with_handles s hs ≡ copy_if kind e s h
  unfolding copy_to_by
  turn_lost hs c r q = rw (c, eq-eqb (room_taken s h) 16 r, q)

  pub turn_kept : in_role (gets_copies kind) (handle_at s h) ≡ true → room_taken s h ≢ 16 → deliver s h e ≡ copy_if kind e s h
  unfolding copy_to_by
  turn_kept c r = rw (c, ne_eqb (room_taken s h) 16 r)

  pub turn_none : in_role (gets_copies kind) (handle_at s h) ≡ false → s ≡ copy_if kind e s h
  turn_none c = rw c

pub nobody : (kind : Option Receivers) (x : Handle) → kind ≡ None → in_role (gets_copies kind) x ≡ false
nobody kind x e = rw e (and-false x.is_open)

each_last : (f : State → ℕ → State) (s : State) (xs : List ℕ) (x : ℕ) → each f s (xs ++ (x ∷ [])) ≡ f (each f s xs) x
each_last f s [] x = refl
each_last f s (y ∷ xs) x = each_last f (f s y) xs x

number_at : (h : ℕ) → h < 8 → get_or handle_numbers h 0 ≡ h
number_at zero b = refl
number_at (suc zero) b = refl
number_at (suc (suc zero)) b = refl
number_at (suc (suc (suc zero))) b = refl
number_at (suc (suc (suc (suc zero)))) b = refl
number_at (suc (suc (suc (suc (suc zero))))) b = refl
number_at (suc (suc (suc (suc (suc (suc zero)))))) b = refl
number_at (suc (suc (suc (suc (suc (suc (suc zero))))))) b = refl
number_at (suc (suc (suc (suc (suc (suc (suc (suc h)))))))) b = absurd (omega arith)

pub each_next : (f : State → ℕ → State) (s : State) (h : ℕ) → h < 8 → each f s (take (h + 1) handle_numbers) ≡ f (each f s (take h handle_numbers)) h
each_next f s h b =
    rw (add-one, take-suc handle_numbers h 0 b, number_at h b) (each_last f s (take h handle_numbers) h)

-- a search by number finds what a search in the list finds
any_shifted : (q : ℕ → Bool) (a n : ℕ) → list_any q (range_with_len (a + 1) n) ≡ list_any (λ k. q (suc k)) (range_with_len a n)
any_shifted q a zero = refl
any_shifted q a (suc n) = let e : a + 1 ≡ suc a = omega arith in ap₂ (λ (k : ℕ) (b : Bool). q k || b) e (any_shifted q (a + 1) n)

pub any_by_number : {A : Type 0} (p : A → Bool) (l : List A) (d : A) → list_any (λ k. p (get_or l k d)) (range_with_len 0 (length l)) ≡ any p l
any_by_number p [] d = refl
any_by_number p (x ∷ l) d = ap (λ (b : Bool). p x || b) (any_shifted (λ k. p (get_or (x ∷ l) k d)) 0 (length l) ∙ any_by_number p l d)

-- where no handle passes the test, nobody gets a copy
any_one : {A : Type 0} (p : A → Bool) (l : List A) (i : ℕ) (d : A) → p d ≡ false → any p l ≡ false → p (get_or l i d) ≡ false
any_one p [] i d e f = e
any_one p (x ∷ l) zero d e f = (neither (p x) (any p l) f).0
any_one p (x ∷ l) (suc i) d e f = any_one p l i d e (neither (p x) (any p l) f).1

each_none : (p : Handle → Bool) (e : Entry) (s : State) → p closed_handle ≡ false → any p s.handles ≡ false → (hs : List ℕ) → s ≡ each (λ t h. cond (p (handle_at t h)) (copy_to e t h) t) s hs
each_none p e s c n [] = refl
each_none p e s c n (h ∷ hs) = rw (any_one p s.handles h closed_handle c n) (each_none p e s c n hs)

pub copies_none : (p : Handle → Bool) (e : Entry) (s : State) → p closed_handle ≡ false → any p s.handles ≡ false → s ≡ copies p e s
unfolding copies_by
copies_none p e s c n = each_none p e s c n handle_numbers

-- the parts with what copies change
abbrev pub copied : Parts → Handles → List ℕ → List Entry → Parts
copied p handles counts entries = with_changed p handles counts entries p.active p.clock

pub alike : (p : Parts) (hs hs' : Handles) (cs cs' : List ℕ) (es es' : List Entry) → es ≡ es' → cs ≡ cs' → hs ≡ hs' → copied p hs cs es ≡ copied p hs' cs' es'
alike p hs hs' cs cs' es es' x y z = rw (x, y, z)
