-- The eight inboxes of at most 16 entries, each oldest first (document 01, "The adapter's parts").
-- Assumes nothing.
use Rattle.std.specs.Prelude.{ℕ, ◌+◌, ◌≤◌, ◌<◌, List, [], ◌∷◌, ◌++◌, ◌≡◌, refl, length, get_or, set, take, drop}
use Rattle.std.proofs.Common.{sym, add-one, take-suc, lt-ltb, le-ltb}
use Rattle.std.proofs.Math.Seq.{set_out}
use Rattle.std.proofs.lemmas.List.{set-get_or}
use Rattle.entry.specs.Entry.{no_entry}
use Rattle.entry.specs.declared.Entry.{Entry}
use Rattle.inbox.specs.declared.Inboxes.{Inboxes}
use Rattle.lists.specs.Blocks.{parts}
use Rattle.lists.specs.Vector.{put}

-- the list of eight lists; a count past 16 counts as 16
abbrev pub inboxes_of : Inboxes → List (List Entry)
inboxes_of b = parts 16 b.counts b.entries

-- the inbox of handle h; that of a number over 7 is empty
abbrev pub inbox_of : List (List Entry) → ℕ → List Entry
inbox_of is h = get_or is h []

-- one more entry at the end of handle h's inbox; a full one stays
abbrev pub delivered : List (List Entry) → ℕ → Entry → List (List Entry)
delivered is h e = set is h (put 16 (inbox_of is h) e)

-- entries one after the other: for the owner of each thing, an entry of it
module _ {A : Type 0} (owner : A → ℕ) (entry : A → Entry) where
  abbrev pub delivered_all : List (List Entry) → List A → List (List Entry)
  delivered_all is [] = is
  delivered_all is (x ∷ xs) = delivered_all (delivered is (owner x) (entry x)) xs

-- the oldest entry of handle h's inbox, or none
abbrev pub oldest : List (List Entry) → ℕ → Entry
oldest is h = get_or (inbox_of is h) 0 no_entry

-- the oldest entry of handle h's inbox taken out
abbrev pub oldest_taken : List (List Entry) → ℕ → List (List Entry)
oldest_taken is h = set is h (drop 1 (inbox_of is h))

-- handle h's inbox emptied
abbrev pub cleared : List (List Entry) → ℕ → List (List Entry)
cleared is h = set is h []

-- Laws of these.
pub delivered_past : (is : List (List Entry)) (h : ℕ) (e : Entry) → length is ≤ h → is ≡ delivered is h e
delivered_past is h e b = sym (set_out is h (put 16 (inbox_of is h) e) b)

pub delivered_full : (is : List (List Entry)) (h : ℕ) (e : Entry) → 16 ≤ length (inbox_of is h) → is ≡ delivered is h e
delivered_full is h e b = rw (le-ltb (length (inbox_of is h)) 16 b) (sym (set-get_or is h []))

pub delivered_room : (is : List (List Entry)) (h : ℕ) (e : Entry) → length (inbox_of is h) < 16 → set is h (inbox_of is h ++ (e ∷ [])) ≡ delivered is h e
delivered_room is h e b = rw (lt-ltb (length (inbox_of is h)) 16 b)

module _ {A : Type 0} (owner : A → ℕ) (entry : A → Entry) where
  pub delivered_append : (is : List (List Entry)) (xs ys : List A) → delivered_all owner entry is (xs ++ ys) ≡ delivered_all owner entry (delivered_all owner entry is xs) ys
  delivered_append is [] ys = refl
  delivered_append is (x ∷ xs) ys = delivered_append (delivered is (owner x) (entry x)) xs ys

  -- a loop over the first i elements goes on to the next
  pub delivered_next : (is : List (List Entry)) (l : List A) (i : ℕ) (d : A) → i < length l
      → delivered_all owner entry is (take (i + 1) l) ≡ delivered (delivered_all owner entry is (take i l)) (owner (get_or l i d)) (entry (get_or l i d))
  delivered_next is l i d h = rw (add-one, take-suc l i d h) (delivered_append is (take i l) (get_or l i d ∷ []))
