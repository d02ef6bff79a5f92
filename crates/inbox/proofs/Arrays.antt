-- The arrays of the inboxes, as lists: their lengths, how many entries a handle has, and what the store of one more comes to, by the test that the code makes.
-- Assumes nothing.
use Prim.Native.Nat.{ℕ, ◌+◌, ◌*◌, ◌<◌, min}
use mathlib.Core.Bool.{Bool, true, false, ◌&&◌}
use mathlib.Core.List.{List, []}
use mathlib.Core.Path.{◌≡◌, sym, ◌∙◌}
use native.Mathlib.Omega.{arith}
use lib.Dec.{ltb}
use lib.ListN.{length, length-set, get_or, set, get_or-eq_default}
use borrow.Author.Tests.{ltb-true, ltb-false}
use Rattle.entry.specs.declared.Entry.{Entry}
use Rattle.inbox.specs.Inboxes.{inbox_of, delivered, delivered_past, delivered_full, delivered_room}
use Rattle.lists.specs.Blocks.{parts, length_part, length_parts, parts_put}
use Rattle.lists.specs.Tests.{both, split}

pub record Long (es : List Entry) (cs : List ℕ) : Type 0 where
  pub entries : length es ≡ 128
  pub counts : length cs ≡ 8

pub store_long : (es : List Entry) (cs : List ℕ) (i h n : ℕ) (e : Entry) → Long es cs → Long (set es i e) (set cs h n)
store_long es cs i h n e long = record { entries = length-set es i e ∙ long.entries; counts = length-set cs h n ∙ long.counts }

-- the code's test: there is such a handle, and its n entries leave room
abbrev pub has_room : ℕ → ℕ → Bool
has_room h n = ltb h 8 && ltb n 16

pub room_within : (h n : ℕ) → has_room h n ≡ true → (h < 8) × (n < 16) × (16 * h + n < 128)
room_within h n t =
    let b = both (ltb h 8) (ltb n 16) t in
    let l = ltb-true h 8 b.0 in
    let m = ltb-true n 16 b.1 in
    (l, m, omega arith)

module _ (es : List Entry) (cs : List ℕ) (long : Long es cs) (h : ℕ) where
  pub counted : min (get_or cs h 0) 16 ≡ length (inbox_of (parts 16 cs es) h)
  counted =
      split (ltb h 8)
      (λ e. sym (length_part 16 cs es h (omega (arith, ltb-true h 8 e, long.entries))))
      (λ e. let past = ltb-false h 8 e in
      rw (get_or-eq_default cs 0 {n = h} (omega (arith, long.counts)), get_or-eq_default (parts 16 cs es) [] {n = h} (omega (arith, length_parts 16 cs es, long.counts))))

  module _ (n : ℕ) (e : Entry) (q : n ≡ min (get_or cs h 0) 16) where
    -- an entry stored after the handle's last one is delivered
    pub stored : has_room h n ≡ true → parts 16 (set cs h (n + 1)) (set es (16 * h + n) e) ≡ delivered (parts 16 cs es) h e
    stored t =
        let b = room_within h n t in
        parts_put 16 cs es h n e (omega arith) b.1 (omega (arith, long.entries)) ∙ delivered_room (parts 16 cs es) h e (omega (arith, counted))

    -- where there is no room, or no such handle, nothing is
    pub left_out : has_room h n ≡ false → parts 16 cs es ≡ delivered (parts 16 cs es) h e
    left_out t =
        split (ltb h 8)
        (λ a. delivered_full (parts 16 cs es) h e (omega (arith, counted, ltb-false n 16 (rw a at t))))
        (λ a. delivered_past (parts 16 cs es) h e (omega (arith, ltb-false h 8 a, length_parts 16 cs es, long.counts)))
