-- The arrays of the inboxes in the parts: their lengths, and what a call's store of an entry comes to.
-- Assumes nothing.
use Prim.Native.Nat.{ℕ, ◌+◌, ◌*◌, min}
use mathlib.Core.Bool.{true, false}
use mathlib.Core.List.{List}
use mathlib.Core.Path.{◌≡◌, ap}
use lib.ListN.{get_or, set}
use Rattle.entry.specs.declared.Entry.{Entry}
use Rattle.inbox.proofs.Arrays.{Long, has_room, left_out, store_long, stored}
use Rattle.parts.specs.Parts.{with_changed, state_of}
use Rattle.parts.specs.declared.Parts.{Parts}
use Rattle.rules.specs.Deliver.{deliver}
use Rattle.rules.specs.State.{with_inboxes}

abbrev pub LongParts : Parts → Type 0
LongParts p = Long p.entries p.counts

-- the parts with other arrays of the inboxes alone; with another active address and another clock alone
abbrev pub with_arrays : Parts → List Entry → List ℕ → Parts
with_arrays p es cs = with_changed p p.handles cs es p.active p.clock

abbrev pub moved_parts : Parts → ℕ → ℕ → Parts
moved_parts p active clock = with_changed p p.handles p.counts p.entries active clock

-- q is p with an entry delivered
pub record Delivered (p : Parts) (h : ℕ) (e : Entry) (q : Parts) : Type 0 where
  pub long : LongParts q
  pub state : state_of q ≡ deliver (state_of p) h e

-- the code's store, by its test of the n entries that the handle has
module _ (p : Parts) (long : LongParts p) (h n : ℕ) (m : n ≡ min (get_or p.counts h 0) 16) (e : Entry) (q : Parts) where
  pub stores : (x : Entry) → has_room h n ≡ true → x ≡ e → q ≡ with_arrays p (set p.entries (16 * h + n) x) (set p.counts h (n + 1)) → Delivered p h e q
  stores x t s w =
      rw (w, s)
      (record {
        long = store_long p.entries p.counts (16 * h + n) h (n + 1) e long;
        state = ap (with_inboxes (state_of p)) (stored p.entries p.counts long h n e m t);
      })

  pub leaves : has_room h n ≡ false → q ≡ p → Delivered p h e q
  leaves t w = rw w (record { long = long; state = ap (with_inboxes (state_of p)) (left_out p.entries p.counts long h n e m t) })
