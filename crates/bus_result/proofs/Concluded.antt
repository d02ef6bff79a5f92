-- A bus result, from its parts: the state after the copies and the owner's entry, the wire and the waits.
-- Assumes nothing.
use Prim.Native.Nat.{ℕ}
use mathlib.Core.Bool.{Bool, true, false, ◌&&◌}
use mathlib.Core.List.{List}
use mathlib.Core.Path.{◌≡◌, refl, sym, ◌∙◌}
use lib.ListN.{drop}
use Rattle.constants.specs.Kernel.{CEC-TX-STATUS-OK}
use Rattle.copies.proofs.Turns.{copies_none}
use Rattle.std.specs.Prelude.{Some}
use Rattle.copies.specs.Kinds.{gets_copies}
use Rattle.copies.specs.declared.Receivers.TheVariants.{Monitors}
use Rattle.entry.specs.Entry.{result_entry, result_copy}
use Rattle.entry.specs.declared.Counts.{Counts}
use Rattle.entry.specs.declared.Entry.{Entry}
use Rattle.lists.specs.Sums.{any}
use Rattle.lists.specs.Vector.{put}
use Rattle.rules.proofs.Aside.{copies_aside}
use Rattle.rules.specs.BusResult.{begun, concluded, wait_for}
use Rattle.rules.specs.Deliver.{copies, deliver}
use Rattle.rules.specs.Handles.{has_bit, in_role, is_monitor}
use Rattle.rules.specs.State.{State, with_waits, with_wire}
use Rattle.transmission.specs.declared.Transmission.{Transmission}
use Rattle.wait.specs.declared.Wait.{Wait}

module _ (status : ℕ) (t : Transmission) (ts : ℕ) (ws : List Wait) (ok : Bool) (a : ok ≡ has_bit CEC-TX-STATUS-OK status) where
  pub begun_taken : (w : Wait) → (ok && t.wants_reply) ≡ true → w ≡ wait_for t ts → put 32 ws w ≡ begun status t ts ws
  begun_taken w b c = rw (← a, b, c)

  pub begun_left : (ok && t.wants_reply) ≡ false → ws ≡ begun status t ts ws
  begun_left b = rw (← a, b)

module _ (s : State) (t : Transmission) (status : ℕ) (kept : Counts) (ts : ℕ) where
  -- the copies for the monitors, and then the owner's entry
  abbrev pub watched : State
  watched = copies (in_role is_monitor) (result_copy status kept t.message ts) s

  abbrev pub result_for : Entry
  result_for = result_entry t.sequence status kept t.message ts

  pub watched_some : (c : State) (copy : Entry) → copy ≡ result_copy status kept t.message ts → c ≡ copies (in_role (gets_copies (Some Monitors))) copy s → c ≡ watched
  watched_some c copy x p = p ∙ rw x

  pub watched_none : (some : Bool) → some ≡ any (in_role (gets_copies (Some Monitors))) s.handles → some ≡ false → s ≡ watched
  watched_none some x n = copies_none (in_role is_monitor) (result_copy status kept t.message ts) s refl (sym x ∙ n)

  -- the copies leave the wire and the waits as they were
  pub concluded_parts : (u : State) (wire : List Transmission) (waits : List Wait)
      → u ≡ deliver watched t.owner result_for
      → wire ≡ drop 1 u.wire
      → waits ≡ begun status t ts u.waits
      → with_waits (with_wire u wire) waits ≡ concluded s t status kept ts
  concluded_parts u wire waits p q r =
      let a = copies_aside is_monitor (result_copy status kept t.message ts) refl s in
      rw (q, r, p, a.wire, a.waits)
