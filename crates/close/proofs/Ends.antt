-- The end of a close, from the parts.
-- Assumes nothing.
use Prim.Native.Nat.{ℕ}
use mathlib.Core.List.{List, map}
use mathlib.Core.Path.{◌≡◌}
use lib.ListN.{set}
use Rattle.entry.specs.declared.Entry.{Entry}
use Rattle.handle.specs.declared.Handle.{Handle}
use Rattle.inbox.specs.Inboxes.{cleared}
use Rattle.rules.specs.Close.{closed}
use Rattle.rules.specs.State.{State, closed_handle, with_handles, with_inboxes, with_queue, with_wire, with_waits}
use Rattle.transmission.specs.Transmission.{orphaned}
use Rattle.transmission.specs.declared.Transmission.{Transmission}
use Rattle.wait.specs.declared.Wait.{Wait}
use Rattle.waits.specs.Waits.{without_handle}

pub closed_parts : (s u : State) (h : ℕ) (is : List (List Entry)) (hs : List Handle) (queue wire : List Transmission) (waits : List Wait)
    → u ≡ with_inboxes s is
    → is ≡ cleared s.inboxes h
    → hs ≡ set s.handles h closed_handle
    → queue ≡ map (orphaned h) s.queue
    → wire ≡ map (orphaned h) s.wire
    → waits ≡ without_handle h s.waits
    → ◌≡◌ {A = State}
    (with_handles (with_queue (with_wire (with_waits u waits) wire) queue) hs)
    (closed s h)
closed_parts s u h is hs queue wire waits a b c d e f = rw (a, b, c, d, e, f)
