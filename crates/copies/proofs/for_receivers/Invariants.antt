use Rattle.std.proofs.Common.{◌≡◌, take}
use Rattle.copies.proofs.Turns.{copied, copy_if}
use Rattle.std.specs.Prelude.{None}
use Rattle.parts.proofs.Arrays.{LongParts}
use Rattle.parts.specs.Parts.{state_of}
use Rattle.rules.specs.Deliver.{each, handle_numbers}
use Rattle.copies.proofs.for_receivers.Given as goal

abbrev pub invariant-loop-handle : goal.invariant-loop-handle
invariant-loop-handle l =
    LongParts (copied l.parts l.handles l.counts l.entries)
    × (state_of (copied l.parts l.handles l.counts l.entries) ≡ each (copy_if l.kind l.entry) (state_of l.parts) (take l.handle handle_numbers))
    × (l.kind ≡ None → copied l.parts l.handles l.counts l.entries ≡ l.parts)
