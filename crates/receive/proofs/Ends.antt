-- The ends of a receive, from the parts.
-- Assumes nothing.
use Prim.Native.Nat.{ℕ, ◌<◌, min}
use mathlib.Core.Bool.{not}
use mathlib.Core.Path.{◌≡◌}
use native.Mathlib.Omega.{arith}
use lib.Dec.{eqb}
use lib.ListN.{get_or, length}
use borrow.Author.Tests.{eqb-false}
use Rattle.constants.specs.Kernel.{EAGAIN, EBADF}
use Rattle.inbox.proofs.Arrays.{counted}
use Rattle.inbox.specs.Inboxes.{inbox_of}
use Rattle.lists.specs.Blocks.{length_parts, part_within}
use Rattle.parts.proofs.Arrays.{LongParts}
use Rattle.parts.specs.Parts.{state_of}
use Rattle.parts.specs.declared.Parts.{Parts}
use Rattle.rules.proofs.Checks.{passed}
use Rattle.rules.specs.Handles.{is_open}
use Rattle.rules.specs.Receive.{receive_refusal}
use Rattle.rules.specs.State.{State}

-- a receive that is taken has an entry to give
pub some_entry : (s : State) (h : ℕ) → receive_refusal s h ≡ 0 → 0 < length (inbox_of s.inboxes h)
some_entry s h q =
    let a = passed (not (is_open s h)) EBADF _ (omega arith) q in
    let b = passed (eqb (length (inbox_of s.inboxes h)) 0) EAGAIN 0 (omega arith) a.1 in
    let c = eqb-false (length (inbox_of s.inboxes h)) 0 b.0 in
    omega arith

-- and a handle that is one of the eight
pub taken_handle : (p : Parts) (h : ℕ) → LongParts p → receive_refusal (state_of p) h ≡ 0 → (h < 8) × (0 < min (get_or p.counts h 0) 16)
taken_handle p h long q =
    let some = some_entry (state_of p) h q in
    (omega (arith, part_within (state_of p).inboxes h some, length_parts 16 p.counts p.entries, long.counts), omega (arith, counted p.entries p.counts long h, some))
