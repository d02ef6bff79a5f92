-- What the core sends has no owner and number 0 (document 01, "A message from the wire").
-- Assumes nothing.
use Prim.Native.Nat.{ℕ}
use mathlib.Core.List.{List}
use mathlib.Core.Path.{◌≡◌, refl}
use Rattle.lists.specs.Tests.{split}
use Rattle.message.specs.declared.Message.{Message}
use Rattle.rules.specs.Core.{sends}
use Rattle.rules.specs.State.{State, with_queue}
use Rattle.transmission.specs.Transmission.{ownerless, no_owner}

pub ownerless_sequence : (m : Message) → (ownerless m).sequence ≡ 0
ownerless_sequence m = refl

pub ownerless_owner : (m : Message) → (ownerless m).owner ≡ no_owner
ownerless_owner m = refl

-- only the queue changes
pub sends_queue : (s : State) (bytes : List ℕ) → sends s bytes ≡ with_queue s (sends s bytes).queue
unfolding sends
sends_queue s bytes = split s.capabilities.transmit (λ e. rw e) (λ e. rw e)
