-- The two ends of a transmit that is not refused: answered at once, or queued.
-- Assumes nothing.
use Prim.Native.Nat.{ℕ}
use mathlib.Core.Bool.{true, false, cond}
use mathlib.Core.List.{List}
use mathlib.Core.Path.{◌≡◌}
use Rattle.constants.specs.Kernel.{CEC-TX-STATUS-NACK}
use Rattle.lists.specs.Vector.{put}
use Rattle.rules.specs.Call.{Request, finish, accepted}
use Rattle.rules.specs.Number.{next_sequence}
use Rattle.rules.specs.State.{State, with_last, with_queue}
use Rattle.rules.specs.Transmit.{is_self_poll, polled, queued, transmission_of}
use Rattle.transmission.specs.declared.Transmission.{Transmission}

pub polled_outcome : (s : State) (h : ℕ) (r : Request) (n : ℕ) → is_self_poll s r ≡ true → n ≡ next_sequence s
    → finish (accepted n CEC-TX-STATUS-NACK) (with_last s n) ≡ cond (is_self_poll s r) (polled s) (queued s h r)
polled_outcome s h r n e q = rw (e, q)

pub queued_outcome : (s : State) (h : ℕ) (r : Request) (n : ℕ) (ts : List Transmission) → is_self_poll s r ≡ false → n ≡ next_sequence s → ts ≡ put 18 s.queue (transmission_of n h r)
    → finish (accepted n 0) (with_last (with_queue s ts) n) ≡ cond (is_self_poll s r) (polled s) (queued s h r)
queued_outcome s h r n ts e q t = rw (e, t, q)
