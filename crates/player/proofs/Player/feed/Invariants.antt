use Rattle.std.proofs.Common.{◌-◌, ◌≡◌, length}
use Rattle.adapter.specs.Adapter.{state_of}
use Rattle.player.proofs.Feeding.{Feeding}
use Rattle.player.specs.Player.{session_with}
use Rattle.player.proofs.Player.feed.Given as goal

abbrev pub invariant-loop-taken : goal.invariant-loop-taken
invariant-loop-taken l =
    let before = session_with (state_of l.initial.played.adapter) l.initial.bytes l.initial.cursor in
    let now = session_with (state_of l.played.adapter) l.bytes l.cursor in
    Feeding before l.portion l.initial.out now l.taken l.written l.out × (length l.bytes ≡ 28)

abbrev pub decreases-loop-taken : goal.decreases-loop-taken
decreases-loop-taken l = length l.portion - l.taken
