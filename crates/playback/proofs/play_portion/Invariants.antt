-- What is left of the portion leads where the whole portion does, and the lines so far were written.
use Rattle.std.proofs.Common.{length, ◌≤◌, ◌≡◌}
use Rattle.player.specs.Player.{session_of}
use Rattle.playback.proofs.Lines.{Went}
use Rattle.playback.proofs.play_portion.Given as goal

abbrev pub invariant-loop-rest : goal.invariant-loop-rest
invariant-loop-rest g l = record {
  same_room : length l.out ≡ length l.initial.out;
  went : 29 ≤ length l.initial.out → Went (session_of l.initial.player) (session_of l.player) l.portion l.rest (g.W.Write.contents l.initial.lines) (g.W.Write.contents l.lines);
}

abbrev pub decreases-loop-rest : goal.decreases-loop-rest
decreases-loop-rest g l = length l.rest
