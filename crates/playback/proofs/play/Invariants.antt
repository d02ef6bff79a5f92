-- The portions so far were played and their lines written, and one more was read.
use Rattle.std.proofs.Common.{length, take, ◌≤◌, ◌≡◌}
use Rattle.player.specs.Player.{session_of}
use Rattle.playback.proofs.Lines.{Played}
use Rattle.playback.proofs.play.Given as goal

abbrev pub invariant-loop : goal.invariant-loop
invariant-loop g l = record {
  in_range : l.n ≤ length l.portion;
  read_len : l.n ≡ length (take l.n l.portion);
  same_size : length l.portion ≡ length l.fn.portion;
  same_room : length l.out ≡ length l.fn.out;
  played : 29 ≤ length l.fn.out → Played (g.R.Read.remaining l.fn.log) (g.R.Read.remaining l.log) (g.W.Write.contents l.fn.lines) (g.W.Write.contents l.lines)
      (session_of l.player) (take l.n l.portion) l.counter (length l.fn.portion);
}
