use Rattle.std.proofs.Common.{take}
use Rattle.session_log.specs.Text.{blanked}
use Rattle.text.specs.Line.{PutAt}
use Rattle.text.proofs.numbers.Given as goal

abbrev pub invariant-loop-n : goal.invariant-loop-n
invariant-loop-n l = PutAt l.fn.out l.at (blanked (take l.n-index l.list)) l.end l.out
