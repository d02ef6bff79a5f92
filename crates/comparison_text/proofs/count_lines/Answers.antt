use Rattle.std.proofs.Common.{rules}
use Rattle.comparison_text.proofs.Counts.{goes}
use Rattle.comparison_text.proofs.count_lines.Goals as goal

pub loop-i-preserved : goal.loop-i-preserved
loop-i-preserved c = goes c.loop-i.invariant (search rules) (search rules) c.loop-i-test.true c.count_line-end.ensures
