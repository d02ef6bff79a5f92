use Rattle.comparison_text.proofs.Counts.{Counting}
use Rattle.comparison_text.proofs.count_lines.Given as goal

abbrev pub invariant-loop-i : goal.invariant-loop-i
invariant-loop-i l = Counting l.fn.out l.at l.left l.right l.out l.end l.i
