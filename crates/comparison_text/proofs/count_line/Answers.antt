use Rattle.comparison_text.proofs.Lines.{counted}
use Rattle.comparison_text.proofs.count_line.Goals as goal

pub returns : goal.returns
returns c =
    let a = c.args in
    counted a.kind a.left a.right c.requires.at_in_bounds c.requires.kind_bound c.first_value-end.ensures c.value-end.ensures c.value-end-2.ensures c.word.ensures
