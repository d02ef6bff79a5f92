use Rattle.comparer.specs.Comparer.{what_in}
use Rattle.comparison_text.proofs.Lines.{what_room, differing}
use Rattle.comparison_text.proofs.verdict_line.Goals as goal

pub what_line-requires : goal.what_line-requires
what_line-requires c =
    let d = c.in-Some.found in
    what_room d.number d.left_offset d.right_offset c.requires c.word-end.ensures c.value-end.ensures c.value-end-2.ensures c.value-end-3.ensures

pub returns : goal.returns
returns c =
    let d = c.in-Some.found in
    rw c.in-Some.is
    (differing d.number d.left_offset d.right_offset c.requires c.word-end.ensures c.value-end.ensures c.value-end-2.ensures c.value-end-3.ensures
    (what_in d.what) c.what_line.ensures)
