use Rattle.comparison_text.proofs.Lines.{called}
use Rattle.session_log.specs.Text.{bad_line, cut_line}
use Rattle.comparison_text.proofs.end_line.Goals as goal

pub returns-in-Bad : goal.returns-in-Bad
returns-in-Bad c =
    let e = c.in-Bad in
    rw e.is (called c.args.side.now (bad_line e.place) c.requires c.named-end.ensures c.bad_line.ensures)

pub returns-in-Cut : goal.returns-in-Cut
returns-in-Cut c =
    let e = c.in-Cut in
    rw e.is (called c.args.side.now (cut_line e.place) c.requires c.named-end-in-Cut.ensures c.cut_line.ensures)
