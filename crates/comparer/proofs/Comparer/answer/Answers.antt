use Rattle.std.proofs.Common.{◌≡◌, cond, ◌||◌, sym, ◌∙◌, ap₂}
use Rattle.std.specs.Option.{is_some}
use Rattle.comparer.proofs.Feeding.{answer_found}
use Rattle.comparer.specs.Comparer.{progress_in, end_in}
use Rattle.comparison.specs.Comparing.{alone}
use Rattle.comparer.proofs.Comparer.answer.Goals as goal
use Rattle.comparer.proofs.Comparer.answer.Goals.{then-is_some, else-is_some}

pub returns : goal.returns
returns c =
    let d = c.settle.new.self in
    let waits = ap₂ ◌||◌ (sym c.is_some.ensures) (sym c.is_some-2.ensures) in
    let p : progress_in c.if-is_some.progress ≡ cond (is_some d.left.waits || is_some d.right.waits) (alone (progress_in d.progress)) (progress_in d.progress) =
    elim c.if-is_some.branch [
      | then-is_some w ↦ rw (w.progress-is, waits ∙ w.if-is_some.true) w.alone-progress.ensures
      | else-is_some w ↦ rw (w.progress-is, waits ∙ w.if-is_some.false)
    ] in
    rw (c.end.ensures.counts_value, c.end-2.ensures.counts_value)
    (answer_found c.args.self d c.if-is_some.progress c.difference.result (end_in c.end.result) (end_in c.end-2.result) c.settle.ensures p c.difference.ensures
    c.end.ensures.ending_value c.end-2.ensures.ending_value)
