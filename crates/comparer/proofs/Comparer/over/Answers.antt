use Rattle.std.proofs.Common.{◌≡◌, ap, ◌∙◌}
use Rattle.comparer.specs.Comparer.{is_right, comparing_of}
use Rattle.comparison.specs.Comparing.{side_of, with_side, closed_side, settled, over}
use Rattle.comparer.proofs.Comparer.over.Goals as goal
use Rattle.comparer.proofs.Comparer.over.Goals.{in-Left, in-Right}

pub returns : goal.returns
unfolding over
returns c =
    let o = comparing_of c.args.self.now in
    let right = is_right c.args.side in
    let closed : comparing_of c.match-side.self ≡ with_side right (closed_side (side_of right o)) o =
    elim c.match-side.branch [
      | in-Left w ↦ rw (w.self-is, w.in-Left.is)
      | in-Right w ↦ rw (w.self-is, w.in-Right.is)
    ] in
    c.settle.ensures ∙ ap settled closed
