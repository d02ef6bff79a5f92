-- Each step up keeps the deepest common ancestor.
use Rattle.std.proofs.Common.{arith, ap}
use Rattle.route.specs.Address.{depth}
use Rattle.route.proofs.Tree.{parent_depth, common_same, common_first, common_second, common_both, parents_less}
use Rattle.route.proofs.address.+common_ancestor.Goals as goal

pub returns-then-first-second : goal.returns-then-first-second
returns-then-first-second t c = common_same c.args.first c.args.second c.if-first-second.true

pub common_ancestor-requires : goal.common_ancestor-requires
common_ancestor-requires t c = omega (arith, parent_depth c.args.second, ap depth c.parent.ensures)

pub returns-then-m-n : goal.returns-then-m-n
returns-then-m-n t c = rw (c.common_ancestor.ensures, c.parent.ensures) (common_second c.args.first c.args.second (omega arith))

pub common_ancestor-requires-then-n-m : goal.common_ancestor-requires-then-n-m
common_ancestor-requires-then-n-m t c = omega (arith, parent_depth c.args.first, ap depth c.parent-then-n-m.ensures)

pub returns-then-n-m : goal.returns-then-n-m
returns-then-n-m t c = rw (c.common_ancestor-then-n-m.ensures, c.parent-then-n-m.ensures) (common_first c.args.first c.args.second (omega arith))

pub common_ancestor-requires-2 : goal.common_ancestor-requires-2
common_ancestor-requires-2 t c =
    let less = parents_less c.args.first c.args.second c.if-first-second.false (omega arith) in
    omega (arith, ap depth c.parent-2.ensures, ap depth c.parent-3.ensures, less)

pub returns : goal.returns
returns t c =
    rw (c.common_ancestor-2.ensures, c.parent-2.ensures, c.parent-3.ensures)
    (common_both c.args.first c.args.second c.if-first-second.false (omega arith))
