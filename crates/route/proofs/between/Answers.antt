-- The code's test for the path is that of the definition.
use Rattle.route.specs.Route.{route_of}
use Rattle.route.proofs.Path.{on_path_lem}
use Rattle.route.proofs.between.Goals as goal

pub returns-then-not-is_well_formed : goal.returns-then-not-is_well_formed
unfolding route_of
returns-then-not-is_well_formed c = rw (← c.is_well_formed.ensures, ← c.is_well_formed-2.ensures, c.if-not-is_well_formed.true)

pub returns : goal.returns
unfolding route_of
returns c =
    let path = on_path_lem c.args.first c.args.second in
    rw (← c.is_well_formed.ensures, ← c.is_well_formed-2.ensures, c.if-not-is_well_formed.false, c.port.ensures, c.common_ancestor-ancestor.ensures, path)
