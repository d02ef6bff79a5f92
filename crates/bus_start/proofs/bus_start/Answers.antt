use Rattle.std.proofs.lemmas.Result.{err_from_is_err_and}
use Rattle.parts.proofs.Outcomes.{accepted_call, refused_call}
use Rattle.parts.specs.Parts.{state_of}
use Rattle.rules.specs.BusStart.{do_bus_start}
use Rattle.bus_start.proofs.bus_start.Goals as goal

pub returns-in_err-check-clause-value : goal.returns-in_err-check-clause-value
unfolding do_bus_start
returns-in_err-check-clause-value c = refused_call _ _ _ _ _ _ _ c.in_err-check.was c.check.ensures (err_from_is_err_and _ c.from_residual.ensures.1)

pub returns-clause-value : goal.returns-clause-value
unfolding do_bus_start
returns-clause-value c =
    rw (c.put-parts.ensures, c.without_head-parts.ensures, c.head-head.ensures)
    (accepted_call (state_of c.args.parts.now) _ _ _ _ c.in_ok-check.was c.check.ensures)
