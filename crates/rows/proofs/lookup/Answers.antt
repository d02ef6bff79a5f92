use Rattle.std.proofs.Common.{◌≡◌, length, arith, rules}
use Rattle.std.proofs.lemmas.Result.{err_from_is_err_and}
use Rattle.constants.specs.Kernel.{CEC-PHYS-ADDR-INVALID}
use Rattle.lists.specs.Elements.{get_d_within}
use Rattle.parts.proofs.Outcomes.{accepted_call, passed_check, refused_call}
use Rattle.parts.specs.Parts.{state_of}
use Rattle.rows.proofs.Taken.{taken}
use Rattle.rules.specs.Lookup.{do_lookup}
use Rattle.rows.proofs.lookup.Goals as goal

pub returns-in_err-check : goal.returns-in_err-check
unfolding do_lookup
returns-in_err-check c = refused_call _ _ _ _ _ _ _ c.in_err-check.was c.check.ensures (err_from_is_err_and _ c.from_residual.ensures.1)

pub bounds-parts-address : goal.bounds-parts-address
bounds-parts-address c = taken c.args.address (passed_check _ _ _ c.in_ok-check.was c.check.ensures)

pub returns : goal.returns
unfolding do_lookup
returns c =
    let a = c.args in
    let within = taken a.address (passed_check _ _ _ c.in_ok-check.was c.check.ensures) in
    let long : length a.parts.now.noted ≡ 15 = search rules in
    rw (get_d_within a.parts.now.noted a.address CEC-PHYS-ADDR-INVALID 0 (omega arith))
    (accepted_call (state_of a.parts.now) _ _ _ _ c.in_ok-check.was c.check.ensures)
