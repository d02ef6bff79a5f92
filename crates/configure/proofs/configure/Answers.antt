use Rattle.std.proofs.lemmas.Result.{err_from_is_err_and}
use Rattle.parts.proofs.Outcomes.{accepted_call, refused_call}
use Rattle.parts.specs.Parts.{state_of}
use Rattle.rules.specs.Configure.{do_configure}
use Rattle.configure.proofs.configure.Goals as goal

pub returns-in_err-check-clause-value : goal.returns-in_err-check-clause-value
unfolding do_configure
returns-in_err-check-clause-value c = refused_call _ _ _ _ _ _ _ c.in_err-check.was c.check.ensures (err_from_is_err_and _ c.from_residual.ensures.1)

pub returns-clause-value : goal.returns-clause-value
unfolding do_configure
returns-clause-value c =
    rw c.kept_settings-parts.ensures
    (accepted_call (state_of c.args.parts.now) _ _ _ _ c.in_ok-check.was c.check.ensures)
