-- The code's tests are those of the definition.
use Rattle.route.proofs.WellFormed.{well_formed_tests}
use Rattle.route.proofs.address.is_well_formed.Goals as goal

pub returns : goal.returns
returns c = well_formed_tests c.args.address
