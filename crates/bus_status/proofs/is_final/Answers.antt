use Rattle.std.proofs.Common.{arith}
use Rattle.bus_status.proofs.Masks.{masks}
use Rattle.bus_status.proofs.is_final.Goals as goal

pub returns : goal.returns
returns c = (masks c.args.status (omega arith)).final
