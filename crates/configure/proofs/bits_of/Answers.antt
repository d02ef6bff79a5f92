use Rattle.std.proofs.Common.{rules}
use Rattle.configure.proofs.Bits.{ones_all}
use Rattle.configure.proofs.bits_of.Goals as goal

pub returns : goal.returns
returns c = ones_all 16 c.args.mask (search rules)
