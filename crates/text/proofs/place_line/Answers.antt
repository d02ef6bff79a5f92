use Rattle.std.proofs.Common.{arith}
use Rattle.text.proofs.Puts.{joined, a_line}
use Rattle.text.proofs.place_line.Goals as goal

pub returns : goal.returns
returns c = a_line (omega arith) (joined c.bytes-said.ensures (joined c.number-end.ensures c.byte.ensures))
