use Rattle.std.proofs.Common.{arith}
use Rattle.text.proofs.Puts.{joined, spelt, whole_line, a_line}
use Rattle.text.specs.Line.{said_of}
use Rattle.text.proofs.answer_line.Goals as goal

pub returns : goal.returns
returns c =
    let p = joined (joined c.decimal-begun.ensures c.said_numbers-end.ensures.put_at) c.byte.ensures in
    a_line (omega arith) (spelt (whole_line c.args.kind (said_of c.args.said)) (rw c.from.ensures at p))
