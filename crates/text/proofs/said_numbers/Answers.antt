use Rattle.std.proofs.Common.{arith}
use Rattle.text.proofs.Digits.{decimal_32, last_32, entry_most}
use Rattle.text.proofs.said_numbers.Goals as goal

pub number-requires : goal.number-requires
number-requires c = omega (arith, decimal_32 c.from.result (omega arith))

pub returns-in-Errno-clause-upper_bound : goal.returns-in-Errno-clause-upper_bound
returns-in-Errno-clause-upper_bound c = omega (arith, last_32 c.from.result (omega arith))

pub numbers-requires : goal.numbers-requires
numbers-requires c =
    omega (arith, entry_most c.from-in-Entry.result c.from-in-Entry-2.result c.from-in-Entry-3.result c.from-in-Entry-4.result (omega arith) (omega arith) (omega arith) (omega arith))

pub returns-in-Entry-clause-upper_bound : goal.returns-in-Entry-clause-upper_bound
returns-in-Entry-clause-upper_bound c =
    omega (arith, entry_most c.from-in-Entry.result c.from-in-Entry-2.result c.from-in-Entry-3.result c.from-in-Entry-4.result (omega arith) (omega arith) (omega arith) (omega arith))
