use Rattle.std.proofs.Common.{sym, ap, arith, length}
use Rattle.text.proofs.Digits.{decimal_one, decimal_next, length_next}
use Rattle.text.proofs.Puts.{joined, spelt}
use Rattle.text.proofs.+decimal.Goals as goal

pub byte-requires : goal.byte-requires
byte-requires t c = omega (arith, ap length (decimal_one c.args.n c.if-n-lt10.true), c.requires)

pub returns-then-n-lt10 : goal.returns-then-n-lt10
returns-then-n-lt10 t c = spelt (sym (decimal_one c.args.n c.if-n-lt10.true)) c.byte.ensures

pub decimal-last-requires : goal.decimal-last-requires
decimal-last-requires t c = (omega arith, omega (arith, length_next c.args.n c.if-n-lt10.false (omega arith), c.requires))

pub byte-requires-2 : goal.byte-requires-2
byte-requires-2 t c = omega (arith, c.decimal-last.auto.out, c.decimal-last.ensures.place, length_next c.args.n c.if-n-lt10.false (omega arith), c.requires)

pub returns : goal.returns
returns t c = spelt (sym (decimal_next c.args.n c.if-n-lt10.false (omega arith))) (joined c.decimal-last.ensures c.byte-2.ensures)
