use Rattle.std.proofs.Common.{arith}
use Rattle.text.proofs.Puts.{next_fits, next_put, put_long}
use Rattle.text.proofs.numbers.Goals as goal

pub number-end-requires : goal.number-end-requires
number-end-requires c = omega (arith, c.requires, c.loop-n.invariant.place, put_long c.loop-n.invariant, next_fits c.args.list.now c.loop-n.n-index c.loop-n-test.true)

pub loop-n-preserved : goal.loop-n-preserved
loop-n-preserved c = next_put c.args.list.now c.loop-n-test.true c.loop-n.invariant c.number-end.ensures
