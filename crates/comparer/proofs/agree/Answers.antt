use Rattle.std.proofs.Common.{sym}
use Rattle.comparer.proofs.Agreeing.{agree_length, agree_whole, agree_first, agree_last}
use Rattle.comparer.proofs.agree.Goals as goal

pub returns-then-left-right : goal.returns-then-left-right
returns-then-left-right c = sym (agree_length c.args.left.now c.args.right.now c.if-left-right.true)

pub returns-then-eq : goal.returns-then-eq
returns-then-eq c =
    agree_last c.args.left.now c.args.right.now c.in-Some.past c.if-left-right.false c.in-Some.ensures c.eq.result c.eq-then-eq.result c.eq.ensures c.if-eq.true c.eq-then-eq.ensures

pub returns-else-eq : goal.returns-else-eq
returns-else-eq c = agree_first c.args.left.now c.args.right.now c.in-Some.past c.if-left-right.false c.in-Some.ensures c.eq.result c.eq.ensures c.if-eq.false

pub returns-in-None : goal.returns-in-None
returns-in-None c = agree_whole c.args.left.now c.args.right.now c.eq-in-None.result c.if-left-right.false c.in-None.ensures c.eq-in-None.ensures
