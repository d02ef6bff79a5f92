use Rattle.std.proofs.Common.{rules}
use Rattle.comparer.proofs.Sides.{end_bad, end_whole, end_cut}
use Rattle.comparer.proofs.Log.ending.Goals as goal

pub returns-then-self : goal.returns-then-self
returns-then-self c = end_bad c.args.self.bytes c.args.self.cursor c.if-self.true

pub returns-then-self-eq0 : goal.returns-then-self-eq0
returns-then-self-eq0 c = end_whole c.args.self.bytes c.args.self.cursor c.if-self.false c.if-self-eq0.true

pub returns : goal.returns
returns c = end_cut c.args.self.bytes c.args.self.cursor (search rules) c.if-self.false c.if-self-eq0.false
