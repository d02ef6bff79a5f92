use Rattle.std.proofs.Common.{rules}
use Rattle.comparer.proofs.Counting.{count_known}
use Rattle.comparer.proofs.counted.Goals as goal

pub returns : goal.returns
returns c = count_known c.args.counts c.args.kind c.from-i.result (search rules) (search rules) (search rules) c.from-i.ensures
