use Rattle.text.proofs.Puts.{number_put}
use Rattle.text.proofs.number.Goals as goal

pub returns : goal.returns
returns c = number_put c.args.n c.byte-next.ensures c.decimal.ensures
