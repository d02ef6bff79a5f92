use Rattle.incoming.proofs.Outcome.{copied_change}
use Rattle.incoming.proofs.put_copies.Goals as goal

pub returns : goal.returns
returns c = copied_change c.args.parts.now c.for_receivers-copied.result _ _ c.for_receivers-copied.ensures.result_value
