use Rattle.rules.specs.BusResult.{kept_counts}
use Rattle.bus_status.proofs.kept_counts.Goals as goal

pub returns : goal.returns
unfolding kept_counts
returns c = rw (c.kept-4.ensures, c.kept-3.ensures, c.kept-2.ensures, c.kept.ensures)
