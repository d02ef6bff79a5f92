use Rattle.rules.specs.State.{fresh}
use Rattle.parts.proofs.Parts.fresh.Goals as goal

pub returns : goal.returns
unfolding fresh
returns c = rw (c.empty-inboxes.ensures, c.no_settings.ensures, c.none_noted.ensures, c.all_closed.ensures) (rw (c.empty.ensures, c.idle.ensures, c.empty-2.ensures))
