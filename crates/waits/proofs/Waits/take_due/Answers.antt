use Rattle.std.proofs.Common.{◌≡◌, rules, None}
use Rattle.waits.proofs.Taken.{taken_some, taken_none}
use Rattle.waits.proofs.Waits.take_due.Goals as goal
use Rattle.waits.specs.Waits.{waits_of}

pub returns-in_err-at : goal.returns-in_err-at
returns-in_err-at c =
    let none : c.from_residual.result ≡ None = search rules in
    rw none (taken_none c.args.ms (waits_of c.args.self.now) c.in_err-at.ensures)

pub returns : goal.returns
returns c =
    let found = c.in_ok-at.ensures in
    taken_some c.args.ms (waits_of c.args.self.now) (waits_of c.without.result) c.in_ok-at.at c.at-wait.result found.0 found.1 c.at-wait.ensures c.without.ensures
