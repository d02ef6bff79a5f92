use Rattle.std.proofs.Common.{◌≡◌, ◌∙◌, rules}
use Rattle.std.specs.List.{count_by}
use Rattle.wait.specs.Wait.{owned_by}
use Rattle.waits.proofs.Taken.{count_same}
use Rattle.waits.proofs.Waits.count_of.Goals as goal
use Rattle.waits.specs.Waits.{waits_of}

pub returns-clause-value : goal.returns-clause-value
returns-clause-value c =
    let ws = waits_of c.args.self in
    let e : c.count.result ≡ count_by (owned_by c.args.handle) ws = search rules in
    e ∙ count_same (owned_by c.args.handle) ws
