use Rattle.std.proofs.Common.{rules, ◌∙◌}
use Rattle.inbox.proofs.Arrays.{counted}
use Rattle.parts.proofs.Arrays.{LongParts}
use Rattle.parts.proofs.Parts.count.Goals as goal

pub returns-clause-value : goal.returns-clause-value
returns-clause-value c =
    let p = c.args.self in
    let long : LongParts p = record { entries = search rules; counts = search rules } in
    c.count_at.ensures.value ∙ counted p.entries p.counts long c.args.handle
