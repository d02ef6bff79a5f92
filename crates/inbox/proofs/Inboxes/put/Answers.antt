use Rattle.std.proofs.Common.{rules}
use Rattle.inbox.proofs.Arrays.{Long, left_out, stored}
use Rattle.inbox.proofs.Inboxes.put.Goals as goal

pub returns-then-h-n : goal.returns-then-h-n
returns-then-h-n c =
    let b = c.args.self in
    let long : Long b.entries b.counts = record { entries = search rules; counts = search rules } in
    stored b.entries b.counts long c.args.handle c.count_at-n.result c.args.entry c.count_at-n.ensures.value c.if-h-n.true

pub returns-else-h-n : goal.returns-else-h-n
returns-else-h-n c =
    let b = c.args.self in
    let long : Long b.entries b.counts = record { entries = search rules; counts = search rules } in
    left_out b.entries b.counts long c.args.handle c.count_at-n.result c.args.entry c.count_at-n.ensures.value c.if-h-n.false
