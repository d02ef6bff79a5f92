use Rattle.std.proofs.Common.{◌≡◌, [], arith, length, rules, sym}
use Rattle.std.proofs.Math.Seq.{set_out}
use Rattle.inbox.specs.Inboxes.{inboxes_of}
use Rattle.lists.specs.Blocks.{length_parts, parts_clear}
use Rattle.inbox.proofs.Inboxes.clear.Goals as goal

pub returns-then-h-ge8 : goal.returns-then-h-ge8
returns-then-h-ge8 c =
    let a = c.args in
    let long : length a.self.counts ≡ 8 = search rules in
    sym (set_out (inboxes_of a.self) a.handle [] (omega (arith, length_parts 16 a.self.counts a.self.entries, long)))

pub returns : goal.returns
returns c = parts_clear 16 c.args.self.counts c.args.self.entries c.args.handle
