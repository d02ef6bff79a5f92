use Rattle.std.proofs.Common.{◌≡◌, true, ◌||◌, sym, ◌∙◌}
use Rattle.std.specs.Option.{is_some}
use Rattle.lists.specs.Tests.{or-true}
use Rattle.comparer.proofs.Sides.{read_stays, read_turn}
use Rattle.comparer.proofs.Log.read.Goals as goal
use Rattle.comparer.proofs.Log.read.Goals.{then-is_some-via-then-is_some, then-is_some-via-else-is_some+then-self}

pub returns-then-is_some : goal.returns-then-is_some
returns-then-is_some c =
    let s = c.args.self.now in
    let t : (is_some s.waits || s.over) ≡ true =
    elim c.then-is_some.branch [
      | then-is_some-via-then-is_some w ↦ rw (sym c.is_some.ensures ∙ w.if-is_some.true)
      | then-is_some-via-else-is_some+then-self w ↦ rw w.if-self.true (or-true (is_some s.waits))
    ] in
    read_stays s c.args.portion.now t

pub returns-then-is_some-2 : goal.returns-then-is_some-2
returns-then-is_some-2 c =
    let t = c.read-turn in
    read_turn c.args.self.now c.args.portion.now (sym c.is_some.ensures ∙ c.if-is_some.false) c.if-self.false t.result t.new.bytes t.ensures.bytes_after
    c.counted-self.result (rw (sym c.is_some-2.ensures ∙ c.if-is_some-2.true) c.counted-self.ensures)

pub returns-else-is_some-2 : goal.returns-else-is_some-2
returns-else-is_some-2 c =
    let t = c.read-turn in
    read_turn c.args.self.now c.args.portion.now (sym c.is_some.ensures ∙ c.if-is_some.false) c.if-self.false t.result t.new.bytes t.ensures.bytes_after
    c.args.self.now.counts (rw (sym c.is_some-2.ensures ∙ c.if-is_some-2.false))
