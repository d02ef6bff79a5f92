use Rattle.std.proofs.Common.{rules, sym, ◌∙◌}
use Rattle.comparer.proofs.Sides.{settle_met, settle_left, left_stays, settle_right, right_stays, none_wait}
use Rattle.comparer.proofs.Comparer.settle.Goals as goal

pub returns-in-Some-Some : goal.returns-in-Some-Some
returns-in-Some-Some c =
    let s = c.args.self.now in
    let i = c.in-Some-Some in
    settle_met s i.first i.second c.met-self.result (search rules) (search rules) i.is-0 i.is-1 (rw (c.min.ensures, c.min-in-Some-Some.ensures) at c.met-self.ensures)

pub returns-then-is_done : goal.returns-then-is_done
returns-then-is_done c =
    let i = c.in-Some-None in
    settle_left c.args.self.now i.field-0-0 c.alone-self.result i.is-0 i.is-1 (sym c.is_done.ensures ∙ c.if-is_done.true) c.alone-self.ensures

pub returns-else-is_done : goal.returns-else-is_done
returns-else-is_done c =
    let i = c.in-Some-None in
    left_stays c.args.self.now i.field-0-0 i.is-0 i.is-1 (sym c.is_done.ensures ∙ c.if-is_done.false)

pub returns-then-is_done-2 : goal.returns-then-is_done-2
returns-then-is_done-2 c =
    let i = c.in-None-Some in
    settle_right c.args.self.now i.field-0-1 c.alone-self-then-is_done-2.result i.is-0 i.is-1 (sym c.is_done-in-None-Some.ensures ∙ c.if-is_done-2.true) c.alone-self-then-is_done-2.ensures

pub returns-else-is_done-2 : goal.returns-else-is_done-2
returns-else-is_done-2 c =
    let i = c.in-None-Some in
    right_stays c.args.self.now i.field-0-1 i.is-0 i.is-1 (sym c.is_done-in-None-Some.ensures ∙ c.if-is_done-2.false)

pub returns-in-None-None : goal.returns-in-None-None
returns-in-None-None c = none_wait c.args.self.now c.in-None-None.is-0 c.in-None-None.is-1
