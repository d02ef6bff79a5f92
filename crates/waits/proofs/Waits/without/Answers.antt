use Rattle.std.proofs.Common.{◌-◌, ◌∙◌, List, take, sym, ap, arith}
use Rattle.lists.specs.Places.{without_past}
use Rattle.wait.specs.declared.Wait.{Wait}
use Rattle.waits.proofs.Taken.{copied_out}
use Rattle.waits.proofs.Waits.without.Goals as goal
use Rattle.waits.specs.Waits.{waits_of}

pub returns-then-at-n : goal.returns-then-at-n
returns-then-at-n c =
    let w = c.args.self in
    ap (λ (l : List Wait). take (c.count-n.result - 1) l) c.copy_within.ensures.after
    ∙ copied_out c.args.at w.count _ w.slots c.count-n.ensures.value (omega arith)

pub returns-else-at-n : goal.returns-else-at-n
returns-else-at-n c = sym (without_past c.args.at (waits_of c.args.self) (omega (arith, c.count-n.ensures.value)))
