use Rattle.std.proofs.Common.{◌∙◌, sym, arith}
use Rattle.lists.specs.Vector.{first_missed}
use Rattle.message.specs.Rule.{RULE-NONE}
use Rattle.wait.specs.Wait.{answered_by}
use Rattle.waits.proofs.Matches.{rule_past, match_at, match_here, match_later}
use Rattle.waits.proofs.Waits.first_match.Goals as goal
use Rattle.waits.specs.Waits.{waits_of}

pub returns-in-Some : goal.returns-in-Some
returns-in-Some c =
    let w = c.args.self in
    match_here c.args.message w.slots w.count _ c.count-n.ensures.value c.loop-place.place _ (omega arith) c.loop-place.invariant c.in-Some.rule c.in-Some.ensures

pub loop-place-preserved : goal.loop-place-preserved
loop-place-preserved c =
    let w = c.args.self in
    match_later c.args.message w.slots w.count _ c.count-n.ensures.value c.loop-place.place _ (omega arith) c.loop-place.invariant c.in_default.ensures

pub returns : goal.returns
returns c =
    let w = c.args.self in
    let m = c.args.message in
    let n = c.count-n in
    let missed = first_missed w.slots w.count _ n.ensures.value (answered_by m) c.loop-place.place (omega arith) c.loop-place.invariant in
    match_at m (waits_of w) _ RULE-NONE (missed ∙ n.ensures.value) (sym (rule_past m (waits_of w) _ (omega arith)))
