use Rattle.std.proofs.Common.{◌∙◌, rules, tests}
use Rattle.std.proofs.lemmas.Iterator.{YieldsList-from_slice}
use Rattle.std.proofs.lemmas.Iterator.Search.{any_from_yields_List}
use Rattle.wait.specs.Wait.{numbered}
use Rattle.waits.proofs.Taken.{any_same}
use Rattle.waits.proofs.Waits.has_sequence.Goals as goal
use Rattle.waits.specs.Waits.{waits_of}

pub returns : goal.returns
returns c =
    let ws = waits_of c.args.self in
    any_from_yields_List (numbered c.args.sequence) _ _ c.any.result c.any.ensures.ran (YieldsList-from_slice ws (cc)) (λ x b q k. search (rules, tests))
    ∙ any_same (numbered c.args.sequence) ws
