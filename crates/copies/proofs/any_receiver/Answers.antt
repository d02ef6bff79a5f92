use Rattle.std.proofs.Common.{◌≡◌, ℕ, ap, refl, length, get_or, rules, tests, ◌∙◌, sym}
use Rattle.std.proofs.lemmas.Iterator.{YieldsList-from_range}
use Rattle.std.proofs.lemmas.Iterator.Search.{any_from_yields_List}
use Rattle.std.specs.List.{list_any, range_with_len}
use Rattle.copies.proofs.Turns.{any_by_number}
use Rattle.copies.specs.Kinds.{gets_copies}
use Rattle.handles.specs.Roles.{handles_of}
use Rattle.rules.specs.Handles.{in_role}
use Rattle.rules.specs.State.{closed_handle}
use Rattle.copies.proofs.any_receiver.Goals as goal

pub returns : goal.returns
returns c =
    let hs = handles_of c.args.handles in
    let p = in_role (gets_copies c.args.kind) in
    let n : length hs ≡ 8 = search rules in
    any_from_yields_List (λ h. p (get_or hs h closed_handle)) _ _ c.any.result c.any.ensures.ran (YieldsList-from_range 0 8 8 refl refl) (λ x b q k. search (rules, tests))
    ∙ ap (λ (k : ℕ). list_any (λ h. p (get_or hs h closed_handle)) (range_with_len 0 k)) (sym n)
    ∙ any_by_number p hs closed_handle
