use Rattle.std.proofs.lemmas.Result.{err_from_is_err_and}
use Rattle.std.proofs.Common.{ap, refl, ◌∙◌, set}
use Rattle.inbox.specs.Inboxes.{cleared, inboxes_of}
use Rattle.inbox.specs.declared.Inboxes.{Inboxes}
use Rattle.parts.proofs.Outcomes.{accepted_call, refused_call}
use Rattle.parts.specs.Parts.{state_of}
use Rattle.close.proofs.Ends.{closed_parts}
use Rattle.rules.specs.Call.{Answer, finish}
use Rattle.rules.specs.Close.{do_close}
use Rattle.rules.specs.State.{with_inboxes}
use Rattle.close.proofs.close.Goals as goal

pub returns-in_err-check-clause-value : goal.returns-in_err-check-clause-value
unfolding do_close
returns-in_err-check-clause-value c = refused_call _ _ _ _ _ _ _ c.in_err-check.was c.check.ensures (err_from_is_err_and _ c.from_residual.ensures.1)

pub returns-clause-value : goal.returns-clause-value
unfolding do_close
returns-clause-value c =
    let a = c.args in
    let s = state_of a.parts.now in
    let inbox = c.clear-inboxes.ensures ∙ ap (λ (x : Inboxes). cleared (inboxes_of x) a.handle) c.inboxes.ensures in
    let handle = c.with-parts.ensures ∙ ap (set s.handles a.handle) c.closed.ensures in
    let after =
    closed_parts s (with_inboxes s (inboxes_of c.clear-inboxes.result)) a.handle _ _ _ _ _ refl inbox handle
    c.orphaned-parts.ensures c.orphaned-parts-2.ensures c.without_handle-parts.ensures in
    ap (finish Answer.done) after ∙ accepted_call s _ _ _ _ c.in_ok-check.was c.check.ensures
