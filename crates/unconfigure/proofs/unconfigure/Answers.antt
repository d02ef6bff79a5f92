use Rattle.std.proofs.Common.{refl, ap, ◌∙◌}
use Rattle.inbox.specs.Inboxes.{inboxes_of}
use Rattle.inbox.specs.declared.Inboxes.{Inboxes}
use Rattle.parts.specs.Parts.{state_of}
use Rattle.rules.specs.Call.{Answer, finish}
use Rattle.rules.specs.Owed.{pending}
use Rattle.rules.specs.State.{with_inboxes}
use Rattle.rules.specs.Unconfigure.{do_unconfigure}
use Rattle.unconfigure.proofs.Aborted.{unconfigured}
use Rattle.unconfigure.specs.Aborted.{transmits_aborted, waits_aborted}
use Rattle.unconfigure.proofs.unconfigure.Goals as goal

pub returns : goal.returns
unfolding do_unconfigure
returns c =
    let s = state_of c.args.parts.now in
    let ends = c.abort-inboxes.ensures ∙ ap (λ (x : Inboxes). waits_aborted (transmits_aborted (inboxes_of x) (pending s)) s.waits) c.inboxes.ensures in
    ap (finish Answer.done)
    (unconfigured s (with_inboxes s (inboxes_of c.abort-inboxes.result)) _ _ _ _ _ _
    refl
    ends
    c.emptied-parts.ensures
    c.idle-parts.ensures
    c.emptied-parts-2.ensures
    c.no_settings-parts.ensures
    c.none_noted-noted.ensures)
