use Rattle.std.proofs.lemmas.Result.{err_from_is_err_and}
use Rattle.std.proofs.Common.{sym, ap, ◌∙◌}
use Rattle.lists.specs.Vector.{put}
use Rattle.parts.proofs.Outcomes.{accepted_call, refused_call}
use Rattle.parts.specs.Parts.{state_of}
use Rattle.request.specs.Request.{request_of}
use Rattle.rules.specs.Transmit.{do_transmit}
use Rattle.transmit.proofs.Ends.{polled_outcome, queued_outcome}
use Rattle.transmit.proofs.transmit.Goals as goal

pub returns-in_err-check-clause-value : goal.returns-in_err-check-clause-value
unfolding do_transmit
returns-in_err-check-clause-value c = refused_call _ _ _ _ _ _ _ c.in_err-check.was c.check.ensures (err_from_is_err_and _ c.from_residual.ensures.1)

pub returns-then-is_self_poll-clause-value : goal.returns-then-is_self_poll-clause-value
unfolding do_transmit
returns-then-is_self_poll-clause-value c =
    let a = c.args in
    let s = state_of a.parts.now in
    let p = sym c.is_self_poll.ensures ∙ c.if-is_self_poll.true in
    polled_outcome s a.handle (request_of a.request) _ p c.next_sequence-sequence.ensures ∙ accepted_call s _ _ _ _ c.in_ok-check.was c.check.ensures

pub returns-clause-value : goal.returns-clause-value
unfolding do_transmit
returns-clause-value c =
    let a = c.args in
    let s = state_of a.parts.now in
    let p = sym c.is_self_poll.ensures ∙ c.if-is_self_poll.false in
    let t = c.put-parts.ensures ∙ ap (put 18 s.queue) c.transmission.ensures in
    queued_outcome s a.handle (request_of a.request) _ _ p c.next_sequence-sequence.ensures t ∙ accepted_call s _ _ _ _ c.in_ok-check.was c.check.ensures
