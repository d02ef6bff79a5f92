use Rattle.std.proofs.lemmas.Result.{err_from_is_err_and}
use Rattle.std.proofs.Common.{◌∙◌, ap, refl}
use Rattle.parts.specs.Parts.{state_of, errno_of}
use Rattle.request.specs.Request.{request_of}
use Rattle.rules.proofs.Checks.{stopped, onward, refuses, passes}
use Rattle.rules.specs.Transmit.{sender_refusal, request_refusal}
use Rattle.transmit.proofs.Handed.{refusing, handed_on}
use Rattle.transmit.proofs.Order.{sender_leads, request_leads}
use Rattle.transmit.proofs.check.Goals as goal

pub returns-in_err-sender_check : goal.returns-in_err-sender_check
returns-in_err-sender_check c =
    let s = state_of c.args.parts.now in
    handed_on _ _ _ c.in_err-sender_check.was (err_from_is_err_and _ c.from_residual.ensures.1)
    ∙ refuses (sender_refusal s c.args.handle) (sender_leads s c.args.handle) _ _ c.sender_check.ensures (refusing _ _ c.in_err-sender_check.was)

pub returns-in_err-request_check : goal.returns-in_err-request_check
returns-in_err-request_check c =
    let s = state_of c.args.parts.now in
    let r = request_of c.args.request in
    handed_on _ _ _ c.in_err-request_check.was (err_from_is_err_and _ c.from_residual-in_err-request_check.ensures.1)
    ∙ refuses (request_refusal s r) (request_leads s r) _ _ c.request_check.ensures (refusing _ _ c.in_err-request_check.was)
    ∙ passes (sender_refusal s c.args.handle) (sender_leads s c.args.handle) _ _ c.sender_check.ensures (ap errno_of c.in_ok-sender_check.was)

pub returns-then-is_self_poll-is_full : goal.returns-then-is_self_poll-is_full
returns-then-is_self_poll-is_full c =
    let s = state_of c.args.parts.now in
    let r = request_of c.args.request in
    stopped _ _ 0 (rw (c.is_self_poll.ensures, c.is_full.ensures) at c.if-is_self_poll-is_full.true)
    ∙ passes (request_refusal s r) (request_leads s r) _ _ c.request_check.ensures (ap errno_of c.in_ok-request_check.was)
    ∙ passes (sender_refusal s c.args.handle) (sender_leads s c.args.handle) _ _ c.sender_check.ensures (ap errno_of c.in_ok-sender_check.was)

pub returns : goal.returns
returns c =
    let s = state_of c.args.parts.now in
    let r = request_of c.args.request in
    onward _ _ 0 _ (rw (c.is_self_poll.ensures, c.is_full.ensures) at c.if-is_self_poll-is_full.false) refl
    ∙ passes (request_refusal s r) (request_leads s r) _ _ c.request_check.ensures (ap errno_of c.in_ok-request_check.was)
    ∙ passes (sender_refusal s c.args.handle) (sender_leads s c.args.handle) _ _ c.sender_check.ensures (ap errno_of c.in_ok-sender_check.was)
