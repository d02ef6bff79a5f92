use Rattle.std.proofs.Common.{◌≡◌, Bool, sym, ap, ◌∙◌, Option}
use Rattle.std.proofs.lemmas.Result.{err_from_is_err_and}
use Rattle.copies.specs.Kinds.{gets_copies}
use Rattle.entry.specs.Entry.{message_copy}
use Rattle.entry.specs.declared.Entry.{Entry}
use Rattle.incoming.proofs.Ending.{end_wait}
use Rattle.incoming.proofs.Outcome.{after_message, message_outcome, note_left, note_stored, replied_state}
use Rattle.incoming.proofs.Receivers.{nobody_copies, no_receivers}
use Rattle.incoming.proofs.Turns.{do_copies, do_note, do_reply, do_send, put_sent}
use Rattle.incoming.specs.Work.{to_do_of}
use Rattle.incoming.specs.declared.Ended.{Ended}
use Rattle.message.specs.declared.Message.{Message}
use Rattle.parts.proofs.Outcomes.{accepted_call, refused_call}
use Rattle.parts.specs.Parts.{state_of}
use Rattle.rules.specs.Call.{Answer, finish}
use Rattle.rules.specs.Deliver.{copies}
use Rattle.rules.specs.Handles.{in_role}
use Rattle.rules.specs.State.{State, with_active, with_clock}
use Rattle.rules.specs.Tracker.{do_message}
use Rattle.incoming.proofs.message.Goals as goal
use Rattle.incoming.proofs.message.Goals.{After-is_some-2, then-is_some, else-is_some, then-is_some-2, else-is_some-2, in-Some, in_default, then-to_do, else-to_do, in-Some-sends, in_default-sends}

-- the call as far as the question of the followers' copies
module _ (c : After-is_some-2) where
  abbrev m : Message
  m = c.new-message.result

  copied : state_of c.if-is_some.parts ≡ copies (in_role (gets_copies c.arrived-came.result.monitors)) (message_copy m c.args.ts) (state_of c.args.parts.now)
  copied =
      let kind = c.arrived-came.result.monitors in
      let s = state_of c.args.parts.now in
      elim c.if-is_some.branch [
        | then-is_some w ↦ ap state_of w.parts-is ∙ w.put_copies.ensures ∙ ap (λ (e : Entry). copies (in_role (gets_copies kind)) e s) w.message_copy.ensures
        | else-is_some w ↦ ap state_of w.parts-is ∙ nobody_copies kind (message_copy m c.args.ts) s (no_receivers kind (sym c.is_some.ensures ∙ w.if-is_some.false))
      ]

  replied : state_of c.match-to_do.parts ≡ do_reply c.later_steps-to_do.result m c.args.ts (state_of c.if-is_some.parts)
  replied =
      let s = state_of c.if-is_some.parts in
      let ends = λ (o : Option Ended). end_wait o m c.args.ts s in
      elim c.match-to_do.branch [
        | in-Some w ↦ ap state_of w.parts-is ∙ replied_state s _ _ _ w.in-Some.ended.wait.owner _ _ w.without-parts.ensures w.reply_entry.ensures w.deliver.ensures ∙ ap ends (sym w.in-Some.is)
        | in_default w ↦ ap state_of w.parts-is ∙ ap ends (sym w.in_default.is)
      ]

  noted : state_of c.if-to_do.parts ≡ do_note c.later_steps-to_do.result m (state_of c.match-to_do.parts)
  noted =
      elim c.if-to_do.branch [
        | then-to_do w ↦ note_stored (state_of c.match-to_do.parts) _ _ _ m w.if-to_do.true w.noted-parts.ensures (ap state_of w.parts-is)
        | else-to_do w ↦ note_left (state_of c.match-to_do.parts) _ _ m w.if-to_do.false (ap state_of w.parts-is)
      ]

  sent : state_of c.match-to_do-2.parts ≡ do_send c.later_steps-to_do.result (state_of c.if-to_do.parts)
  sent =
      let s = state_of c.if-to_do.parts in
      let sends = λ (o : Option Message). put_sent o s in
      elim c.match-to_do-2.branch [
        | in-Some-sends w ↦ ap state_of w.parts-is ∙ rw (w.put-parts.ensures, w.ownerless.ensures) (ap sends (sym w.in-Some-sends.is))
        | in_default-sends w ↦ ap state_of w.parts-is ∙ ap sends (sym w.in_default-sends.is)
      ]

  -- the call's end, with the followers' copies
  ends : (after : State) → after ≡ do_copies c.later_steps-to_do.result m c.args.ts (state_of c.match-to_do-2.parts)
      → finish Answer.done (with_clock (with_active after c.arrived-came.result.active) c.args.ts) ≡ do_message (state_of c.args.parts.now) c.args.length c.args.bytes c.args.ts
  unfolding do_message
  ends after last =
      let a = c.args in
      let s = state_of a.parts.now in
      let s1 = state_of c.if-is_some.parts in
      let steps = c.later_steps-to_do.ensures ∙ ap (λ (b : Bool). to_do_of s1 b m) c.goes_on.ensures in
      let done = message_outcome c.arrived-came.result c.later_steps-to_do.result m a.ts s s1 _ _ _ after c.arrived-came.ensures steps copied replied noted sent last in
      ap (finish Answer.done) (done ∙ ap (after_message s a.ts) c.new-message.ensures) ∙ accepted_call s _ _ _ _ c.in_ok-check.was c.check.ensures

pub returns-clause-value : goal.returns-clause-value
returns-clause-value c =
    let d = (goal.at.returns-clause-value c).After-is_some-2 in
    let s = state_of c.match-to_do-2.parts in
    let kind = c.later_steps-to_do.result.followers in
    let e = message_copy c.new-message.result c.args.ts in
    let last : state_of c.if-is_some-2.parts ≡ copies (in_role (gets_copies kind)) e s =
    elim c.if-is_some-2.branch [
      | then-is_some-2 w ↦ ap state_of w.parts-is ∙ w.put_copies-then-is_some-2.ensures ∙ ap (λ (y : Entry). copies (in_role (gets_copies kind)) y s) w.message_copy-then-is_some-2.ensures
      | else-is_some-2 w ↦ ap state_of w.parts-is ∙ nobody_copies kind e s (no_receivers kind (sym c.is_some-2.ensures ∙ w.if-is_some-2.false))
    ] in
    ends d _ last

pub returns-in_err-check-clause-value : goal.returns-in_err-check-clause-value
unfolding do_message
returns-in_err-check-clause-value c = refused_call _ _ _ _ _ _ _ c.in_err-check.was c.check.ensures (err_from_is_err_and _ c.from_residual.ensures.1)
