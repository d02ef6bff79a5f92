use Rattle.std.proofs.Common.{◌≡◌, List, ap, ap₂, ◌∙◌, drop}
use Rattle.bus_result.proofs.Concluded.{begun_taken, begun_left, concluded_parts, result_for, watched, watched_none, watched_some}
use Rattle.bus_result.proofs.Copied.{copied_change}
use Rattle.entry.specs.declared.Counts.{Counts}
use Rattle.entry.specs.declared.Entry.{Entry}
use Rattle.parts.proofs.Outcomes.{accepted_call, refused_call}
use Rattle.std.proofs.lemmas.Result.{err_from_is_err_and}
use Rattle.parts.specs.Parts.{state_of}
use Rattle.rules.specs.BusResult.{begun, concluded, do_bus_result}
use Rattle.rules.specs.Call.{Answer, finish}
use Rattle.rules.specs.Deliver.{deliver}
use Rattle.rules.specs.State.{State, with_clock, with_waits, with_wire}
use Rattle.transmission.specs.declared.Transmission.{Transmission}
use Rattle.wait.specs.declared.Wait.{Wait}
use Rattle.bus_result.proofs.bus_result.Goals as goal
use Rattle.bus_result.proofs.bus_result.Goals.{After-is_ok, then-any_receiver, else-any_receiver}

-- the call as far as the question of a wait
module _ (c : After-is_ok) where
  -- the monitors have their copies
  abbrev seen : State
  seen = watched (state_of c.args.parts.now) c.head-sent.result c.args.status c.kept_counts-kept.result c.args.ts

  abbrev answer : Entry
  answer = result_for (state_of c.args.parts.now) c.head-sent.result c.args.status c.kept_counts-kept.result c.args.ts

  copied : state_of c.if-any_receiver.parts ≡ seen
  copied =
      let p = c.args.parts.now in
      let sent = c.head-sent.result in
      let n = c.args.status in
      let k = c.kept_counts-kept.result in
      let ts = c.args.ts in
      elim c.if-any_receiver.branch [
        | then-any_receiver w ↦ ap state_of w.parts-is ∙ watched_some (state_of p) sent n k ts _ _ w.result_copy.ensures (copied_change p _ _ _ w.for_receivers-copied.ensures.result_value)
        | else-any_receiver w ↦ ap state_of w.parts-is ∙ watched_none (state_of p) sent n k ts _ c.any_receiver.ensures w.if-any_receiver.false
      ]

  -- the owner has its entry
  told : state_of c.deliver.new.self ≡ deliver seen c.head-sent.result.owner answer
  told =
      let owner = c.head-sent.result.owner in
      c.deliver.ensures ∙ ap₂ (λ (x : State) (e : Entry). deliver x owner e) copied c.result.ensures

  -- the call's end, with the wire and the waits that follow
  ends : (wire : List Transmission) (waits : List Wait) → let a = c.args in
      wire ≡ drop 1 (state_of c.deliver.new.self).wire
      → waits ≡ begun a.status c.head-sent.result a.ts (state_of c.deliver.new.self).waits
      → finish Answer.done (with_clock (with_waits (with_wire (state_of c.deliver.new.self) wire) waits) a.ts)
      ≡ do_bus_result (state_of a.parts.now) a.status a.counts a.ts
  unfolding do_bus_result
  ends wire waits q r =
      let a = c.args in
      let s = state_of a.parts.now in
      let sent = c.head-sent.result in
      let all = concluded_parts s sent a.status c.kept_counts-kept.result a.ts (state_of c.deliver.new.self) wire waits told q r in
      ap (λ (x : State). finish Answer.done (with_clock x a.ts)) (all ∙ ap₂ (λ (t : Transmission) (k : Counts). concluded s t a.status k a.ts) c.head-sent.ensures c.kept_counts-kept.ensures)
      ∙ accepted_call s _ _ _ _ c.in_ok-check.was c.check.ensures

pub returns-then-is_ok-sent-clause-value : goal.returns-then-is_ok-sent-clause-value
returns-then-is_ok-sent-clause-value c =
    let d = (goal.at.returns-then-is_ok-sent-clause-value c).After-is_ok in
    let waits = begun_taken c.args.status c.head-sent.result c.args.ts (state_of c.deliver.new.self).waits _ c.is_ok.ensures _ c.if-is_ok-sent.true c.wait_for.ensures in
    ends d _ _ c.without_head-parts.ensures (c.put-parts.ensures ∙ waits)

pub returns-else-is_ok-sent-clause-value : goal.returns-else-is_ok-sent-clause-value
returns-else-is_ok-sent-clause-value c =
    let d = (goal.at.returns-else-is_ok-sent-clause-value c).After-is_ok in
    let waits = begun_left c.args.status c.head-sent.result c.args.ts (state_of c.deliver.new.self).waits _ c.is_ok.ensures c.if-is_ok-sent.false in
    ends d _ _ c.without_head-parts.ensures waits

pub returns-in_err-check-clause-value : goal.returns-in_err-check-clause-value
unfolding do_bus_result
returns-in_err-check-clause-value c = refused_call _ _ _ _ _ _ _ c.in_err-check.was c.check.ensures (err_from_is_err_and _ c.from_residual.ensures.1)
