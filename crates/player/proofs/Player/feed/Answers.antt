use Rattle.std.proofs.Common.{◌≡◌, ◌+◌, ◌-◌, ◌≤◌, arith, rules, sym, ap, ◌∙◌, length, drop, length-drop}
use borrow.Author.Tests.{not-true, not-false}
use Rattle.adapter.specs.Adapter.{state_of}
use Rattle.adapter.specs.declared.Adapter.{Adapter}
use Rattle.session_log.specs.Session.{Taken, taken}
use Rattle.player.specs.Player.{session_of, session_with, given_by}
use Rattle.player.proofs.Calls.{Follows, follows, follows_none}
use Rattle.player.proofs.Feeding.{all_left, ends, idle, idle_short, idle_ended, idle_done}
use Rattle.player.proofs.Printing.{no_room}
use Rattle.player.proofs.Turns.{after_turn}
use Rattle.reader.proofs.Came.{taken_within, taken_some}
use Rattle.reader.proofs.Turns.{TurnIs}
use Rattle.reader.specs.declared.Kind.TheVariants.{Open, Close, Mode, Transmit, Receive, BusStart, BusResult, Time, Message, Configure, Unconfigure}
use Rattle.player.proofs.Player.feed.Goals as goal
use Rattle.player.proofs.Player.feed.Goals.{in-Some+in-Open, in-Some+in-Close, in-Some+in-Mode, in-Some+in-Transmit, in-Some+in-Receive, in-Some+in-BusStart, in-Some+in-BusResult, in-Some+in-Time, in-Some+in-Message, in-Some+in-Configure, in-Some+in-Unconfigure, in_default}
use Rattle.player.proofs.Player.feed.Goals.{then-loop-taken-test+then-not-cursor+else-written-out, then-loop-taken-test+else-not-cursor, else-loop-taken-test}

pub returns-then-out-lt-LINE_MAX-clause-out_after :
    goal.returns-then-out-lt-LINE_MAX-clause-out_after
returns-then-out-lt-LINE_MAX-clause-out_after c =
    let a = c.args in
    let n = no_room a.out.now (session_of a.self) (omega arith) in
    let i = idle_short (session_of a.self) a.portion.now (length a.out.now) (omega arith) in
    rw c.refused.ensures (sym (ap (λ (t : Taken). given_by t a.out.now) i))

pub overflow_add-taken : goal.overflow_add-taken
overflow_add-taken c =
    let l = c.loop-taken in
    let p = c.args.portion.now in
    let r = c.read-turn in
    let i : TurnIs r.result r.new.bytes l.bytes l.cursor (drop l.taken p) = record { same = rw (all_left p l.taken) at r.ensures.bytes_after; number = rw (all_left p l.taken) at r.ensures.call_value } in
    let m = taken_within i in
    let more = c.loop-taken-test.true in
    search (rules, m, more, length-drop l.taken p)

pub loop-taken-smaller : goal.loop-taken-smaller
loop-taken-smaller c =
    let l = c.loop-taken in
    let p = c.args.portion.now in
    let r = c.read-turn in
    let i : TurnIs r.result r.new.bytes l.bytes l.cursor (drop l.taken p) = record { same = rw (all_left p l.taken) at r.ensures.bytes_after; number = rw (all_left p l.taken) at r.ensures.call_value } in
    let more = c.loop-taken-test.true in
    let k = taken_some i (not-true l.cursor.ended c.if-not-cursor.true) (omega (arith, length-drop l.taken p, more)) in
    omega (arith, k, more)

pub loop-taken-preserved : goal.loop-taken-preserved
loop-taken-preserved c =
    let l = c.loop-taken in
    let a = c.args in
    let p = a.portion.now in
    let r = c.read-turn in
    let t = r.result in
    let bytes = r.new.bytes in
    let st = state_of l.played.adapter in
    let i : TurnIs t bytes l.bytes l.cursor (drop l.taken p) = record { same = rw (all_left p l.taken) at r.ensures.bytes_after; number = rw (all_left p l.taken) at r.ensures.call_value } in
    let w : Follows st bytes t.came c.match-turn.played =
    elim c.match-turn.branch [
      | in-Some+in-Open w ↦ follows st bytes t.came w.in-Some.whole Open c.match-turn.played w.open-played.result w.in-Some.is w.in-Open.is w.played-is w.open-played.ensures
      | in-Some+in-Close w ↦ follows st bytes t.came w.in-Some.whole Close c.match-turn.played w.close-played.result w.in-Some.is w.in-Close.is w.played-is w.close-played.ensures
      | in-Some+in-Mode w ↦ follows st bytes t.came w.in-Some.whole Mode c.match-turn.played w.mode-played.result w.in-Some.is w.in-Mode.is w.played-is w.mode-played.ensures
      | in-Some+in-Transmit w ↦ follows st bytes t.came w.in-Some.whole Transmit c.match-turn.played w.transmit-played.result w.in-Some.is w.in-Transmit.is w.played-is w.transmit-played.ensures
      | in-Some+in-Receive w ↦ follows st bytes t.came w.in-Some.whole Receive c.match-turn.played w.receive-played.result w.in-Some.is w.in-Receive.is w.played-is w.receive-played.ensures
      | in-Some+in-BusStart w ↦ follows st bytes t.came w.in-Some.whole BusStart c.match-turn.played w.start-played.result w.in-Some.is w.in-BusStart.is w.played-is w.start-played.ensures
      | in-Some+in-BusResult w ↦ follows st bytes t.came w.in-Some.whole BusResult c.match-turn.played w.result-played.result w.in-Some.is w.in-BusResult.is w.played-is w.result-played.ensures
      | in-Some+in-Time w ↦ follows st bytes t.came w.in-Some.whole Time c.match-turn.played w.time-played.result w.in-Some.is w.in-Time.is w.played-is w.time-played.ensures
      | in-Some+in-Message w ↦ follows st bytes t.came w.in-Some.whole Message c.match-turn.played w.message-played.result w.in-Some.is w.in-Message.is w.played-is w.message-played.ensures
      | in-Some+in-Configure w ↦ follows st bytes t.came w.in-Some.whole Configure c.match-turn.played w.configure-played.result w.in-Some.is w.in-Configure.is w.played-is w.configure-played.ensures
      | in-Some+in-Unconfigure w ↦ follows st bytes t.came w.in-Some.whole Unconfigure c.match-turn.played w.unconfigure-played.result w.in-Some.is w.in-Unconfigure.is w.played-is w.unconfigure-played.ensures
      | in_default w ↦ follows_none l.played bytes t.came c.match-turn.played (search rules) w.played-is
    ] in
    let v : l.written + 29 ≤ length a.out.now = omega (arith, l.invariant.0.long, c.if-out-lt-LINE_MAX.false, c.if-written-out.true) in
    let n = c.show-written in (
      after_turn _ p a.out.now st l.bytes l.cursor l.taken l.written l.out t bytes c.match-turn.played n.result n.new.out
          l.invariant.0 c.loop-taken-test.true (not-true l.cursor.ended c.if-not-cursor.true) v i w n.ensures,
      r.ensures.bytes_len,
    )

pub returns-clause-out_after : goal.returns-clause-out_after
returns-clause-out_after c =
    let l = c.loop-taken in
    let a = c.args in
    let p = a.portion.now in
    let o = a.out.now in
    let z = session_with (state_of l.played.adapter) l.bytes l.cursor in
    let i : taken z (drop l.taken p) (length o - l.written) ≡ idle z =
    elim c.loop-taken-test.branch [
      | then-loop-taken-test+then-not-cursor+else-written-out w ↦ idle_short z (drop l.taken p) (length o - l.written) (omega (arith, w.if-written-out.false, l.invariant.0.long))
      | then-loop-taken-test+else-not-cursor w ↦ idle_ended z (drop l.taken p) (length o - l.written) (not-false l.cursor.ended w.if-not-cursor.false)
      | else-loop-taken-test w ↦ idle_done z p l.taken (length o - l.written) w.loop-taken-test.false
    ] in
    let same = ap (λ (x : Adapter). given_by (taken (session_with (state_of x) a.self.bytes a.self.cursor) p (length o)) o) c.nothing-played.ensures.adapter_value in
    let given = ends _ p o z l.taken l.written l.out l.invariant.0 i ∙ same in
    rw c.after.ensures given
