-- What a feed wrote is the lines of what it took.
use Rattle.std.proofs.Common.{rules, ◌≤◌, length, arith}
use Rattle.playback.proofs.Lines.{went_fed, went_none}
use Rattle.player.proofs.Feeding.{all_left}
use Rattle.playback.proofs.play_portion.Goals as goal

pub loop-rest-preserved : goal.loop-rest-preserved
loop-rest-preserved g c = record {
  same_room = search rules;
  went = λ h.
      let went = went_fed _ _ c.args.portion.now c.loop-rest.rest.now c.loop-rest.out c.feed-fed.new.out c.feed-fed.result _ _ _ c.feed-fed.ensures.out_after c.in_ok-write_all.ensures.bytes (c.loop-rest.invariant.went h) in
      rw (all_left c.loop-rest.rest.now c.feed-fed.result.taken) went;
}

pub returns-then-fed-eq0-clause-result_value : goal.returns-then-fed-eq0-clause-result_value
returns-then-fed-eq0-clause-result_value g c h =
    let room : 29 ≤ length c.loop-rest.out = omega (arith, c.loop-rest.invariant.same_room) in
    (went_none _ _ c.args.portion.now c.loop-rest.rest.now c.loop-rest.out c.feed-fed.new.out c.feed-fed.result _ _ _ c.feed-fed.ensures.out_after c.in_ok-write_all.ensures.bytes (c.loop-rest.invariant.went h) room c.if-fed-eq0.true).0

pub returns-then-fed-eq0-clause-lines : goal.returns-then-fed-eq0-clause-lines
returns-then-fed-eq0-clause-lines g c h =
    let room : 29 ≤ length c.loop-rest.out = omega (arith, c.loop-rest.invariant.same_room) in
    (went_none _ _ c.args.portion.now c.loop-rest.rest.now c.loop-rest.out c.feed-fed.new.out c.feed-fed.result _ _ _ c.feed-fed.ensures.out_after c.in_ok-write_all.ensures.bytes (c.loop-rest.invariant.went h) room c.if-fed-eq0.true).1
