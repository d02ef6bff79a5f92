-- One more is looked at for each role.
use Rattle.std.proofs.Common.{◌<◌, length, arith}
use Rattle.rules.specs.Handles.{is_exclusive_initiator, is_exclusive_follower, is_passthrough, is_follower}
use Rattle.handles.proofs.Slots.{role_next}
use Rattle.handles.proofs.Handles.roles_of_others.Goals as goal

pub loop-i-preserved : goal.loop-i-preserved
loop-i-preserved c =
    let x = c.args.self in
    let h = c.args.handle in
    let l = c.loop-i in
    let within : l.i < length x.slots = omega arith in
    record {
      exclusive_initiator = role_next is_exclusive_initiator x.slots h l.i _ _ within l.invariant.exclusive_initiator c.is_exclusive_initiator.ensures;
      exclusive_follower = role_next is_exclusive_follower x.slots h l.i _ _ within l.invariant.exclusive_follower c.is_exclusive_follower.ensures;
      passthrough = role_next is_passthrough x.slots h l.i _ _ within l.invariant.passthrough c.is_passthrough.ensures;
      follower = role_next is_follower x.slots h l.i _ _ within l.invariant.follower c.is_follower.ensures;
    }
