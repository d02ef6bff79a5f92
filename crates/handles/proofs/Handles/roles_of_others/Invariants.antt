-- Each role, of the handles before the next but the one.
use Rattle.std.proofs.Common.{◌≡◌, take}
use Rattle.lists.specs.Places.{without}
use Rattle.lists.specs.Sums.{any}
use Rattle.rules.specs.Handles.{in_role, is_exclusive_initiator, is_exclusive_follower, is_passthrough, is_follower}
use Rattle.handles.proofs.Handles.roles_of_others.Given as goal

abbrev pub invariant-loop-i : goal.invariant-loop-i
invariant-loop-i l = record {
  exclusive_initiator : l.exclusive_initiator ≡ any (in_role is_exclusive_initiator) (without l.handle (take l.i l.fn.self.slots));
  exclusive_follower : l.exclusive_follower ≡ any (in_role is_exclusive_follower) (without l.handle (take l.i l.fn.self.slots));
  passthrough : l.passthrough ≡ any (in_role is_passthrough) (without l.handle (take l.i l.fn.self.slots));
  follower : l.follower ≡ any (in_role is_follower) (without l.handle (take l.i l.fn.self.slots));
}
