-- The eight handles by number, and the roles that some of them hold (document 01, "Modes").
-- Assumes nothing.
use Rattle.std.specs.Prelude.{Bool, not, List}
use Rattle.lists.specs.Sums.{any}
use Rattle.handle.specs.declared.Handle.{Handle}
use Rattle.handles.specs.declared.Handles.{Handles}
use Rattle.handles.specs.declared.Roles.{Roles}
use Rattle.rules.specs.Handles.{in_role, is_exclusive_initiator, is_exclusive_follower, is_passthrough, is_follower}

abbrev pub handles_of : Handles → List Handle
handles_of x = x.slots

-- "closed"
abbrev pub is_closed : Handle → Bool
is_closed x = not x.is_open

-- whether one of these handles is exclusive initiator, exclusive follower, a passthrough follower, a follower of any kind
abbrev pub roles_of : List Handle → Roles
roles_of hs = record {
  exclusive_initiator = any (in_role is_exclusive_initiator) hs;
  exclusive_follower = any (in_role is_exclusive_follower) hs;
  passthrough = any (in_role is_passthrough) hs;
  follower = any (in_role is_follower) hs;
}
