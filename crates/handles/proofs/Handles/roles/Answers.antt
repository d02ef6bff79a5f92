-- Without a number that no handle has, it is all of them.
use Rattle.std.proofs.Common.{◌∙◌, ap, arith}
use Rattle.lists.specs.Places.{without_past}
use Rattle.handles.specs.Roles.{roles_of}
use Rattle.handles.proofs.Handles.roles.Goals as goal

pub returns : goal.returns
returns c = c.roles_of_others.ensures ∙ ap roles_of (without_past 8 c.args.self.slots (omega arith))
