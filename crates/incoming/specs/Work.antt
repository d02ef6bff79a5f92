-- A message as it comes, and what is to be done with it in steps 3 to 6, from the state after the monitors' copies (document 01, "A message from the wire").
-- Assumes nothing.
use Rattle.std.specs.Prelude.{Bool, true, false, cond, Option, None, is_some}
use Rattle.core_answers.specs.Work.{work_of}
use Rattle.incoming.specs.Steps.{follower_kind, monitor_kind, receivers_of}
use Rattle.incoming.specs.Ending.{ended_by, to_followers}
use Rattle.incoming.specs.declared.Arrival.{Arrival}
use Rattle.incoming.specs.declared.Ended.{Ended}
use Rattle.incoming.specs.declared.ToDo.{ToDo}
use Rattle.message.specs.Message.{destination}
use Rattle.message.specs.declared.Message.{Message}
use Rattle.rules.specs.Handles.{is_here}
use Rattle.rules.specs.State.{State}
use Rattle.rules.specs.Tracker.{active_after_message}
use Rattle.steps.specs.Steps.{chosen_of}
use Rattle.steps.specs.declared.Chosen.{Chosen}

-- step 1 and the tracker (document 02, W-205)
abbrev pub arrival_of : State → Message → Arrival
arrival_of s m = record {
  monitors = receivers_of true s.handles (monitor_kind (is_here s (destination m.bytes)));
  active = active_after_message s m;
}

-- the steps' tests, from a state and the wait that the message ends
abbrev pub chosen_for : State → Option Ended → Message → Chosen
chosen_for s e m = chosen_of s.handles (work_of s.settings m) (is_some e) (to_followers e) m

-- the steps
abbrev pub to_do_at : State → Option Ended → Chosen → ToDo
to_do_at s e x = record {
  ended = e;
  notes = x.notes;
  sends = cond s.capabilities.transmit x.sends None;
  followers = receivers_of x.copies s.handles (follower_kind x.exclusive);
}

-- where the message goes no further
abbrev pub nothing_to_do : ToDo
nothing_to_do = record { ended = None; notes = false; sends = None; followers = None }

abbrev pub to_do_of : State → Bool → Message → ToDo
to_do_of s further m =
    let e = ended_by m s.waits in
    cond further (to_do_at s e (chosen_for s e m)) nothing_to_do
