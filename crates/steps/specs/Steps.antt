-- Which steps are to be done with a message, by the tests of `rules` (document 01, "A message from the wire").
-- Assumes nothing.
use Rattle.std.specs.Prelude.{Bool, cond, not, ◌&&◌, ◌||◌, List, nat_le, Option, Some, None, is_some}
use Rattle.constants.specs.Kernel.{CEC-OP-ABORT-UNRECOGNIZED-OP}
use Rattle.core_answers.specs.Work.{message_of, abort_of}
use Rattle.core_answers.specs.declared.Work.{Work}
use Rattle.handle.specs.declared.Handle.{Handle}
use Rattle.lists.specs.Sums.{any}
use Rattle.message.specs.Message.{opcode, is_feature_abort}
use Rattle.message.specs.declared.Message.{Message}
use Rattle.rules.specs.Core.{is_directed, is_registered}
use Rattle.rules.specs.Handles.{in_role, is_exclusive_follower, is_follower, is_passthrough}
use Rattle.steps.specs.declared.Chosen.{Chosen}

-- the answer to a question, if the core may give it
abbrev pub answer_if : Bool → Work → Option Message
answer_if may work = cond (may && work.is_question) (Some work.answer) None

-- the core's answer, if it gives one: `rules: is_answered`, with the opcode's part taken from the core's work
abbrev pub answer_to : List Handle → Work → Message → Option Message
answer_to hs work m = answer_if (is_directed m && is_registered m && not (any (in_role is_passthrough) hs)) work

-- `rules: is_noted`
abbrev pub notes_of : Work → Message → Bool
notes_of work m = work.is_report && nat_le 5 m.length && is_registered m

-- whether the core refuses the message with a Feature Abort
abbrev pub aborts_of : List Handle → Work → Bool → Message → Bool
aborts_of hs work found m =
    not found
    && not (any (in_role is_follower) hs)
    && not (is_some (answer_to hs work m) || notes_of work m)
    && is_directed m
    && is_registered m
    && not (is_feature_abort (opcode m.bytes))

-- steps 4 to 6, by the tests of `rules`
abbrev pub chosen_of : List Handle → Work → Bool → Bool → Message → Chosen
chosen_of hs work found flag m = record {
  notes = notes_of work m;
  sends = cond (aborts_of hs work found m) (Some (message_of (abort_of m CEC-OP-ABORT-UNRECOGNIZED-OP))) (answer_to hs work m);
  copies = not (is_some (answer_to hs work m)) && (not found || flag);
  exclusive = any (in_role is_exclusive_follower) hs;
}
