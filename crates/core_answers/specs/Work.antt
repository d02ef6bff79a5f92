-- What the core has to say to a message, by its opcode and the version alone (document 01, "A message from the wire": "Core answers"; document 02, W-203).
-- Assumes nothing.
use Rattle.std.specs.Prelude.{ℕ, List, length, ◌==◌}
use Rattle.constants.specs.Kernel.{CEC-MSG-REPORT-PHYSICAL-ADDR}
use Rattle.core_answers.specs.declared.Work.{Work}
use Rattle.message.specs.Message.{message, initiator, destination, opcode}
use Rattle.message.specs.declared.Message.{Message}
use Rattle.rules.specs.Core.{feature_abort}
use Rattle.rules.specs.Features.{is_question_for, answer_for}
use Rattle.settings.specs.declared.Settings.{Settings}

-- some bytes as a message
abbrev pub message_of : List ℕ → Message
message_of bytes = message (length bytes) bytes

-- the Feature Abort of a message, for a reason: to its initiator, from the address asked
abbrev pub abort_of : Message → ℕ → List ℕ
abort_of m reason = feature_abort (destination m.bytes) (initiator m.bytes) (opcode m.bytes) reason

-- whether it is a question that the core answers, and the answer; whether it reports an address
abbrev pub work_of : Settings → Message → Work
work_of x m = record {
  is_question = is_question_for x (opcode m.bytes);
  is_report = (opcode m.bytes == CEC-MSG-REPORT-PHYSICAL-ADDR);
  answer = message_of (answer_for x m);
}
