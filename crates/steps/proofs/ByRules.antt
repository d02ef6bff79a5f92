-- The steps that are chosen from the core's work are those that `rules` tells from the message itself.
-- Assumes nothing.
use Rattle.std.specs.Prelude.{◌≡◌, Bool, cond, ◌&&◌, Some, None, refl}
use Rattle.core_answers.specs.Work.{message_of, work_of}
use Rattle.message.specs.Message.{opcode}
use Rattle.message.specs.declared.Message.{Message}
use Rattle.rules.specs.Core.{is_noted}
use Rattle.rules.specs.Features.{is_question_for, answer_for}
use Rattle.settings.specs.declared.Settings.{Settings}
use Rattle.steps.specs.Steps.{answer_if, notes_of}

module _ (x : Settings) (m : Message) where
  -- an answer is given to a question alone
  pub answered : (may : Bool) → answer_if may (work_of x m) ≡ cond (may && is_question_for x (opcode m.bytes)) (Some (message_of (answer_for x m))) None
  answered may = refl

  pub noted : notes_of (work_of x m) m ≡ is_noted m
  noted = refl
