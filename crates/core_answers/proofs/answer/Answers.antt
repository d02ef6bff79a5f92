use Rattle.std.proofs.Common.{◌∙◌}
use Rattle.core_answers.proofs.Parameters.{cut_after}
use Rattle.core_answers.proofs.answer.Goals as goal

pub returns : goal.returns
returns c = c.new.ensures ∙ rw (c.copy_from_slice.ensures.after, c.min-length.ensures) (cut_after _ _ c.args.parameters.now _)
