-- What was worked out by hand is what the definitions answer and leave. Assumes nothing.
use Rattle.std.proofs.Common.{◌≡◌, map, refl}
use Rattle.queue.specs.Operations.{ring_answers, ring_end}
use Rattle.queue.specs.RingAnswers.{Walk, walks, holds}

pub ring_answers_lem : map (λ (w : Walk). ring_answers w.from w.operations) walks ≡ map (λ (w : Walk). w.answers) walks
ring_answers_lem = refl

pub ring_leaves : map (λ (w : Walk). holds (ring_end w.from w.operations)) walks ≡ map (λ (w : Walk). w.leaves) walks
ring_leaves = refl
