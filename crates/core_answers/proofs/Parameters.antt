-- Parameters after the first byte and the opcode.
-- Assumes nothing.
use Rattle.std.specs.Prelude.{◌≡◌, ℕ, suc, ◌+◌, min, List, ◌∷◌, ◌++◌, length, take}
use native.Mathlib.Omega.{arith}
use lib.ListN.{length-take}
use Rattle.std.proofs.lemmas.List.{take_at}
use Rattle.core_answers.specs.Work.{message_of}
use Rattle.message.specs.Message.{message}

-- a buffer that begins with them is cut after them
pub cut_after : (a b : ℕ) (l rest : List ℕ) → message (min (length l) 14 + 2) (a ∷ b ∷ (take (min (length l) 14) l ++ rest)) ≡ message_of (a ∷ b ∷ l)
unfolding message
cut_after a b l rest =
    let k = min (length l) 14 in
    let u : min (k + 2) 16 ≡ suc (suc k) = omega arith in
    let v : min (suc (suc (length l))) 16 ≡ suc (suc k) = omega arith in
    let t : take k (take k l ++ rest) ≡ take k l = take_at (take k l) rest k (omega (arith, length-take k l)) in
    rw (u, v, t)
