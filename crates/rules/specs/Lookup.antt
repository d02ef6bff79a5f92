-- Lookup (document 01, "A message from the wire": "The lookup of a noted address takes 0 to 14, else EINVAL").
-- Assumes nothing.
use Rattle.std.specs.Prelude.{ℕ, ltb, get_or}
use Rattle.constants.specs.Kernel.{EINVAL, CEC-PHYS-ADDR-INVALID}
use Rattle.rules.specs.Call.{Outcome, finish, unless, check, Answer}
use Rattle.rules.specs.State.{State}

abbrev pub lookup_refusal : ℕ → ℕ
lookup_refusal a = check (ltb 14 a) EINVAL 0

unfoldable pub do_lookup : State → ℕ → Outcome
do_lookup s a = unless (lookup_refusal a) s (finish (Answer.address (get_or s.noted a CEC-PHYS-ADDR-INVALID)) s)
