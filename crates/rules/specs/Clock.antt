-- The check on the time that a bus result and a message carry, in nanoseconds (document 02, W-208).
-- Assumes nothing.
use Rattle.std.specs.Prelude.{ℕ, ltb}
use Rattle.constants.specs.Kernel.{EINVAL}
use Rattle.rules.specs.Call.{check}

-- "After their own checks, a time below the last accepted by either .. is EINVAL ..; an equal one is fine"
abbrev pub clock_refusal : ℕ → ℕ → ℕ
clock_refusal clock ts = check (ltb ts clock) EINVAL 0
