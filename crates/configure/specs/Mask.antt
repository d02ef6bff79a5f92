-- The set bits of a mask (document 02, W-204).
-- Assumes nothing.
use Rattle.std.specs.Prelude.{ℕ, ◌^◌}
use Rattle.lists.specs.Pigeonhole.{upto}
use Rattle.lists.specs.Tests.{bit}
use Rattle.rules.specs.Handles.{has_bit}

-- how many bits are set at the places below a width
abbrev pub set_bits : ℕ → ℕ → ℕ
set_bits width mask = upto (λ place. bit (has_bit (2 ^ place) mask)) width
