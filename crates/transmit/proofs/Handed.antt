-- Checks made of checks: a refusal that is handed on.
-- Assumes nothing.
use mathlib.Core.Logic.{◌≢◌}
use mathlib.Core.Path.{◌≡◌, refl}
use Rattle.constants.specs.declared.Errno.{Errno}
use Rattle.parts.proofs.Outcomes.{numbered}
use Rattle.parts.specs.Parts.{errno_of}
use Rattle.std.proofs.Common.{Result, Err}

-- the number of checks that refuse is not 0
pub refusing : (checked : Result Unit Errno) (e : Errno) → checked ≡ Err e → errno_of checked ≢ 0
refusing checked e q = λ z. numbered e (rw q at z)

-- and it is that of the checks that hand the refusal on
pub handed_on : (checked r : Result Unit Errno) (e : Errno) → checked ≡ Err e → ((x : Errno) × (r ≡ Err x) × (x ≡ e)) → errno_of r ≡ errno_of checked
handed_on checked r e q (x, y, w) = rw (y, w, q) refl
