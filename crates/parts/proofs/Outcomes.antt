-- The two ends of a call: accepted, or refused with the number that its checks give.
-- Assumes nothing.
use Prim.Native.Nat.{ℕ}
use mathlib.Core.Logic.{◌≢◌}
use mathlib.Core.Path.{◌≡◌, refl, sym, ◌∙◌}
use Rattle.constants.specs.Errno.{errno_number}
use Rattle.constants.specs.declared.Errno.{Errno}
use Rattle.constants.specs.declared.Errno.TheVariants.{EPERM, EBADF, EAGAIN, EBUSY, EINVAL, EMFILE, ENOTTY, ENONET}
use Rattle.std.proofs.Common.{Result, Ok, Err, arith}
use Rattle.parts.specs.Parts.{errno_of, outcome_of}
use Rattle.rules.proofs.Checks.{unless_done, unless_refused}
use Rattle.rules.specs.Call.{Answer, Outcome, unless}
use Rattle.rules.specs.State.{State}

-- no refusal has the number 0
pub numbered : (e : Errno) → errno_number e ≢ 0
numbered EPERM = λ q. omega (arith, q)
numbered EBADF = λ q. omega (arith, q)
numbered EAGAIN = λ q. omega (arith, q)
numbered EBUSY = λ q. omega (arith, q)
numbered EINVAL = λ q. omega (arith, q)
numbered EMFILE = λ q. omega (arith, q)
numbered ENOTTY = λ q. omega (arith, q)
numbered ENONET = λ q. omega (arith, q)

-- checks that are passed refuse nothing
pub passed_check : (checked : Result Unit Errno) (n : ℕ) (u : Unit) → checked ≡ Ok u → errno_of checked ≡ n → n ≡ 0
passed_check checked n u q z = sym z ∙ rw q refl

-- a call whose checks are passed
pub accepted_call : (s : State) (o : Outcome) (checked : Result Unit Errno) (n : ℕ) (u : Unit) → checked ≡ Ok u → errno_of checked ≡ n → o ≡ unless n s o
accepted_call s o checked n u q z = sym (unless_done s o n (sym z ∙ rw q refl))

-- a call whose checks refuse it, which hands their refusal on and leaves the state
pub refused_call : {A : Type 0} (given : A → Answer) (s : State) (o : Outcome) (checked : Result Unit Errno) (n : ℕ) (e : Errno) (r : Result A Errno)
    → checked ≡ Err e → errno_of checked ≡ n → ((x : Errno) × (r ≡ Err x) × (x ≡ e)) → outcome_of given s r ≡ unless n s o
refused_call given s o checked n e r q z (x, y, w) = rw (y, w, ← z, q) (sym (unless_refused s o (errno_number e) (numbered e)))
