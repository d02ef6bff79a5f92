-- Tests: what follows from one, and a proof by cases on one.
-- Assumes nothing.
use Rattle.std.specs.Prelude.{ℕ, ◌-◌, Bool, true, false, cond, ◌&&◌, ◌||◌, not, ◌≡◌, refl, eqb}
use Rattle.std.proofs.Common.{true≢false, sym, ◌∙◌, arith, eq-eqb}
use mir.Val.{bool_byte}

-- 1 for true, 0 for false
abbrev pub bit : Bool → ℕ
bit true = 1
bit false = 0

-- a proof by cases on a test, with its equation in each: the goal stays, and `rw e` puts the answer in
pub split : {P : Type 0} (b : Bool) → (b ≡ true → P) → (b ≡ false → P) → P
split true y n = y refl
split false y n = n refl

-- one test has not both answers
pub clash : {P : Type 0} {b : Bool} → b ≡ true → b ≡ false → P
clash {b} p q = absurd (true≢false (sym p ∙ q))

pub both : (a b : Bool) → (a && b) ≡ true → (a ≡ true) × (b ≡ true)
both true b e = (refl, e)
both false b e = clash e refl

pub neither : (a b : Bool) → (a || b) ≡ false → (a ≡ false) × (b ≡ false)
neither true b e = clash refl e
neither false b e = (refl, e)

-- a choice between a thing and itself
pub cond_same : {A : Type 0} (b : Bool) (x : A) → cond b x x ≡ x
cond_same true x = refl
cond_same false x = refl

pub eqb_refl : (a : ℕ) → eqb a a ≡ true
eqb_refl a = eq-eqb a a refl

pub or-true : (a : Bool) → (a || true) ≡ true
or-true true = refl
or-true false = refl

pub or-false : (a : Bool) → (a || false) ≡ a
or-false true = refl
or-false false = refl

-- a cast of a bool to a number, as the code has it
pub byte_bit : (b : Bool) → bool_byte b ≡ bit b
byte_bit true = refl
byte_bit false = refl

pub bit_not : (b : Bool) → 1 - bit b ≡ bit (not b)
bit_not true = refl
bit_not false = refl

pub and-true : (a : Bool) → (a && true) ≡ a
and-true true = refl
and-true false = refl

pub and-false : (a : Bool) → (a && false) ≡ false
and-false true = refl
and-false false = refl

-- a bit that is 0
pub none_bit : (b : Bool) → bit b ≡ 0 → b ≡ false
none_bit true e = absurd (omega arith)
none_bit false e = refl

-- a bit, and the bit of two tests, as choices
pub cond_bit : (b : Bool) → cond b 1 0 ≡ bit b
cond_bit true = refl
cond_bit false = refl

pub and_cond : (a b : Bool) → cond a (bit b) 0 ≡ cond (a && b) 1 0
and_cond true true = refl
and_cond true false = refl
and_cond false b = refl
