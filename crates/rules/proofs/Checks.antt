-- Checks in their order: what follows where they are passed, and where they are not.
-- Assumes nothing.
use Prim.Native.Nat.{ℕ}
use mathlib.Core.Bool.{Bool, true, false, cond}
use mathlib.Core.Logic.{◌≢◌}
use mathlib.Core.Path.{◌≡◌, refl, sym, ap, ◌∙◌}
use lib.Dec.{eqb}
use borrow.Author.Tests.{eq-eqb, ne_eqb, eqb-true}
use Rattle.lists.specs.Tests.{split}
use Rattle.rules.specs.Call.{Answer, Outcome, finish, unless, check, refused}
use Rattle.rules.specs.State.{State}

-- a check that is passed was false, and the later ones are passed
pub passed : (b : Bool) (e later : ℕ) → e ≢ 0 → check b e later ≡ 0 → (b ≡ false) × (later ≡ 0)
unfolding check
passed true e later n q = absurd (n q)
passed false e later n q = (refl, q)

-- a check that fails gives its number; one that is passed, what the later ones say
pub stopped : (b : Bool) (e later : ℕ) → b ≡ true → e ≡ check b e later
unfolding check
stopped b e later q = rw q

pub onward : (b : Bool) (e later n : ℕ) → b ≡ false → n ≡ later → n ≡ check b e later
unfolding check
onward b e later n q r = rw (q, r)

-- the number of the checks so far, or what the later ones say
abbrev pub first_refusal : ℕ → ℕ → ℕ
first_refusal n later = cond (eqb n 0) later n

-- a check more before them
first_refusal_check : (b : Bool) (e n later : ℕ) → e ≢ 0 → check b e (first_refusal n later) ≡ first_refusal (check b e n) later
unfolding check
first_refusal_check true e n later z = sym (rw (ne_eqb e 0 z))
first_refusal_check false e n later z = refl

-- checks that can be made before the later ones are known: none, and one more before such
abbrev pub Leads : (ℕ → ℕ) → Type 0
Leads checks = (later : ℕ) → checks later ≡ first_refusal (checks 0) later

pub leads_none : Leads (λ later. later)
leads_none later = refl

pub leads_check : (b : Bool) (e : ℕ) (checks : ℕ → ℕ) → e ≢ 0 → Leads checks → Leads (λ later. check b e (checks later))
leads_check b e checks z l later = ap (check b e) (l later) ∙ first_refusal_check b e (checks 0) later z

pub refuses : (checks : ℕ → ℕ) → Leads checks → (n later : ℕ) → n ≡ checks 0 → n ≢ 0 → n ≡ checks later
refuses checks l n later q z = sym (l later ∙ rw (← q, ne_eqb n 0 z))

pub passes : (checks : ℕ → ℕ) → Leads checks → (n later : ℕ) → n ≡ checks 0 → n ≡ 0 → later ≡ checks later
passes checks l n later q z = sym (l later ∙ rw (← q, eq-eqb n 0 z))

-- no refusal: the call is done
pub unless_done : (s : State) (o : Outcome) (n : ℕ) → n ≡ 0 → unless n s o ≡ o
unfolding unless
unless_done s o n e = rw (eq-eqb n 0 e)

-- a refusal: its number, and the state as it was
pub unless_refused : (s : State) (o : Outcome) (n : ℕ) → n ≢ 0 → unless n s o ≡ finish (refused n) s
unfolding unless
unless_refused s o n e = rw (ne_eqb n 0 e)

-- an answer that is no refusal was given by a call that is done, and that was not refused
pub unless_answer : (s : State) (o : Outcome) (n : ℕ) (a : Answer) → ((e : ℕ) → refused e ≡ a → ⊥) → (unless n s o).answer ≡ a → (n ≡ 0) × (unless n s o ≡ o) × (o.answer ≡ a)
unfolding unless
unless_answer s o n a d q =
    split (eqb n 0)
    (λ e. (eqb-true n 0 e, rw e, rw e at q))
    (λ e. absurd (d n (rw e at q)))

-- a refusal leaves the state, if what is done otherwise is no refusal
pub unless_same : (s : State) (o : Outcome) (n e : ℕ) → ((k : ℕ) → o.answer ≡ refused k → ⊥) → (unless n s o).answer ≡ refused e → (unless n s o).state ≡ s
unfolding unless
unless_same s o n e d q =
    split (eqb n 0)
    (λ f. absurd (d e (rw f at q)))
    (λ f. rw f)
