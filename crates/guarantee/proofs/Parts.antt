-- Parts of a history: where it is taken apart at a step, the parts are histories too.
-- Assumes nothing.
use Prim.Native.Nat.{ℕ}
use mathlib.Core.List.{List, [], ◌∷◌, ◌++◌}
use mathlib.Core.Path.{◌≡◌, refl, ap, ap₂, sym}
use native.Mathlib.Omega.{arith}
use lib.ListN.{length}
use Rattle.guarantee.specs.Seen.{gives, gives_to, own}
use Rattle.lists.specs.Elements.{empty_not}
use Rattle.lists.specs.Sums.{count}
use Rattle.lists.specs.Tests.{bit, split}
use Rattle.rules.specs.Call.{Call}
use Rattle.rules.specs.State.{State}
use Rattle.rules.specs.Step.{after, Step, step, step_of, run}

-- the calls before a step, its own, and those after it
pub record Parted (s : State) (past : List Step) (x : Step) (rest : List Step) : Type 0 where
  pub before : List Call
  pub call : Call
  pub later : List Call
  pub ran : past ≡ run s before
  pub here : x ≡ step_of (after s before) call
  pub runs : rest ≡ run (step (after s before) call).state later

-- two lists that are equal begin and go on alike
heads : (x y : Step) (xs ys : List Step) → x ∷ xs ≡ y ∷ ys → (x ≡ y) × (xs ≡ ys)
heads x y xs ys e = (cc, cc)

-- a history taken apart anywhere
pub parted : (s : State) (cs : List Call) (past : List Step) (x : Step) (rest : List Step) → run s cs ≡ past ++ x ∷ rest → Parted s past x rest
parted s [] past x rest e = absurd (empty_not past x rest e)
parted s (c ∷ cs) [] x rest e =
    let p = heads (step_of s c) x (run (step s c).state cs) rest e in
    record { before = []; call = c; later = cs; ran = refl; here = sym p.0; runs = sym p.1 }
parted s (c ∷ cs) (y ∷ past) x rest e =
    let p = heads (step_of s c) y (run (step s c).state cs) (past ++ x ∷ rest) e in
    let q = parted (step s c).state cs past x rest p.1 in
    record { before = c ∷ q.before; call = q.call; later = q.later; ran = ap₂ ◌∷◌ (sym p.0) q.ran; here = q.here; runs = q.runs }

-- of the calls up to the next one that is given number n: none before the step was given it
pub record OwnParted (n : ℕ) (s : State) (past : List Step) (x : Step) (rest : List Step) : Type 0 where
  pub before : List Call
  pub call : Call
  pub later : List Call
  pub ran : past ≡ run s before
  pub here : x ≡ step_of (after s before) call
  pub runs : x ∷ rest ≡ own n (run (after s before) (call ∷ later))
  pub ungiven : count (gives n) (run s before) ≡ 0

-- so too the calls that belong to number n
pub own_parted : (n : ℕ) (s : State) (cs : List Call) (past : List Step) (x : Step) (rest : List Step) → own n (run s cs) ≡ past ++ x ∷ rest → OwnParted n s past x rest
own_parted n s [] past x rest e = absurd (empty_not past x rest e)
own_parted n s (c ∷ cs) [] x rest e =
    let p = heads (step_of s c) x _ rest e in
    record { before = []; call = c; later = cs; ran = refl; here = sym p.0; runs = sym e; ungiven = refl }
own_parted n s (c ∷ cs) (y ∷ past) x rest e =
    let p = heads (step_of s c) y _ (past ++ x ∷ rest) e in
    split (gives_to n (step s c).answer)
    (λ g. absurd (empty_not past x rest (rw g at p.1)))
    (λ g.
    let q = own_parted n (step s c).state cs past x rest (rw g at p.1) in
    record { before = c ∷ q.before; call = q.call; later = q.later; ran = ap₂ ◌∷◌ (sym p.0) q.ran; here = q.here; runs = q.runs; ungiven = omega (arith, ap bit g, q.ungiven) })

-- what comes before a step, none of it given number n, belongs to what is given n before
pub own_after : (n : ℕ) (xs ys : List Step) → count (gives n) xs ≡ 0 → own n (xs ++ ys) ≡ xs ++ own n ys
own_after n [] ys e = refl
own_after n (x ∷ xs) ys e =
    split (gives n x)
    (λ g. absurd (omega (arith, ap bit g)))
    (λ g. rw (g, own_after n xs ys (omega arith)))

-- the state after the last step is the state after all calls
pub last_after : (s : State) (cs : List Call) (past : List Step) (x : Step) → run s cs ≡ past ++ x ∷ [] → x.after ≡ after s cs
last_after s [] past x e = absurd (empty_not past x [] e)
last_after s (c ∷ []) [] x e = ap (λ (y : Step). y.after) (sym (heads (step_of s c) x [] [] e).0)
last_after s (c ∷ (k ∷ cs)) [] x e = absurd (let z = ap length e in omega arith)
last_after s (c ∷ cs) (y ∷ past) x e = last_after (step s c).state cs past x (heads (step_of s c) y (run (step s c).state cs) (past ++ x ∷ []) e).1
