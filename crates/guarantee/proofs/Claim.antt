-- Demand 3 holds of the rules, for any list of calls from a fresh adapter.
-- Assumes nothing.
use Prim.Native.Nat.{ℕ}
use mathlib.Core.Bool.{true}
use mathlib.Core.List.{List, [], ◌∷◌, ◌++◌}
use mathlib.Core.Path.{◌≡◌, ap, ◌∙◌, sym}
use Rattle.guarantee.proofs.Began.{after_transmit}
use Rattle.guarantee.proofs.Fate.{fate}
use Rattle.guarantee.proofs.Invariant.{open_below}
use Rattle.guarantee.proofs.Parts.{last_after}
use Rattle.guarantee.proofs.Reached.{fresh_closed, fresh_inv, reached}
use Rattle.guarantee.proofs.Since.{no_open_lem, since_open_lem}
use Rattle.guarantee.specs.Claim.{Fate, Claim}
use Rattle.guarantee.specs.Seen.{opens, came, gave, since_open, joined}
use Rattle.inbox.specs.Inboxes.{inbox_of}
use Rattle.lists.specs.Sums.{any}
use Rattle.lists.specs.Tests.{split, clash}
use Rattle.rules.specs.Call.{Call}
use Rattle.rules.specs.Handles.{is_open}
use Rattle.rules.specs.State.{State, Capabilities, fresh}
use Rattle.rules.specs.Step.{after, Step, run}

-- what came to an open handle
inboxes_kept : (c : Capabilities) (calls : List Call) (past : List Step) (x : Step) → run (fresh c) calls ≡ past ++ x ∷ [] → (h : ℕ) → is_open x.after h ≡ true
    → joined (came h) (since_open h (run (fresh c) calls)) ≡ joined (gave h) (since_open h (run (fresh c) calls)) ++ inbox_of x.after.inboxes h
inboxes_kept c calls past x e h o =
    let i = fresh_inv c in
    let a = last_after (fresh c) calls past x e in
    let q : is_open (after (fresh c) calls) h ≡ true = sym (ap (λ (s : State). is_open s h) a) ∙ o in
    let l = open_below (after (fresh c) calls) h (reached c calls) q in
    rw a (split (any (opens h) (run (fresh c) calls))
    (λ n. since_open_lem h l (fresh c) calls i n q)
    (λ n. clash (no_open_lem h l (fresh c) calls i n q).0 (fresh_closed c h)))

-- the whole claim
pub claim : Claim
claim c calls = record { transmits = after_transmit Fate fate c calls; inboxes = λ past x e h o. cc (inboxes_kept c calls past x e h o) }
