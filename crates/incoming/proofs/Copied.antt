-- Copies leave the waits, and go to the same handles where the tests agree.
-- Assumes nothing.
use Rattle.std.proofs.Common.{◌≡◌, ℕ, Bool, cond, ◌&&◌, eqb, List, [], ◌∷◌, sym, refl, ap, ◌∙◌, Some}
use Rattle.constants.specs.Kernel.{CEC-MODE-MONITOR-ALL}
use Rattle.copies.specs.Kinds.{gets_copies}
use Rattle.entry.specs.declared.Entry.{Entry}
use Rattle.handle.specs.declared.Handle.{Handle}
use Rattle.incoming.specs.Steps.{monitor_kind, follower_kind}
use Rattle.lists.specs.Tests.{split, or-true, or-false, and-true}
use Rattle.message.specs.Message.{destination}
use Rattle.message.specs.declared.Message.{Message}
use Rattle.rules.specs.Deliver.{copies, copy_to, each, handle_numbers, copy_to_by, copies_by}
use Rattle.rules.specs.Derived.{room_taken}
use Rattle.rules.specs.Handles.{handle_at, follower_part, in_role, is_exclusive_follower, is_here, is_monitor, someone}
use Rattle.rules.specs.Incoming.{follows, monitors}
use Rattle.rules.specs.State.{State, with_handles, with_inboxes}

copy_to_waits : (e : Entry) (s : State) (h : ℕ) → (copy_to e s h).waits ≡ s.waits
unfolding copy_to_by
copy_to_waits e s h = split (eqb (room_taken s h) 16) (λ q. rw q) (λ q. rw q)

each_waits : (f : State → ℕ → State) → ((s : State) (x : ℕ) → (f s x).waits ≡ s.waits) → (s : State) (xs : List ℕ) → (each f s xs).waits ≡ s.waits
each_waits f k s [] = refl
each_waits f k s (x ∷ xs) = each_waits f k (f s x) xs ∙ k s x

pub copies_waits : (p : Handle → Bool) (e : Entry) (s : State) → (copies p e s).waits ≡ s.waits
unfolding copies_by
copies_waits p e s =
    each_waits (λ t g. cond (p (handle_at t g)) (copy_to e t g) t)
    (λ t g. split (p (handle_at t g)) (λ q. rw q (copy_to_waits e t g)) (λ q. rw q))
    s
    handle_numbers

-- copies change the handles and the inboxes alone
abbrev pub only : State → State → Type 0
only s t = t ≡ with_inboxes (with_handles s t.handles) t.inboxes

copy_to_only : (e : Entry) (s : State) (h : ℕ) → only s (copy_to e s h)
unfolding copy_to_by
copy_to_only e s h = split (eqb (room_taken s h) 16) (λ q. rw q) (λ q. rw q)

each_only : (f : State → ℕ → State) → ((s : State) (x : ℕ) → only s (f s x)) → (s : State) (xs : List ℕ) → only s (each f s xs)
each_only f k s [] = refl
each_only f k s (x ∷ xs) = let t = each f (f s x) xs in each_only f k (f s x) xs ∙ ap (λ (u : State). with_inboxes (with_handles u t.handles) t.inboxes) (k s x)

pub copies_only : (p : Handle → Bool) (e : Entry) (s : State) → only s (copies p e s)
unfolding copies_by
copies_only p e s =
    each_only (λ t g. cond (p (handle_at t g)) (copy_to e t g) t)
    (λ t g. split (p (handle_at t g)) (λ q. rw q (copy_to_only e t g)) (λ q. rw q))
    s
    handle_numbers

each_same : (f g : State → ℕ → State) → ((s : State) (x : ℕ) → f s x ≡ g s x) → (s : State) (xs : List ℕ) → each f s xs ≡ each g s xs
each_same f g k s [] = refl
each_same f g k s (x ∷ xs) = each_same f g k (f s x) xs ∙ ap (λ (t : State). each g t xs) (k s x)

pub copies_same : (p q : Handle → Bool) → ((x : Handle) → p x ≡ q x) → (e : Entry) (s : State) → copies p e s ≡ copies q e s
unfolding copies_by
copies_same p q k e s =
    each_same (λ t g. cond (p (handle_at t g)) (copy_to e t g) t) (λ t g. cond (q (handle_at t g)) (copy_to e t g) t)
    (λ t g. ap (λ (b : Bool). cond b (copy_to e t g) t) (k (handle_at t g)))
    s
    handle_numbers

-- the monitors that see a message
monitor_same : (s : State) (m : Message) (here : Bool) → here ≡ is_here s (destination m.bytes) → (mode : ℕ) → gets_copies (Some (monitor_kind here)) mode ≡ monitors s m mode
monitor_same s m here e mode =
    split here
    (λ q. rw (q, sym e ∙ q, or-true (eqb (follower_part mode) CEC-MODE-MONITOR-ALL), and-true (is_monitor mode)))
    (λ q. rw (q, sym e ∙ q, or-false (eqb (follower_part mode) CEC-MODE-MONITOR-ALL)))

pub monitors_same : (s : State) (m : Message) (here : Bool) (e : Entry) → here ≡ is_here s (destination m.bytes)
    → copies (in_role (gets_copies (Some (monitor_kind here)))) e s ≡ copies (in_role (monitors s m)) e s
monitors_same s m here e q =
    copies_same (in_role (gets_copies (Some (monitor_kind here)))) (in_role (monitors s m))
    (λ x. ap (λ (b : Bool). x.is_open && b) (monitor_same s m here q x.mode))
    e
    s

-- the followers that get a message, where the same roles are held
follower_same : (exclusive : Bool) (s : State) → someone is_exclusive_follower s ≡ exclusive → (mode : ℕ) → gets_copies (Some (follower_kind exclusive)) mode ≡ follows s mode
follower_same exclusive s e mode = split exclusive (λ q. rw (q, e ∙ q)) (λ q. rw (q, e ∙ q))

pub followers_same : (exclusive : Bool) (s : State) (e : Entry) → someone is_exclusive_follower s ≡ exclusive
    → copies (in_role (gets_copies (Some (follower_kind exclusive)))) e s ≡ copies (in_role (follows s)) e s
followers_same exclusive s e q =
    copies_same (in_role (gets_copies (Some (follower_kind exclusive)))) (in_role (follows s))
    (λ x. ap (λ (b : Bool). x.is_open && b) (follower_same exclusive s q x.mode))
    e
    s
