-- Copies, replies and what the core does leave roles, settings and waits as they were.
-- Assumes nothing.
use Rattle.std.proofs.Common.{◌≡◌, ℕ, zero, suc, Bool, cond, ◌||◌, eqb, List, [], ◌∷◌, get_or, set, refl, ap, ◌∙◌}
use Rattle.entry.specs.Entry.{message_copy}
use Rattle.entry.specs.declared.Entry.{Entry}
use Rattle.handle.specs.declared.Handle.{Handle}
use Rattle.lists.specs.Sums.{any}
use Rattle.lists.specs.Tests.{split}
use Rattle.message.specs.declared.Message.{Message}
use Rattle.rules.proofs.CoreSends.{sends_queue}
use Rattle.rules.specs.Core.{answers, is_noted, notes, sends}
use Rattle.rules.specs.Deliver.{copies, copy_to, each, handle_numbers, loses, copy_to_by, copies_by}
use Rattle.rules.specs.Derived.{room_taken}
use Rattle.rules.specs.Handles.{handle_at, in_role, someone}
use Rattle.rules.specs.Incoming.{followed, follows, is_copied, replied}
use Rattle.rules.specs.State.{State, closed_handle}
use Rattle.waits.specs.Waits.{Taken}

-- the same roles are held, and the settings are the same
pub record Alike (s t : State) : Type 0 where
  pub roles : (p : ℕ → Bool) → someone p t ≡ someone p s
  pub settings : t.settings ≡ s.settings

pub alike_refl : (s : State) → Alike s s
alike_refl s = record { roles = λ p. refl; settings = refl }

pub alike_trans : (s t u : State) → Alike s t → Alike t u → Alike s u
alike_trans s t u a b = record { roles = λ p. b.roles p ∙ a.roles p; settings = b.settings ∙ a.settings }

pub alike_if : (b : Bool) (s t : State) → Alike s t → Alike s (cond b t s)
alike_if b s t a = split b (λ e. rw e a) (λ e. rw e (alike_refl s))

-- one element changed into one that the test takes alike
any-set : {A : Type 0} (p : A → Bool) (l : List A) (i : ℕ) (v d : A) → p v ≡ p (get_or l i d) → any p (set l i v) ≡ any p l
any-set p [] i v d e = refl
any-set p (x ∷ l) zero v d e = rw e
any-set p (x ∷ l) (suc i) v d e = ap (λ (b : Bool). p x || b) (any-set p l i v d e)

copy_to_alike : (e : Entry) (s : State) (h : ℕ) → Alike s (copy_to e s h)
unfolding copy_to_by
copy_to_alike e s h =
    split (eqb (room_taken s h) 16)
    (λ q. rw q (record { roles = λ p. any-set (in_role p) s.handles h (loses (handle_at s h)) closed_handle refl; settings = refl }))
    (λ q. rw q (record { roles = λ p. refl; settings = refl }))

each_alike : {A : Type 0} (f : State → A → State) → ((s : State) (x : A) → Alike s (f s x)) → (s : State) (xs : List A) → Alike s (each f s xs)
each_alike f k s [] = alike_refl s
each_alike f k s (x ∷ xs) = alike_trans s (f s x) (each f (f s x) xs) (k s x) (each_alike f k (f s x) xs)

pub copies_alike : (p : Handle → Bool) (e : Entry) (s : State) → Alike s (copies p e s)
unfolding copies_by
copies_alike p e s =
    each_alike (λ t g. cond (p (handle_at t g)) (copy_to e t g) t)
    (λ t g. alike_if (p (handle_at t g)) t (copy_to e t g) (copy_to_alike e t g))
    s
    handle_numbers

pub sends_alike : (s : State) (bytes : List ℕ) → Alike s (sends s bytes)
sends_alike s bytes = rw (sends_queue s bytes) (record { roles = λ p. refl; settings = refl })

pub replied_alike : (s : State) (t : Taken) (m : Message) (ts : ℕ) → Alike s (replied s t m ts)
replied_alike s t m ts = split t.found (λ e. rw e (record { roles = λ p. refl; settings = refl })) (λ e. rw e (alike_refl s))

pub notes_alike : (s : State) (m : Message) → Alike s (notes s m)
unfolding notes
notes_alike s m = split (is_noted m) (λ e. rw e (record { roles = λ p. refl; settings = refl })) (λ e. rw e (alike_refl s))

pub answers_alike : (s : State) (b : Bool) (bytes : List ℕ) → Alike s (answers s b bytes)
unfolding answers
answers_alike s b bytes = alike_if b s (sends s bytes) (sends_alike s bytes)

pub followed_alike : (s : State) (b : Bool) (t : Taken) (m : Message) (ts : ℕ) → Alike s (followed s b t m ts)
followed_alike s b t m ts = alike_if (is_copied b t) s (copies (in_role (follows s)) (message_copy m ts) s) (copies_alike (in_role (follows s)) (message_copy m ts) s)
