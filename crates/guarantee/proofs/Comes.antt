-- Results and replies come to a handle in the room that it was owed.
-- Assumes nothing.
use Prim.Native.Nat.{ℕ, ◌+◌, ◌≤◌, ◌<◌}
use mathlib.Core.Bool.{false}
use mathlib.Core.List.{List, [], ◌++◌, map}
use mathlib.Core.Path.{◌≡◌, refl, ap, ◌∙◌}
use native.Mathlib.Omega.{arith}
use lib.Dec.{eqb}
use lib.ListN.{length}
use Rattle.entry.specs.declared.Entry.{Entry}
use Rattle.guarantee.proofs.Invariant.{Inv}
use Rattle.inbox.specs.Inboxes.{inbox_of}
use Rattle.lists.specs.Sums.{sum, sum_append, count, keep}
use Rattle.rules.proofs.Aside.{Aside, aside_owed}
use Rattle.rules.proofs.Mail.{Mail, post, posts_boxes, posts_length, posts_mail, mail_trans, mail_as}
use Rattle.rules.specs.Deliver.{each}
use Rattle.rules.specs.Derived.{room_taken}
use Rattle.rules.specs.Handles.{is_open}
use Rattle.rules.specs.Owed.{owed_room}
use Rattle.rules.specs.State.{State}
use Rattle.transmission.specs.declared.Transmission.{Transmission}
use Rattle.wait.specs.Wait.{owned_by}
use Rattle.wait.specs.declared.Wait.{Wait}

-- these entries, and copies, come to handle h from s to t: it has room for what it is still owed, and a closed one has and is owed nothing
pub record Comes (h : ℕ) (s t : State) (es : List Entry) : Type 0 where
  pub mail : Mail h s t es
  pub room : room_taken t h ≤ 16
  pub none : is_open s h ≡ false → room_taken t h ≡ 0

-- only copies
pub comes_aside : (h : ℕ) → h < 8 → (s t : State) → Inv s → Aside s t → Comes h s t []
comes_aside h l s t r a = record {
  mail = a.mail h;
  room = a.room h l (r.room h l);
  none = λ e. omega (arith, r.none h l e, aside_owed s t a h l, ap length (a.none h e));
}

-- copies afterwards
pub comes_then : (h : ℕ) → h < 8 → (s t u : State) (es : List Entry) → Comes h s t es → is_open t h ≡ is_open s h → Aside t u → Comes h s u es
comes_then h l s t u es c o a = record {
  mail = mail_as h s u u (es ++ []) es refl (λ f. nil f es) (mail_trans h s t u es [] c.mail (a.mail h));
  room = a.room h l c.room;
  none = λ e. omega (arith, c.none e, aside_owed t u a h l, ap length (a.none h (o ∙ e)));
}
  where
    nil : (f : Entry → ℕ) (xs : List Entry) → sum f (xs ++ []) ≡ sum f xs
    nil f xs = omega (arith, sum_append f xs [])

-- transmissions end with results and waits with replies, after copies: what the handle was owed for them is what it gets
module _ (result_of : Transmission → Entry) (reply_of : Wait → Entry) where
  -- the results and replies to handle h
  abbrev pub entries_to : ℕ → List Transmission → List Wait → List Entry
  entries_to h sent over = map result_of (keep (λ t. eqb t.owner h) sent) ++ map reply_of (keep (owned_by h) over)

  -- all of them delivered, results first
  abbrev pub posted : State → List Transmission → List Wait → State
  posted s sent over = each (post (λ (w : Wait). w.owner) reply_of) (each (post (λ (t : Transmission). t.owner) result_of) s sent) over

  -- they find their room
  pub comes : (h : ℕ) → h < 8 → (s c s' t : State) (sent : List Transmission) (over : List Wait) → Inv s → Aside s c → s'.inboxes ≡ c.inboxes → t.inboxes ≡ (posted s' sent over).inboxes
      → owed_room t h + count (λ x. eqb x.owner h) sent + count (owned_by h) over ≤ owed_room s h → Comes h s t (entries_to h sent over)
  comes h l s c s' t sent over r a e q o =
      let u = each (post (λ (x : Transmission). x.owner) result_of) s' sent in
      let same : length (inbox_of s'.inboxes h) ≡ length (inbox_of c.inboxes h) = ap (λ (is : List (List Entry)). length (inbox_of is h)) e in
      let full = a.room h l (r.room h l) in
      let owed = aside_owed s c a h l in
      let k1 : h < length s'.inboxes = omega (arith, ap length e, a.inboxes, r.inboxes) in
      let f1 : length (inbox_of s'.inboxes h) + count (λ (x : Transmission). eqb x.owner h) sent ≤ 16 = omega arith in
      let n1 = posts_length (λ (x : Transmission). x.owner) result_of h s' sent k1 f1 in
      let k2 : h < length u.inboxes = omega (arith, posts_boxes (λ (x : Transmission). x.owner) result_of s' sent) in
      let f2 : length (inbox_of u.inboxes h) + count (owned_by h) over ≤ 16 = omega arith in
      let n2 = posts_length (λ (w : Wait). w.owner) reply_of h u over k2 f2 in
      let m1 = posts_mail h (λ (x : Transmission). x.owner) result_of s' u sent refl k1 f1 in
      let m2 = posts_mail h (λ (w : Wait). w.owner) reply_of u t over q k2 f2 in
      let size : length (inbox_of t.inboxes h) ≡ length (inbox_of (posted s' sent over).inboxes h) = ap (λ (is : List (List Entry)). length (inbox_of is h)) q in
      record {
        mail = mail_trans h s s' t [] (entries_to h sent over) (mail_as h s c s' [] [] e (λ f. refl) (a.mail h)) (mail_trans h s' u t _ _ m1 m2);
        room = omega arith;
        none = λ z. omega (arith, r.none h l z, ap length (a.none h z));
      }
