-- What comes to one handle: entries put at the end of its inbox, copies among them (document 01, "The adapter's parts").
-- Assumes nothing.
use Prim.Native.Nat.{ℕ, ◌+◌, ◌≤◌, ◌<◌}
use mathlib.Core.Bool.{Bool, cond, ◌&&◌}
use mathlib.Core.List.{List, [], ◌∷◌, ◌++◌, map, append_assoc, append-nil}
use mathlib.Core.Path.{◌≡◌, refl, sym, ap, ◌∙◌}
use native.Mathlib.Omega.{arith}
use lib.Dec.{eqb, ltb}
use lib.ListN.{length, length-append, length-map, length-set}
use lib.Seq.{get_or-set_same, get_or-set_other, set_out}
use borrow.Author.Tests.{eqb-true, eqb-false, ltb-true, ltb-false, lt-ltb}
use Rattle.entry.specs.declared.Entry.{Entry}
use Rattle.inbox.specs.Inboxes.{inbox_of, delivered}
use Rattle.lists.specs.Sums.{sum, sum_append, count, keep, length_keep_count}
use Rattle.lists.specs.Tests.{split}
use Rattle.lists.specs.Vector.{put}
use Rattle.rules.specs.Deliver.{deliver, each}
use Rattle.rules.specs.State.{State, with_inboxes}

-- a weight of entries that counts no copies: they bear number 0
abbrev pub Numbered : (Entry → ℕ) → Type 0
Numbered f = (e : Entry) → e.sequence ≡ 0 → f e ≡ 0

-- from s to t the inbox of handle h has more at its end: these entries, and copies
pub record Mail (h : ℕ) (s t : State) (es : List Entry) : Type 0 where
  pub more : List Entry
  pub grown : inbox_of t.inboxes h ≡ inbox_of s.inboxes h ++ more
  pub counted : (f : Entry → ℕ) → Numbered f → sum f more ≡ sum f es

-- an entry to handle g comes to h if g is h, is a handle, and its inbox has room
abbrev pub arrives : List (List Entry) → ℕ → ℕ → Bool
arrives is g h = eqb g h && (ltb h (length is) && ltb (length (inbox_of is h)) 16)

delivered_same : (is : List (List Entry)) (h : ℕ) (e : Entry) → inbox_of (delivered is h e) h ≡ inbox_of is h ++ cond (ltb h (length is) && ltb (length (inbox_of is h)) 16) (e ∷ []) []
delivered_same is h e =
    split (ltb h (length is))
    (λ a. rw (a, get_or-set_same is h (put 16 (inbox_of is h) e) [] (ltb-true h (length is) a))
    (split (ltb (length (inbox_of is h)) 16) (λ b. rw b) (λ b. rw b (sym (append-nil (inbox_of is h))))))
    (λ a. rw (a, set_out is h (put 16 (inbox_of is h) e) (ltb-false h (length is) a)) (sym (append-nil (inbox_of is h))))

-- what a delivery to g does to the inbox of h
pub delivered_inbox : (is : List (List Entry)) (g : ℕ) (e : Entry) (h : ℕ) → inbox_of (delivered is g e) h ≡ inbox_of is h ++ cond (arrives is g h) (e ∷ []) []
delivered_inbox is g e h =
    split (eqb g h)
    (λ q. rw (q, eqb-true g h q) (delivered_same is h e))
    (λ q. rw (q, get_or-set_other is g h (put 16 (inbox_of is g) e) [] (λ p. eqb-false g h q (sym p))) (sym (append-nil (inbox_of is h))))

-- entries to several handles, one after the other: only inboxes change
module _ {A : Type 0} (to : A → ℕ) (entry : A → Entry) where
  -- one of them
  abbrev pub post : State → A → State
  post s x = deliver s (to x) (entry x)

  pub posts_only : (s : State) (xs : List A) → each post s xs ≡ with_inboxes s (each post s xs).inboxes
  posts_only s [] = refl
  posts_only s (x ∷ xs) = posts_only (post s x) xs

  pub posts_boxes : (s : State) (xs : List A) → length (each post s xs).inboxes ≡ length s.inboxes
  posts_boxes s [] = refl
  posts_boxes s (x ∷ xs) = posts_boxes (post s x) xs ∙ length-set s.inboxes (to x) (put 16 (inbox_of s.inboxes (to x)) (entry x))

  -- those to h come to its inbox in their order, if it has room for them
  pub posts_inbox : (h : ℕ) (s : State) (xs : List A) → h < length s.inboxes → length (inbox_of s.inboxes h) + count (λ x. eqb (to x) h) xs ≤ 16
      → inbox_of (each post s xs).inboxes h ≡ inbox_of s.inboxes h ++ map entry (keep (λ x. eqb (to x) h) xs)
  posts_inbox h s [] l r = sym (append-nil (inbox_of s.inboxes h))
  posts_inbox h s (x ∷ xs) l r =
      let d = delivered_inbox s.inboxes (to x) (entry x) h in
      let m : h < length (post s x).inboxes = rw length-set l in
      split (eqb (to x) h)
      (λ e.
      let z = rw e at r in
      let q : inbox_of (post s x).inboxes h ≡ inbox_of s.inboxes h ++ (entry x ∷ []) = rw (e, lt-ltb h (length s.inboxes) l, lt-ltb (length (inbox_of s.inboxes h)) 16 (omega arith)) at d in
      rw e (posts_inbox h (post s x) xs m (rw (q, length-append) (omega arith)) ∙ rw (q, append_assoc)))
      (λ e.
      let z = rw e at r in
      let q : inbox_of (post s x).inboxes h ≡ inbox_of s.inboxes h ++ [] = rw e at d in
      rw e (posts_inbox h (post s x) xs m (rw (q, append-nil) (omega arith)) ∙ rw (q, append-nil)))

  -- as many as there are
  pub posts_length : (h : ℕ) (s : State) (xs : List A) → h < length s.inboxes → length (inbox_of s.inboxes h) + count (λ x. eqb (to x) h) xs ≤ 16
      → length (inbox_of (each post s xs).inboxes h) ≡ length (inbox_of s.inboxes h) + count (λ x. eqb (to x) h) xs
  posts_length h s xs l r =
      let k = keep (λ x. eqb (to x) h) xs in
      rw (posts_inbox h s xs l r) (omega (arith, length-append (inbox_of s.inboxes h) (map entry k), length-map k entry, length_keep_count (λ x. eqb (to x) h) xs))

module _ (h : ℕ) where
  -- nothing came
  pub mail_same : (s t : State) → inbox_of t.inboxes h ≡ inbox_of s.inboxes h → Mail h s t []
  mail_same s t e = record { more = []; grown = e ∙ sym (append-nil (inbox_of s.inboxes h)); counted = λ f z. refl }

  -- one after the other
  pub mail_trans : (s t u : State) (a b : List Entry) → Mail h s t a → Mail h t u b → Mail h s u (a ++ b)
  mail_trans s t u a b x y = record {
    more = x.more ++ y.more;
    grown = y.grown ∙ ap (λ (l : List Entry). l ++ y.more) x.grown ∙ append_assoc (inbox_of s.inboxes h) x.more y.more;
    counted = λ f z. omega (arith, sum_append f x.more y.more, sum_append f a b, x.counted f z, y.counted f z);
  }

  -- the same entries, as another state with these inboxes and another list show them
  pub mail_as : (s t u : State) (a b : List Entry) → u.inboxes ≡ t.inboxes → ((f : Entry → ℕ) → sum f a ≡ sum f b) → Mail h s t a → Mail h s u b
  mail_as s t u a b e same x = record { more = x.more; grown = rw e x.grown; counted = λ f z. x.counted f z ∙ same f }

  -- a copy, whether it finds room or not
  pub copy_mail : (s : State) (g : ℕ) (e : Entry) → e.sequence ≡ 0 → Mail h s (deliver s g e) []
  copy_mail s g e n = record {
    more = cond (arrives s.inboxes g h) (e ∷ []) [];
    grown = delivered_inbox s.inboxes g e h;
    counted = λ f z. split (arrives s.inboxes g h) (λ q. rw q (omega (arith, z e n))) (λ q. rw q);
  }

  -- entries with room for them
  pub posts_mail : {A : Type 0} (to : A → ℕ) (entry : A → Entry) (s t : State) (xs : List A) → t.inboxes ≡ (each (post to entry) s xs).inboxes
      → h < length s.inboxes → length (inbox_of s.inboxes h) + count (λ x. eqb (to x) h) xs ≤ 16 → Mail h s t (map entry (keep (λ x. eqb (to x) h) xs))
  posts_mail to entry s t xs e l r = record {
    more = map entry (keep (λ x. eqb (to x) h) xs);
    grown = rw e (posts_inbox to entry h s xs l r);
    counted = λ f z. refl;
  }
