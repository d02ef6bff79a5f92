-- What came to an open handle since its last open is what its receives gave and then what its inbox holds.
-- Assumes nothing.
use Prim.Native.Nat.{ℕ, ◌<◌}
use mathlib.Core.Bool.{Bool, true, false}
use mathlib.Core.List.{List, [], ◌∷◌, ◌++◌, append_assoc, append-nil}
use mathlib.Core.Logic.{◌≢◌}
use mathlib.Core.Path.{◌≡◌, refl, ap, ◌∙◌, sym}
use native.Mathlib.Omega.{arith}
use lib.Dec.{eqb}
use lib.ListN.{set}
use lib.Seq.{get_or-set_same, get_or-set_other}
use borrow.Author.Tests.{eqb-true, eqb-false}
use Rattle.entry.specs.declared.Entry.{Entry}
use Rattle.guarantee.proofs.Brought.{ended_came}
use Rattle.guarantee.proofs.ByCases.{by_cases}
use Rattle.guarantee.proofs.Cases.{Cases, Silent, InSilence, step_from}
use Rattle.guarantee.proofs.Ends.{Ends}
use Rattle.guarantee.proofs.Invariant.{Inv}
use Rattle.guarantee.proofs.Keeps.{keeps}
use Rattle.guarantee.specs.Seen.{came, gave, opens, opens_to, done_by, is_close, since_open, joined}
use Rattle.handle.specs.declared.Handle.{Handle}
use Rattle.inbox.specs.Inboxes.{inbox_of}
use Rattle.lists.specs.Elements.{empty_list}
use Rattle.lists.specs.Sums.{any}
use Rattle.lists.specs.Tests.{split, clash, neither}
use Rattle.rules.proofs.SameModes.{same_open}
use Rattle.rules.specs.Call.{Call, Outcome, finish, done, opened, received, call_open, call_close, call_receive}
use Rattle.rules.specs.Close.{closed}
use Rattle.rules.specs.Handles.{is_open}
use Rattle.rules.specs.Open.{opened_handle}
use Rattle.rules.specs.State.{State, closed_handle, with_handles, with_inboxes}
use Rattle.rules.specs.Step.{after, step, step_of, run}

-- one call and handle h
pub record InOrder (h : ℕ) (s : State) (c : Call) (o : Outcome) : Type 0 where
  -- what was there and what came is what was given and what is there
  pub order : done_by (is_close h c) o.answer ≡ false → inbox_of s.inboxes h ++ came h (step_from s c o) ≡ gave h (step_from s c o) ++ inbox_of o.state.inboxes h
  -- an open handle that the call did not open was open, and was not closed
  pub was : opens_to h o.answer ≡ false → is_open o.state h ≡ true → (is_open s h ≡ true) × (done_by (is_close h c) o.answer ≡ false)
  -- a handle that it opened has an empty inbox
  pub new : opens_to h o.answer ≡ true → inbox_of o.state.inboxes h ≡ []

module _ (h : ℕ) (l : h < 8) (s : State) (r : Inv s) where
  -- the inbox as it was
  same_order : (c : Call) (o : Outcome) → Silent s c o → inbox_of o.state.inboxes h ≡ inbox_of s.inboxes h → gave h (step_from s c o) ≡ []
      → is_open o.state h ≡ is_open s h → done_by (is_close h c) o.answer ≡ false → opens_to h o.answer ≡ false → InOrder h s c o
  same_order c o z i g e k n = record {
    order = λ _. rw (z h, g, i) (append-nil (inbox_of s.inboxes h));
    was = λ _ a. (sym e ∙ a, k);
    new = λ a. clash a n;
  }

  -- open, close, receive, and the calls that end transmissions and waits
  opened_order : (i : ℕ) (p : Bool) → is_open s i ≡ false → InSilence s (InOrder h s) (call_open p) (finish (opened i) (with_handles s (set s.handles i (opened_handle p))))
  opened_order i p c z = record {
    order = λ _. rw (z h) (append-nil (inbox_of s.inboxes h));
    was = λ n a. (ap (λ (x : Handle). x.is_open) (sym (get_or-set_other s.handles i h (opened_handle p) closed_handle (λ e. eqb-false i h n (sym e)))) ∙ a, refl);
    new = λ n. let e = eqb-true i h n in empty_list (inbox_of s.inboxes h) (omega (arith, r.none h l (rw e at c)));
  }

  closed_order : (g : ℕ) → g < 8 → InSilence s (InOrder h s) (call_close g) (finish done (closed s g))
  closed_order g k z =
      split (eqb g h)
      (λ e. record {
        order = λ n. clash e n;
        was = λ _ a. clash a (rw (← eqb-true g h e) (ap (λ (x : Handle). x.is_open) (get_or-set_same s.handles g closed_handle closed_handle (omega (arith, r.handles)))));
        new = λ n. clash n refl;
      })
      (λ e.
      let d : h ≢ g = λ p. eqb-false g h e (sym p) in
      same_order _ _ z (get_or-set_other s.inboxes g h [] [] d) refl (ap (λ (x : Handle). x.is_open) (get_or-set_other s.handles g h closed_handle closed_handle d)) e refl)

  received_order : (g : ℕ) (x : Entry) (es : List Entry) → g < 8 → inbox_of s.inboxes g ≡ x ∷ es
      → InSilence s (InOrder h s) (call_receive g) (finish (received x) (with_inboxes s (set s.inboxes g es)))
  received_order g x es k i z =
      split (eqb g h)
      (λ e.
      let p = eqb-true g h e in
      let a : inbox_of (set s.inboxes g es) h ≡ es = rw (← p) (get_or-set_same s.inboxes g es [] (omega (arith, r.inboxes))) in
      let b : inbox_of s.inboxes h ≡ x ∷ es = rw (← p) i in
      record {
        order = λ _. rw (z h, e, a, b) (append-nil (x ∷ es));
        was = λ _ q. (q, refl);
        new = λ n. clash n refl;
      })
      (λ e. same_order _ _ z (get_or-set_other s.inboxes g h es [] (λ p. eqb-false g h e (sym p))) (rw e) refl refl refl)

  ended_order : (c : Call) (t : State) → Ends s c t → InOrder h s c (finish done t)
  ended_order c t e = record {
    order = λ _. ap (λ (m : List Entry). inbox_of s.inboxes h ++ m) (ended_came s c t e h l) ∙ sym (e.comes h l).mail.grown;
    was = λ _ a. (sym (same_open s t e.modes h) ∙ a, e.closes h);
    new = λ n. clash n refl;
  }

  -- every call
  order_cases : Cases s (InOrder h s)
  order_cases = record {
    when_quiet = λ c a t q z. same_order c _ z refl (q.no_gift h) (q.still h) (q.no_close h) (q.no_open h);
    when_opened = λ i p _ c z. opened_order i p c z;
    when_closed = λ g k _ z. closed_order g k z;
    when_queued = λ g x _ _ _ _ _ z. same_order _ _ z refl refl refl refl refl;
    when_received = λ g x es k _ i z. received_order g x es k i z;
    when_started = λ x q _ _ z. same_order _ _ z refl refl refl refl refl;
    when_ended = λ c t e. ended_order c t e;
  }

  in_order_lem : (c : Call) → InOrder h s c (step s c)
  in_order_lem c = by_cases s r (InOrder h s) order_cases c

-- ---- over a history
chain : {A : Type 0} (a b c g i k z : List A) → a ++ b ≡ g ++ i → i ++ c ≡ k ++ z → a ++ (b ++ c) ≡ (g ++ k) ++ z
chain a b c g i k z p q = sym (append_assoc a b c) ∙ rw (p, append_assoc g i c, q, append_assoc g k z)

module _ (h : ℕ) (l : h < 8) where
  -- a handle that is open at the end and was not opened was open all the while
  pub no_open_lem : (s : State) (cs : List Call) → Inv s → any (opens h) (run s cs) ≡ false → is_open (after s cs) h ≡ true
      → (is_open s h ≡ true) × (inbox_of s.inboxes h ++ joined (came h) (run s cs) ≡ joined (gave h) (run s cs) ++ inbox_of (after s cs).inboxes h)
  no_open_lem s [] r n o = (o, append-nil (inbox_of s.inboxes h))
  no_open_lem s (c ∷ cs) r n o =
      let t = (step s c).state in
      let m = neither (opens_to h (step s c).answer) (any (opens h) (run t cs)) n in
      let ih = no_open_lem t cs (keeps s c r) m.1 o in
      let f = in_order_lem h l s r c in
      let w = f.was m.0 ih.0 in
      let box : State → List Entry = λ u. inbox_of u.inboxes h in
      (w.0, chain (box s) (came h (step_of s c)) (joined (came h) (run t cs)) (gave h (step_of s c)) (box t) (joined (gave h) (run t cs)) (box (after t cs)) (f.order w.1) ih.1)

  -- from its last open on
  pub since_open_lem : (s : State) (cs : List Call) → Inv s → any (opens h) (run s cs) ≡ true → is_open (after s cs) h ≡ true
      → joined (came h) (since_open h (run s cs)) ≡ joined (gave h) (since_open h (run s cs)) ++ inbox_of (after s cs).inboxes h
  since_open_lem s [] r n o = clash n refl
  since_open_lem s (c ∷ cs) r n o =
      let t = (step s c).state in
      split (any (opens h) (run t cs))
      (λ e. rw e (since_open_lem t cs (keeps s c r) e o))
      (λ e. split (opens_to h (step s c).answer)
      (λ q.
      let a = no_open_lem t cs (keeps s c r) e o in
      rw (e, q) (rw ((in_order_lem h l s r c).new q) at a.1))
      (λ q. clash n (rw (q, e))))
