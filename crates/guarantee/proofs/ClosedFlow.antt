-- A close ends the transmissions and the waits of its handle under a number without entries, and leaves another's.
-- Assumes nothing.
use Prim.Native.Nat.{ℕ, ◌-◌, ◌≤◌, ◌<◌}
use mathlib.Core.Bool.{Bool, true, false, cond, not}
use mathlib.Core.Path.{◌≡◌, refl, ◌∙◌}
use native.Mathlib.Omega.{arith}
use lib.Dec.{eqb}
use borrow.Author.Tests.{eqb-true}
use Rattle.guarantee.proofs.Brought.{silent_brought}
use Rattle.guarantee.proofs.Carried.{sent_as, awaited_as, always, sending_as, waiting_as, placed}
use Rattle.guarantee.proofs.Cases.{InSilence}
use Rattle.guarantee.proofs.ClosedKept.{pending_closed, sum_closed}
use Rattle.guarantee.proofs.Flow.{Flow, wanting, later}
use Rattle.guarantee.specs.Seen.{is_result, is_reply_entry, is_ok_result}
use Rattle.lists.specs.Last.{last_map}
use Rattle.lists.specs.Sums.{sum, sum_same, sum_zero, sum_keep, sum_keep_le}
use Rattle.lists.specs.Tests.{split, clash}
use Rattle.rules.proofs.Aside.{no_owner_lem}
use Rattle.rules.specs.Call.{finish, done, call_close}
use Rattle.rules.specs.Close.{closed}
use Rattle.rules.specs.Owed.{pending}
use Rattle.rules.specs.State.{State}
use Rattle.transmission.specs.Transmission.{orphaned}
use Rattle.transmission.specs.declared.Transmission.{Transmission}
use Rattle.wait.specs.Wait.{owned_by}
use Rattle.wait.specs.declared.Wait.{Wait}

module _ (h n : ℕ) (l : h < 8) (s : State) (g : ℕ) where
  -- a transmission of h, if another handle is closed, and if h is
  orphaned_same : (q : Transmission → Bool) → eqb g h ≡ false → (t : Transmission) → sent_as q h n (orphaned g t) ≡ sent_as q h n t
  orphaned_same q e t =
      split (eqb t.owner g)
      (λ o. rw (o, eqb-true t.owner g o, e, no_owner_lem h l))
      (λ o. rw o)

  orphaned_none : (q : Transmission → Bool) → eqb g h ≡ true → (t : Transmission) → sent_as q h n (orphaned g t) ≡ 0
  orphaned_none q e t =
      split (eqb t.owner g)
      (λ o. rw (o, no_owner_lem h l))
      (λ o. rw (o, ← eqb-true g h e, o))

  -- a wait of h, so too
  wait_same : (q : Wait → Bool) → eqb g h ≡ false → (w : Wait) → cond (not (owned_by g w)) (awaited_as q h n w) 0 ≡ awaited_as q h n w
  wait_same q e w =
      split (eqb w.owner g)
      (λ o. rw (o, eqb-true w.owner g o, e))
      (λ o. rw o)

  wait_none : (q : Wait → Bool) → eqb g h ≡ true → (w : Wait) → cond (not (owned_by g w)) (awaited_as q h n w) 0 ≡ 0
  wait_none q e w =
      split (eqb w.owner g)
      (λ o. rw o)
      (λ o. rw (o, ← eqb-true g h e, o))

  -- all that are to be sent, and all that wait
  closed_sending : (q : Transmission → Bool) → eqb g h ≡ false → sum (sent_as q h n) (pending (closed s g)) ≡ sum (sent_as q h n) (pending s)
  closed_sending q e = sum_closed (sent_as q h n) s g ∙ sum_same (λ t. sent_as q h n (orphaned g t)) (sent_as q h n) (pending s) (orphaned_same q e)

  closed_nothing : (q : Transmission → Bool) → eqb g h ≡ true → sum (sent_as q h n) (pending (closed s g)) ≡ 0
  closed_nothing q e = sum_closed (sent_as q h n) s g ∙ sum_zero (λ t. sent_as q h n (orphaned g t)) (pending s) (orphaned_none q e)

  closed_waiting : (q : Wait → Bool) → eqb g h ≡ false → sum (awaited_as q h n) (closed s g).waits ≡ sum (awaited_as q h n) s.waits
  closed_waiting q e = sum_keep (awaited_as q h n) (λ w. not (owned_by g w)) s.waits ∙ sum_same (λ w. cond (not (owned_by g w)) (awaited_as q h n w) 0) (awaited_as q h n) s.waits (wait_same q e)

  closed_unwaiting : (q : Wait → Bool) → eqb g h ≡ true → sum (awaited_as q h n) (closed s g).waits ≡ 0
  closed_unwaiting q e = sum_keep (awaited_as q h n) (λ w. not (owned_by g w)) s.waits ∙ sum_zero (λ w. cond (not (owned_by g w)) (awaited_as q h n w) 0) s.waits (wait_none q e)

  -- the flow with a close
  pub close_flow : InSilence s (Flow h n s) (call_close g) (finish done (closed s g))
  unfolding sending_as waiting_as placed
  close_flow z =
      let c = call_close g in
      let o = finish done (closed s g) in
      let zr = silent_brought (is_result n) h s c o z in
      let zp = silent_brought (is_reply_entry n) h s c o z in
      let zo = silent_brought (is_ok_result n) h s c o z in
      let less : (b : ℕ) → sum (awaited_as (later (b - 0)) h n) (closed s g).waits ≤ sum (awaited_as (later b) h n) s.waits =
      λ b. let y : b - 0 ≡ b = omega arith in rw y (sum_keep_le (awaited_as (later b) h n) (λ w. not (owned_by g w)) s.waits) in
      split (eqb g h)
      (λ e. record {
        results_of = omega arith;
        results = λ _. omega (arith, closed_nothing always e);
        all_results = λ _ k. clash e k;
        nearer = λ _ k. clash e k;
        alike = λ q _. omega (arith, closed_nothing q e);
        replies_of = omega arith;
        replies = omega (arith, closed_unwaiting always e);
        wanted_replies = λ _. omega (arith, closed_unwaiting always e, closed_nothing wanting e);
        all_replies = λ k. clash e k;
        time = λ b. omega (arith, less b);
        given = λ q. clash q refl;
        closing = λ _. (closed_nothing always e, closed_unwaiting always e, zr, zp);
      })
      (λ e. record {
        results_of = omega arith;
        results = λ _. omega (arith, closed_sending always e);
        all_results = λ _ _. omega (arith, closed_sending always e);
        nearer = λ _ _. rw (pending_closed s g, last_map (sent_as always h n) (orphaned g) (pending s) (orphaned_same always e)) (omega arith);
        alike = λ q _. omega (arith, closed_sending q e);
        replies_of = omega arith;
        replies = omega (arith, closed_waiting always e);
        wanted_replies = λ _. omega (arith, closed_waiting always e, closed_sending wanting e);
        all_replies = λ _. omega (arith, closed_waiting always e);
        time = λ b. omega (arith, less b);
        given = λ q. clash q refl;
        closing = λ k. clash k e;
      })
