-- What becomes of a transmit that is accepted and queued, over any calls after it.
-- Assumes nothing.
use Prim.Native.Nat.{ℕ, ◌-◌, ◌≤◌, ◌<◌}
use mathlib.Core.Bool.{Bool, true}
use mathlib.Core.List.{List, [], ◌∷◌, ◌++◌}
use mathlib.Core.Logic.{◌≢◌}
use mathlib.Core.Path.{◌≡◌, ap, ap₂, ◌∙◌, sym, subst}
use native.Mathlib.Omega.{arith}
use lib.Dec.{eqb, ltb}
use borrow.Author.Tests.{ltb-true, ltb-false, eqb-true, eqb-false}
use Rattle.entry.specs.declared.Entry.{Entry}
use Rattle.guarantee.proofs.Began.{Began}
use Rattle.guarantee.proofs.Brought.{brought, ok_less}
use Rattle.guarantee.proofs.Carried.{sending, waiting, sending_less, waiting_less}
use Rattle.guarantee.proofs.Flow.{wanting, unwanting, longer, later}
use Rattle.guarantee.proofs.Flows.{flow}
use Rattle.guarantee.proofs.Invariant.{Inv}
use Rattle.guarantee.proofs.Keeps.{keeps}
use Rattle.guarantee.proofs.Parts.{parted, own_parted, own_after}
use Rattle.guarantee.proofs.Reached.{kept}
use Rattle.guarantee.proofs.Totals.{nobody, own_results, all_results_lem, placed_most, own_replies, all_replies_lem, closed_results, closed_replies, kept_results, kept_alike, kept_waits, kept_oks}
use Rattle.guarantee.specs.Claim.{enough_results, Fate}
use Rattle.guarantee.specs.Seen.{came, closes, gives, gives_to, done_by, is_close, milliseconds, is_result, is_reply_entry, is_ok_result}
use Rattle.guarantee.specs.Seen.{came_to, came_to_any, results, ok_results, replies, bus_results, closings, elapsed, own}
use Rattle.lists.specs.Spread.{upto_one}
use Rattle.lists.specs.Sums.{sum_append, sum-le, count}
use Rattle.lists.specs.Tests.{bit, split, none_bit}
use Rattle.rules.specs.Call.{Call, Request}
use Rattle.rules.specs.Deliver.{handle_numbers}
use Rattle.rules.specs.State.{State}
use Rattle.rules.specs.Step.{after, Step, step, step_of, run}
use Rattle.rules.specs.Transmit.{wants_reply, timeout_of}

-- what comes to all handles is what comes to one, if nothing comes to the others
one_handle : (p : Entry → Bool) (h : ℕ) (xs : List Step) → h < 8 → ((g : ℕ) → g < 8 → g ≢ h → came_to p g xs ≡ 0) → came_to_any p xs ≡ came_to p h xs
one_handle p h xs l e = omega (arith, upto_one (λ g. came_to p g xs) h 8 l e)

-- or nothing at all
pub no_handle : (p : Entry → Bool) (xs : List Step) → ((g : ℕ) → g < 8 → came_to p g xs ≡ 0) → came_to_any p xs ≡ 0
no_handle p xs e = omega (arith, upto_one (λ g. came_to p g xs) 0 8 (omega arith) (λ g l _. e g l), e 0 (omega arith))

-- what comes with one step of a history comes with the history
one_step : (p : Entry → Bool) (xs : List Step) (y : Step) (ys : List Step) → came_to_any p (y ∷ []) ≤ came_to_any p (xs ++ y ∷ ys)
one_step p xs y ys = sum-le (λ g. came_to p g (y ∷ [])) (λ g. came_to p g (xs ++ y ∷ ys)) handle_numbers (λ g. omega (arith, sum_append (λ z. count p (came g z)) xs (y ∷ ys)))

module _ (h : ℕ) (x : Request) (n : ℕ) (s : State) (r : Inv s) (b : Began h x n s) (cs : List Call) where
  -- results and replies under the number come to its handle alone
  others_results : (g : ℕ) → g < 8 → g ≢ h → came_to (is_result n) g (own n (run s cs)) ≡ 0
  others_results g l e = omega (arith, own_results g n l b.some s cs r, b.others g e)

  others_replies : (g : ℕ) → g < 8 → g ≢ h → came_to (is_reply_entry n) g (own n (run s cs)) ≡ 0
  others_replies g l e = omega (arith, own_replies g n l b.some s cs r, b.quiet g, b.others g e, sending_less wanting g n s)

  results_here : results n (own n (run s cs)) ≡ came_to (is_result n) h (own n (run s cs))
  results_here = one_handle (is_result n) h (own n (run s cs)) b.home others_results

  replies_here : replies n (own n (run s cs)) ≡ came_to (is_reply_entry n) h (own n (run s cs))
  replies_here = one_handle (is_reply_entry n) h (own n (run s cs)) b.home others_replies

  -- to another handle nothing comes
  nothing_else : (g : ℕ) → g ≢ h → (came_to (is_result n) g (own n (run s cs)) ≡ 0) × (came_to (is_reply_entry n) g (own n (run s cs)) ≡ 0)
  nothing_else g e =
      split (ltb g 8)
      (λ q. (others_results g (ltb-true g 8 q) e, others_replies g (ltb-true g 8 q) e))
      (λ q. (nobody (is_result n) g n (ltb-false g 8 q) s cs r, nobody (is_reply_entry n) g n (ltb-false g 8 q) s cs r))

  -- at most one result, and one after nineteen bus results
  result_once : results n (own n (run s cs)) ≤ 1
  result_once = omega (arith, results_here, own_results h n b.home b.some s cs r, b.one)

  result_comes : closings h (run s cs) ≡ 0 → enough_results ≤ bus_results (run s cs) → results n (own n (run s cs)) ≡ 1
  result_comes z k =
      let p = placed_most h n b.home b.some s r in
      omega (arith, results_here, b.one, all_results_lem h n b.home b.some s cs r z (omega arith))

  -- at most one reply
  reply_once : replies n (own n (run s cs)) ≤ 1
  reply_once = omega (arith, replies_here, own_replies h n b.home b.some s cs r, b.quiet h, b.one, sending_less wanting h n s)

  -- ---- the state before a step that the number is not given up to
  module _ (ds : List Call) (z : count (gives n) (run s ds) ≡ 0) where
    -- nothing of another handle carries the number
    still_others : (g : ℕ) → g < 8 → g ≢ h → (sending g n (after s ds) ≡ 0) × (waiting g n (after s ds) ≡ 0)
    still_others g l e =
        let a = kept_results g n l b.some s ds r z in
        let w = kept_waits g n l b.some s ds r in
        let o = kept_oks g n l b.some s ds in
        omega (arith, b.others g e, b.quiet g)

    -- so no result with the OK bit comes to another
    others_ok : (c : Call) (g : ℕ) → g < 8 → g ≢ h → came_to (is_ok_result n) g (step_of (after s ds) c ∷ []) ≡ 0
    unfolding brought
    others_ok c g l e =
        let f = flow g n l b.some (after s ds) (kept s ds r) c in
        omega (arith, f.results_of, ok_less n g (after s ds) c (step (after s ds) c), (still_others g l e).0)

  -- results with the OK bit, over calls that are not given the number
  past_oks : (ds : List Call) → count (gives n) (run s ds) ≡ 0 → ok_results n (run s ds) ≡ came_to (is_ok_result n) h (run s ds)
  past_oks ds z = one_handle (is_ok_result n) h (run s ds) b.home (λ g l e.
      let a = kept_results g n l b.some s ds r z in
      let o = kept_oks g n l b.some s ds in
      omega (arith, b.others g e))

  -- a reply needs a wait, and that a result with the OK bit
  reply_after : (ds : List Call) (c : Call) → count (gives n) (run s ds) ≡ 0 → 1 ≤ replies n (step_of (after s ds) c ∷ []) → 1 ≤ ok_results n (run s ds)
  unfolding brought
  reply_after ds c z k =
      let w : (g : ℕ) → g < 8 → came_to (is_reply_entry n) g (step_of (after s ds) c ∷ []) ≤ waiting g n (after s ds) =
      λ g l. omega (arith, (flow g n l b.some (after s ds) (kept s ds r) c).replies_of) in
      let o = one_handle (is_reply_entry n) h (step_of (after s ds) c ∷ []) b.home (λ g l e. omega (arith, w g l, (still_others ds z g l e).1)) in
      omega (arith, w h b.home, past_oks ds z, kept_waits h n b.home b.some s ds r, b.quiet h)

  -- a transmit that asked for no reply has none
  reply_asked : (past : List Step) (y : Step) (rest : List Step) → own n (run s cs) ≡ past ++ y ∷ rest → 1 ≤ replies n (y ∷ []) → wants_reply x ≡ true
  reply_asked past y rest e k =
      split (wants_reply x)
      (λ w. w)
      (λ w. absurd (omega (
        arith,
        one_step (is_reply_entry n) past y rest,
        ap (replies n) e,
        replies_here,
        own_replies h n b.home b.some s cs r,
        b.quiet h,
        b.unasked w,
      )))

  -- ---- a close of the handle at the call c: nothing comes with it, and nothing afterwards
  module _ (ds : List Call) (c : Call) (es : List Call) (z : count (gives n) (run s ds) ≡ 0) (k : done_by (is_close h c) (step (after s ds) c).answer ≡ true) where
    no_result : (g : ℕ) → g < 8 → came_to (is_result n) g (own n (run (after s ds) (c ∷ es))) ≡ 0
    no_result g l =
        split (eqb g h)
        (λ q. subst (λ (y : ℕ). came_to (is_result n) y (own n (run (after s ds) (c ∷ es))) ≡ 0) (sym (eqb-true g h q)) (closed_results h n b.home b.some (after s ds) c es (kept s ds r) k))
        (λ q. omega (arith, own_results g n l b.some (after s ds) (c ∷ es) (kept s ds r), (still_others ds z g l (eqb-false g h q)).0))

    no_reply : (g : ℕ) → g < 8 → came_to (is_reply_entry n) g (own n (run (after s ds) (c ∷ es))) ≡ 0
    no_reply g l =
        split (eqb g h)
        (λ q. subst (λ (y : ℕ). came_to (is_reply_entry n) y (own n (run (after s ds) (c ∷ es))) ≡ 0) (sym (eqb-true g h q)) (closed_replies h n b.home b.some (after s ds) c es (kept s ds r) k))
        (λ q. let o = still_others ds z g l (eqb-false g h q) in omega (arith, own_replies g n l b.some (after s ds) (c ∷ es) (kept s ds r), o.0, o.1, sending_less wanting g n (after s ds)))

  -- ---- a result with the OK bit at the call c, and time enough after it
  module _ (ds : List Call) (c : Call) (es : List Call) where
    -- the states before and after that call
    abbrev before : State
    before = after s ds

    abbrev then : State
    then = (step before c).state

    -- then there is one reply
    reply_comes : count (gives n) (run s ds) ≡ 0 → 1 ≤ ok_results n (step_of before c ∷ []) → wants_reply x ≡ true
        → closings h (run s ds ++ step_of before c ∷ run then es) ≡ 0 → timeout_of x ≤ elapsed (run then es) → came_to (is_reply_entry n) h (own n (run s ds ++ step_of before c ∷ run then es)) ≡ 1
    unfolding brought
    reply_comes z o w k t =
        let l = b.home in
        let d = b.some in
        let v = kept s ds r in
        let f = flow h n l d before v c in
        let ok = one_handle (is_ok_result n) h (step_of before c ∷ []) l (others_ok ds z c) in
        let less = ok_less n h before c (step before c) in
        let kr = kept_results h n l d s ds r z in
        let kw = kept_waits h n l d s ds r in
        let ko = kept_oks h n l d s ds in
        let ku = kept_alike h n l d unwanting s ds r z in
        let kt = kept_alike h n l d (longer (timeout_of x)) s ds r z in
        let cl = sum_append (λ y. bit (closes h y)) (run s ds) (step_of before c ∷ run then es) in
        let kc = none_bit (done_by (is_close h c) (step before c).answer) (omega arith) in
        rw (own_after n (run s ds) (step_of before c ∷ run then es) z)
        (split (gives_to n (step before c).answer)
        (λ e. absurd (omega (arith, (f.given e).0, f.results_of)))
        (λ e. rw e (
        let wl = waiting_less (later (timeout_of x)) h n before in
        let fr = f.results e in
        let fo = f.results_of in
        let fp = f.replies_of in
        let fq = f.replies in
        let fa = f.all_replies kc in
        let bo = b.one in
        let bq = b.quiet h in
        let al = all_replies_lem h n l d then es (timeout_of x - milliseconds c) (keeps before c v) (omega arith) (omega (arith, f.time (timeout_of x), b.timeout)) (omega arith) (omega arith) in
        omega (arith, b.asked w, sum_append (λ y. count (is_reply_entry n) (came h y)) (run s ds) (step_of before c ∷ own n (run then es))))))

  -- ---- all of it, each clause from a law on numbers, so that a weaker clause would be proved too and only a broken history refuses it
  pub fate : Fate h x n (run s cs)
  fate = record {
    one_result_at_most = omega (arith, result_once);
    one_result = λ z k. omega (arith, result_comes z k);
    one_reply_at_most = omega (arith, reply_once);
    reply_after_result = λ past y rest e k.
        let p = own_parted n s cs past y rest e in
        (cc (reply_asked past y rest e k), omega (arith, ap (ok_results n) p.ran, reply_after p.before p.call p.ungiven (rw p.here at k)));
    one_reply = λ past y rest e g o w k t.
        let p = parted s cs past y rest e in
        let whole : past ++ y ∷ rest ≡ run s p.before ++ step_of (after s p.before) p.call ∷ run (step (after s p.before) p.call).state p.later =
        ap₂ ◌++◌ p.ran (ap₂ ◌∷◌ p.here p.runs) in
        omega (
          arith,
          replies_here,
          ap (λ (ys : List Step). came_to (is_reply_entry n) h (own n ys)) (e ∙ whole),
          reply_comes p.before p.call p.later (rw p.ran at g) (rw p.here at o) w (sym (ap (closings h) (e ∙ whole)) ∙ k) (rw p.runs at t),
        );
    own_handle = λ g e. (omega (arith, (nothing_else g e).0), omega (arith, (nothing_else g e).1));
    never_after_close = λ past y rest e k.
        let p = own_parted n s cs past y rest e in
        let c = rw p.here at k in
        let u = own n (run (after s p.before) (p.call ∷ p.later)) in
        let a = no_result p.before p.call p.later p.ungiven c in
        let b = no_reply p.before p.call p.later p.ungiven c in
        (omega (arith, ap (results n) p.runs, no_handle (is_result n) u a), omega (arith, ap (replies n) p.runs, no_handle (is_reply_entry n) u b));
  }
