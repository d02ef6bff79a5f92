-- The entries of a number that come to a handle with a call: results of the transmissions that end, replies of the waits that end.
-- Assumes nothing.
use Prim.Native.Nat.{ℕ, ◌+◌, ◌-◌, ◌≤◌, ◌<◌}
use mathlib.Core.Bool.{Bool, true, false, cond, ◌&&◌}
use mathlib.Core.List.{List, map}
use mathlib.Core.Logic.{◌≢◌}
use mathlib.Core.Path.{◌≡◌, ap, ◌∙◌, sym}
use native.Mathlib.Omega.{arith}
use lib.Dec.{eqb}
use lib.ListN.{length}
use lib.Seq.{drop-append_seam}
use borrow.Author.Tests.{ne_eqb}
use Rattle.constants.specs.Kernel.{CEC-TX-STATUS-OK}
use Rattle.entry.specs.declared.Entry.{Entry}
use Rattle.guarantee.proofs.Carried.{sent_as, awaited_as, always}
use Rattle.guarantee.proofs.Cases.{step_from, Silent}
use Rattle.guarantee.proofs.Comes.{entries_to}
use Rattle.guarantee.proofs.Ends.{Ends}
use Rattle.guarantee.specs.Seen.{came, is_result, is_reply_entry, is_ok_result}
use Rattle.inbox.specs.Inboxes.{inbox_of}
use Rattle.lists.specs.Sums.{sum, sum_append, sum-map, sum_keep, sum_same, sum_zero, sum-le, count, keep}
use Rattle.lists.specs.Tests.{bit, split, and-false, and-true, and_cond}
use Rattle.rules.proofs.Mail.{Numbered}
use Rattle.rules.specs.Call.{Call, Outcome, finish, done}
use Rattle.rules.specs.Handles.{has_bit}
use Rattle.rules.specs.State.{State}
use Rattle.transmission.specs.declared.Transmission.{Transmission}
use Rattle.wait.specs.Wait.{owned_by}
use Rattle.wait.specs.declared.Wait.{Wait}

-- how many entries of a kind come to handle h
unfoldable pub brought : (Entry → Bool) → ℕ → State → Call → Outcome → ℕ
brought p h s c o = count p (came h (step_from s c o))

-- where nothing comes, none
pub silent_brought : (p : Entry → Bool) (h : ℕ) (s : State) (c : Call) (o : Outcome) → Silent s c o → brought p h s c o ≡ 0
unfolding brought
silent_brought p h s c o z = ap (count p) (z h)

-- a result with the OK bit is a result
pub ok_less : (n h : ℕ) (s : State) (c : Call) (o : Outcome) → brought (is_ok_result n) h s c o ≤ brought (is_result n) h s c o
unfolding brought
ok_less n h s c o = sum-le (λ e. bit (is_ok_result n e)) (λ e. bit (is_result n e)) (came h (step_from s c o)) (λ e. less (is_result n e) (has_bit CEC-TX-STATUS-OK e.tx_status))
  where
    less : (a b : Bool) → bit (a && b) ≤ bit a
    less true true = omega arith
    less true false = omega arith
    less false b = omega arith

-- copies bear number 0, and are of no kind of entry under another number
pub other_number : (n : ℕ) (e : Entry) → n ≢ 0 → e.sequence ≡ 0 → eqb e.sequence n ≡ false
other_number n e d z = rw z (ne_eqb 0 n (λ (p : 0 ≡ n). d (sym p)))

module _ (n : ℕ) (d : n ≢ 0) where
  result_numbered : Numbered (λ e. bit (is_result n e))
  result_numbered e z = rw (other_number n e d z)

  reply_numbered : Numbered (λ e. bit (is_reply_entry n e))
  reply_numbered e z = rw (other_number n e d z)

  ok_numbered : Numbered (λ e. bit (is_ok_result n e))
  ok_numbered e z = rw (other_number n e d z)

module _ (s : State) (c : Call) (t : State) (e : Ends s c t) (h : ℕ) (l : h < 8) where
  -- what comes is what is new in the inbox
  pub ended_came : came h (step_from s c (finish done t)) ≡ (e.comes h l).mail.more
  ended_came =
      let z : length (inbox_of s.inboxes h) - 0 ≡ length (inbox_of s.inboxes h) = omega arith in
      rw (e.closes h, (e.comes h l).mail.grown, z) (drop-append_seam (inbox_of s.inboxes h) (e.comes h l).mail.more)

  -- a weight over the results and replies to h
  entries_sum : (f : Entry → ℕ) → sum f (entries_to e.by.result_of e.by.reply_of h e.sent e.over)
      ≡ sum (λ x. cond (eqb x.owner h) (f (e.by.result_of x)) 0) e.sent + sum (λ w. cond (owned_by h w) (f (e.by.reply_of w)) 0) e.over
  entries_sum f =
      let a = keep (λ (x : Transmission). eqb x.owner h) e.sent in
      let b = keep (owned_by h) e.over in
      omega (
        arith,
        sum_append f (map e.by.result_of a) (map e.by.reply_of b),
        sum-map f e.by.result_of a,
        sum-map f e.by.reply_of b,
        sum_keep (λ x. f (e.by.result_of x)) (λ x. eqb x.owner h) e.sent,
        sum_keep (λ w. f (e.by.reply_of w)) (owned_by h) e.over,
      )

  -- entries of a kind that copies are not of are counted over the transmissions and waits that end
  pub ended_brought : (p : Entry → Bool) → Numbered (λ x. bit (p x)) → brought p h s c (finish done t)
      ≡ sum (λ x. cond (eqb x.owner h) (bit (p (e.by.result_of x))) 0) e.sent + sum (λ w. cond (owned_by h w) (bit (p (e.by.reply_of w))) 0) e.over
  unfolding brought
  ended_brought p z = ap (count p) ended_came ∙ (e.comes h l).mail.counted (λ x. bit (p x)) z ∙ entries_sum (λ x. bit (p x))

  -- a weight of 0
  pub none_kept : {A : Type 0} (b : A → Bool) (f : A → ℕ) (xs : List A) → ((x : A) → f x ≡ 0) → sum (λ x. cond (b x) (f x) 0) xs ≡ 0
  none_kept b f xs z = sum_zero (λ x. cond (b x) (f x) 0) xs (λ x. split (b x) (λ q. rw q (z x)) (λ q. rw q))

  module _ (n : ℕ) (d : n ≢ 0) where
    -- a result shows its number and a status that is not 0, and no receive status
    pub result_is : (x : Transmission) → is_result n (e.by.result_of x) ≡ eqb x.sequence n
    result_is x = let z = e.by.results x in rw (z.sequence, z.transmitted, ne_eqb e.by.status 0 e.by.final) (and-true (eqb x.sequence n))

    pub result_not : (x : Transmission) → bit (is_reply_entry n (e.by.result_of x)) ≡ 0
    result_not x = let z = e.by.results x in rw (z.received, and-false)

    -- a reply shows its number and a receive status, and no status of a transmit
    pub reply_is : (w : Wait) → is_reply_entry n (e.by.reply_of w) ≡ eqb w.sequence n
    reply_is w = let z = e.by.replies w in rw (z.sequence, ne_eqb (e.by.reply_of w).rx_status 0 z.received) (and-true (eqb w.sequence n))

    pub reply_not : (w : Wait) → is_result n (e.by.reply_of w) ≡ false
    reply_not w = let z = e.by.replies w in rw (z.transmitted, and-false)

    -- results
    pub ended_results : brought (is_result n) h s c (finish done t) ≡ sum (sent_as always h n) e.sent
    ended_results =
        omega (
          arith,
          ended_brought (is_result n) (result_numbered n d),
          sum_same (λ x. cond (eqb x.owner h) (bit (is_result n (e.by.result_of x))) 0) (sent_as always h n) e.sent (λ x. rw (result_is x) (and_cond (eqb x.owner h) (eqb x.sequence n))),
          none_kept (owned_by h) (λ w. bit (is_result n (e.by.reply_of w))) e.over (λ w. rw (reply_not w)),
        )

    -- replies
    pub ended_replies : brought (is_reply_entry n) h s c (finish done t) ≡ sum (awaited_as always h n) e.over
    ended_replies =
        omega (
          arith,
          ended_brought (is_reply_entry n) (reply_numbered n d),
          none_kept (λ (x : Transmission). eqb x.owner h) (λ x. bit (is_reply_entry n (e.by.result_of x))) e.sent result_not,
          sum_same (λ w. cond (owned_by h w) (bit (is_reply_entry n (e.by.reply_of w))) 0) (awaited_as always h n) e.over (λ w. rw (reply_is w) (and_cond (eqb w.owner h) (eqb w.sequence n))),
        )

    -- results with the OK bit
    ok_sent : (x : Transmission) → cond (eqb x.owner h) (bit (is_ok_result n (e.by.result_of x))) 0 ≡ cond (has_bit CEC-TX-STATUS-OK e.by.status) (sent_as always h n x) 0
    ok_sent x =
        rw (result_is x, (e.by.results x).transmitted)
        (split (has_bit CEC-TX-STATUS-OK e.by.status)
        (λ q. rw (q, and-true) (and_cond (eqb x.owner h) (eqb x.sequence n)))
        (λ q. rw (q, and-false) (split (eqb x.owner h) (λ o. rw o) (λ o. rw o))))

    pub ended_oks : brought (is_ok_result n) h s c (finish done t) ≡ sum (λ x. cond (has_bit CEC-TX-STATUS-OK e.by.status) (sent_as always h n x) 0) e.sent
    ended_oks =
        omega (
          arith,
          ended_brought (is_ok_result n) (ok_numbered n d),
          sum_same (λ x. cond (eqb x.owner h) (bit (is_ok_result n (e.by.result_of x))) 0) (λ x. cond (has_bit CEC-TX-STATUS-OK e.by.status) (sent_as always h n x) 0) e.sent ok_sent,
          none_kept (owned_by h) (λ w. bit (is_ok_result n (e.by.reply_of w))) e.over (λ w. rw (reply_not w)),
        )
