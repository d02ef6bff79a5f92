-- The wait that a message ends: found by the code, and by `rules`.
-- Assumes nothing.
use Rattle.std.proofs.Common.{◌≡◌, ℕ, Bool, true, false, cond, not, eqb, List, length, get_or, sym, refl, ◌∙◌, ltb-true, Option, Some, None, is_some}
use Rattle.entry.specs.Entry.{reply, feature_abort_reply}
use Rattle.incoming.specs.Ending.{ended_at, ended_by, rule_of, to_followers}
use Rattle.incoming.specs.Steps.{entry_by_rule}
use Rattle.incoming.specs.declared.Ended.{Ended}
use Rattle.lists.specs.Places.{first, first_passes, without}
use Rattle.lists.specs.Tests.{split}
use Rattle.message.specs.Rule.{RULE-NONE, RULE-FEATURE-ABORT, RULE-WANTED-OPCODE}
use Rattle.message.specs.declared.Message.{Message}
use Rattle.rules.proofs.Opcodes.{rule_abort}
use Rattle.rules.specs.Deliver.{deliver}
use Rattle.rules.specs.Incoming.{replied}
use Rattle.rules.specs.State.{State, with_waits}
use Rattle.wait.specs.Wait.{answered_by, no_wait, rule_for}
use Rattle.wait.specs.declared.Wait.{Wait}
use Rattle.waits.proofs.Matches.{match_found}
use Rattle.waits.specs.Waits.{taken_at}

-- what its end does
abbrev pub end_wait : Option Ended → Message → ℕ → State → State
end_wait None m ts s = s
end_wait (Some e) m ts s = deliver (with_waits s (without e.place s.waits)) e.wait.owner (entry_by_rule e.rule e.wait m ts)

not_true : (b : Bool) → not b ≡ true → b ≡ false
not_true true e = sym e
not_true false e = refl

not_false : (b : Bool) → not b ≡ false → b ≡ true
not_false true e = refl
not_false false e = sym e

module _ (n place : ℕ) (w : Wait) where
  some_ended : is_some (ended_at place w (rule_of n)) ≡ not (eqb n RULE-NONE)
  some_ended =
      split (eqb n RULE-NONE)
      (λ e. rw e)
      (λ e. rw e (split (eqb n RULE-FEATURE-ABORT) (λ q. rw q) (λ q. rw q (split (eqb n RULE-WANTED-OPCODE) (λ r. rw r) (λ r. rw r)))))

  flag_ended : eqb n RULE-NONE ≡ false → to_followers (ended_at place w (rule_of n)) ≡ w.to_followers
  flag_ended e = rw e (split (eqb n RULE-FEATURE-ABORT) (λ q. rw q) (λ q. rw q (split (eqb n RULE-WANTED-OPCODE) (λ r. rw r) (λ r. rw r))))

  end_some : (m : Message) (ts : ℕ) (s : State) → eqb n RULE-NONE ≡ false
      → end_wait (ended_at place w (rule_of n)) m ts s
      ≡ deliver (with_waits s (without place s.waits)) w.owner (cond (eqb n RULE-FEATURE-ABORT) (feature_abort_reply w.sequence m w.tx_ts ts) (reply w.sequence m w.tx_ts ts))
  end_some m ts s e = rw e (split (eqb n RULE-FEATURE-ABORT) (λ q. rw q) (λ q. rw q (split (eqb n RULE-WANTED-OPCODE) (λ r. rw r) (λ r. rw r))))

  end_none : (m : Message) (ts : ℕ) (s : State) → eqb n RULE-NONE ≡ true → end_wait (ended_at place w (rule_of n)) m ts s ≡ s
  end_none m ts s e = rw e

module _ (m : Message) (ws : List Wait) where
  abbrev place_in : ℕ
  place_in = first (answered_by m) ws

  abbrev number_in : ℕ
  number_in = rule_for m (get_or ws place_in no_wait)

  pub found_ended : is_some (ended_by m ws) ≡ (taken_at place_in ws).found
  found_ended = some_ended number_in place_in (get_or ws place_in no_wait) ∙ match_found m ws

  pub flag_found : (taken_at place_in ws).found ≡ true → to_followers (ended_by m ws) ≡ (taken_at place_in ws).wait.to_followers
  flag_found q = flag_ended number_in place_in (get_or ws place_in no_wait) (not_true (eqb number_in RULE-NONE) (match_found m ws ∙ q))

-- the wait that ends is one that the message answers, and so the rule tells the entry
pub reply_step : (s : State) (m : Message) (ts : ℕ) → end_wait (ended_by m s.waits) m ts s ≡ replied s (taken_at (first (answered_by m) s.waits) s.waits) m ts
reply_step s m ts =
    let at = first (answered_by m) s.waits in
    let t = taken_at at s.waits in
    let n = rule_for m t.wait in
    let found = match_found m s.waits in
    split t.found
    (λ q.
    let met = first_passes (answered_by m) s.waits no_wait (ltb-true at (length s.waits) q) in
    end_some n at t.wait m ts s (not_true (eqb n RULE-NONE) (found ∙ q)) ∙ rw (q, rule_abort m t.wait met))
    (λ q. end_none n at t.wait m ts s (not_false (eqb n RULE-NONE) (found ∙ q)) ∙ rw q)
