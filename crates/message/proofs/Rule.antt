-- What the number of a rule says (document 02, W-207).
-- Assumes nothing.
use Prim.Native.Nat.{ℕ, ◌≤◌}
use mathlib.Core.Bool.{Bool, true, false, cond, not, ◌&&◌, ◌||◌}
use mathlib.Core.List.{List}
use mathlib.Core.Path.{◌≡◌, refl}
use lib.Dec.{eqb, leb}
use lib.ListN.{get_or, length}
use borrow.Author.Tests.{eqb-true, leb-true, not-true}
use Rattle.constants.specs.Kernel.{CEC-MSG-INITIATE-ARC, CEC-MSG-REPORT-ARC-INITIATED, CEC-MSG-REPORT-ARC-TERMINATED}
use Rattle.lists.specs.Tests.{both, clash, split}
use Rattle.message.specs.Message.{is_feature_abort}
use Rattle.message.specs.Reply.{has_opcode, from_destination, to_initiator, is_arc_report, is_reply}
use Rattle.message.specs.Rule.{RULE-NONE, RULE-FEATURE-ABORT, RULE-WANTED-OPCODE, RULE-ARC-PAIR, first_rule, bytes_may_match, bytes_abort, bytes_wanted, bytes_pair, reply_rule, RuleSays}
use Rattle.message.specs.RuleAnswers.{all_rules, rule_answers}

-- the number, by the answers of the tests: m whether there may be a match, then the three rules
abbrev number : Bool → Bool → Bool → Bool → ℕ
number m a w p = cond m (first_rule a w p) RULE-NONE

abbrev NumberSays : Bool → Bool → Bool → Bool → Type 0
NumberSays m a w p =
    (not (eqb (number m a w p) RULE-NONE) ≡ (m && (a || w || p)))
    × ((eqb (number m a w p) RULE-FEATURE-ABORT ≡ (m && a))
    × ((eqb (number m a w p) RULE-WANTED-OPCODE ≡ (m && not a && w))
    × (eqb (number m a w p) RULE-ARC-PAIR ≡ (m && not a && not w && p))))

number_says : (m a w p : Bool) → NumberSays m a w p
number_says false a w p = (refl, (refl, (refl, refl)))
number_says true true w p = (refl, (refl, (refl, refl)))
number_says true false true p = (refl, (refl, (refl, refl)))
number_says true false false true = (refl, (refl, (refl, refl)))
number_says true false false false = (refl, (refl, (refl, refl)))

-- of a match f, whether the opcode is that of a Feature Abort, and w tell the number
number_opcode : (m a w p f : Bool) → (m && (a || w || p)) ≡ true
    → (a ≡ true → f ≡ true)
    → (w ≡ true → f ≡ false)
    → (p ≡ true → f ≡ false)
    → number m a w p ≡ first_rule f w true
number_opcode false a w p f e j k l = clash e refl
number_opcode true true w p f e j k l = rw (j refl)
number_opcode true false true p f e j k l = rw (k refl)
number_opcode true false false true f e j k l = rw (l refl)
number_opcode true false false false f e j k l = clash e refl

report_opcode : (came : ℕ) → is_arc_report came ≡ true → is_feature_abort came ≡ false
report_opcode came e =
    split (eqb came CEC-MSG-REPORT-ARC-INITIATED)
    (λ q. rw (eqb-true came CEC-MSG-REPORT-ARC-INITIATED q))
    (λ q. rw (eqb-true came CEC-MSG-REPORT-ARC-TERMINATED (rw q at e)))

module _ (sent came : List ℕ) (wanted : ℕ) where
  abbrev code : ℕ
  code = get_or came 1 0

  abort_opcode : bytes_abort sent came ≡ true → is_feature_abort code ≡ true
  abort_opcode e = (both (is_feature_abort code) (leb 3 (length came)) (both (is_feature_abort code && leb 3 (length came)) (eqb (get_or came 2 0) (get_or sent 1 0)) e).0).0

  wanted_opcode : bytes_wanted sent came wanted ≡ true → is_feature_abort code ≡ false
  wanted_opcode e = not-true (is_feature_abort code) (both (not (is_feature_abort code)) (eqb code wanted) e).0

  pair_opcode : bytes_pair sent came wanted ≡ true → is_feature_abort code ≡ false
  pair_opcode e = report_opcode code (both (eqb (get_or sent 1 0) CEC-MSG-INITIATE-ARC && is_arc_report wanted) (is_arc_report code) e).1

  pub rule_says : RuleSays sent came wanted
  unfolding is_reply reply_rule
  rule_says =
      let m = bytes_may_match sent came in
      let a = bytes_abort sent came in
      let w = bytes_wanted sent came wanted in
      let p = bytes_pair sent came wanted in
      let says = number_says m a w p in
      record {
        matches = says.0;
        one = says.1.0;
        two = says.1.1.0;
        three = says.1.1.1;
        opcode = λ e. number_opcode m a w p (is_feature_abort code) e abort_opcode wanted_opcode pair_opcode;
      }

-- of five tests that all hold the second does
second_holds : (a b c d e : Bool) → (a && b && c && d && e) ≡ true → b ≡ true
second_holds true true c d e q = refl
second_holds true false c d e q = clash q refl
second_holds false b c d e q = clash q refl

-- what came as a reply has an opcode
pub reply_long : (sent came : List ℕ) (wanted : ℕ) → is_reply sent came wanted ≡ true → 2 ≤ length came
unfolding is_reply
reply_long sent came wanted e =
    let n = length came in
    let whole = second_holds (has_opcode (length sent)) (has_opcode n) (from_destination (get_or sent 0 0) (get_or came 0 0)) (to_initiator (get_or sent 0 0) (get_or came 0 0)) _ e in
    leb-true 2 n (both (leb 2 n) (leb n 16) whole).0

pub rule_answers_lem : all_rules rule_answers ≡ true
unfolding reply_rule
rule_answers_lem = refl
