-- Which rule of a match is met, as a number (document 02, W-207).
-- Assumes nothing.
use Rattle.std.specs.Prelude.{ℕ, Bool, true, cond, not, ◌&&◌, List, ◌≡◌, eqb, get_or, length, Option, Some, None}
use Rattle.message.specs.Message.{is_feature_abort}
use Rattle.message.specs.Reply.{has_opcode, from_destination, to_initiator, aborts_sent, is_wanted, is_arc_pair, is_reply}
use Rattle.message.specs.declared.reply.Rule.{Rule}
use Rattle.message.specs.declared.reply.Rule.TheVariants.{FeatureAbort, WantedOpcode, ArcPair}

-- "1, 2 or 3 in this order and 0 for no match"
abbrev pub RULE-NONE : ℕ
RULE-NONE = 0

abbrev pub RULE-FEATURE-ABORT : ℕ
RULE-FEATURE-ABORT = 1

abbrev pub RULE-WANTED-OPCODE : ℕ
RULE-WANTED-OPCODE = 2

abbrev pub RULE-ARC-PAIR : ℕ
RULE-ARC-PAIR = 3

-- the number of the rule that the code gives
abbrev pub rule_number : Option Rule → ℕ
rule_number None = RULE-NONE
rule_number (Some FeatureAbort) = RULE-FEATURE-ABORT
rule_number (Some WantedOpcode) = RULE-WANTED-OPCODE
rule_number (Some ArcPair) = RULE-ARC-PAIR

-- "Feature Abort, wanted opcode, or the 0xC0 pair, the first in this order that holds"
abbrev pub first_rule : Bool → Bool → Bool → ℕ
first_rule aborts wanted pair = cond aborts RULE-FEATURE-ABORT (cond wanted RULE-WANTED-OPCODE (cond pair RULE-ARC-PAIR RULE-NONE))

-- what document 01 asks of a match beside these rules, of the two lengths and the two first bytes: lengths, sender and destination
abbrev pub may_match : ℕ → ℕ → ℕ → ℕ → Bool
may_match sent_size came_size sent came = has_opcode sent_size && has_opcode came_size && from_destination sent came && to_initiator sent came

-- that, and the three rules, of the bytes that were sent and those that came
module _ (sent came : List ℕ) where
  abbrev pub bytes_may_match : Bool
  bytes_may_match = may_match (length sent) (length came) (get_or sent 0 0) (get_or came 0 0)

  abbrev pub bytes_abort : Bool
  bytes_abort = aborts_sent (get_or sent 1 0) (get_or came 1 0) (length came) (get_or came 2 0)

  abbrev pub bytes_wanted : ℕ → Bool
  bytes_wanted wanted = is_wanted (get_or came 1 0) wanted

  abbrev pub bytes_pair : ℕ → Bool
  bytes_pair wanted = is_arc_pair (get_or sent 1 0) (get_or came 1 0) wanted

-- the rule by which the bytes that came are the reply to the bytes that were sent
unfoldable pub reply_rule : List ℕ → List ℕ → ℕ → ℕ
reply_rule sent came wanted = cond (bytes_may_match sent came) (first_rule (bytes_abort sent came) (bytes_wanted sent came wanted) (bytes_pair sent came wanted)) RULE-NONE

-- what the number says
pub record RuleSays (sent came : List ℕ) (wanted : ℕ) : Type 0 where
  -- it is not 0 exactly for a match of document 01
  pub matches : not (eqb (reply_rule sent came wanted) RULE-NONE) ≡ is_reply sent came wanted
  -- each other number comes exactly if its rule is the first that holds
  pub one : eqb (reply_rule sent came wanted) RULE-FEATURE-ABORT ≡ (bytes_may_match sent came && bytes_abort sent came)
  pub two : eqb (reply_rule sent came wanted) RULE-WANTED-OPCODE ≡ (bytes_may_match sent came && not (bytes_abort sent came) && bytes_wanted sent came wanted)
  pub three : eqb (reply_rule sent came wanted) RULE-ARC-PAIR ≡ (bytes_may_match sent came && not (bytes_abort sent came) && not (bytes_wanted sent came wanted) && bytes_pair sent came wanted)
  -- of a match the opcode that came tells it: 0x00, the one wanted, or the other of the pair
  pub opcode : is_reply sent came wanted ≡ true → reply_rule sent came wanted ≡ first_rule (is_feature_abort (get_or came 1 0)) (bytes_wanted sent came wanted) true
