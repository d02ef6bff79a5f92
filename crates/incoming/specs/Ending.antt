-- The wait that a message ends, and the rule by which it does (document 01, "A message from the wire"; document 02, W-207).
-- Assumes nothing.
use Rattle.std.specs.Prelude.{ℕ, Bool, false, cond, List, ◌==◌, get_or, Option, Some, None}
use Rattle.incoming.specs.declared.Ended.{Ended}
use Rattle.lists.specs.Places.{first}
use Rattle.message.specs.Rule.{RULE-NONE, RULE-FEATURE-ABORT, RULE-WANTED-OPCODE}
use Rattle.message.specs.declared.Message.{Message}
use Rattle.message.specs.declared.reply.Rule.{Rule}
use Rattle.message.specs.declared.reply.Rule.TheVariants.{FeatureAbort, WantedOpcode, ArcPair}
use Rattle.wait.specs.Wait.{answered_by, no_wait, rule_for}
use Rattle.wait.specs.declared.Wait.{Wait}

-- the rule of a number
abbrev pub rule_of : ℕ → Option Rule
rule_of n = cond (n == RULE-NONE) None (cond (n == RULE-FEATURE-ABORT) (Some FeatureAbort) (cond (n == RULE-WANTED-OPCODE) (Some WantedOpcode) (Some ArcPair)))

-- a wait that ends, if a rule says so
abbrev pub ended_at : ℕ → Wait → Option Rule → Option Ended
ended_at place w None = None
ended_at place w (Some rule) = Some (record { place = place; wait = w; rule = rule })

-- the oldest that the message ends
abbrev pub ended_by : Message → List Wait → Option Ended
ended_by m ws =
    let place = first (answered_by m) ws in
    let w = get_or ws place no_wait in
    ended_at place w (rule_of (rule_for m w))

-- whether its flag was set
abbrev pub to_followers : Option Ended → Bool
to_followers None = false
to_followers (Some e) = e.wait.to_followers
