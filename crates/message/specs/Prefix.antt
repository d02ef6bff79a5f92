-- What the reply test looks at of a message, and that it is all.
-- Assumes nothing.
use Rattle.std.specs.Prelude.{ℕ, cond, List, ◌≡◌, refl, get_or, length}
use Rattle.message.specs.Reply.{aborts_sent, is_wanted, is_arc_pair}
use Rattle.message.specs.Rule.{RULE-NONE, first_rule, may_match, reply_rule}
use Rattle.message.specs.declared.reply.Prefix.{Prefix}

-- the length, and the first three bytes, 0 where there is none
abbrev pub prefix_of : List ℕ → Prefix
prefix_of bs = record { length = length bs; first = get_or bs 0 0; second = get_or bs 1 0; third = get_or bs 2 0 }

-- the first rule that holds of the opcode that was sent, the one that came with its length and third byte, and the one wanted
abbrev pub answer_rule : ℕ → ℕ → ℕ → ℕ → ℕ → ℕ
answer_rule sent came size third wanted = first_rule (aborts_sent sent came size third) (is_wanted came wanted) (is_arc_pair sent came wanted)

-- the reply test
abbrev pub prefix_rule : Prefix → Prefix → ℕ → ℕ
prefix_rule sent came wanted =
    cond (may_match sent.length came.length sent.first came.first)
    (answer_rule sent.second came.second came.length came.third wanted)
    RULE-NONE

pub prefix_rule_lem : (sent came : List ℕ) (wanted : ℕ) → prefix_rule (prefix_of sent) (prefix_of came) wanted ≡ reply_rule sent came wanted
unfolding reply_rule
prefix_rule_lem sent came wanted = refl
