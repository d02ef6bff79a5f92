-- Reply tests worked out by hand, from document 01 ("A match") and W-207: what was sent, what came, the opcode wanted, and the rule.
-- Assumes nothing.
use Rattle.std.specs.Prelude.{ℕ, Bool, true, ◌&&◌, List, [], ◌∷◌, eqb, replicate}
use Rattle.message.specs.Rule.{reply_rule}

pub record RuleCase : Type 0 where
  pub sent : List ℕ
  pub came : List ℕ
  pub wanted : ℕ
  pub gives : ℕ

-- "sent 40 8F wants 90"
abbrev pub status_asked : List ℕ → ℕ → RuleCase
status_asked came rule = record { sent = 0x40 ∷ 0x8F ∷ []; came = came; wanted = 0x90; gives = rule }

-- sent 40 C0, with an opcode wanted
abbrev pub arc_asked : ℕ → List ℕ → ℕ → RuleCase
arc_asked wanted came rule = record { sent = 0x40 ∷ 0xC0 ∷ []; came = came; wanted = wanted; gives = rule }

abbrev pub rule_answers : List RuleCase
rule_answers =
    -- the known answers
    status_asked (0x04 ∷ 0x90 ∷ 0x00 ∷ []) 2
    ∷ status_asked (0x04 ∷ 0x00 ∷ 0x8F ∷ 0x00 ∷ []) 1
    ∷ status_asked (0x04 ∷ 0x00 ∷ []) 0
    ∷ status_asked (0x54 ∷ 0x90 ∷ 0x00 ∷ []) 0
    -- the reason may be missing; a Feature Abort of another opcode; another opcode
    ∷ status_asked (0x04 ∷ 0x00 ∷ 0x8F ∷ []) 1
    ∷ status_asked (0x04 ∷ 0x00 ∷ 0x9F ∷ 0x00 ∷ []) 0
    ∷ status_asked (0x04 ∷ 0x8F ∷ []) 0
    -- to 15, to another; a transmit that went to 15 is answered by anyone, 15 too
    ∷ status_asked (0x0F ∷ 0x90 ∷ []) 2
    ∷ status_asked (0x05 ∷ 0x90 ∷ []) 0
    ∷ status_asked (0x0F ∷ 0x00 ∷ 0x8F ∷ []) 1
    ∷ record { sent = 0x4F ∷ 0x8F ∷ []; came = 0x54 ∷ 0x90 ∷ []; wanted = 0x90; gives = 2 }
    ∷ record { sent = 0x4F ∷ 0x8F ∷ []; came = 0xF4 ∷ 0x90 ∷ []; wanted = 0x90; gives = 2 }
    -- 0xC0 and its pair: the wanted one comes before the other, and a Feature Abort is one
    ∷ arc_asked 0xC1 (0x04 ∷ 0xC1 ∷ []) 2
    ∷ arc_asked 0xC1 (0x04 ∷ 0xC2 ∷ []) 3
    ∷ arc_asked 0xC2 (0x04 ∷ 0xC2 ∷ []) 2
    ∷ arc_asked 0xC2 (0x04 ∷ 0xC1 ∷ []) 3
    ∷ arc_asked 0xC1 (0x04 ∷ 0x00 ∷ 0xC0 ∷ 0x00 ∷ []) 1
    ∷ arc_asked 0xC1 (0x0F ∷ 0xC2 ∷ []) 3
    ∷ arc_asked 0xC1 (0x04 ∷ 0x00 ∷ 0xC1 ∷ []) 0
    ∷ arc_asked 0xC1 (0x04 ∷ 0xC3 ∷ []) 0
    ∷ arc_asked 0x90 (0x04 ∷ 0xC1 ∷ []) 0
    ∷ arc_asked 0xC1 (0x54 ∷ 0xC2 ∷ []) 0
    ∷ record { sent = 0x40 ∷ 0xC3 ∷ []; came = 0x04 ∷ 0xC2 ∷ []; wanted = 0xC1; gives = 0 }
    -- with 0 wanted only a Feature Abort of what was sent
    ∷ arc_asked 0x00 (0x04 ∷ 0x00 ∷ 0xC0 ∷ []) 1
    ∷ arc_asked 0x00 (0x04 ∷ 0x00 ∷ 0x00 ∷ []) 0
    ∷ arc_asked 0x00 (0x04 ∷ 0xC1 ∷ []) 0
    ∷ record { sent = 0x40 ∷ 0x00 ∷ []; came = 0x04 ∷ 0x00 ∷ 0x00 ∷ []; wanted = 0x00; gives = 1 }
    -- lengths of 0, 1, 16 and 17, of what came and of what was sent
    ∷ status_asked [] 0
    ∷ status_asked (0x04 ∷ []) 0
    ∷ status_asked (0x04 ∷ 0x90 ∷ replicate 14 0x00) 2
    ∷ status_asked (0x04 ∷ 0x90 ∷ replicate 15 0x00) 0
    ∷ status_asked (0x04 ∷ 0x00 ∷ 0x8F ∷ replicate 13 0x00) 1
    ∷ status_asked (0x04 ∷ 0x00 ∷ 0x8F ∷ replicate 14 0x00) 0
    ∷ record { sent = []; came = 0x04 ∷ 0x90 ∷ []; wanted = 0x90; gives = 0 }
    ∷ record { sent = 0x40 ∷ []; came = 0x04 ∷ 0x90 ∷ []; wanted = 0x90; gives = 0 }
    ∷ record { sent = 0x40 ∷ 0x8F ∷ replicate 14 0x00; came = 0x04 ∷ 0x90 ∷ []; wanted = 0x90; gives = 2 }
    ∷ record { sent = 0x40 ∷ 0x8F ∷ replicate 15 0x00; came = 0x04 ∷ 0x90 ∷ []; wanted = 0x90; gives = 0 }
    ∷ []

-- whether every case gives what it should
abbrev pub all_rules : List RuleCase → Bool
all_rules [] = true
all_rules (c ∷ cs) = eqb (reply_rule c.sent c.came c.wanted) c.gives && all_rules cs
