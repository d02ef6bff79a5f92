-- A wait for the reply to a message that was sent (document 01, "Wire, time and configuration"), with the time of its bus result (document 02, W-208).
-- Assumes nothing.
use Rattle.std.specs.Prelude.{ℕ, ◌-◌, Bool, false, eqb}
use Rattle.message.specs.Message.{no_message, contents}
use Rattle.message.specs.Reply.{is_reply}
use Rattle.message.specs.Rule.{reply_rule}
use Rattle.message.specs.declared.Message.{Message}
use Rattle.wait.specs.declared.Wait.{Wait}

abbrev pub no_wait : Wait
no_wait = record { owner = 0; sequence = 0; left = 0; reply = 0; to_followers = false; sent = no_message; tx_ts = 0 }

abbrev pub owned_by : ℕ → Wait → Bool
owned_by h w = eqb w.owner h

abbrev pub numbered : ℕ → Wait → Bool
numbered n w = eqb w.sequence n

-- whether the message ends it: document 01's "A match"
abbrev pub answered_by : Message → Wait → Bool
answered_by m w = is_reply (contents w.sent) (contents m) w.reply

-- the rule by which it does (document 02, W-207); 0 if it does not
abbrev pub rule_for : Message → Wait → ℕ
rule_for m w = reply_rule (contents w.sent) (contents m) w.reply

-- its time left
abbrev pub left_of : Wait → ℕ
left_of w = w.left

-- with its time left reduced
abbrev pub reduced : ℕ → Wait → Wait
reduced ms w = record { owner = w.owner; sequence = w.sequence; left = w.left - ms; reply = w.reply; to_followers = w.to_followers; sent = w.sent; tx_ts = w.tx_ts }
