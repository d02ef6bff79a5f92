-- What the play of a record leaves, and what the rules say of its call: the state afterwards, and the numbers of the record's line.
-- Assumes nothing.
use Rattle.std.specs.Prelude.{ℕ, List}
use Rattle.adapter.specs.Adapter.{state_of}
use Rattle.session_log.specs.Text.{numbers_of}
use Rattle.play.specs.declared.Played.{Played}
use Rattle.rules.specs.Call.{Call, Outcome}
use Rattle.rules.specs.State.{State}
use Rattle.rules.specs.Step.{step}
use Rattle.text.specs.Line.{said_of}

pub record Effect : Type 0 where
  pub state : State
  pub numbers : List ℕ

abbrev pub played_of : Played → Effect
played_of p = record { state = state_of p.adapter; numbers = said_of p.said }

abbrev pub effect_of : Outcome → Effect
effect_of o = record { state = o.state; numbers = numbers_of o.answer }

abbrev pub effect : State → Call → Effect
effect s c = effect_of (step s c)
