-- The player as a session (`Session`), and what its calls give, with the lent buffer afterwards (document 02, W-201).
-- Assumes nothing.
use Rattle.std.specs.Prelude.{ℕ, cond, Option, None, Some, List, [], ◌++◌, ltb, length, take, drop}
use Rattle.adapter.specs.Adapter.{state_of}
use Rattle.constants.specs.Kernel.{EINVAL}
use Rattle.session_log.specs.Session.{Session, Taken, finished}
use Rattle.session_log.specs.Text.{line_of, bad_line, line_max}
use Rattle.player.specs.declared.Fed.{Fed}
use Rattle.player.specs.declared.Player.{Player}
use Rattle.reader.specs.declared.Cursor.{Cursor}
use Rattle.reader.specs.declared.Turn.{Turn}
use Rattle.reader.specs.declared.Whole.{Whole}
use Rattle.rules.specs.State.{State}

-- the bytes of a record that is not whole yet are the first of 28; a count over 28 counts as 28
abbrev pub session_with : State → List ℕ → Cursor → Session
session_with s bytes c = record { state = s; held = take c.count bytes; place = c.place; ended = c.ended }

abbrev pub session_of : Player → Session
session_of p = session_with (state_of p.adapter) p.bytes p.cursor

-- what is printed after a turn: nothing where no record has come
abbrev pub shown_came : Option Whole → ℕ → List ℕ → List ℕ
shown_came None kind numbers = []
shown_came (Some whole) kind numbers = line_of kind numbers

abbrev pub shown : Turn → ℕ → List ℕ → List ℕ
shown t kind numbers = cond t.cursor.ended (bad_line t.cursor.place) (shown_came t.came kind numbers)

-- a text at the start of a buffer
abbrev pub onto : List ℕ → List ℕ → List ℕ
onto text out = text ++ drop (length text) out

-- a buffer that has no room for a line is refused
abbrev pub room_errno : List ℕ → ℕ
room_errno out = cond (ltb (length out) line_max) EINVAL 0

-- what a feed gives: the session, how many bytes it took and how many it wrote, and the buffer
pub record Given : Type 0 where
  pub session : Session
  pub taken : ℕ
  pub written : ℕ
  pub out : List ℕ

abbrev pub given_of : Fed → List ℕ → Given
given_of r out = record { session = session_of r.player; taken = r.taken; written = r.written; out = out }

abbrev pub given_by : Taken → List ℕ → Given
given_by t out = record { session = t.session; taken = t.taken; written = length t.text; out = onto t.text out }

-- what is printed where the log ends, in a buffer that has room for a line
abbrev pub last_text : Session → List ℕ → List ℕ
last_text s out = cond (ltb (length out) line_max) [] (finished s)
