-- A whole log, read record by record, and what its replay prints (document 02, W-201); and what is to be shown of `Session`.
-- Assumes nothing.
use Rattle.std.specs.Prelude.{ℕ, zero, suc, ◌+◌, cond, not, List, [], ◌∷◌, ◌++◌, map, ◌≡◌, ltb, length, take, drop}
use Rattle.session_log.specs.Record.{is_kind, body_length, kind_of, call_of}
use Rattle.session_log.specs.Session.{Session, fresh_session, place_after, fed, finished, taken}
use Rattle.session_log.specs.Text.{numbers_of, line_of, bad_line, cut_line}
use Rattle.rules.specs.Call.{Call}
use Rattle.rules.specs.Step.{Step, run, after}

-- where a log ends: after a whole record, at an unknown kind, or in a record that is cut
pub data Ending : Type 0 where
  at_end : Ending
  bad_at : ℕ → Ending
  cut_at : ℕ → Ending

pub record Log : Type 0 where
  pub records : List (List ℕ)
  pub ending : Ending

abbrev pub ends : Ending → Log
ends e = record { records = []; ending = e }

abbrev pub with : List ℕ → Log → Log
with r l = record { records = r ∷ l.records; ending = l.ending }

-- at most n records of a log, the first of them at a place
abbrev pub read_at : ℕ → ℕ → List ℕ → Log
read_at zero place bytes = ends at_end
read_at (suc n) place [] = ends at_end
read_at (suc n) place (kind ∷ rest) = cond (not (is_kind kind)) (ends (bad_at place))
    (cond (ltb (length rest) (body_length kind)) (ends (cut_at place))
    (with (kind ∷ take (body_length kind) rest) (read_at n (place_after place (1 + body_length kind)) (drop (body_length kind) rest))))

-- a log has no more records than bytes
abbrev pub log_of : List ℕ → Log
log_of bytes = read_at (length bytes) 0 bytes

abbrev pub calls_of : List ℕ → List Call
calls_of bytes = map call_of (log_of bytes).records

-- a line for each record, from the history of their calls
abbrev pub lines_of : List (List ℕ) → List Step → List ℕ
lines_of [] history = []
lines_of (r ∷ rs) [] = []
lines_of (r ∷ rs) (s ∷ history) = line_of (kind_of r) (numbers_of s.answer) ++ lines_of rs history

abbrev pub end_line : Ending → List ℕ
end_line at_end = []
end_line (bad_at place) = bad_line place
end_line (cut_at place) = cut_line place

-- what the replay of a log prints
abbrev pub printed_of : List ℕ → List ℕ
printed_of bytes = lines_of (log_of bytes).records (run fresh_session.state (calls_of bytes)) ++ end_line (log_of bytes).ending

-- The lines are those of `run` over the calls read from the log, and the end state is that of the calls.
abbrev pub Replayed : Type 0
Replayed = (bytes : List ℕ)
    → ((fed fresh_session bytes).text ++ finished (fed fresh_session bytes).session ≡ printed_of bytes)
    × ((fed fresh_session bytes).session.state ≡ after fresh_session.state (calls_of bytes))

-- a portion offered with a buffer: at most so many bytes of what is left, and the room for lines
pub record Offer : Type 0 where
  pub size : ℕ
  pub room : ℕ

-- what has come of some offers: the session, the lines, and the bytes that are left
pub record Left : Type 0 where
  pub session : Session
  pub text : List ℕ
  pub rest : List ℕ

-- portions offered in turn, each from where the last one stopped
abbrev pub offered : Session → List ℕ → List Offer → Left
offered s bytes [] = record { session = s; text = []; rest = bytes }
offered s bytes (o ∷ os) =
    let t = taken s (take o.size bytes) o.room in
    let l = offered t.session (drop t.taken bytes) os in
    record { session = l.session; text = t.text ++ l.text; rest = l.rest }

-- Any cutting of a log into portions, with buffers of any sizes, gives the same lines and the same end.
abbrev pub CutAnywhere : Type 0
CutAnywhere = (s : Session) (bytes : List ℕ) (offers : List Offer)
    → let l = offered s bytes offers in
    (l.text ++ (fed l.session l.rest).text ≡ (fed s bytes).text)
    × ((fed l.session l.rest).session ≡ (fed s bytes).session)
