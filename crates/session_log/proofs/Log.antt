-- A log in portions cut anywhere, and a log as a whole.
-- Assumes nothing.
use Prim.Native.Nat.{ℕ, zero, suc, ◌+◌, ◌-◌, ◌≤◌, ◌<◌}
use mathlib.Core.Bool.{Bool, true, false, cond, ◌&&◌, ◌||◌, not}
use mathlib.Core.List.{List, [], ◌∷◌, ◌++◌, map, append_assoc, append-nil}
use mathlib.Core.Path.{◌≡◌, refl, sym, ap, ap₂, ◌∙◌}
use native.Mathlib.Omega.{arith}
use lib.Dec.{eqb, ltb}
use lib.ListN.{length, take, drop, length-drop}
use lib.Seq.{length-take-le, drop-length}
use borrow.Author.Tests.{lt-ltb, le-ltb, ltb-true, ltb-false, le-leb, lt-leb, ne_eqb}
use Rattle.lists.specs.Tests.{split, neither}
use Rattle.session_log.specs.Gather.{gather, gathered}
use Rattle.session_log.specs.Log.{at_end, bad_at, cut_at, Log, ends, with, read_at, lines_of, end_line, Replayed, Offer, offered, CutAnywhere}
use Rattle.session_log.specs.Record.{is_kind, body_length, call_of}
use Rattle.session_log.specs.Session.{Session, fresh_session, place_after, Printed, bad, played, is_whole, grown, next, fed, finished, Taken, taken}
use Rattle.session_log.specs.Text.{bad_line, line_max}
use Rattle.session_log.proofs.Gather.{fed_on, holding, grown_whole, grown_part, unknown_turn, known_turn, fed_turn}
use Rattle.session_log.proofs.Whole.{record_full, record_short}
use Rattle.rules.specs.State.{State}
use Rattle.rules.specs.Step.{step, run, after}

-- some text before what is printed
abbrev prefixed : List ℕ → Printed → Printed
prefixed a p = record { session = p.session; text = a ++ p.text }

-- what `taken` has done of a portion, and then the rest of all the bytes
taken_fed : (s : Session) (bytes : List ℕ) (size room : ℕ)
    → let t = taken s (take size bytes) room in fed_on (record { session = t.session; text = t.text }) (drop t.taken bytes) ≡ fed s bytes
taken_fed s bytes zero room = refl
taken_fed s [] (suc k) room = refl
taken_fed s (b ∷ bs) (suc k) room =
    let t = taken (next s b).session (take k bs) (room - length (next s b).text) in
    let ih = taken_fed (next s b).session bs k (room - length (next s b).text) in
    let here : Taken → Printed = λ x. fed_on (record { session = x.session; text = x.text }) (drop x.taken (b ∷ bs)) in
    let stays : Taken = record { session = s; taken = 0; text = [] } in
    let goes : Taken = record { session = t.session; taken = suc t.taken; text = (next s b).text ++ t.text } in
    split (s.ended || ltb room line_max)
    (λ e. ap (λ (f : Bool). here (cond f stays goes)) e)
    (λ e. ap (λ (f : Bool). here (cond f stays goes)) e
    ∙ ap (λ (x : List ℕ). record { session = (fed t.session (drop t.taken bs)).session; text = x }) (append_assoc (next s b).text t.text (fed t.session (drop t.taken bs)).text)
    ∙ ap (prefixed (next s b).text) ih
    ∙ sym (ap (λ (f : Bool). cond f (record { session = s; text = [] }) (fed_on (next s b) bs)) (neither s.ended (ltb room line_max) e).0))

offered_fed : (s : Session) (bytes : List ℕ) (offers : List Offer)
    → let l = offered s bytes offers in fed_on (record { session = l.session; text = l.text }) l.rest ≡ fed s bytes
offered_fed s bytes [] = refl
offered_fed s bytes (o ∷ os) =
    let t = taken s (take o.size bytes) o.room in
    let l = offered t.session (drop t.taken bytes) os in
    ap (λ (x : List ℕ). record { session = (fed l.session l.rest).session; text = x }) (append_assoc t.text l.text (fed l.session l.rest).text)
    ∙ ap (prefixed t.text) (offered_fed t.session (drop t.taken bytes) os)
    ∙ taken_fed s bytes o.size o.room

-- Any cutting of a log into portions, with buffers of any sizes, gives the same lines and the same end.
pub cut_anywhere : CutAnywhere
cut_anywhere s bytes offers =
    let e = offered_fed s bytes offers in
    (ap (λ (p : Printed). p.text) e, ap (λ (p : Printed). p.session) e)

-- a session between two records
abbrev begun : State → ℕ → Session
begun st place = record { state = st; held = []; place = place; ended = false }

-- what was printed, and the end state, are those of a log played from a state
abbrev Plays : Printed → State → Log → Type 0
Plays q st log =
    (q.text ++ finished q.session ≡ lines_of log.records (run st (map call_of log.records)) ++ end_line log.ending)
    × (q.session.state ≡ after st (map call_of log.records))

plays_same : (q r : Printed) (st : State) (l m : Log) → q ≡ r → l ≡ m → Plays r st m → Plays q st l
plays_same q r st l m a b p = rw (a, b) p

fed_ended : (s : Session) (bytes : List ℕ) → s.ended ≡ true → fed s bytes ≡ record { session = s; text = [] }
fed_ended s [] e = refl
fed_ended s (b ∷ bs) e = ap (λ (f : Bool). cond f (record { session = s; text = [] }) (fed_on (next s b) bs)) e

none_plays : (st : State) (place : ℕ) → Plays (record { session = begun st place; text = [] }) st (ends at_end)
unfolding finished
none_plays st place = (refl, refl)

bad_plays : (st : State) (place : ℕ) (bytes : List ℕ) → Plays (fed_on (bad (begun st place)) bytes) st (ends (bad_at place))
unfolding finished bad
bad_plays st place bytes =
    rw (fed_ended (bad (begun st place)).session bytes refl) (append-nil (bad_line place ++ []) ∙ append-nil (bad_line place), refl)

cut_plays : (st : State) (place kind : ℕ) (rest : List ℕ) → Plays (record { session = holding (begun st place) (kind ∷ rest); text = [] }) st (ends (cut_at place))
unfolding finished
cut_plays st place kind rest = (rw (ne_eqb (suc (length rest)) 0 (λ e. omega arith)), refl)

record_plays : (st : State) (place : ℕ) (r bytes : List ℕ) (l : Log)
    → Plays (fed (begun (step st (call_of r)).state (place_after place (length r))) bytes) (step st (call_of r)).state l
    → Plays (fed_on (played (begun st place) r) bytes) st (with r l)
unfolding played
record_plays st place r bytes l p =
    let q = fed (begun (step st (call_of r)).state (place_after place (length r))) bytes in
    let a = (played (begun st place) r).text in (
      append_assoc a q.text (finished q.session) ∙ ap (λ (x : List ℕ). a ++ x) p.0
          ∙ sym (append_assoc a (lines_of l.records (run (step st (call_of r)).state (map call_of l.records))) (end_line l.ending)),
      p.1,
    )

-- the records of a log from a place on
read_bad : (n place kind : ℕ) (rest : List ℕ) → is_kind kind ≡ false → read_at (suc n) place (kind ∷ rest) ≡ ends (bad_at place)
read_bad n place kind rest e = rw e

read_cut : (n place kind : ℕ) (rest : List ℕ) → is_kind kind ≡ true → length rest < body_length kind → read_at (suc n) place (kind ∷ rest) ≡ ends (cut_at place)
read_cut n place kind rest e h = rw (e, lt-ltb (length rest) (body_length kind) h)

read_whole : (n place kind : ℕ) (rest : List ℕ) → is_kind kind ≡ true → body_length kind ≤ length rest
    → let r = kind ∷ take (body_length kind) rest in read_at (suc n) place (kind ∷ rest) ≡ with r (read_at n (place_after place (length r)) (drop (body_length kind) rest))
read_whole n place kind rest e h =
    let k : 1 + body_length kind ≡ length (kind ∷ take (body_length kind) rest) = omega (arith, length-take-le (body_length kind) rest h) in
    rw (e, le-ltb (length rest) (body_length kind) h) (ap (λ (m : ℕ). with (kind ∷ take (body_length kind) rest) (read_at n (place_after place m) (drop (body_length kind) rest))) k)

-- the bytes from the kind of a record on
fed_known : (s : Session) (kind : ℕ) (rest : List ℕ) → s.ended ≡ false → s.held ≡ [] → is_kind kind ≡ true
    → fed s (kind ∷ rest) ≡ fed_on (grown s (gather s.held (kind ∷ rest))) (drop (gathered s.held (kind ∷ rest)) (kind ∷ rest))
fed_known s kind rest e h k =
    let t : (eqb (length s.held) 0 && not (is_kind kind)) ≡ false = rw (h, k) in
    fed_turn s (kind ∷ rest) e (omega arith) ∙ ap (λ (q : Printed). fed_on q (drop (gathered s.held (kind ∷ rest)) (kind ∷ rest))) (known_turn s kind rest t).1

fed_whole : (st : State) (place kind : ℕ) (rest : List ℕ) → is_kind kind ≡ true → body_length kind ≤ length rest
    → fed (begun st place) (kind ∷ rest) ≡ fed_on (played (begun st place) (kind ∷ take (body_length kind) rest)) (drop (body_length kind) rest)
fed_whole st place kind rest k h =
    let m = record_full kind rest h in
    let r = kind ∷ take (body_length kind) rest in
    let w : is_whole r ≡ true = le-leb (1 + body_length kind) (length r) (omega (arith, length-take-le (body_length kind) rest h)) in
    fed_known (begun st place) kind rest refl refl k
    ∙ ap₂ (λ (x : List ℕ) (n : ℕ). fed_on (grown (begun st place) x) (drop n (kind ∷ rest))) m.0 m.1
    ∙ ap (λ (q : Printed). fed_on q (drop (body_length kind) rest)) (grown_whole (begun st place) r w)

fed_cut : (st : State) (place kind : ℕ) (rest : List ℕ) → is_kind kind ≡ true → length rest < body_length kind
    → fed (begun st place) (kind ∷ rest) ≡ record { session = holding (begun st place) (kind ∷ rest); text = [] }
fed_cut st place kind rest k h =
    let m = record_short kind rest h in
    let w : is_whole (kind ∷ rest) ≡ false = lt-leb (1 + body_length kind) (length (kind ∷ rest)) (omega arith) in
    fed_known (begun st place) kind rest refl refl k
    ∙ ap₂ (λ (x : List ℕ) (n : ℕ). fed_on (grown (begun st place) x) (drop n (kind ∷ rest))) m.0 m.1
    ∙ ap₂ (λ (q : Printed) (l : List ℕ). fed_on q l) (grown_part (begun st place) (kind ∷ rest) w) (drop-length rest)

fed_bad : (st : State) (place kind : ℕ) (rest : List ℕ) → is_kind kind ≡ false → fed (begun st place) (kind ∷ rest) ≡ fed_on (bad (begun st place)) rest
fed_bad st place kind rest k = ap (λ (q : Printed). fed_on q rest) (unknown_turn (begun st place) kind rest (rw k)).0

plays_from : (n : ℕ) (st : State) (place : ℕ) (bytes : List ℕ) → length bytes ≤ n → Plays (fed (begun st place) bytes) st (read_at n place bytes)
plays_from zero st place [] h = none_plays st place
plays_from zero st place (kind ∷ rest) h = absurd (omega arith)
plays_from (suc n) st place [] h = none_plays st place
plays_from (suc n) st place (kind ∷ rest) h =
    split (is_kind kind)
    (λ k. split (ltb (length rest) (body_length kind))
    (λ e. let l = ltb-true (length rest) (body_length kind) e in plays_same _ _ st _ _ (fed_cut st place kind rest k l) (read_cut n place kind rest k l) (cut_plays st place kind rest))
    (λ e. let l = ltb-false (length rest) (body_length kind) e in
    let r = kind ∷ take (body_length kind) rest in
    let more = drop (body_length kind) rest in
    let later = plays_from n (step st (call_of r)).state (place_after place (length r)) more (omega (arith, length-drop (body_length kind) rest)) in
    plays_same _ _ st _ _ (fed_whole st place kind rest k l) (read_whole n place kind rest k l) (record_plays st place r more (read_at n (place_after place (length r)) more) later)))
    (λ k. plays_same _ _ st _ _ (fed_bad st place kind rest k) (read_bad n place kind rest k) (bad_plays st place rest))

-- The lines are those of `run` over the calls read from the log, and the end state is that of the calls.
pub replayed : Replayed
replayed bytes = plays_from (length bytes) fresh_session.state 0 bytes (omega arith)
