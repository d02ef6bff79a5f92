-- A turn of the loop that plays a portion, from what its calls promise.
-- Assumes nothing.
use Rattle.std.proofs.Common.{◌≡◌, ℕ, suc, ◌+◌, ◌≤◌, ◌<◌, false, cond, not, ◌&&◌, eqb, Option, None, Some, List, [], ◌∷◌, length, take, drop, refl, sym, ap, ◌∙◌, arith, length-drop}
use Rattle.adapter.specs.Adapter.{state_of}
use Rattle.lists.specs.Tests.{split}
use Rattle.lists.specs.Vector.{put}
use Rattle.reading.proofs.Gather.{turn_gathers, grown_whole, grown_part}
use Rattle.reading.specs.Gather as reading
use Rattle.reading.specs.Gather.{turned}
use Rattle.reading.specs.Reading as log
use Rattle.reading.specs.Reading.{Reading, Read, unknown}
use Rattle.reader.proofs.Came as proofs
use Rattle.reader.proofs.Turns.{TurnIs}
use Rattle.reader.specs.Kind.{kind_number}
use Rattle.reader.specs.Turn.{reading_of, came_of}
use Rattle.reader.specs.declared.Cursor.{Cursor}
use Rattle.reader.specs.declared.Turn.{Turn}
use Rattle.reader.specs.declared.Whole.{Whole}
use Rattle.session_log.proofs.Record.{call_by, call_held, kind_held}
use Rattle.session_log.specs.Gather.{gather, gathered, turn}
use Rattle.session_log.specs.Record.{is_kind, kind_of, call_of}
use Rattle.session_log.specs.Session.{Session, Printed, bad, grown, played, is_whole}
use Rattle.session_log.specs.Text.{numbers_of, line_of, bad_line}
use Rattle.player.specs.Player.{session_with, shown, shown_came}
use Rattle.play.specs.Play.{Effect}
use Rattle.play.specs.declared.Played.{Played}
use Rattle.player.proofs.Calls.{Follows, called}
use Rattle.player.proofs.Feeding.{Feeding, next}
use Rattle.rules.specs.State.{State}
use Rattle.rules.specs.Step.{step}
use Rattle.text.specs.Line.{PutAt, said_of}

-- the session's bytes are gathered as those of any reading
same_gather : (h bytes : List ℕ) → (reading.gather h bytes ≡ gather h bytes) × (reading.gathered h bytes ≡ gathered h bytes)
same_gather h [] = (refl, refl)
same_gather h (b ∷ bs) = split (is_whole (put 28 h b))
    (λ e. rw e (refl, refl))
    (λ e. let m = same_gather (put 28 h b) bs in rw e (m.0, ap suc m.1))

-- what a session does with what was read
abbrev with_reading : State → Reading → Session
with_reading s r = record { state = s; held = r.held; place = r.place; ended = r.ended }

abbrev pub by_came : State → Reading → List (List ℕ) → Printed
by_came s r [] = record { session = with_reading s r; text = cond r.ended (bad_line r.place) [] }
by_came s r (g ∷ gs) = let o = step s (call_of g) in record { session = with_reading o.state r; text = line_of (kind_of g) (numbers_of o.answer) }

abbrev pub by_read : State → Read → Printed
by_read s n = by_came s n.reading n.came

turn_grown : (s : State) (r : Reading) (g : List ℕ) → grown (with_reading s r) g ≡ by_read s (log.grown r g)
unfolding grown played
turn_grown s r g = split (is_whole g)
    (λ w. rw (w, grown_whole r g w) refl)
    (λ w. rw (w, grown_part r g w) refl)

turn_read : (s : State) (r : Reading) (g : List ℕ) → turn (with_reading s r) g ≡ by_read s (turned r g)
unfolding turn turned bad unknown
turn_read s r g = split (eqb (length r.held) 0 && not (is_kind (kind_of g)))
    (λ t. rw t)
    (λ t. rw t (turn_grown s r g))

-- and what it does with the record that a turn of the code has made whole
abbrev pub turned_code : Turn → List ℕ → Played → Printed
turned_code t bytes p = record { session = session_with (state_of p.adapter) bytes t.cursor; text = shown t (kind_of bytes) (said_of p.said) }

module _ (s : State) (bytes : List ℕ) (c : Cursor) (rest : List ℕ) (t : Turn) (bytes' : List ℕ) (p : Played)
    (i : TurnIs t bytes' bytes c rest) (going : c.ended ≡ false) (some : 0 < length rest) (w : Follows s bytes' t.came p) where
  came_played : (came : Option Whole) → t.came ≡ came → Follows s bytes' came p → by_came s (reading_of bytes' t.cursor) (came_of came bytes') ≡ record { session = session_with (state_of p.adapter) bytes' t.cursor; text = cond t.cursor.ended (bad_line t.cursor.place) (shown_came came (kind_of bytes') (said_of p.said)) }
  came_played None e f = rw f
  came_played (Some whole) e f =
      let m = proofs.came i whole e in
      let k : kind_of (take whole.length bytes') ≡ kind_of bytes' = kind_held bytes' whole.length (omega (arith, m.long)) in
      let call : call_of (take whole.length bytes') ≡ call_by (kind_number whole.kind) bytes' = call_held bytes' whole.length m.long ∙ sym (rw m.number (called bytes')) in
      rw (m.going, call, k) (sym (ap (λ (x : Effect). record { session = record { state = x.state; held = take t.cursor.count bytes'; place = t.cursor.place; ended = false }; text = line_of (kind_of bytes') x.numbers }) f))

  pub the_turn : (turn (session_with s bytes c) (gather (take c.count bytes) rest) ≡ turned_code t bytes' p) × (gathered (take c.count bytes) rest ≡ t.taken)
  the_turn =
      let g = same_gather (take c.count bytes) rest in
      let e = i.same ∙ turn_gathers (reading_of bytes c) rest going some in (
        ap (turn (session_with s bytes c)) (sym g.0)
            ∙ turn_read s (reading_of bytes c) (reading.gather (take c.count bytes) rest)
            ∙ sym (ap (λ (x : log.Turn). by_read s x.read) e)
            ∙ came_played t.came refl w,
        sym g.1 ∙ sym (ap (λ (x : log.Turn). x.taken) e),
      )

-- the session before the turn; what the turn of reading gave, and what was played for it
pub after_turn : (s₀ : Session) (portion out₀ : List ℕ) (s : State) (bytes : List ℕ) (c : Cursor) (n v : ℕ) (out : List ℕ) (t : Turn) (bytes' : List ℕ) (p : Played) (v' : ℕ) (out' : List ℕ)
    → Feeding s₀ portion out₀ (session_with s bytes c) n v out → n < length portion → c.ended ≡ false → v + 29 ≤ length out₀
    → TurnIs t bytes' bytes c (drop n portion) → Follows s bytes' t.came p → PutAt out v (shown t (kind_of bytes') (said_of p.said)) v' out'
    → Feeding s₀ portion out₀ (session_with (state_of p.adapter) bytes' t.cursor) (n + t.taken) v' out'
after_turn s₀ portion out₀ s bytes c n v out t bytes' p v' out' f more going room i w q =
    let m = the_turn s bytes c (drop n portion) t bytes' p i going (omega (arith, length-drop n portion)) w in
    next s₀ portion out₀ (session_with s bytes c) n v out f (turned_code t bytes' p) t.taken v' out' more going room m.0 m.1 (proofs.taken_within i) q
