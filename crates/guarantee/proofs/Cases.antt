-- The cases of a call, for all laws: a law over a call and its outcome holds of every step if it holds of each of these.
-- Assumes nothing.
use Prim.Native.Nat.{ℕ, ◌+◌, ◌-◌, ◌≤◌, ◌<◌}
use mathlib.Core.Bool.{Bool, true, false, ◌||◌}
use mathlib.Core.List.{List, [], ◌∷◌, ◌++◌}
use mathlib.Core.Path.{◌≡◌, refl, sym}
use native.Mathlib.Omega.{arith}
use lib.Dec.{eqb}
use lib.ListN.{length, set}
use lib.Seq.{get_or-set_same, get_or-set_other, drop-length}
use borrow.Author.Tests.{eqb-true, eqb-false}
use Rattle.entry.specs.declared.Entry.{Entry}
use Rattle.guarantee.proofs.Ends.{Ends}
use Rattle.guarantee.specs.Modes.{ModesHeld}
use Rattle.guarantee.specs.Seen.{came, gave, opens, closes, opens_to, gives_to, entry_given, done_by, is_close, is_receive, is_bus_result, milliseconds}
use Rattle.inbox.specs.Inboxes.{inbox_of}
use Rattle.lists.specs.Tests.{split}
use Rattle.rules.specs.Call.{Call, Request, Answer, Outcome, finish, done, opened, accepted, received, started, call_open, call_close, call_transmit, call_receive, call_bus_start}
use Rattle.rules.specs.Close.{closed}
use Rattle.rules.specs.Derived.{room_taken}
use Rattle.rules.specs.Handles.{is_open}
use Rattle.rules.specs.Number.{next_sequence}
use Rattle.rules.specs.Open.{opened_handle}
use Rattle.rules.specs.Owed.{wanted_replies}
use Rattle.rules.specs.State.{State, with_handles, with_inboxes, with_queue, with_wire, with_waits, with_last}
use Rattle.rules.specs.Step.{Step}
use Rattle.rules.specs.Transmit.{transmission_of, wants_reply, new_room}
use Rattle.transmission.specs.declared.Transmission.{Transmission}

-- a call with its outcome, as a step of a history
abbrev pub step_from : State → Call → Outcome → Step
step_from s c o = record { before = s; call = c; answer = o.answer; after = o.state }

-- nothing comes to any handle
abbrev pub Silent : State → Call → Outcome → Type 0
Silent s c o = (h : ℕ) → came h (step_from s c o) ≡ []

-- the state t, with the inboxes, the queue, the wire and the waits of s
abbrev pub calm : State → State → State
calm s t = with_inboxes (with_queue (with_wire (with_waits t s.waits) s.wire) s.queue) s.inboxes

-- a call that leads to `calm s t`: it opens, closes, gives and ends nothing, a mode that it sets may be had, and a number that it gives is the next one
pub record Quiet (s : State) (c : Call) (a : Answer) (t : State) : Type 0 where
  pub handles : length t.handles ≡ length s.handles
  pub still : (h : ℕ) → is_open t h ≡ is_open s h
  pub modes : ModesHeld s → ModesHeld t
  pub no_open : (h : ℕ) → opens_to h a ≡ false
  pub no_close : (h : ℕ) → done_by (is_close h c) a ≡ false
  pub no_gift : (h : ℕ) → entry_given (is_receive h c) a ≡ []
  pub no_end : done_by (is_bus_result c) a ≡ false
  pub no_time : milliseconds c ≡ 0
  pub sequence : (n : ℕ) → gives_to n a ≡ true → next_sequence s ≡ n

-- a transmit queued under the next number
abbrev pub enqueued : State → ℕ → Request → State
enqueued s g r = with_last (with_queue s (s.queue ++ (transmission_of (next_sequence s) g r ∷ []))) (next_sequence s)

-- a law of an outcome with which nothing comes
abbrev pub InSilence : State → (Call → Outcome → Type 0) → Call → Outcome → Type 0
InSilence s P c o = Silent s c o → P c o

pub record Cases (s : State) (P : Call → Outcome → Type 0) : Type 0 where
  -- a refused call; a mode set; a poll answered at once; a configure, a listing, a lookup and the active address
  pub when_quiet : (c : Call) (a : Answer) (t : State) → Quiet s c a t → InSilence s P c (finish a (calm s t))
  pub when_opened : (i : ℕ) (p : Bool) → i < 8 → is_open s i ≡ false → InSilence s P (call_open p) (finish (opened i) (with_handles s (set s.handles i (opened_handle p))))
  pub when_closed : (g : ℕ) → g < 8 → is_open s g ≡ true → InSilence s P (call_close g) (finish done (closed s g))
  pub when_queued : (g : ℕ) (r : Request) → g < 8 → is_open s g ≡ true → length s.queue < 18 → (wants_reply r ≡ true → wanted_replies s g < 4) → room_taken s g + new_room r ≤ 16
      → InSilence s P (call_transmit g r) (finish (accepted (next_sequence s) 0) (enqueued s g r))
  pub when_received : (g : ℕ) (e : Entry) (es : List Entry) → g < 8 → is_open s g ≡ true → inbox_of s.inboxes g ≡ e ∷ es
      → InSilence s P (call_receive g) (finish (received e) (with_inboxes s (set s.inboxes g es)))
  pub when_started : (x : Transmission) (q : List Transmission) → s.wire ≡ [] → s.queue ≡ x ∷ q
      → InSilence s P call_bus_start (finish (started x.message) (with_queue (with_wire s (x ∷ [])) q))
  -- a bus result, a message, time and an unconfigure
  pub when_ended : (c : Call) (t : State) → Ends s c t → P c (finish done t)

-- ---- where nothing comes
-- the inbox is as it was, and nothing was taken out
pub same_came : (h : ℕ) (x : Step) → inbox_of x.after.inboxes h ≡ inbox_of x.before.inboxes h → gave h x ≡ [] → came h x ≡ []
same_came h x i g =
    split (opens h x || closes h x)
    (λ e. rw e)
    (λ e. let z : length (inbox_of x.before.inboxes h) - 0 ≡ length (inbox_of x.before.inboxes h) = omega arith in rw (e, g, i, z) (drop-length (inbox_of x.before.inboxes h)))

-- with a close: the handle's own inbox is emptied, another's is as it was
pub closed_came : (s : State) (g : ℕ) → Silent s (call_close g) (finish done (closed s g))
closed_came s g h =
    split (eqb g h)
    (λ e. rw e)
    (λ e. same_came h (step_from s (call_close g) (finish done (closed s g))) (get_or-set_other s.inboxes g h [] [] (λ p. eqb-false g h e (sym p))) refl)

-- with a receive: the rest of the inbox was there before
pub received_came : (s : State) (g : ℕ) (e : Entry) (es : List Entry) → g < length s.inboxes → inbox_of s.inboxes g ≡ e ∷ es
    → Silent s (call_receive g) (finish (received e) (with_inboxes s (set s.inboxes g es)))
received_came s g x es l i h =
    split (eqb g h)
    (λ e.
    let p = eqb-true g h e in
    let a : inbox_of (set s.inboxes g es) h ≡ es = rw (← p) (get_or-set_same s.inboxes g es [] l) in
    let b : inbox_of s.inboxes h ≡ x ∷ es = rw (← p) i in
    let z : length (x ∷ es) - 1 ≡ length es = omega arith in
    rw (e, a, b, z) (drop-length es))
    (λ e. same_came h (step_from s (call_receive g) (finish (received x) (with_inboxes s (set s.inboxes g es)))) (get_or-set_other s.inboxes g h es [] (λ p. eqb-false g h e (sym p))) (rw e))
