-- The waits that time ends, one taken out after the other, are those that the rules end at once.
-- Assumes nothing.
use Prim.Native.Nat.{ℕ, ◌≤◌, ◌<◌}
use mathlib.Core.Bool.{true, cond, not}
use mathlib.Core.List.{List, [], ◌∷◌, map}
use mathlib.Core.Path.{◌≡◌, refl, sym, ap, ◌∙◌}
use native.Mathlib.Omega.{arith}
use lib.Dec.{leb}
use lib.ListN.{length, get_or}
use borrow.Author.Tests.{leb-true, leb-false, lt-ltb, le-ltb, le-leb, lt-leb}
use Rattle.entry.specs.declared.Entry.{Entry}
use Rattle.inbox.specs.Inboxes.{delivered}
use Rattle.lists.specs.Elements.{empty_list}
use Rattle.lists.specs.Order.{sort, least_over, sort_least}
use Rattle.lists.specs.Places.{least, least_lt, without_past, keep_without}
use Rattle.lists.specs.Sums.{keep, keep_none, keep_all}
use Rattle.lists.specs.Tests.{split, cond_same}
use Rattle.rules.specs.Call.{finish, done}
use Rattle.rules.specs.Deliver.{deliver}
use Rattle.parts.specs.Parts.{state_of}
use Rattle.parts.specs.declared.Parts.{Parts}
use Rattle.rules.specs.State.{State, with_inboxes, with_waits}
use Rattle.rules.specs.Time.{do_time, overdue, remaining, timeout_entry}
use Rattle.std.specs.Prelude.{Some, None}
use Rattle.time.specs.Time.{timed_out_all}
use Rattle.wait.specs.Wait.{no_wait, left_of, reduced}
use Rattle.wait.specs.declared.Wait.{Wait}
use Rattle.waits.specs.Waits.{Taken, taken_of, due_at, due_taken, waits_of}
use Rattle.waits.specs.declared.Waits.{Waits}

-- the waits that time does not end
abbrev pub others : ℕ → List Wait → List Wait
others ms ws = keep (λ w. not (leb (left_of w) ms)) ws

-- after one may have been taken out: the waits still to end, that one first, and the others
abbrev pub due_of : ℕ → Taken → List Wait
due_of ms t = cond t.found (t.wait ∷ overdue ms t.rest) []

abbrev pub others_of : ℕ → Taken → List Wait
others_of ms t = cond t.found (others ms t.rest) t.rest

-- the least time left
abbrev next_left : List Wait → ℕ
next_left ws = left_of (get_or ws (least left_of ws) no_wait)

-- both are as before it was taken out
pub record Same (ms : ℕ) (ws : List Wait) (t : Taken) : Type 0 where
  pub due : due_of ms t ≡ overdue ms ws
  pub rest : others_of ms t ≡ others ms ws

-- the next to end has no more left than that
same_now : (ms : ℕ) (w : Wait) (ws : List Wait) → next_left (w ∷ ws) ≤ ms → Same ms (w ∷ ws) (due_taken ms (w ∷ ws))
unfolding due_taken due_at
same_now ms w ws h =
    let l = w ∷ ws in
    let i = least_lt left_of l (omega arith) in
    let e : leb (next_left l) ms ≡ true = le-leb (next_left l) ms h in
    rw (e, lt-ltb (least left_of l) (length l) i)
    (record {
      due = sym (sort_least left_of ms l no_wait i h);
      rest = keep_without (λ x. not (leb (left_of x) ms)) (least left_of l) l no_wait (rw e);
    })

-- none has
same_later : (ms : ℕ) (ws : List Wait) → ms < next_left ws → Same ms ws (due_taken ms ws)
unfolding due_taken due_at
same_later ms ws h =
    let none = least_over left_of ms ws no_wait h in
    rw (lt-leb (next_left ws) ms h, le-ltb (length ws) (length ws) (omega arith), without_past (length ws) ws (omega arith))
    (record {
      due = ap (sort left_of) (sym (keep_none (λ w. leb (left_of w) ms) ws none));
      rest = sym (keep_all (λ w. leb (left_of w) ms) ws none);
    })

-- so it is for any waits
pub same : (ms : ℕ) (ws : List Wait) → Same ms ws (due_taken ms ws)
unfolding due_taken due_at
same ms [] = rw cond_same (record { due = refl; rest = refl })
same ms (w ∷ ws) =
    split (leb (next_left (w ∷ ws)) ms)
    (λ e. same_now ms w ws (leb-true (next_left (w ∷ ws)) ms e))
    (λ e. same_later ms (w ∷ ws) (leb-false (next_left (w ∷ ws)) ms e))

-- one is taken out: it is the first, and the next is looked for
pub due_next : (ms : ℕ) (ws rest : List Wait) (w : Wait) → taken_of (Some w) rest ≡ due_taken ms ws → overdue ms ws ≡ w ∷ overdue ms rest
due_next ms ws rest w e = sym (same ms ws).due ∙ sym (ap (due_of ms) e)

pub others_next : (ms : ℕ) (ws rest : List Wait) (w : Wait) → taken_of (Some w) rest ≡ due_taken ms ws → others ms ws ≡ others ms rest
others_next ms ws rest w e = sym (same ms ws).rest ∙ sym (ap (others_of ms) e)

-- none is: none is left to end
pub due_none : (ms : ℕ) (ws rest : List Wait) → taken_of None rest ≡ due_taken ms ws → overdue ms ws ≡ []
due_none ms ws rest e = sym (same ms ws).due ∙ sym (ap (due_of ms) e)

pub others_none : (ms : ℕ) (ws rest : List Wait) → taken_of None rest ≡ due_taken ms ws → others ms ws ≡ rest
others_none ms ws rest e = sym (same ms ws).rest ∙ sym (ap (others_of ms) e)

-- one turn of the loop, by the inboxes and by the state
pub turn_boxes : (ms : ℕ) (is js : List (List Entry)) (ws rest vs : List Wait) (w : Wait) → overdue ms ws ≡ w ∷ overdue ms rest → js ≡ delivered is w.owner (timeout_entry w) → vs ≡ rest
    → timed_out_all js (overdue ms vs) ≡ timed_out_all is (overdue ms ws)
turn_boxes ms is js ws rest vs w r p q = rw (p, q) (sym (ap (timed_out_all is) r))

pub turn_state : (s u v : State) (ws rest : List Wait) (is : List (List Entry)) → u ≡ with_inboxes (with_waits s ws) u.inboxes → v ≡ with_inboxes (with_waits u rest) is → v ≡ with_inboxes (with_waits s v.waits) v.inboxes
turn_state s u v ws rest is p q = rw (q, p)

-- the rule's state, from the state with the new inboxes
pub elapsed_parts : (s u : State) (is js : List (List Entry)) (ws rs vs : List Wait) → u ≡ with_inboxes (with_waits s vs) is → is ≡ js → ws ≡ rs → with_waits u ws ≡ with_inboxes (with_waits s rs) js
elapsed_parts s u is js ws rs vs p q r = rw (p, q, r)

-- the parts with other waits
abbrev pub with_new : Parts → Waits → Parts
with_new p new = record {
  counts = p.counts;
  clock = p.clock;
  can_transmit = p.can_transmit;
  can_monitor_all = p.can_monitor_all;
  last = p.last;
  settings = p.settings;
  noted = p.noted;
  active = p.active;
  handles = p.handles;
  queue = p.queue;
  wire = p.wire;
  waits = new;
  entries = p.entries;
}

-- after some turns that began with parts a: what is still to come is what is left of it
pub record Turns (ms : ℕ) (a p : Parts) : Type 0 where
  pub boxes : timed_out_all (state_of p).inboxes (overdue ms (waits_of p.waits)) ≡ timed_out_all (state_of a).inboxes (overdue ms (waits_of a.waits))
  pub rest : others ms (waits_of p.waits) ≡ others ms (waits_of a.waits)
  pub state : state_of p ≡ with_inboxes (with_waits (state_of a) (waits_of p.waits)) (state_of p).inboxes

-- one more
pub turn : (ms : ℕ) (a p q : Parts) (w : Wait) (new : Waits) → Turns ms a p → taken_of (Some w) (waits_of new) ≡ due_taken ms (waits_of p.waits) → state_of q ≡ deliver (state_of (with_new p new)) w.owner (timeout_entry w) → Turns ms a q
turn ms a p q w new before taken told =
    let ws = waits_of p.waits in
    let rest = waits_of new in
    let boxes : (state_of q).inboxes ≡ delivered (state_of p).inboxes w.owner (timeout_entry w) = ap (λ (x : State). x.inboxes) told in
    let left : waits_of q.waits ≡ rest = ap (λ (x : State). x.waits) told in
    record {
      boxes = turn_boxes ms (state_of p).inboxes (state_of q).inboxes ws rest (waits_of q.waits) w (due_next ms ws rest w taken) boxes left ∙ before.boxes;
      rest = ap (others ms) left ∙ sym (others_next ms ws rest w taken) ∙ before.rest;
      state = turn_state (state_of a) (state_of p) (state_of q) ws rest (delivered (state_of p).inboxes w.owner (timeout_entry w)) before.state told;
    }

-- fewer are left to end
pub fewer : (ms : ℕ) (p q : Parts) (w : Wait) (new : Waits) → taken_of (Some w) (waits_of new) ≡ due_taken ms (waits_of p.waits) → state_of q ≡ deliver (state_of (with_new p new)) w.owner (timeout_entry w)
    → length (overdue ms (waits_of q.waits)) < length (overdue ms (waits_of p.waits))
fewer ms p q w new taken told =
    let left = ap (λ (x : State). length (overdue ms x.waits)) told in
    let next = ap length (due_next ms (waits_of p.waits) (waits_of new) w taken) in
    omega arith

-- the last one
pub elapsed : (ms : ℕ) (a p : Parts) (new after : Waits) → Turns ms a p → taken_of None (waits_of new) ≡ due_taken ms (waits_of p.waits) → waits_of after ≡ map (reduced ms) (waits_of new)
    → state_of (with_new p after) ≡ with_inboxes (with_waits (state_of a) (remaining ms (waits_of a.waits))) (timed_out_all (state_of a).inboxes (overdue ms (waits_of a.waits)))
elapsed ms a p new after before none less =
    let ws = waits_of p.waits in
    let boxes : (state_of p).inboxes ≡ timed_out_all (state_of a).inboxes (overdue ms (waits_of a.waits)) = ap (timed_out_all (state_of p).inboxes) (sym (due_none ms ws (waits_of new) none)) ∙ before.boxes in
    let waits : waits_of after ≡ remaining ms (waits_of a.waits) = less ∙ ap (map (reduced ms)) (sym (others_none ms ws (waits_of new) none) ∙ before.rest) in
    elapsed_parts (state_of a) (state_of p) (state_of p).inboxes _ (waits_of after) _ ws before.state boxes waits

-- with no waits, time changes nothing
pub no_waits : (s : State) (ms : ℕ) → length s.waits ≡ 0 → finish done s ≡ do_time s ms
unfolding do_time
no_waits s ms e = rw (empty_list s.waits e)
