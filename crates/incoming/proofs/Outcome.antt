-- What a message from the wire comes to, from what each statement does to the parts.
-- Assumes nothing.
use Rattle.std.proofs.Common.{◌≡◌, ℕ, Bool, true, false, cond, List, sym, refl, ap, ◌∙◌, ap₂}
use Rattle.copies.specs.Kinds.{gets_copies}
use Rattle.entry.specs.Entry.{message_copy}
use Rattle.entry.specs.declared.Entry.{Entry}
use Rattle.handle.specs.declared.Handle.{Handle}
use Rattle.incoming.proofs.Copied.{copies_only, monitors_same}
use Rattle.incoming.proofs.Receivers.{receivers_copies}
use Rattle.incoming.proofs.Turns.{do_all, do_copies, do_note, do_reply, do_send, done_all, heard_all_lem}
use Rattle.incoming.specs.Steps.{goes_on, monitor_kind, noted_at}
use Rattle.incoming.specs.Work.{arrival_of, to_do_of}
use Rattle.incoming.specs.declared.Arrival.{Arrival}
use Rattle.incoming.specs.declared.ToDo.{ToDo}
use Rattle.message.specs.Message.{destination}
use Rattle.message.specs.declared.Message.{Message}
use Rattle.parts.specs.Parts.{with_changed, state_of}
use Rattle.parts.specs.declared.Parts.{Parts}
use Rattle.rules.specs.Deliver.{copies, deliver}
use Rattle.rules.specs.Handles.{in_role, is_here}
use Rattle.rules.specs.Incoming.{heard, monitors}
use Rattle.rules.specs.State.{State, with_handles, with_inboxes, with_waits, with_active, with_clock, with_noted}
use Rattle.rules.specs.Tracker.{active_after_message}
use Rattle.wait.specs.declared.Wait.{Wait}

-- what copies change, stored in the parts
pub copied_change : (p r : Parts) (f : Handle → Bool) (e : Entry) → state_of r ≡ copies f e (state_of p)
    → state_of (with_changed p r.handles r.counts r.entries p.active p.clock) ≡ copies f e (state_of p)
copied_change p r f e s = ap (λ (t : State). with_inboxes (with_handles (state_of p) t.handles) t.inboxes) s ∙ sym (copies_only f e (state_of p))

-- the state after a message that is accepted
abbrev pub after_message : State → ℕ → Message → State
after_message s ts m = with_clock (with_active (heard s m ts) (active_after_message s m)) ts

-- the six steps one after the other, from s to s5, then the tracker and the clock
pub message_outcome : (a : Arrival) (x : ToDo) (m : Message) (ts : ℕ) (s s1 s2 s3 s4 s5 : State)
    → a ≡ arrival_of s m
    → x ≡ to_do_of s1 (goes_on s1 m) m
    → s1 ≡ copies (in_role (gets_copies a.monitors)) (message_copy m ts) s
    → s2 ≡ do_reply x m ts s1
    → s3 ≡ do_note x m s2
    → s4 ≡ do_send x s3
    → s5 ≡ do_copies x m ts s4
    → with_clock (with_active s5 a.active) ts ≡ after_message s ts m
message_outcome a x m ts s s1 s2 s3 s4 s5 came todo c1 c2 c3 c4 c5 =
    let here = is_here s (destination m.bytes) in
    let e = message_copy m ts in
    let all : s5 ≡ do_all x m ts s1 = c5 ∙ ap (do_copies x m ts) (c4 ∙ ap (do_send x) (c3 ∙ ap (do_note x m) c2)) in
    let copied : s1 ≡ copies (in_role (monitors s m)) e s =
    c1
    ∙ ap (λ (y : Arrival). copies (in_role (gets_copies y.monitors)) e s) came
    ∙ receivers_copies true (monitor_kind here) e s
    ∙ monitors_same s m here e refl in
    let heard_all : s5 ≡ heard s m ts = heard_all_lem s s1 s5 m ts copied (all ∙ ap (λ (y : ToDo). do_all y m ts s1) todo ∙ done_all s1 (goes_on s1 m) m ts) in
    ap₂ (λ (t : State) (y : Arrival). with_clock (with_active t y.active) ts) heard_all came

-- a reply, once its entry is delivered
pub replied_state : (s t : State) (ws vs : List Wait) (h : ℕ) (e d : Entry) → vs ≡ ws → e ≡ d → t ≡ deliver (with_waits s vs) h e → t ≡ deliver (with_waits s ws) h d
replied_state s t ws vs h e d v q r = r ∙ rw (v, q)

-- the noted address is stored, or nothing is
pub note_stored : (s t : State) (notes : Bool) (noted : List ℕ) (m : Message) → notes ≡ true → noted ≡ noted_at s.noted m → t ≡ with_noted s noted → t ≡ cond notes (with_noted s (noted_at s.noted m)) s
note_stored s t notes noted m b q r = r ∙ rw (b, q)

pub note_left : (s t : State) (notes : Bool) (m : Message) → notes ≡ false → t ≡ s → t ≡ cond notes (with_noted s (noted_at s.noted m)) s
note_left s t notes m b r = r ∙ rw b
