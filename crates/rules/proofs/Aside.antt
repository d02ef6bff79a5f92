-- Copies and the core's own work: no transmission and no wait of a handle ends or begins by them (document 01, "A message from the wire").
-- Assumes nothing.
use Prim.Native.Nat.{ℕ, ◌≤◌, ◌<◌}
use mathlib.Core.Bool.{Bool, true, false, cond, ◌&&◌}
use mathlib.Core.List.{List, [], ◌∷◌, ◌++◌, map, append_assoc, append-nil}
use mathlib.Core.Path.{◌≡◌, refl, sym, ◌∙◌}
use native.Mathlib.Omega.{arith}
use lib.Dec.{eqb, ltb}
use lib.ListN.{length, set, length-append, length-set}
use borrow.Author.Tests.{eqb-true, eqb-false, ne_eqb, ltb-true}
use Rattle.entry.specs.Entry.{message_copy}
use Rattle.entry.specs.declared.Entry.{Entry}
use Rattle.handle.specs.declared.Handle.{Handle}
use Rattle.inbox.specs.Inboxes.{inbox_of}
use Rattle.lists.specs.Elements.{map-append}
use Rattle.lists.specs.Sums.{sum, sum_append, sum-map, sum_zero}
use Rattle.lists.specs.Tests.{split, both, clash}
use Rattle.lists.specs.Vector.{put}
use Rattle.message.specs.Message.{message}
use Rattle.message.specs.declared.Message.{Message}
use Rattle.rules.proofs.Entries.{message_copy_shows}
use Rattle.rules.proofs.Mail.{Mail, mail_same, mail_trans, copy_mail, arrives, delivered_inbox}
use Rattle.rules.proofs.SameModes.{SameModes, modes_refl, modes_trans, modes_lost, same_open}
use Rattle.rules.specs.Core.{sends, answers, notes, is_noted}
use Rattle.rules.specs.Deliver.{deliver, loses, copy_to, copies, each, handle_numbers, copy_to_by, copies_by}
use Rattle.rules.specs.Derived.{room_taken}
use Rattle.rules.specs.Handles.{handle_at, is_open, in_role}
use Rattle.rules.specs.Incoming.{followed, refused_message, is_copied, is_unhandled}
use Rattle.rules.specs.Owed.{pending, room_owed, owed_room}
use Rattle.rules.specs.State.{State, with_handles, with_queue, with_noted, with_active, with_clock}
use Rattle.transmission.specs.Transmission.{no_owner, ownerless, room_for}
use Rattle.transmission.specs.declared.Transmission.{Transmission}
use Rattle.waits.specs.Waits.{Taken}

-- a weight of transmissions that counts none without owner
abbrev pub Owned : (Transmission → ℕ) → Type 0
Owned f = (m : Message) → f (ownerless m) ≡ 0

-- from s to t only copies came, and the core may have queued messages of its own
pub record Aside (s t : State) : Type 0 where
  pub modes : SameModes s t
  pub inboxes : length t.inboxes ≡ length s.inboxes
  pub wire : t.wire ≡ s.wire
  pub waits : t.waits ≡ s.waits
  pub core : List Message
  pub queue : t.queue ≡ s.queue ++ map ownerless core
  pub fits : length s.queue ≤ 18 → length t.queue ≤ 18
  pub mail : (h : ℕ) → Mail h s t []
  pub room : (h : ℕ) → h < 8 → room_taken s h ≤ 16 → room_taken t h ≤ 16
  pub none : (h : ℕ) → is_open s h ≡ false → inbox_of t.inboxes h ≡ inbox_of s.inboxes h
  pub settings : t.settings ≡ s.settings

-- nothing but lost counts, noted addresses, the active one and the clock; nothing at all, one after the other, one or nothing, and several
still_aside : (s : State) (hs : List Handle) (x : List ℕ) (a ts : ℕ) → SameModes s (with_handles s hs) → Aside s (with_clock (with_active (with_noted (with_handles s hs) x) a) ts)
still_aside s hs x a ts m = record {
  modes = m;
  inboxes = refl;
  wire = refl;
  waits = refl;
  core = [];
  queue = sym (append-nil s.queue);
  fits = λ l. l;
  mail = λ h. mail_same h s _ refl;
  room = λ h l r. r;
  none = λ h e. refl;
  settings = refl;
}

pub aside_refl : (s : State) → Aside s s
aside_refl s = still_aside s s.handles s.noted s.active s.clock (modes_refl s)

pub aside_trans : (s t u : State) → Aside s t → Aside t u → Aside s u
aside_trans s t u a b = record {
  modes = modes_trans s t u a.modes b.modes;
  inboxes = b.inboxes ∙ a.inboxes;
  wire = b.wire ∙ a.wire;
  waits = b.waits ∙ a.waits;
  core = a.core ++ b.core;
  queue = b.queue ∙ rw (a.queue, append_assoc, map-append ownerless a.core b.core);
  fits = λ l. b.fits (a.fits l);
  mail = λ h. mail_trans h s t u [] [] (a.mail h) (b.mail h);
  room = λ h l r. b.room h l (a.room h l r);
  none = λ h e. b.none h (same_open s t a.modes h ∙ e) ∙ a.none h e;
  settings = b.settings ∙ a.settings;
}

pub aside_if : (b : Bool) (s t : State) → Aside s t → Aside s (cond b t s)
aside_if true s t a = a
aside_if false s t a = aside_refl s

pub each_aside : {A : Type 0} (f : State → A → State) → ((s : State) (x : A) → Aside s (f s x)) → (s : State) (xs : List A) → Aside s (each f s xs)
each_aside f k s [] = aside_refl s
each_aside f k s (x ∷ xs) = aside_trans s (f s x) (each f (f s x) xs) (k s x) (each_aside f k (f s x) xs)

-- what is pending, with what the core queued: weights that count none without owner are as they were
pub aside_pending : (s t : State) (a : Aside s t) → pending t ≡ pending s ++ map ownerless a.core
aside_pending s t a = rw (a.wire, a.queue) (sym (append_assoc s.wire s.queue (map ownerless a.core)))

pub core_weightless : (f : Transmission → ℕ) → Owned f → (ms : List Message) → sum f (map ownerless ms) ≡ 0
core_weightless f z ms = sum-map f ownerless ms ∙ sum_zero (λ m. f (ownerless m)) ms z

pub aside_sum : (f : Transmission → ℕ) → Owned f → (s t : State) → Aside s t → sum f (pending t) ≡ sum f (pending s)
aside_sum f z s t a = rw (aside_pending s t a) (omega (arith, sum_append f (pending s) (map ownerless a.core), core_weightless f z a.core))

-- no handle has the number that stands for no owner, so none is owed room for what has none
pub no_owner_lem : (h : ℕ) → h < 8 → eqb no_owner h ≡ false
no_owner_lem h l = ne_eqb no_owner h (λ (p : no_owner ≡ h). omega arith)

pub room_owned : (h : ℕ) → h < 8 → Owned (room_for h)
room_owned h l m = rw (no_owner_lem h l)

-- and so is the room that a handle is owed
pub aside_owed : (s t : State) → Aside s t → (h : ℕ) → h < 8 → owed_room t h ≡ owed_room s h
unfolding room_owed
aside_owed s t a h l = rw a.waits (omega (arith, aside_sum (room_for h) (room_owned h l) s t a))

-- a copy: dropped and counted as lost, or delivered
lost_aside : (s : State) (g : ℕ) → Aside s (with_handles s (set s.handles g (loses (handle_at s g))))
lost_aside s g = still_aside s (set s.handles g (loses (handle_at s g))) s.noted s.active s.clock (modes_lost s g)

-- a copy is delivered only where entries plus owed room is not 16
delivered_room : (s : State) (g : ℕ) (e : Entry) (h : ℕ) → eqb (room_taken s g) 16 ≡ false → room_taken s h ≤ 16 → room_taken (deliver s g e) h ≤ 16
delivered_room s g e h q r =
    rw (delivered_inbox s.inboxes g e h, length-append)
    (split (arrives s.inboxes g h)
    (λ a.
    let p = eqb-true g h (both (eqb g h) (ltb h (length s.inboxes) && ltb (length (inbox_of s.inboxes h)) 16) a).0 in
    let d = rw p at (eqb-false (room_taken s g) 16 q) in
    rw a (omega arith))
    (λ a. rw a (omega arith)))

deliver_aside : (e : Entry) → e.sequence ≡ 0 → (s : State) (g : ℕ) → is_open s g ≡ true → eqb (room_taken s g) 16 ≡ false → Aside s (deliver s g e)
deliver_aside e n s g o q = record {
  modes = modes_refl s;
  inboxes = length-set s.inboxes g (put 16 (inbox_of s.inboxes g) e);
  wire = refl;
  waits = refl;
  core = [];
  queue = sym (append-nil s.queue);
  fits = λ l. l;
  mail = λ h. copy_mail h s g e n;
  room = λ h l r. delivered_room s g e h q r;
  none = λ h c. split (eqb g h)
      (λ p. clash o (rw (eqb-true g h p) c))
      (λ p. delivered_inbox s.inboxes g e h ∙ rw p (append-nil (inbox_of s.inboxes h)));
  settings = refl;
}

copy_to_aside : (e : Entry) → e.sequence ≡ 0 → (s : State) (g : ℕ) → is_open s g ≡ true → Aside s (copy_to e s g)
unfolding copy_to_by
copy_to_aside e n s g o = split (eqb (room_taken s g) 16) (λ q. rw q (lost_aside s g)) (λ q. rw q (deliver_aside e n s g o q))

-- copies for all handles in a role
pub copies_aside : (p : ℕ → Bool) (e : Entry) → e.sequence ≡ 0 → (s : State) → Aside s (copies (in_role p) e s)
unfolding copies_by
copies_aside p e n s =
    each_aside (λ t h. cond (in_role p (handle_at t h)) (copy_to e t h) t)
    (λ t h. split (in_role p (handle_at t h))
    (λ q. rw q (copy_to_aside e n t h (both (is_open t h) (p (handle_at t h).mode) q).0))
    (λ q. rw q (aside_refl t)))
    s
    handle_numbers

-- what the core sends
sent_aside : (s : State) (m : Message) → length s.queue < 18 → Aside s (with_queue s (s.queue ++ (ownerless m ∷ [])))
unfolding room_owed
sent_aside s m k = record {
  modes = modes_refl s;
  inboxes = refl;
  wire = refl;
  waits = refl;
  core = m ∷ [];
  queue = refl;
  fits = λ l. rw length-append (omega arith);
  mail = λ h. mail_same h s _ refl;
  room = λ h l r.
      let f = room_for h in
      omega (arith, r, sum_append f s.wire (s.queue ++ (ownerless m ∷ [])), sum_append f s.wire s.queue, sum_append f s.queue (ownerless m ∷ []), room_owned h l m);
  none = λ h e. refl;
  settings = refl;
}

-- it is queued, or dropped if the queue is full or TRANSMIT is absent
pub sends_aside : (s : State) (bytes : List ℕ) → Aside s (sends s bytes)
unfolding sends
sends_aside s bytes = aside_if s.capabilities.transmit s (with_queue s (put 18 s.queue (ownerless (message (length bytes) bytes))))
    (split (ltb (length s.queue) 18)
    (λ q. rw q (sent_aside s (message (length bytes) bytes) (ltb-true (length s.queue) 18 q)))
    (λ q. rw q (aside_refl s)))

-- the steps of a message from the wire that end no wait
pub notes_aside : (s : State) (m : Message) → Aside s (notes s m)
unfolding notes
notes_aside s m = aside_if (is_noted m) s _ (still_aside s s.handles _ s.active s.clock (modes_refl s))

pub answers_aside : (s : State) (b : Bool) (bytes : List ℕ) → Aside s (answers s b bytes)
unfolding answers
answers_aside s b bytes = aside_if b s _ (sends_aside s bytes)

pub followed_aside : (s : State) (b : Bool) (t : Taken) (m : Message) (ts : ℕ) → Aside s (followed s b t m ts)
followed_aside s b t m ts = aside_if (is_copied b t) s _ (copies_aside _ (message_copy m ts) (message_copy_shows m ts).sequence s)

pub refused_message_aside : (s : State) (b : Bool) (t : Taken) (m : Message) → Aside s (refused_message s b t m)
refused_message_aside s b t m = aside_if (is_unhandled s b t m) s _ (sends_aside s _)

-- the tracker and the clock (document 02, W-205 and W-208)
pub clock_aside : (s : State) (ts : ℕ) → Aside s (with_clock s ts)
clock_aside s ts = still_aside s s.handles s.noted s.active ts (modes_refl s)

pub active_aside : (s : State) (a ts : ℕ) → Aside s (with_clock (with_active s a) ts)
active_aside s a ts = still_aside s s.handles s.noted a ts (modes_refl s)
