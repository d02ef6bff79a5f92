-- What a call does that ends transmissions and waits: a bus result, a message from the wire, time passing and an unconfigure.
-- Assumes nothing.
use Prim.Native.Nat.{ℕ, ◌+◌, ◌-◌, ◌≤◌, ◌<◌}
use mathlib.Core.Bool.{Bool, true, false, cond, ◌&&◌}
use mathlib.Core.List.{List, [], map}
use mathlib.Core.Logic.{◌≢◌}
use mathlib.Core.Path.{◌≡◌, refl, ◌∙◌, sym}
use native.Mathlib.Omega.{arith}
use lib.Dec.{ltb}
use lib.ListN.{length}
use Rattle.constants.specs.Kernel.{CEC-TX-STATUS-OK, CEC-TX-STATUS-ABORTED, CEC-RX-STATUS-OK}
use Rattle.entry.specs.declared.Entry.{Entry}
use Rattle.guarantee.proofs.Carried.{sent_as, waiting_as}
use Rattle.guarantee.proofs.Comes.{Comes, entries_to, comes_aside}
use Rattle.guarantee.proofs.Invariant.{Inv, spent}
use Rattle.guarantee.specs.Seen.{is_close, is_bus_result, milliseconds}
use Rattle.lists.specs.Last.{last, last_more}
use Rattle.lists.specs.Sums.{sum}
use Rattle.lists.specs.Tests.{bit}
use Rattle.rules.proofs.Aside.{Owned, Aside, aside_pending, aside_sum, core_weightless}
use Rattle.rules.proofs.Entries.{Shows, aborted_result_shows, abort_entry_shows}
use Rattle.rules.proofs.SameModes.{SameModes}
use Rattle.rules.specs.BusResult.{wait_for}
use Rattle.rules.specs.Call.{Call, call_open, call_close, call_mode, call_transmit, call_receive, call_bus_start, call_bus_result, call_message, call_time, call_configure, call_unconfigure, call_listing, call_lookup, call_active_address}
use Rattle.rules.specs.Handles.{has_bit}
use Rattle.rules.specs.Owed.{pending}
use Rattle.rules.specs.State.{State}
use Rattle.rules.specs.Timestamps.{time_in}
use Rattle.rules.specs.Unconfigure.{aborted_result, abort_entry}
use Rattle.transmission.specs.Transmission.{ownerless}
use Rattle.transmission.specs.declared.Transmission.{Transmission}
use Rattle.wait.specs.Wait.{reduced}
use Rattle.wait.specs.declared.Wait.{Wait}

-- a weight of waits that does not look at the time left
abbrev pub Timeless : (Wait → ℕ) → Type 0
Timeless f = (ms : ℕ) (w : Wait) → f (reduced ms w) ≡ f w

-- the weight of the wait that begins when a transmission ends with this status at this time
abbrev pub begins : (Wait → ℕ) → ℕ → ℕ → Transmission → ℕ
begins f status ts x = cond (has_bit CEC-TX-STATUS-OK status && x.wants_reply) (f (wait_for x ts)) 0

-- an entry that ends a wait
pub record Replies (number : ℕ) (e : Entry) : Type 0 where
  pub sequence : e.sequence ≡ number
  pub transmitted : e.tx_status ≡ 0
  pub received : e.rx_status ≢ 0

-- what shows a receive status and no other
pub shown_reply : {n rx : ℕ} {e : Entry} → Shows n 0 rx e → rx ≢ 0 → Replies n e
shown_reply x d = record { sequence = x.sequence; transmitted = x.transmitted; received = λ z. d (sym x.received ∙ z) }

-- a wait that ends without a reply shows the opcode that was wanted (document 02, W-207)
abbrev pub ShowsWanted : (Wait → Entry) → Type 0
ShowsWanted reply_of = (w : Wait) → has_bit CEC-RX-STATUS-OK (reply_of w).rx_status ≡ false → (reply_of w).reply ≡ w.reply

-- each entry that ends a wait shows the time of its transmit's result (document 02, W-208)
abbrev pub KeepsSentTime : (Wait → Entry) → Type 0
KeepsSentTime reply_of = (w : Wait) → (reply_of w).tx_ts ≡ w.tx_ts

-- with what status and at what time transmissions end, and the entries by which they and the waits end
pub record Ending : Type 0 where
  pub status : ℕ
  pub final : status ≢ 0
  pub sent_at : ℕ
  pub result_of : Transmission → Entry
  pub reply_of : Wait → Entry
  pub results : (x : Transmission) → Shows x.sequence status 0 (result_of x)
  pub replies : (w : Wait) → Replies w.sequence (reply_of w)
  pub wanted : ShowsWanted reply_of
  pub result_times : (x : Transmission) → (result_of x).tx_ts ≡ sent_at
  pub reply_times : KeepsSentTime reply_of

-- transmissions are aborted
abbrev pub aborts : (reply_of : Wait → Entry) → ((w : Wait) → Replies w.sequence (reply_of w)) → ShowsWanted reply_of → KeepsSentTime reply_of → Ending
aborts reply_of replies wanted reply_times = record {
  status = CEC-TX-STATUS-ABORTED;
  final = omega arith;
  sent_at = 0;
  result_of = aborted_result;
  reply_of = reply_of;
  results = aborted_result_shows;
  replies = replies;
  wanted = wanted;
  result_times = λ x. refl;
  reply_times = reply_times;
}

-- the calls by which transmissions and waits may end
abbrev pub is_ending : Call → Bool
is_ending (call_open p) = false
is_ending (call_close g) = false
is_ending (call_mode g mode) = false
is_ending (call_transmit g r) = false
is_ending (call_receive g) = false
is_ending call_bus_start = false
is_ending (call_bus_result status counts ts) = true
is_ending (call_message n bytes ts) = true
is_ending (call_time ms) = true
is_ending (call_configure x) = false
is_ending call_unconfigure = true
is_ending (call_listing rows) = false
is_ending (call_lookup a) = false
is_ending call_active_address = false

-- from s the call leads to t
pub record Ends (s : State) (c : Call) (t : State) : Type 0 where
  -- the transmissions and the waits that end, and how
  pub sent : List Transmission
  pub over : List Wait
  pub by : Ending
  pub ending : is_ending c ≡ true
  -- no transmission ends at a later time than the call carries, 0 where it carries none
  pub clocked : by.sent_at ≤ time_in c
  pub comes : (h : ℕ) → h < 8 → Comes h s t (entries_to by.result_of by.reply_of h sent over)
  -- no handle is opened or closed, no mode is set, and nothing is past its bounds
  pub closes : (h : ℕ) → is_close h c ≡ false
  pub modes : SameModes s t
  pub inboxes : length t.inboxes ≡ 8
  pub queued : length t.queue ≤ 18
  pub wired : length t.wire ≤ 1
  -- every transmission of a handle is still to be sent, or ends; every wait waits still, or ends; and those sent with the OK bit that want a reply wait
  pub sends : (f : Transmission → ℕ) → Owned f → sum f (pending t) + sum f sent ≡ sum f (pending s)
  pub waits : (f : Wait → ℕ) → Timeless f → sum f t.waits + sum f over ≡ sum f s.waits + sum (begins f by.status by.sent_at) sent
  pub older : (f : Wait → ℕ) → Timeless f → sum f over ≤ sum f s.waits
  -- each bus result brings those to be sent one nearer
  pub nearer : (f : Transmission → ℕ) → Owned f → last f (pending t) ≤ last f (pending s) - bit (is_bus_result c)
  -- every wait has time left: less by the time that passed
  pub timed : sum spent t.waits ≡ 0
  pub late : (h n b : ℕ) → waiting_as (λ w. ltb (b - milliseconds c) w.left) h n t ≤ waiting_as (λ w. ltb b w.left) h n s + sum (sent_as (λ x. ltb b x.timeout) h n) sent

-- a call that does no more than copies and the core's work
pub aside_ends : (s t : State) (c : Call) → Inv s → Aside s t → is_ending c ≡ true → ((h : ℕ) → is_close h c ≡ false) → is_bus_result c ≡ false → milliseconds c ≡ 0 → Ends s c t
unfolding waiting_as
aside_ends s t c r a ending close bus time = record {
  sent = [];
  over = [];
  by = aborts abort_entry (λ w. shown_reply (abort_entry_shows w) (omega arith)) (λ w _. refl) (λ w. refl);
  ending = ending;
  clocked = omega arith;
  comes = λ h l. comes_aside h l s t r a;
  closes = close;
  modes = a.modes;
  inboxes = a.inboxes ∙ r.inboxes;
  queued = a.fits r.queued;
  wired = rw a.wire r.wired;
  sends = λ f z. omega (arith, aside_sum f z s t a);
  waits = λ f z. rw a.waits (omega arith);
  older = λ f z. omega arith;
  nearer = λ f z. rw (aside_pending s t a, last_more f (pending s) (map ownerless a.core) (core_weightless f z a.core), bus) (omega arith);
  timed = rw a.waits r.timed;
  late = λ h n b. let z : b - milliseconds c ≡ b = omega arith in rw (z, a.waits) (omega arith);
}
