-- What every kind of entry shows as it comes, and later on, every entry in every inbox shows after any calls.
-- Assumes nothing.
use Prim.Native.Nat.{ℕ, zero, suc, ◌+◌, ◌≤◌}
use mathlib.Core.Bool.{Bool, true, false, cond, not, ◌&&◌}
use mathlib.Core.List.{List, [], ◌∷◌, ◌++◌, append_assoc, append-nil}
use mathlib.Core.Logic.{◌≢◌, ⊎_elim}
use mathlib.Core.Path.{◌≡◌, refl, sym, ◌∙◌}
use native.Mathlib.Omega.{arith}
use lib.Dec.{eqb, leb, ltb}
use lib.ListN.{length, get_or, set, drop}
use lib.Seq.{get_or-drop}
use borrow.Author.Tests.{eqb-true, le-ltb, ltb-true, ltb-false}
use Rattle.constants.specs.Kernel.{CEC-TX-STATUS-OK, CEC-TX-STATUS-ABORTED}
use Rattle.entry.specs.Entry.{no_counts, result_entry, result_copy, message_copy, no_entry}
use Rattle.entry.specs.declared.Counts.{Counts}
use Rattle.entry.specs.declared.Entry.{Entry}
use Rattle.guarantee.proofs.ByCases.{by_cases}
use Rattle.guarantee.proofs.Cases.{Cases}
use Rattle.guarantee.proofs.Ends.{begins, Timeless}
use Rattle.guarantee.proofs.Invariant.{Inv, improper_wait}
use Rattle.guarantee.proofs.Keeps.{keeps}
use Rattle.guarantee.proofs.Reached.{fresh_inv}
use Rattle.guarantee.proofs.TimeEnds.{sum_time}
use Rattle.handle.specs.declared.Handle.{Handle}
use Rattle.inbox.specs.Inboxes.{inbox_of}
use Rattle.lists.specs.Elements.{set_rel, get_d_replicated}
use Rattle.lists.specs.Places.{first, sum_without}
use Rattle.lists.specs.Sums.{sum, sum-le, sum_plus, sum_zero, sum_keep_le}
use Rattle.lists.specs.Tests.{bit, split}
use Rattle.message.specs.Message.{message}
use Rattle.message.specs.declared.Message.{Message}
use Rattle.rules.proofs.Mail.{arrives, delivered_inbox}
use Rattle.rules.proofs.Timestamps.{carried, clock_rises, elapsed_clock, unconfigured_clock, within}
use Rattle.rules.specs.BusResult.{concluded, do_bus_result, is_final, kept_counts}
use Rattle.rules.specs.BusStart.{do_bus_start}
use Rattle.rules.specs.Call.{Call, Outcome, unless}
use Rattle.rules.specs.Call.{call_open, call_close, call_mode, call_transmit, call_receive, call_bus_start, call_bus_result, call_message, call_time, call_configure, call_unconfigure, call_listing, call_lookup, call_active_address}
use Rattle.rules.specs.Close.{do_close}
use Rattle.rules.specs.Configure.{do_configure}
use Rattle.rules.specs.Core.{answers, is_noted, notes, sends}
use Rattle.rules.specs.Deliver.{deliver, copies, copy_to, copy_to_by, copies_by, each, handle_numbers}
use Rattle.rules.specs.Derived.{room_taken}
use Rattle.rules.specs.Features.{answer_for, is_answered}
use Rattle.rules.specs.Handles.{handle_at, has_bit, in_role, is_monitor}
use Rattle.rules.specs.Incoming.{followed, follows, handled, heard_with, is_copied, is_unhandled, monitors, refused_message, replied, reply_entry, stops}
use Rattle.rules.specs.Listing.{do_listing}
use Rattle.rules.specs.Lookup.{do_lookup}
use Rattle.rules.specs.Mode.{do_mode}
use Rattle.rules.specs.Open.{do_open}
use Rattle.rules.specs.Owed.{pending}
use Rattle.rules.specs.Receive.{do_receive}
use Rattle.rules.specs.State.{State, Capabilities, fresh, with_waits}
use Rattle.rules.specs.Step.{after, step}
use Rattle.rules.specs.Time.{do_time, overdue, remaining, timeout_entry, time_out}
use Rattle.rules.specs.Timestamps.{time_in}
use Rattle.rules.specs.Tracker.{do_message}
use Rattle.rules.specs.Transmit.{do_transmit, is_self_poll}
use Rattle.rules.specs.Unconfigure.{do_unconfigure, aborted_result, abort_transmit, abort_entry, abort_wait, unset}
use Rattle.transmission.specs.Transmission.{head_of}
use Rattle.transmission.specs.declared.Transmission.{Transmission}
use Rattle.wait.specs.Wait.{no_wait, owned_by, answered_by}
use Rattle.wait.specs.declared.Wait.{Wait}
use Rattle.waits.specs.Waits.{Taken, taken_at, match_taken}

-- what holds of an entry at a time of the clock: of each kind as it comes, and later on. A wait has a number, and began no later than the clock says
pub record Kinds (P : ℕ → Entry → Type 0) : Type 0 where
  pub later : (k l : ℕ) (e : Entry) → k ≤ l → P k e → P l e
  pub none : (k : ℕ) → P k no_entry
  pub results : (n status : ℕ) (c : Counts) (m : Message) (ts k : ℕ) → ts ≤ k → P k (result_entry n status c m ts)
  pub copies : (m : Message) (k : ℕ) → P k (message_copy m k)
  pub replies : (w : Wait) (m : Message) (k : ℕ) → w.sequence ≢ 0 → w.tx_ts ≤ k → P k (reply_entry w m k)
  pub timeouts : (w : Wait) (k : ℕ) → w.sequence ≢ 0 → w.tx_ts ≤ k → P k (timeout_entry w)
  pub aborts : (w : Wait) (k : ℕ) → w.sequence ≢ 0 → w.tx_ts ≤ k → P k (abort_entry w)

-- ---- waits
-- a wait that began after a time
abbrev begun_after : ℕ → Wait → ℕ
begun_after k w = bit (ltb k w.tx_ts)

-- a wait without a number, or that began after a time
abbrev unfit : ℕ → Wait → ℕ
unfit k w = improper_wait w + begun_after k w

-- a wait has a number
wait_numbered : (w : Wait) → improper_wait w ≡ 0 → w.sequence ≢ 0
wait_numbered w z p = split (ltb w.owner 8) (λ e. let y = rw (e, p) at z in omega arith) (λ e. let y = rw e at z in omega arith)

wait_before : (k : ℕ) (w : Wait) → begun_after k w ≡ 0 → w.tx_ts ≤ k
wait_before k w z = split (ltb k w.tx_ts) (λ e. let y = rw e at z in omega arith) (λ e. ltb-false k w.tx_ts e)

-- what is begunAfter is begunAfter for every earlier time
after_less : (k l : ℕ) → k ≤ l → (w : Wait) → begun_after l w ≤ begun_after k w
after_less k l h w =
    split (ltb k w.tx_ts)
    (λ e. split (ltb l w.tx_ts) (λ f. rw (e, f) (omega arith)) (λ f. rw (e, f) (omega arith)))
    (λ e. rw (e, le-ltb l w.tx_ts (omega (arith, ltb-false k w.tx_ts e))) (omega arith))

none_after : (k l : ℕ) → k ≤ l → (ws : List Wait) → sum (begun_after k) ws ≡ 0 → sum (begun_after l) ws ≡ 0
none_after k l h ws z = omega (arith, sum-le (begun_after l) (begun_after k) ws (after_less k l h))

-- the wait that begins with a bus result is not begunAfter
begun_within : (k status ts : ℕ) → ts ≤ k → (x : Transmission) → begins (begun_after k) status ts x ≡ 0
begun_within k status ts l x = split (has_bit CEC-TX-STATUS-OK status && x.wants_reply) (λ e. rw (e, le-ltb k ts l)) (λ e. rw e)

-- no call brings a wait that is later than the time that it carries
after_cases : (s : State) (k : ℕ) → Cases s (λ c o. time_in c ≤ k → sum (begun_after k) o.state.waits ≤ sum (begun_after k) s.waits)
after_cases s k = record {
  when_quiet = λ c a t q z l. omega arith;
  when_opened = λ i p _ _ z l. omega arith;
  when_closed = λ g _ _ z l. sum_keep_le (begun_after k) (λ w. not (owned_by g w)) s.waits;
  when_queued = λ g x _ _ _ _ _ z l. omega arith;
  when_received = λ g x es _ _ _ z l. omega arith;
  when_started = λ x q a b z l. omega arith;
  when_ended = λ c t e l.
      let at = e.by.sent_at in
      omega (arith, e.waits (begun_after k) (λ ms w. refl), sum_zero (begins (begun_after k) e.by.status at) e.sent (begun_within k e.by.status at (omega (arith, e.clocked))));
}

-- so no wait is later than the clock
step_within : (s : State) → Inv s → sum (begun_after s.clock) s.waits ≡ 0 → (c : Call) → sum (begun_after (step s c).state.clock) (step s c).state.waits ≡ 0
step_within s r z c =
    let k = (step s c).state.clock in
    ⊎_elim
    (λ q. rw q z)
    (λ l. omega (arith, none_after s.clock k (clock_rises s c) s.waits z, by_cases s r (λ d o. time_in d ≤ k → sum (begun_after k) o.state.waits ≤ sum (begun_after k) s.waits) (after_cases s k) c l))
    (carried s c)

-- ---- inboxes to which entries come, of each of which something holds
module _ (Q : Entry → Type 0) where
  abbrev pub All : List Entry → Type 0
  All [] = Unit {0}
  All (e ∷ es) = Q e × All es

  all_append : (xs ys : List Entry) → All xs → All ys → All (xs ++ ys)
  all_append [] ys a b = b
  all_append (x ∷ xs) ys a b = (a.0, all_append xs ys a.1 b)

  -- the inbox of h in t is that in s, and then these
  pub record Grown (s t : State) (h : ℕ) : Type 0 where
    pub more : List Entry
    pub grown : inbox_of t.inboxes h ≡ inbox_of s.inboxes h ++ more
    pub all : All more

  abbrev pub Grows : State → State → Type 0
  Grows s t = (h : ℕ) → Grown s t h

  -- nothing comes; one thing after another; one of two states
  pub grows_same : (s t : State) → t.inboxes ≡ s.inboxes → Grows s t
  grows_same s t q h = record { more = []; grown = rw q (sym (append-nil (inbox_of s.inboxes h))); all = tt }

  pub grows_trans : (s t u : State) → Grows s t → Grows t u → Grows s u
  grows_trans s t u a b h = record {
    more = (a h).more ++ (b h).more;
    grown = (b h).grown ∙ rw (a h).grown (append_assoc (inbox_of s.inboxes h) (a h).more (b h).more);
    all = all_append (a h).more (b h).more (a h).all (b h).all;
  }

  grows_if : (b : Bool) (s t : State) → Grows s t → Grows s (cond b t s)
  grows_if true s t a = a
  grows_if false s t a = grows_same s s refl

  -- an entry delivered
  deliver_grows : (s : State) (g : ℕ) (e : Entry) → Q e → Grows s (deliver s g e)
  deliver_grows s g e q h = record {
    more = cond (arrives s.inboxes g h) (e ∷ []) [];
    grown = delivered_inbox s.inboxes g e h;
    all = split (arrives s.inboxes g h) (λ b. rw b (q, tt)) (λ b. rw b tt);
  }

  -- several things done one after the other, each with a weight of 0
  each_grows : {A : Type 0} (f : State → A → State) (bad : A → ℕ) → ((s : State) (x : A) → bad x ≡ 0 → Grows s (f s x))
      → (s : State) (xs : List A) → sum bad xs ≡ 0 → Grows s (each f s xs)
  each_grows f bad p s [] z = grows_same s s refl
  each_grows f bad p s (x ∷ xs) z = grows_trans s (f s x) (each f (f s x) xs) (p s x (omega arith)) (each_grows f bad p (f s x) xs (omega arith))

  -- and whatever they weigh
  all_grow : {A : Type 0} (f : State → A → State) → ((s : State) (x : A) → Grows s (f s x)) → (s : State) (xs : List A) → Grows s (each f s xs)
  all_grow f p s xs = each_grows f (λ _. 0) (λ t x _. p t x) s xs (sum_zero (λ _. 0) xs (λ _. refl))

  -- copies
  copy_to_grows : (e : Entry) → Q e → (s : State) (h : ℕ) → Grows s (copy_to e s h)
  unfolding copy_to_by
  copy_to_grows e q s h = split (eqb (room_taken s h) 16) (λ b. rw b (grows_same s _ refl)) (λ b. rw b (deliver_grows s h e q))

  copies_grow : (p : Handle → Bool) (e : Entry) → Q e → (s : State) → Grows s (copies p e s)
  unfolding copies_by
  copies_grow p e q s = all_grow (λ t h. cond (p (handle_at t h)) (copy_to e t h) t) (λ t h. grows_if (p (handle_at t h)) t (copy_to e t h) (copy_to_grows e q t h)) s handle_numbers

  -- what the core sends and notes goes to no inbox
  sends_grow : (s : State) (bytes : List ℕ) → Grows s (sends s bytes)
  unfolding sends
  sends_grow s bytes = grows_if s.capabilities.transmit s _ (grows_same s _ refl)

  answers_grow : (s : State) (b : Bool) (bytes : List ℕ) → Grows s (answers s b bytes)
  unfolding answers
  answers_grow s b bytes = grows_if b s _ (sends_grow s bytes)

  notes_grow : (s : State) (m : Message) → Grows s (notes s m)
  unfolding notes
  notes_grow s m = grows_if (is_noted m) s _ (grows_same s _ refl)

  -- steps 5 and 6 of a message: copies to followers, and the Feature Abort
  followed_grows : (s : State) (b : Bool) (t : Taken) (m : Message) (ts : ℕ) → Q (message_copy m ts) → Grows s (refused_message (followed s b t m ts) b t m)
  followed_grows s b t m ts q =
      let u = followed s b t m ts in
      grows_trans s u _
      (grows_if (is_copied b t) s _ (copies_grow (in_role (follows s)) (message_copy m ts) q s))
      (grows_if (is_unhandled u b t m) u _ (sends_grow u _))

  -- ---- the calls that bring entries
  module _ (s : State) where
    -- a message: copies, and the reply of the wait at a place
    replied_grows : (c : State) (i : ℕ) (m : Message) (ts : ℕ) → (ltb i (length s.waits) ≡ true → Q (reply_entry (get_or s.waits i no_wait) m ts)) → Grows c (replied c (taken_at i s.waits) m ts)
    replied_grows c i m ts q =
        let w = get_or s.waits i no_wait in
        split (ltb i (length s.waits))
        (λ b. rw b (grows_trans c (with_waits c _) _ (grows_same c (with_waits c _) refl) (deliver_grows (with_waits c _) w.owner (reply_entry w m ts) (q b))))
        (λ b. rw b (grows_same c c refl))

    handled_grows : (c : State) (said : Bool) (bytes : List ℕ) (i : ℕ) (m : Message) (ts : ℕ) → Q (message_copy m ts) → (ltb i (length s.waits) ≡ true → Q (reply_entry (get_or s.waits i no_wait) m ts))
        → Grows c (handled c said bytes (taken_at i s.waits) m ts)
    handled_grows c said bytes i m ts q r =
        let t = taken_at i s.waits in
        let u = replied c t m ts in
        let v = notes u m in
        let w = answers v said bytes in
        grows_trans c u _ (replied_grows c i m ts r)
        (grows_trans u v _ (notes_grow u m)
        (grows_trans v w _ (answers_grow v said bytes) (followed_grows w said t m ts q)))

    pub message_grows : (said : Bool) (bytes : List ℕ) (m : Message) (ts : ℕ) → Q (message_copy m ts) → ((i : ℕ) → ltb i (length s.waits) ≡ true → Q (reply_entry (get_or s.waits i no_wait) m ts)) → Grows s (heard_with s said bytes m ts)
    unfolding heard_with match_taken
    message_grows said bytes m ts q r =
        let p = in_role (monitors s m) in
        let c = copies p (message_copy m ts) s in
        let i = first (answered_by m) s.waits in
        let a = copies_grow p (message_copy m ts) q s in
        split (stops s m) (λ b. rw b a) (λ b. rw b (grows_trans s c _ a (handled_grows c said bytes i m ts q (r i))))

    -- a bus result
    pub concluded_grows : (t : Transmission) (status : ℕ) (counts : Counts) (ts : ℕ) → ((n : ℕ) → Q (result_entry n status counts t.message ts)) → Grows s (concluded s t status counts ts)
    concluded_grows t status counts ts q =
        let c = copies (in_role is_monitor) (result_copy status counts t.message ts) s in
        let d = deliver c t.owner (result_entry t.sequence status counts t.message ts) in
        grows_trans s c _ (copies_grow (in_role is_monitor) (result_copy status counts t.message ts) (q 0) s)
        (grows_trans c d _ (deliver_grows c t.owner (result_entry t.sequence status counts t.message ts) (q t.sequence)) (grows_same d _ refl))

    -- time, and unconfigure; of the waits a weight of 0 may be known
    pub time_grows : (bad : Wait → ℕ) → Timeless bad → sum bad s.waits ≡ 0 → ((w : Wait) → bad w ≡ 0 → Q (timeout_entry w)) → (ms : ℕ) → Grows s (each time_out (with_waits s (remaining ms s.waits)) (overdue ms s.waits))
    time_grows bad same z q ms =
        let t = with_waits s (remaining ms s.waits) in
        grows_trans s t _ (grows_same s t refl)
        (each_grows time_out bad (λ u w b. deliver_grows u w.owner (timeout_entry w) (q w b)) t (overdue ms s.waits) (omega (arith, sum_time ms bad same s.waits)))

    pub unconfigured_grows : (bad : Wait → ℕ) → sum bad s.waits ≡ 0 → ((w : Wait) → bad w ≡ 0 → Q (abort_entry w)) → ((x : Transmission) → Q (aborted_result x)) → Grows s (each abort_wait (each abort_transmit (unset s) (pending s)) s.waits)
    unconfigured_grows bad z q r =
        let t = each abort_transmit (unset s) (pending s) in
        grows_trans s t _
        (grows_trans s (unset s) t (grows_same s (unset s) refl) (all_grow abort_transmit (λ u x. deliver_grows u x.owner (aborted_result x) (r x)) (unset s) (pending s)))
        (each_grows abort_wait bad (λ u w b. deliver_grows u w.owner (abort_entry w) (q w b)) t s.waits z)

-- ---- what every entry shows
module _ (P : ℕ → Entry → Type 0) (kinds : Kinds P) where
  abbrev Each : ℕ → List Entry → Type 0
  Each k l = (i : ℕ) → P k (get_or l i no_entry)

  abbrev Holds : ℕ → State → Type 0
  Holds k s = (h : ℕ) → Each k (inbox_of s.inboxes h)

  later_holds : (k l : ℕ) (s : State) → k ≤ l → Holds k s → Holds l s
  later_holds k l s h a g i = kinds.later k l (get_or (inbox_of s.inboxes g) i no_entry) h (a g i)

  -- entries that come
  each_append : (k : ℕ) (xs ys : List Entry) → Each k xs → All (P k) ys → Each k (xs ++ ys)
  each_append k [] [] a b i = kinds.none k
  each_append k [] (y ∷ ys) a b zero = b.0
  each_append k [] (y ∷ ys) a b (suc i) = each_append k [] ys (λ j. kinds.none k) b.1 i
  each_append k (x ∷ xs) ys a b zero = a zero
  each_append k (x ∷ xs) ys a b (suc i) = each_append k xs ys (λ j. a (suc j)) b i

  grown_holds : (k : ℕ) (s t : State) → Holds k s → Grows (P k) s t → Holds k t
  grown_holds k s t a g h = rw (g h).grown (each_append k (inbox_of s.inboxes h) (g h).more (a h) (g h).all)

  -- an inbox with fewer entries
  set_holds : (k : ℕ) (is : List (List Entry)) (g : ℕ) (l : List Entry) → (Each k (inbox_of is g) → Each k l) → ((h : ℕ) → Each k (inbox_of is h)) → (h : ℕ) → Each k (inbox_of (set is g l) h)
  set_holds k is g l f a h = set_rel (λ (x y : List Entry). Each k y → Each k x) (λ x q. q) is g h l [] f (a h)

  rest_holds : (k : ℕ) (l : List Entry) → Each k l → Each k (drop 1 l)
  rest_holds k l a i = rw (get_or-drop 1 l i no_entry) (a _)

  -- the calls that bring entries, at a time of the clock that no wait is later than
  module _ (s : State) (r : Inv s) (k : ℕ) (z : sum (begun_after k) s.waits ≡ 0) (a : Holds k s) where
    -- the wait that a message ends is one of the waits
    taken_fit : (i : ℕ) → ltb i (length s.waits) ≡ true → ((get_or s.waits i no_wait).sequence ≢ 0) × ((get_or s.waits i no_wait).tx_ts ≤ k)
    taken_fit i q =
        let w = get_or s.waits i no_wait in
        let l = ltb-true i (length s.waits) q in
        (wait_numbered w (omega (arith, sum_without improper_wait i s.waits no_wait l, r.waiting)), wait_before k w (omega (arith, sum_without (begun_after k) i s.waits no_wait l)))

    all_fit : sum (unfit k) s.waits ≡ 0
    all_fit = omega (arith, sum_plus improper_wait (begun_after k) s.waits, r.waiting)

    message_holds : (said : Bool) (bytes : List ℕ) (m : Message) → Holds k (heard_with s said bytes m k)
    message_holds said bytes m =
        grown_holds k s _ a (message_grows (P k) s said bytes m k (kinds.copies m k) (λ i q. let f = taken_fit i q in kinds.replies (get_or s.waits i no_wait) m k f.0 f.1))

    concluded_holds : (t : Transmission) (status : ℕ) (counts : Counts) → Holds k (concluded s t status counts k)
    concluded_holds t status counts = grown_holds k s _ a (concluded_grows (P k) s t status counts k (λ n. kinds.results n status counts t.message k k (omega arith)))

    time_holds : (ms : ℕ) → Holds k (each time_out (with_waits s (remaining ms s.waits)) (overdue ms s.waits))
    time_holds ms = grown_holds k s _ a (time_grows (P k) s (unfit k) (λ n w. refl) all_fit (λ w u. kinds.timeouts w k (wait_numbered w (omega arith)) (wait_before k w (omega arith))) ms)

    unconfigured_holds : Holds k (each abort_wait (each abort_transmit (unset s) (pending s)) s.waits)
    unconfigured_holds =
        grown_holds k s _ a
        (unconfigured_grows (P k) s (unfit k) all_fit
        (λ w u. kinds.aborts w k (wait_numbered w (omega arith)) (wait_before k w (omega arith)))
        (λ x. kinds.results x.sequence CEC-TX-STATUS-ABORTED no_counts x.message 0 k (omega arith)))

  -- every call
  module _ (s : State) (r : Inv s) (z : sum (begun_after s.clock) s.waits ≡ 0) (a : Holds s.clock s) where
    abbrev Goes : State → Type 0
    Goes t = Holds t.clock t

    -- a call with checks
    checked : (n : ℕ) (o : Outcome) → (n ≡ 0 → Goes o.state) → Goes (unless n s o).state
    unfolding unless
    checked n o p = split (eqb n 0) (λ e. rw e (p (eqb-true n 0 e))) (λ e. rw e a)

    step_holds : (c : Call) → Goes (step s c).state
    unfolding do_open do_close do_mode do_transmit do_receive do_bus_start do_bus_result do_message do_time do_configure do_unconfigure do_listing do_lookup
    step_holds (call_open p) = checked _ _ (λ _. a)
    step_holds (call_close g) = checked _ _ (λ _. set_holds s.clock s.inboxes g [] (λ _ i. kinds.none s.clock) a)
    step_holds (call_mode g mode) = checked _ _ (λ _. a)
    step_holds (call_transmit g x) = checked _ _ (λ _. split (is_self_poll s x) (λ q. rw q a) (λ q. rw q a))
    step_holds (call_receive g) = checked _ _ (λ _. set_holds s.clock s.inboxes g _ (rest_holds s.clock (inbox_of s.inboxes g)) a)
    step_holds call_bus_start = checked _ _ (λ _. a)
    step_holds (call_bus_result status counts ts) = checked _ _ (λ q.
        let l = within (not (ltb 0 (length s.wire) && is_final status)) s.clock ts q in
        concluded_holds s r ts (none_after s.clock ts l s.waits z) (later_holds s.clock ts s l a) (head_of s.wire) status (kept_counts status counts))
    step_holds (call_message n bytes ts) = checked _ _ (λ q.
        let l = within (not (leb 1 n && leb n 16)) s.clock ts q in
        let m = message n bytes in
        message_holds s r ts (none_after s.clock ts l s.waits z) (later_holds s.clock ts s l a) (is_answered s m) (answer_for s.settings m) m)
    step_holds (call_time ms) = rw (elapsed_clock s ms) (time_holds s r s.clock z a ms)
    step_holds (call_configure x) = checked _ _ (λ _. a)
    step_holds call_unconfigure = rw (unconfigured_clock s) (unconfigured_holds s r s.clock z a)
    step_holds (call_listing rows) = checked _ _ (λ _. a)
    step_holds (call_lookup x) = checked _ _ (λ _. a)
    step_holds call_active_address = a

  after_holds : (s : State) (cs : List Call) → Inv s → sum (begun_after s.clock) s.waits ≡ 0 → Holds s.clock s → let t = after s cs in Holds t.clock t
  after_holds s [] r z a = a
  after_holds s (c ∷ cs) r z a = after_holds (step s c).state cs (keeps s c r) (step_within s r z c) (step_holds s r z a c)

  -- the inboxes of a fresh adapter are empty
  fresh_holds : (c : Capabilities) → Holds (fresh c).clock (fresh c)
  unfolding fresh
  fresh_holds c h = rw (get_d_replicated {A = List Entry} 8 h []) (λ i. kinds.none 0)

  fresh_within : (c : Capabilities) → sum (begun_after (fresh c).clock) (fresh c).waits ≡ 0
  unfolding fresh
  fresh_within c = refl

  pub every_entry : (c : Capabilities) (calls : List Call) (h i : ℕ) → let s = after (fresh c) calls in P s.clock (get_or (inbox_of s.inboxes h) i no_entry)
  every_entry c calls = after_holds (fresh c) calls (fresh_inv c) (fresh_within c) (fresh_holds c)
