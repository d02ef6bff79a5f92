-- The six steps of a message from the wire, as the code does them.
-- Assumes nothing.
use Rattle.std.proofs.Common.{◌≡◌, ℕ, Bool, true, false, cond, not, ◌&&◌, ◌||◌, eqb, List, sym, refl, ap, ◌∙◌, Option, Some, None, is_some}
use Rattle.constants.specs.Kernel.{CEC-OP-ABORT-UNRECOGNIZED-OP}
use Rattle.copies.proofs.Turns.{copies_none}
use Rattle.copies.specs.Kinds.{gets_copies}
use Rattle.copies.specs.declared.Receivers.{Receivers}
use Rattle.core_answers.specs.Work.{message_of, abort_of, work_of}
use Rattle.entry.specs.Entry.{message_copy}
use Rattle.entry.specs.declared.Entry.{Entry}
use Rattle.handle.specs.declared.Handle.{Handle}
use Rattle.incoming.proofs.Alike.{Alike, alike_trans, replied_alike, notes_alike, answers_alike, followed_alike, copies_alike}
use Rattle.incoming.proofs.Copied.{copies_waits, followers_same}
use Rattle.incoming.proofs.Receivers.{no_followers, nobody_copies, receivers_copies}
use Rattle.incoming.proofs.Ending.{end_wait, flag_found, found_ended, reply_step}
use Rattle.incoming.specs.Ending.{ended_by, to_followers}
use Rattle.incoming.specs.Steps.{follower_kind, goes_on, noted_at, receivers_of}
use Rattle.incoming.specs.Work.{to_do_at, to_do_of}
use Rattle.incoming.specs.declared.ToDo.{ToDo}
use Rattle.steps.proofs.ByRules.{answered, noted}
use Rattle.steps.specs.Steps.{answer_to, chosen_of}
use Rattle.core_answers.specs.declared.Work.{Work}
use Rattle.lists.specs.Places.{first}
use Rattle.lists.specs.Sums.{any}
use Rattle.lists.specs.Tests.{clash, cond_same, split}
use Rattle.lists.specs.Vector.{put}
use Rattle.message.specs.Message.{destination, opcode, is_feature_abort}
use Rattle.message.specs.declared.Message.{Message}
use Rattle.rules.specs.Core.{answers, is_directed, is_noted, is_registered, notes, sends}
use Rattle.rules.specs.Deliver.{copies}
use Rattle.rules.specs.Features.{answer_for, is_answered}
use Rattle.rules.specs.Handles.{in_role, is_configured, is_here, someone, is_exclusive_follower, is_follower, is_passthrough}
use Rattle.rules.specs.Incoming.{followed, handled, heard, heard_with, is_copied, is_unhandled, monitors, refused_message, replied, stops}
use Rattle.settings.specs.declared.Settings.{Settings}
use Rattle.rules.specs.State.{State, with_noted, with_queue}
use Rattle.steps.specs.declared.Chosen.{Chosen}
use Rattle.transmission.specs.Transmission.{ownerless}
use Rattle.wait.specs.Wait.{answered_by}
use Rattle.waits.specs.Waits.{Taken, match_taken, taken_at}

-- what `rules: sends` does, with a message
abbrev put_into : State → Message → State
put_into s m = cond s.capabilities.transmit (with_queue s (put 18 s.queue (ownerless m))) s

-- a change that is made if a test holds
abbrev when : Bool → (State → State) → State → State
when b f s = cond b (f s) s

-- what the core sends, if anything
abbrev pub put_sent : Option Message → State → State
put_sent None s = s
put_sent (Some m) s = with_queue s (put 18 s.queue (ownerless m))

put_sent_handles : (o : Option Message) (s : State) → (put_sent o s).handles ≡ s.handles
put_sent_handles None s = refl
put_sent_handles (Some m) s = refl

put_if : (may : Bool) (m : Message) (s : State) → put_sent (cond may (Some m) None) s ≡ cond may (put_sent (Some m) s) s
put_if true m s = refl
put_if false m s = refl

-- the core sends at most once, and before the copies: with an answer there are none, and with a Feature Abort nobody gets one
module _ (x y : Message) (kind : Receivers) (e : Entry) where
  abbrev copied_to : State → State
  copied_to = copies (in_role (gets_copies (Some kind))) e

  abbrev in_order : Bool → Bool → Bool → State → State
  in_order answered aborts copied s = when aborts (λ z. put_into z y) (when copied copied_to (when answered (λ z. put_into z x) s))

  abbrev chosen_sent : Bool → Bool → Option Message
  chosen_sent answered aborts = cond aborts (Some y) (cond answered (Some x) None)

  abbrev sent_first : Bool → Bool → State → State
  sent_first answered aborts s = put_sent (cond s.capabilities.transmit (chosen_sent answered aborts) None) s

  none_copied : (s : State) → any (in_role (gets_copies (Some kind))) s.handles ≡ false → copied_to s ≡ s
  none_copied s q = sym (copies_none (in_role (gets_copies (Some kind))) e s refl q)

  sent_in_order : (answered aborts copied : Bool) (s : State)
      → (answered ≡ true → (aborts ≡ false) × (copied ≡ false))
      → (aborts ≡ true → any (in_role (gets_copies (Some kind))) s.handles ≡ false)
      → when copied copied_to (sent_first answered aborts s) ≡ in_order answered aborts copied s
  sent_in_order true aborts copied s one none = rw ((one refl).0, (one refl).1) (put_if s.capabilities.transmit x s)
  sent_in_order false true copied s one none =
      let sent = sent_first false true s in
      let none_here : any (in_role (gets_copies (Some kind))) sent.handles ≡ false =
      ap (any (in_role (gets_copies (Some kind)))) (put_sent_handles (cond s.capabilities.transmit (Some y) None) s) ∙ none refl in
      let first : when copied copied_to sent ≡ sent = rw (none_copied sent none_here) (cond_same copied sent) in
      let then : when copied copied_to s ≡ s = rw (none_copied s (none refl)) (cond_same copied s) in
      first ∙ put_if s.capabilities.transmit y s ∙ ap (λ (z : State). put_into z y) (sym then)
  sent_in_order false false copied s one none = rw (cond_same {A = Option Message} s.capabilities.transmit None)

alone : (found follower answered note d r o : Bool) → (not found && not follower && not (answered || note) && d && r && o) ≡ true → (answered ≡ false) × (follower ≡ false)
alone true follower answered note d r o e = clash e refl
alone false true answered note d r o e = clash e refl
alone false false true note d r o e = clash e refl
alone false false false note d r o e = (refl, refl)

-- what is to be done, done
abbrev pub do_reply : ToDo → Message → ℕ → State → State
do_reply x m ts s = end_wait x.ended m ts s

abbrev pub do_note : ToDo → Message → State → State
do_note x m s = cond x.notes (with_noted s (noted_at s.noted m)) s

abbrev pub do_send : ToDo → State → State
do_send x s = put_sent x.sends s

abbrev pub do_copies : ToDo → Message → ℕ → State → State
do_copies x m ts s = copies (in_role (gets_copies x.followers)) (message_copy m ts) s

abbrev pub do_all : ToDo → Message → ℕ → State → State
do_all x m ts s = do_copies x m ts (do_send x (do_note x m (do_reply x m ts s)))

-- without a reply its flag tells nothing
chosen_same : (hs : List Handle) (work : Work) (some found f g : Bool) (m : Message) → some ≡ found → (found ≡ true → f ≡ g) → chosen_of hs work some f m ≡ chosen_of hs work found g m
chosen_same hs work some found f g m e k = split found (λ q. rw (e, q, k q)) (λ q. rw (e, q))

-- steps 4 to 6 after the noting, in their order
module _ (s : State) (t : Taken) (m : Message) (ts : ℕ) where
  abbrev chosen : Chosen
  chosen = chosen_of s.handles (work_of s.settings m) t.found t.wait.to_followers m

  abbrev answer : Message
  answer = message_of (answer_for s.settings m)

  abbrev abort : Message
  abort = message_of (abort_of m CEC-OP-ABORT-UNRECOGNIZED-OP)

  abbrev said : Bool
  said = is_answered s m

  abbrev bytes : List ℕ
  bytes = answer_for s.settings m

  abbrev copied : Bool
  copied = is_copied said t

  abbrev aborts : Bool
  aborts = is_unhandled s said t m

  abbrev kind : Receivers
  kind = follower_kind chosen.exclusive

  -- what is chosen, as `rules` tells it
  chosen_answer : answer_to s.handles (work_of s.settings m) m ≡ cond said (Some answer) None
  chosen_answer = answered s.settings m (is_directed m && is_registered m && not (someone is_passthrough s))

  is_some_if : (b : Bool) → is_some (cond b (Some answer) None) ≡ b
  is_some_if true = refl
  is_some_if false = refl

  chosen_some : is_some (answer_to s.handles (work_of s.settings m) m) ≡ said
  chosen_some = ap is_some chosen_answer ∙ is_some_if said

  chosen_sends : chosen.sends ≡ chosen_sent answer abort kind (message_copy m ts) said aborts
  chosen_sends = rw (chosen_some, chosen_answer, noted s.settings m)

  chosen_copies : chosen.copies ≡ copied
  chosen_copies = rw chosen_some

  answer_step : (a : State) → when said (λ x. put_into x answer) a ≡ answers a said bytes
  unfolding answers sends
  answer_step a = refl

  copy_step : (a : State) → Alike s a → when copied (copies (in_role (gets_copies (Some kind))) (message_copy m ts)) a ≡ followed a said t m ts
  copy_step a k =
      ap (λ (x : State). cond copied x a) (followers_same (someone is_exclusive_follower s) a (message_copy m ts) (k.roles is_exclusive_follower))

  abort_step : (a : State) → Alike s a → when aborts (λ x. put_into x abort) a ≡ refused_message a said t m
  unfolding sends
  abort_step a k = rw (k.roles is_follower)

  in_order_lem : (b : State) → Alike s b
      → in_order answer abort kind (message_copy m ts) said aborts copied b ≡ refused_message (followed (answers b said bytes) said t m ts) said t m
  in_order_lem b k =
      let c = answers b said bytes in
      let kc = alike_trans s b c k (answers_alike b said bytes) in
      let kd = alike_trans s c (followed c said t m ts) kc (followed_alike c said t m ts) in
      ap (λ (z : State). when aborts (λ x. put_into x abort) (when copied (copies (in_role (gets_copies (Some kind))) (message_copy m ts)) z)) (answer_step b)
      ∙ ap (λ (z : State). when aborts (λ x. put_into x abort) z) (copy_step c kc)
      ∙ abort_step (followed c said t m ts) kd

  -- with a Feature Abort there is no answer, and no follower
  abort_alone : aborts ≡ true → (said ≡ false) × (someone is_follower s ≡ false)
  abort_alone e =
      alone t.found (someone is_follower s) said (is_noted m) (is_directed m) (is_registered m) (not (is_feature_abort (opcode m.bytes))) e

  answer_alone : said ≡ true → (aborts ≡ false) × (copied ≡ false)
  answer_alone e = (split aborts (λ q. clash e (abort_alone q).0) (λ q. q), rw e)

  -- the noting and the reply change neither handles nor capabilities
  replied_kept : ((replied s t m ts).handles ≡ s.handles) × ((replied s t m ts).capabilities ≡ s.capabilities)
  replied_kept = split t.found (λ q. rw q (refl, refl)) (λ q. rw q (refl, refl))

  noted_kept : (a : State) → ((notes a m).handles ≡ a.handles) × ((notes a m).capabilities ≡ a.capabilities)
  unfolding notes
  noted_kept a = split (is_noted m) (λ q. rw q (refl, refl)) (λ q. rw q (refl, refl))

  sent_steps : (b d : State) → Alike s b → b.handles ≡ s.handles
      → d ≡ sent_first answer abort kind (message_copy m ts) said aborts b
      → copies (in_role (gets_copies (receivers_of chosen.copies s.handles kind))) (message_copy m ts) d ≡ refused_message (followed (answers b said bytes) said t m ts) said t m
  sent_steps b d k h q =
      let e = message_copy m ts in
      let sent = cond b.capabilities.transmit (chosen_sent answer abort kind e said aborts) None in
      let hd : d.handles ≡ s.handles = ap (λ (z : State). z.handles) q ∙ put_sent_handles sent b ∙ h in
      ap (λ (c : Bool). copies (in_role (gets_copies (receivers_of c s.handles kind))) e d) chosen_copies
      ∙ ap (λ (l : List Handle). copies (in_role (gets_copies (receivers_of copied l kind))) e d) (sym hd)
      ∙ receivers_copies copied kind e d
      ∙ ap (λ (z : State). when copied (copies (in_role (gets_copies (Some kind))) e) z) q
      ∙ sent_in_order answer abort kind e said aborts copied b answer_alone (λ z. rw h (no_followers chosen.exclusive s.handles (abort_alone z).1))
      ∙ in_order_lem b k

pub done_all : (s : State) (further : Bool) (m : Message) (ts : ℕ) → do_all (to_do_of s further m) m ts s ≡ cond further (handled s (is_answered s m) (answer_for s.settings m) (match_taken m s.waits) m ts) s
unfolding match_taken notes
done_all s false m ts = sym (nobody_copies None (message_copy m ts) s refl)
done_all s true m ts =
    let t = taken_at (first (answered_by m) s.waits) s.waits in
    let e = ended_by m s.waits in
    let a = replied s t m ts in
    let b = notes a m in
    let k = alike_trans s a b (replied_alike s t m ts) (notes_alike a m) in
    let h = (noted_kept s t m ts a).0 ∙ (replied_kept s t m ts).0 in
    let c = (noted_kept s t m ts a).1 ∙ (replied_kept s t m ts).1 in
    let same = chosen_same s.handles (work_of s.settings m) (is_some e) t.found (to_followers e) t.wait.to_followers m (found_ended m s.waits) (flag_found m s.waits) in
    let x = to_do_at s e (chosen s t m ts) in
    ap (λ (c : Chosen). do_all (to_do_at s e c) m ts s) same
    ∙ ap (λ (z : State). do_copies x m ts (do_send x (do_note x m z))) (reply_step s m ts)
    ∙ ap (λ (n : Bool). do_copies x m ts (do_send x (cond n (with_noted a (noted_at a.noted m)) a))) (noted s.settings m)
    ∙ sent_steps s t m ts b (do_send x b) k h (rw (c, chosen_sends s t m ts))

-- steps 1 and 2
not_stops : (a b c : Bool) → (a && not b && c) ≡ not (not a || b || not c)
not_stops true true c = refl
not_stops true false true = refl
not_stops true false false = refl
not_stops false b c = refl

pub goes_on_lem : (s c : State) (m : Message) → c.settings ≡ s.settings → goes_on c m ≡ not (stops s m)
goes_on_lem s c m q = rw q (not_stops (is_configured s) (eqb m.length 1) (is_here s (destination m.bytes)))

pub heard_all_lem : (s c r : State) (m : Message) (ts : ℕ) → c ≡ copies (in_role (monitors s m)) (message_copy m ts) s
    → r ≡ cond (goes_on c m) (handled c (is_answered c m) (answer_for c.settings m) (match_taken m c.waits) m ts) c → r ≡ heard s m ts
unfolding heard_with
heard_all_lem s c r m ts q e =
    let k = copies_alike (in_role (monitors s m)) (message_copy m ts) s in
    let w = copies_waits (in_role (monitors s m)) (message_copy m ts) s in
    let g = goes_on_lem s c m (ap (λ (z : State). z.settings) q ∙ k.settings) in
    let x : c.settings ≡ s.settings = ap (λ (z : State). z.settings) q ∙ k.settings in
    let y : is_answered c m ≡ is_answered s m = rw (ap (someone is_passthrough) q ∙ k.roles is_passthrough, x) in
    let v : answer_for c.settings m ≡ answer_for s.settings m = ap (λ (z : Settings). answer_for z m) x in
    e ∙ split (stops s m) (λ z. rw (g, z) q) (λ z. rw (g, z, y, v, q, w))
