-- Histories that no adapter may have, each with one thing wrong: the claim is false of each. So with the opcode of a timeout, the sent time of a reply, and modes.
-- Assumes nothing.
use Prim.Native.Nat.{ℕ}
use mathlib.Core.Bool.{true, false}
use mathlib.Core.List.{List, [], ◌∷◌}
use mathlib.Core.Path.{refl, ap}
use native.Mathlib.Omega.{arith}
use lib.ListN.{length, replicate}
use Rattle.entry.specs.Entry.{no_counts, result_entry, reply, timed_out, message_copy}
use Rattle.entry.specs.declared.Entry.{Entry}
use Rattle.guarantee.proofs.Histories.{asks, tells}
use Rattle.guarantee.specs.Claim.{Kept}
use Rattle.guarantee.specs.Modes.{ModesHeld}
use Rattle.guarantee.specs.Opcodes.{WantedShown}
use Rattle.guarantee.specs.Timestamps.{SentShown, TimesOfStep}
use Rattle.lists.specs.Tests.{clash}
use Rattle.message.specs.Message.{message}
use Rattle.message.specs.declared.Message.{Message}
use Rattle.rules.specs.Call.{Call, Answer, done, opened, accepted, call_open, call_close, call_transmit, call_bus_result, call_message, call_time}
use Rattle.rules.specs.Mode.{in_mode}
use Rattle.rules.specs.Open.{opened_handle}
use Rattle.rules.specs.State.{State, fresh, closed_handle, with_handles, with_inboxes, with_last}
use Rattle.rules.specs.Step.{Step}

-- a message, whatever it says
abbrev m : Message
m = message 2 (replicate 16 0)

-- handles 0 and 1 open, with these inboxes
abbrev state : List Entry → List Entry → State
state inbox0 inbox1 =
    let handles = opened_handle true ∷ opened_handle true ∷ replicate 6 closed_handle in
    with_last (with_inboxes (with_handles (fresh (record { transmit = true; monitor_all = true })) handles) (inbox0 ∷ inbox1 ∷ replicate 6 [])) 1

abbrev call : Call → Answer → State → State → Step
call c a before after = record { before = before; call = c; answer = a; after = after }

-- handle 0 asks for a reply under number 1
abbrev asked : Step
asked = call (call_transmit 0 asks) (accepted 1 0) (state [] []) (state [] [])

abbrev ok : Entry
ok = result_entry 1 0x01 no_counts m 0

abbrev answer : Entry
answer = reply 1 m 0 0

-- a result, delivered
abbrev sent : List Entry → List Entry → Step
sent inbox0 inbox1 = call (call_bus_result 0x01 no_counts 0) done (state [] []) (state inbox0 inbox1)

-- the result goes to handle 1
pub wrong_handle : Kept (asked ∷ sent [] (ok ∷ []) ∷ []) → ⊥
wrong_handle k = let z = ((k.transmits [] asked (sent [] (ok ∷ []) ∷ []) refl 0 asks 1 refl refl).own_handle 1 (omega arith)).0 in omega arith

-- the reply goes to handle 1, though handle 0 asked and had the result
abbrev replied : List Entry → List Entry → Step
replied inbox0 inbox1 = call (call_message 3 (replicate 16 0) 0) done (state (ok ∷ []) []) (state inbox0 inbox1)

pub wrong_reply : Kept (asked ∷ sent (ok ∷ []) [] ∷ replied (ok ∷ []) (answer ∷ []) ∷ []) → ⊥
wrong_reply k =
    let later = sent (ok ∷ []) [] ∷ replied (ok ∷ []) (answer ∷ []) ∷ [] in
    let z = ((k.transmits [] asked later refl 0 asks 1 refl refl).own_handle 1 (omega arith)).1 in
    omega arith

-- two results
pub two_results : Kept (asked ∷ sent (ok ∷ ok ∷ []) [] ∷ []) → ⊥
two_results k = let z = (k.transmits [] asked (sent (ok ∷ ok ∷ []) [] ∷ []) refl 0 asks 1 refl refl).one_result_at_most in omega arith

-- two replies
pub two_replies : Kept (asked ∷ sent (ok ∷ []) [] ∷ replied (ok ∷ answer ∷ answer ∷ []) [] ∷ []) → ⊥
two_replies k =
    let later = sent (ok ∷ []) [] ∷ replied (ok ∷ answer ∷ answer ∷ []) [] ∷ [] in
    let z = (k.transmits [] asked later refl 0 asks 1 refl refl).one_reply_at_most in
    omega arith

-- a reply to a transmit that asked for none
abbrev told : Step
told = call (call_transmit 0 tells) (accepted 1 0) (state [] []) (state [] [])

pub unasked : Kept (told ∷ sent (ok ∷ []) [] ∷ replied (ok ∷ answer ∷ []) [] ∷ []) → ⊥
unasked k =
    let ended = sent (ok ∷ []) [] in
    let then = replied (ok ∷ answer ∷ []) [] in
    clash ((k.transmits [] told (ended ∷ then ∷ []) refl 0 tells 1 refl refl).reply_after_result (ended ∷ []) then [] refl (omega arith)).0 refl

-- a reply after a close
abbrev shut : Step
shut = call (call_close 0) done (state [] []) (state [] [])

abbrev late : Step
late = call (call_message 3 (replicate 16 0) 0) done (state [] []) (state (answer ∷ []) [])

pub after_close : Kept (asked ∷ shut ∷ late ∷ []) → ⊥
after_close k = let z = ((k.transmits [] asked (shut ∷ late ∷ []) refl 0 asks 1 refl refl).never_after_close [] shut (late ∷ []) refl refl).1 in omega arith

-- a reply with no result before it
pub no_result : Kept (asked ∷ late ∷ []) → ⊥
no_result k = let z = ((k.transmits [] asked (late ∷ []) refl 0 asks 1 refl refl).reply_after_result [] late [] refl (omega arith)).1 in omega arith

-- an entry pushed out of its inbox
abbrev start : Step
start = call (call_open true) (opened 0) (state [] []) (state [] [])

abbrev copied : Step
copied = call (call_message 2 (replicate 16 0) 0) done (state [] []) (state (message_copy m 0 ∷ []) [])

abbrev emptied : Step
emptied = call (call_message 2 (replicate 16 0) 0) done (state (message_copy m 0 ∷ []) []) (state [] [])

pub pushed_out : Kept (start ∷ copied ∷ emptied ∷ []) → ⊥
pushed_out k = let z = ap length (k.inboxes (start ∷ copied ∷ []) emptied refl 0 refl) in omega arith

-- a timeout that never comes
abbrev waited : Step
waited = call (call_time 1000) done (state (ok ∷ []) []) (state (ok ∷ []) [])

pub never_ends : Kept (asked ∷ sent (ok ∷ []) [] ∷ waited ∷ []) → ⊥
never_ends k =
    let ended = sent (ok ∷ []) [] in
    let z = (k.transmits [] asked (ended ∷ waited ∷ []) refl 0 asks 1 refl refl).one_reply [] ended (waited ∷ []) refl refl (omega arith) refl refl (omega arith) in
    omega arith

-- nineteen bus results, and none of them is its
abbrev other : Step
other = call (call_bus_result 0x01 no_counts 0) done (state [] []) (state [] [])

pub forgotten : Kept (asked ∷ replicate 19 other) → ⊥
forgotten k = let z = (k.transmits [] asked (replicate 19 other) refl 0 asks 1 refl refl).one_result refl (omega arith) in omega arith

-- ---- a timeout that shows another opcode than was wanted
abbrev expired : ℕ → Step
expired code = call (call_time 1000) done (state (ok ∷ []) []) (state (ok ∷ timed_out 1 m code 0 ∷ []) [])

pub other_opcode : WantedShown (asked ∷ sent (ok ∷ []) [] ∷ expired 0x91 ∷ []) → ⊥
other_opcode k = let z = k [] asked (sent (ok ∷ []) [] ∷ expired 0x91 ∷ []) refl 0 asks 1 refl refl in omega arith

-- ---- a reply that shows another sent time than its transmit's result
abbrev result_showing : ℕ → Entry
result_showing ts = result_entry 1 0x01 no_counts m ts

abbrev replied_at : ℕ → Step
replied_at ts = call (call_message 3 (replicate 16 0) 7) done (state (result_showing 5 ∷ []) []) (state (result_showing 5 ∷ reply 1 m ts 7 ∷ []) [])

pub other_time : SentShown (asked ∷ sent (result_showing 5 ∷ []) [] ∷ replied_at 7 ∷ []) → ⊥
other_time k = let z = k [] asked (sent (result_showing 5 ∷ []) [] ∷ replied_at 7 ∷ []) refl 0 asks 1 refl refl 5 (omega arith) in omega arith

-- a result, and a reply, that show another time than their call's
pub result_of_another : TimesOfStep (sent (result_showing 5 ∷ []) []) → ⊥
result_of_another k = let z = (k.results 0x01 no_counts 0 refl 0 0 (omega arith)).0 in omega arith

pub reply_of_another : TimesOfStep (call (call_message 3 (replicate 16 0) 8) done (state [] []) (state (reply 1 m 5 7 ∷ []) [])) → ⊥
reply_of_another k = let z = k.messages 3 (replicate 16 0) 8 refl 0 0 (omega arith) in omega arith

-- ---- modes that no adapter may have
-- handles 0 and 1 in these modes, handle 1 without privilege
abbrev in_modes : ℕ → ℕ → State
in_modes mode0 mode1 = with_handles (state [] []) (in_mode (opened_handle true) mode0 ∷ in_mode (opened_handle false) mode1 ∷ replicate 6 closed_handle)

-- two exclusive initiators, and two exclusive followers
pub two_initiators : ModesHeld (in_modes 0x02 0x12) → ⊥
two_initiators k = let z = k.initiator in omega arith

pub two_followers : ModesHeld (in_modes 0x21 0x31) → ⊥
two_followers k = let z = k.follower in omega arith

-- a monitor without privilege, and a number that is no mode
pub unprivileged : ModesHeld (in_modes 0x01 0xE0) → ⊥
unprivileged k = clash refl (k.permitted 1 refl)

pub no_mode : ModesHeld (in_modes 0x01 0x03) → ⊥
no_mode k = clash refl (k.valid 1 refl)
