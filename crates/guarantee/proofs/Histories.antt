-- Histories of the rules, on which the parts of the claim compute as they should.
-- Assumes nothing.
use Prim.Native.Nat.{ℕ, zero, suc, ◌+◌}
use mathlib.Core.Bool.{true}
use mathlib.Core.List.{List, [], ◌∷◌, ◌++◌, map}
use mathlib.Core.Path.{◌≡◌, refl}
use lib.ListN.{drop, replicate, length}
use Rattle.entry.specs.Entry.{no_counts}
use Rattle.guarantee.specs.Claim.{enough_results}
use Rattle.guarantee.specs.Opcodes.{shows_other}
use Rattle.guarantee.specs.Room.{handle_waits, all_waits}
use Rattle.guarantee.specs.Timestamps.{result_at, shows_other_time}
use Rattle.guarantee.specs.Seen.{came, came_to_any, gave, results, ok_results, replies, bus_results, closings, elapsed, own, since_open, joined}
use Rattle.lists.specs.Sums.{count}
use Rattle.rules.proofs.KnownAnswers.{every_rule}
use Rattle.rules.specs.Call.{Call, Request, accepted, call_open, call_close, call_transmit, call_receive, call_bus_start, call_bus_result, call_message, call_time, call_configure, call_unconfigure}
use Rattle.rules.specs.Cases.{bench_settings}
use Rattle.rules.specs.State.{State, fresh}
use Rattle.rules.specs.Step.{Step, after, step, run}
use Rattle.rules.specs.Timestamps.{times_of}
use Rattle.wait.specs.Wait.{owned_by}

-- a power status asked for, and the same message with no reply wanted
abbrev pub asks : Request
asks = record { length = 2; bytes = 0x40 ∷ 0x8F ∷ replicate 14 0; reply = 0x90; timeout = 0; flags = 0 }

abbrev pub tells : Request
tells = record { length = 2; bytes = 0x40 ∷ 0x8F ∷ replicate 14 0; reply = 0; timeout = 0; flags = 0 }

abbrev status_at : ℕ → Call
status_at ts = call_message 3 (0x04 ∷ 0x90 ∷ replicate 14 0) ts

abbrev status : Call
status = status_at 0

-- some handles opened, and the adapter configured; then some more calls
abbrev begin : ℕ → List Call → List Call
begin handles more =
    replicate handles (call_open true)
    ++ (call_configure bench_settings
    ∷ more)

abbrev start : State
start = fresh (record { transmit = true; monitor_all = true })

-- handles 0 and 1 ask, under the numbers 1 and 2; then some more calls
abbrev history : List Call → List Step
history more = run start (begin 2 (call_transmit 0 asks ∷ call_transmit 1 asks ∷ more))

-- of number n: results, those with the OK bit and replies; of the whole: accepted bus results, closes of handle 0, milliseconds
abbrev seen : ℕ → List Step → List ℕ
seen n later = results n (own n later) ∷ ok_results n (own n later) ∷ replies n (own n later) ∷ bus_results later ∷ closings 0 later ∷ elapsed later ∷ []

-- what came to handle h since its open, what its receives gave, and what is left
abbrev entries : ℕ → List Step → List ℕ
entries h xs = length (joined (came h) (since_open h xs)) ∷ length (joined (gave h) (since_open h xs)) ∷ []

abbrev sending : List Call
sending = call_bus_start ∷ call_bus_result 0x01 no_counts 0 ∷ call_bus_start ∷ call_bus_result 0x01 no_counts 0 ∷ []

-- both are answered: each has its result and its reply
abbrev answered : List Step
answered = history (sending ++ (status ∷ status ∷ call_receive 0 ∷ []))

both_answered : (seen 1 (drop 4 answered) ≡ 1 ∷ 1 ∷ 1 ∷ 2 ∷ 0 ∷ 0 ∷ []) × (seen 2 (drop 5 answered) ≡ 1 ∷ 1 ∷ 1 ∷ 2 ∷ 0 ∷ 0 ∷ [])
    × (entries 0 answered ≡ 2 ∷ 1 ∷ []) × (entries 1 answered ≡ 2 ∷ 0 ∷ [])
unfolding every_rule
both_answered = (refl, refl, refl, refl)

-- handle 0 is closed before the replies; time passes: handle 1 has its timeout, number 1 nothing more
abbrev closed : List Step
closed = history (sending ++ (call_close 0 ∷ call_time 400 ∷ call_time 600 ∷ status ∷ []))

one_closed : (seen 1 (drop 4 closed) ≡ 1 ∷ 1 ∷ 0 ∷ 2 ∷ 1 ∷ 1000 ∷ []) × (seen 2 (drop 5 closed) ≡ 1 ∷ 1 ∷ 1 ∷ 2 ∷ 1 ∷ 1000 ∷ [])
unfolding every_rule
one_closed = (refl, refl)

-- an unconfigure ends the one on the wire and the one that waits
abbrev ended : List Step
ended = history (call_bus_start ∷ call_bus_result 0x01 no_counts 0 ∷ call_bus_start ∷ call_unconfigure ∷ [])

all_ended : (seen 1 (drop 4 ended) ≡ 1 ∷ 1 ∷ 1 ∷ 1 ∷ 0 ∷ 0 ∷ []) × (seen 2 (drop 5 ended) ≡ 1 ∷ 0 ∷ 0 ∷ 1 ∷ 0 ∷ 0 ∷ [])
unfolding every_rule
all_ended = (refl, refl)

-- entries of number n that end its wait without a reply, and show another opcode than 0x90, which was wanted, and than 0x91
abbrev shown : ℕ → List Step → List ℕ
shown n later = came_to_any (shows_other n 0x90) (own n later) ∷ came_to_any (shows_other n 0x91) (own n later) ∷ []

-- a timeout and an aborted wait show 0x90; a reply, and the result of an unconfigure, end no wait so
wanted_shown : (shown 2 (drop 5 closed) ≡ 0 ∷ 1 ∷ []) × (shown 1 (drop 4 ended) ≡ 0 ∷ 1 ∷ []) × (shown 1 (drop 4 answered) ≡ 0 ∷ 0 ∷ []) × (shown 2 (drop 5 ended) ≡ 0 ∷ 0 ∷ [])
unfolding every_rule
wanted_shown = (refl, refl, refl, refl)

-- ---- times
-- results at 5 and 6, a message at 4, which is refused, and replies at 7 and 8
abbrev timed : List Step
timed =
    history
    (call_bus_start
    ∷ call_bus_result 0x01 no_counts 5
    ∷ call_bus_start
    ∷ call_bus_result 0x01 no_counts 6
    ∷ status_at 4
    ∷ status_at 7
    ∷ status_at 8
    ∷ [])

-- of number n: results that show ts, and replies that show another sent time
abbrev shown_at : ℕ → ℕ → List Step → List ℕ
shown_at n ts later = came_to_any (result_at n ts) (own n later) ∷ came_to_any (shows_other_time n ts) (own n later) ∷ []

-- each reply shows the sent time of its own result; the times that were accepted rise
times_shown : (shown_at 1 5 (drop 4 timed) ≡ 1 ∷ 0 ∷ []) × (shown_at 1 6 (drop 4 timed) ≡ 0 ∷ 1 ∷ []) × (shown_at 2 6 (drop 5 timed) ≡ 1 ∷ 0 ∷ []) × (times_of timed ≡ 5 ∷ 6 ∷ 7 ∷ 8 ∷ [])
unfolding every_rule
times_shown = (refl, refl, refl, refl)

-- ---- the numbers of the claim and of the room are reached
-- calls k times, and then others
abbrev again : ℕ → List Call → List Call → List Call
again zero cs more = more
again (suc k) cs more = cs ++ again k cs more

-- a message is on the wire and 17 are queued
abbrev busy : State
busy = after start (begin 2 (call_transmit 0 tells ∷ call_bus_start ∷ replicate 9 (call_transmit 0 tells) ++ replicate 8 (call_transmit 1 tells)))

-- handle 1 sends one more, under number 19; what was before it is sent, and it is on the wire; then some more calls
abbrev behind : List Call → List Step
behind more = run (step busy (call_transmit 1 tells)).state (again 18 (call_bus_result 0x01 no_counts 0 ∷ call_bus_start ∷ []) more)

-- it has not had its result after one bus result less than nineteen, and has it with the nineteenth
last_of_nineteen : (length busy.wire ≡ 1) × (length busy.queue ≡ 17) × ((step busy (call_transmit 1 tells)).answer ≡ accepted 19 0)
    × (bus_results (behind []) + 1 ≡ enough_results) × (results 19 (own 19 (behind [])) ≡ 0)
    × (bus_results (behind (call_bus_result 0x01 no_counts 0 ∷ [])) ≡ enough_results) × (results 19 (own 19 (behind (call_bus_result 0x01 no_counts 0 ∷ []))) ≡ 1)
unfolding every_rule
last_of_nineteen = (refl, refl, refl, refl, refl, refl, refl)

-- a handle asks, and its message is sent; each of several handles, four times
abbrev asking : ℕ → List Call
asking h = call_transmit h asks ∷ call_bus_start ∷ call_bus_result 0x01 no_counts 0 ∷ []

abbrev all_asking : List ℕ → List Call → List Call
all_asking [] more = more
all_asking (h ∷ hs) more = again 4 (asking h) (all_asking hs more)

-- 31 waits, and on the wire a message that wants a reply
abbrev full : State
full = after start (begin 8 (all_asking (0 ∷ 1 ∷ 2 ∷ 3 ∷ 4 ∷ 5 ∷ 6 ∷ []) (again 3 (asking 7) (call_transmit 7 asks ∷ call_bus_start ∷ []))))

-- a handle has as many waits as it may, and the next wait takes the last place
most_waits : (count (owned_by 0) full.waits ≡ handle_waits) × (length full.waits + 1 ≡ all_waits) × (map (λ t. t.wants_reply) full.wire ≡ true ∷ [])
unfolding every_rule
most_waits = (refl, refl, refl)
