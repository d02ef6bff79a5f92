-- What can be seen of a history of calls (document 01, "What a reader may hold us to"): read off the calls, their answers and the two states of each, and not off anything that the rules write down about themselves.
-- Assumes nothing.
use Rattle.std.specs.Prelude.{ℕ, ◌-◌, Bool, true, false, cond, ◌&&◌, ◌||◌, not, List, [], ◌∷◌, ◌++◌, eqb, length, drop}
use Rattle.constants.specs.Kernel.{CEC-TX-STATUS-OK}
use Rattle.entry.specs.declared.Entry.{Entry}
use Rattle.inbox.specs.Inboxes.{inbox_of}
use Rattle.lists.specs.Sums.{sum, count, any}
use Rattle.rules.specs.Call.{Call, Answer, refused, done, opened, accepted, received, started, listed, address, call_open, call_close, call_mode, call_transmit, call_receive, call_bus_start, call_bus_result, call_message, call_time, call_configure, call_unconfigure, call_listing, call_lookup, call_active_address}
use Rattle.rules.specs.Deliver.{handle_numbers}
use Rattle.rules.specs.Handles.{has_bit}
use Rattle.rules.specs.Step.{Step}

-- ---- of a call
pub record View : Type 0 where
  -- whether it is a receive, a close, of handle h
  pub receives : ℕ → Bool
  pub shuts : ℕ → Bool
  pub bus_result : Bool
  pub ms : ℕ

-- none of these
abbrev other : View
other = record { receives = λ h. false; shuts = λ h. false; bus_result = false; ms = 0 }

abbrev pub view : Call → View
view (call_open p) = other
view (call_close g) = record { receives = λ h. false; shuts = λ h. eqb g h; bus_result = false; ms = 0 }
view (call_mode g m) = other
view (call_transmit g r) = other
view (call_receive g) = record { receives = λ h. eqb g h; shuts = λ h. false; bus_result = false; ms = 0 }
view call_bus_start = other
view (call_bus_result status counts ts) = record { receives = λ h. false; shuts = λ h. false; bus_result = true; ms = 0 }
view (call_message n bytes ts) = other
view (call_time ms) = record { receives = λ h. false; shuts = λ h. false; bus_result = false; ms = ms }
view (call_configure x) = other
view call_unconfigure = other
view (call_listing rows) = other
view (call_lookup a) = other
view call_active_address = other

-- whether it is a receive or a close of handle h, a bus result, and its milliseconds
abbrev pub is_receive : ℕ → Call → Bool
is_receive h c = (view c).receives h

abbrev pub is_close : ℕ → Call → Bool
is_close h c = (view c).shuts h

abbrev pub is_bus_result : Call → Bool
is_bus_result c = (view c).bus_result

abbrev pub milliseconds : Call → ℕ
milliseconds c = (view c).ms

-- ---- of a call with its answer; a call is accepted if it succeeds
-- a close of handle h that succeeded, and an accepted bus result
abbrev pub done_by : Bool → Answer → Bool
done_by b (refused e) = false
done_by b done = b
done_by b (opened h) = false
done_by b (accepted n status) = false
done_by b (received e) = false
done_by b (started m) = false
done_by b (listed rows) = false
done_by b (address a) = false

abbrev pub closes : ℕ → Step → Bool
closes h x = done_by (is_close h x.call) x.answer

abbrev pub ends_transmit : Step → Bool
ends_transmit x = done_by (is_bus_result x.call) x.answer

-- an open that gave handle h
abbrev pub opens_to : ℕ → Answer → Bool
opens_to h (refused e) = false
opens_to h done = false
opens_to h (opened g) = eqb g h
opens_to h (accepted n status) = false
opens_to h (received e) = false
opens_to h (started m) = false
opens_to h (listed rows) = false
opens_to h (address a) = false

abbrev pub opens : ℕ → Step → Bool
opens h x = opens_to h x.answer

-- a transmit that was given number n, whether it was queued or answered at once
abbrev pub gives_to : ℕ → Answer → Bool
gives_to n (refused e) = false
gives_to n done = false
gives_to n (opened g) = false
gives_to n (accepted m status) = eqb m n
gives_to n (received e) = false
gives_to n (started m) = false
gives_to n (listed rows) = false
gives_to n (address a) = false

abbrev pub gives : ℕ → Step → Bool
gives n x = gives_to n x.answer

-- what a receive of handle h gave
abbrev pub entry_given : Bool → Answer → List Entry
entry_given b (refused e) = []
entry_given b done = []
entry_given b (opened h) = []
entry_given b (accepted n status) = []
entry_given b (received e) = cond b (e ∷ []) []
entry_given b (started m) = []
entry_given b (listed rows) = []
entry_given b (address a) = []

abbrev pub gave : ℕ → Step → List Entry
gave h x = entry_given (is_receive h x.call) x.answer

-- "An entry comes with the call by whose rule it goes into a handle's inbox": the inbox of h after the call, without what was there before and is there still. To a handle that the call opened or closed nothing comes
abbrev pub came : ℕ → Step → List Entry
came h x =
    cond (opens h x || closes h x) []
    (drop (length (inbox_of x.before.inboxes h) - length (gave h x)) (inbox_of x.after.inboxes h))

-- ---- of an entry
-- "Under a number other than 0 it belongs to the transmit last given that number .., as its transmit result if tx_status is not 0, as its reply entry if rx_status is not 0"
abbrev pub is_result : ℕ → Entry → Bool
is_result n e = eqb e.sequence n && not (eqb e.tx_status 0)

abbrev pub is_reply_entry : ℕ → Entry → Bool
is_reply_entry n e = eqb e.sequence n && not (eqb e.rx_status 0)

-- "its result came earlier with the OK bit"
abbrev pub is_ok_result : ℕ → Entry → Bool
is_ok_result n e = is_result n e && has_bit CEC-TX-STATUS-OK e.tx_status

-- ---- of a history: how many entries of a kind came to handle h, and to all handles
abbrev pub came_to : (Entry → Bool) → ℕ → List Step → ℕ
came_to p h xs = sum (λ x. count p (came h x)) xs

abbrev pub came_to_any : (Entry → Bool) → List Step → ℕ
came_to_any p xs = sum (λ h. came_to p h xs) handle_numbers

abbrev pub results : ℕ → List Step → ℕ
results n xs = came_to_any (is_result n) xs

abbrev pub ok_results : ℕ → List Step → ℕ
ok_results n xs = came_to_any (is_ok_result n) xs

abbrev pub replies : ℕ → List Step → ℕ
replies n xs = came_to_any (is_reply_entry n) xs

-- accepted bus results; closes of handle h; milliseconds of the time calls
abbrev pub bus_results : List Step → ℕ
bus_results xs = count ends_transmit xs

abbrev pub closings : ℕ → List Step → ℕ
closings h xs = count (closes h) xs

abbrev pub elapsed : List Step → ℕ
elapsed xs = sum (λ x. milliseconds x.call) xs

-- ---- parts of a history
-- the calls whose entries under number n belong to the transmit that was given it: up to the next call that is given n, which comes after what it brings
abbrev pub own : ℕ → List Step → List Step
own n [] = []
own n (x ∷ xs) = x ∷ cond (gives n x) [] (own n xs)

-- the calls after the last open of handle h
abbrev pub since_open : ℕ → List Step → List Step
since_open h [] = []
since_open h (x ∷ xs) = cond (any (opens h) xs) (since_open h xs) (cond (opens h x) xs (x ∷ xs))

-- what each gives, one after the other
abbrev pub joined : (Step → List Entry) → List Step → List Entry
joined f [] = []
joined f (x ∷ xs) = f x ++ joined f xs
