-- The routing tracker: which physical address has the picture (document 02, W-205); and the call of a message from the wire, with the tracker and the clock (W-208).
-- Assumes nothing.
use Rattle.std.specs.Prelude.{ℕ, Bool, true, false, cond, ◌&&◌, ◌||◌, List, ◌⊎◌, ◌≡◌, eqb}
use Rattle.constants.specs.Kernel.{CEC-MSG-ROUTING-CHANGE, CEC-MSG-ACTIVE-SOURCE, CEC-MSG-SET-STREAM-PATH, CEC-MSG-INACTIVE-SOURCE, CEC-LOG-ADDR-BROADCAST, CEC-PHYS-ADDR-INVALID}
use Rattle.message.specs.Message.{message, destination, opcode, address_at}
use Rattle.message.specs.declared.Message.{Message}
use Rattle.route.specs.Address.{is_well_formed}
use Rattle.rules.specs.Call.{Outcome, finish, unless, Answer, Call, call_open, call_close, call_mode, call_transmit, call_receive, call_bus_start, call_bus_result, call_message, call_time, call_configure, call_unconfigure, call_listing, call_lookup, call_active_address}
use Rattle.rules.specs.Handles.{is_configured}
use Rattle.rules.specs.Incoming.{incoming_refusal, heard}
use Rattle.rules.specs.State.{State, with_active, with_clock}

-- a message of this opcode and length
abbrev pub is_of : ℕ → ℕ → Message → Bool
is_of code n m = eqb (opcode m.bytes) code && eqb m.length n

-- "messages 82 (length 4), 80 (length 6, the second address) and 86 (length 4)": 80 names the address that was left, then the one that is active now
abbrev pub names_active : Message → Bool
names_active m = is_of CEC-MSG-ACTIVE-SOURCE 4 m || is_of CEC-MSG-ROUTING-CHANGE 6 m || is_of CEC-MSG-SET-STREAM-PATH 4 m

abbrev pub named_address : Message → ℕ
named_address m = cond (eqb (opcode m.bytes) CEC-MSG-ROUTING-CHANGE) (address_at 4 m.bytes) (address_at 2 m.bytes)

-- "sent to 15 with a well-formed address, set it"
abbrev pub sets_active : Message → Bool
sets_active m = names_active m && eqb (destination m.bytes) CEC-LOG-ADDR-BROADCAST && is_well_formed (named_address m)

-- "9D (length 4), to anyone, with that same address clears it"
abbrev pub clears_active : ℕ → Message → Bool
clears_active active m = is_of CEC-MSG-INACTIVE-SOURCE 4 m && eqb (address_at 2 m.bytes) active

-- "others change nothing"
unfoldable pub tracked : ℕ → Message → ℕ
tracked active m = cond (sets_active m) (named_address m) (cond (clears_active active m) CEC-PHYS-ADDR-INVALID active)

-- "hears every accepted incoming message while configured"
abbrev pub active_after_message : State → Message → ℕ
active_after_message s m = cond (is_configured s) (tracked s.active m) s.active

-- a message from the wire: document 01's six steps, the tracker, and the clock (W-208)
unfoldable pub do_message : State → ℕ → List ℕ → ℕ → Outcome
do_message s n bytes ts =
    let m = message n bytes in
    unless (incoming_refusal s.clock n ts) s (finish Answer.done (with_clock (with_active (heard s m ts) (active_after_message s m)) ts))

-- "One call gives the active address, 0xFFFF for none."
abbrev pub do_active_address : State → Outcome
do_active_address s = finish (Answer.address s.active) s

-- the active address after any call: an accepted message is heard, unconfigure clears it, and no other call moves it
abbrev pub active_after_call : State → Call → ℕ
active_after_call s (call_open privileged) = s.active
active_after_call s (call_close h) = s.active
active_after_call s (call_mode h mode) = s.active
active_after_call s (call_transmit h r) = s.active
active_after_call s (call_receive h) = s.active
active_after_call s call_bus_start = s.active
active_after_call s (call_bus_result status counts ts) = s.active
active_after_call s (call_message n bytes ts) = cond (eqb (incoming_refusal s.clock n ts) 0) (active_after_message s (message n bytes)) s.active
active_after_call s (call_time ms) = s.active
active_after_call s (call_configure x) = s.active
active_after_call s call_unconfigure = CEC-PHYS-ADDR-INVALID
active_after_call s (call_listing rows) = s.active
active_after_call s (call_lookup a) = s.active
active_after_call s call_active_address = s.active

-- an active address is well formed, and an unconfigured adapter has none
pub record Tracks (s : State) : Type 0 where
  pub well_formed : (s.active ≡ CEC-PHYS-ADDR-INVALID) ⊎ (is_well_formed s.active ≡ true)
  pub unconfigured : is_configured s ≡ false → s.active ≡ CEC-PHYS-ADDR-INVALID
