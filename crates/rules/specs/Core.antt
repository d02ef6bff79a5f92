-- What the core itself does with a message (document 01, "A message from the wire": "Core answers").
-- Assumes nothing.
use Rattle.std.specs.Prelude.{ℕ, ◌+◌, ◌*◌, ◌/◌, ◌%◌, Bool, cond, ◌&&◌, ◌||◌, not, List, [], ◌∷◌, eqb, leb, length, set, take}
use Rattle.constants.specs.Kernel.{CEC-LOG-ADDR-BROADCAST, CEC-LOG-ADDR-UNREGISTERED, CEC-MSG-FEATURE-ABORT, CEC-MSG-GIVE-OSD-NAME, CEC-MSG-SET-OSD-NAME, CEC-MSG-GIVE-PHYSICAL-ADDR, CEC-MSG-REPORT-PHYSICAL-ADDR, CEC-MSG-DEVICE-VENDOR-ID, CEC-MSG-GIVE-DEVICE-VENDOR-ID, CEC-MSG-CEC-VERSION, CEC-MSG-GET-CEC-VERSION, CEC-MSG-ABORT, CEC-OP-ABORT-REFUSED}
use Rattle.lists.specs.Vector.{put}
use Rattle.message.specs.Message.{message, initiator, destination, opcode, address_at}
use Rattle.message.specs.declared.Message.{Message}
use Rattle.rules.specs.Derived.{Derived, counted}
use Rattle.rules.specs.State.{State, with_queue, with_noted}
use Rattle.settings.specs.declared.Settings.{Settings}
use Rattle.transmission.specs.Transmission.{ownerless}

-- "What the core sends, Feature Abort too, has no owner and number 0; it is dropped if the queue is full or TRANSMIT is absent"
unfoldable pub sends : State → List ℕ → State
sends s bytes = cond s.capabilities.transmit (with_queue s (put 18 s.queue (ownerless (message (length bytes) bytes)))) s

-- the first byte of a message: the address that it comes from and that it goes to
abbrev pub header : ℕ → ℕ → ℕ
header from to = from * 16 + to

-- "directed": not to 15
abbrev pub is_directed : Message → Bool
is_directed m = not (eqb (destination m.bytes) CEC-LOG-ADDR-BROADCAST)

-- "from 0 to 14"
abbrev pub is_registered : Message → Bool
is_registered m = not (eqb (initiator m.bytes) CEC-LOG-ADDR-UNREGISTERED)

-- "9F .. 8C .. 83 .. 46 .. FF"
abbrev pub is_question : ℕ → Bool
is_question code =
    eqb code CEC-MSG-GET-CEC-VERSION
    || eqb code CEC-MSG-GIVE-DEVICE-VENDOR-ID
    || eqb code CEC-MSG-GIVE-PHYSICAL-ADDR
    || eqb code CEC-MSG-GIVE-OSD-NAME
    || eqb code CEC-MSG-ABORT

-- "Core answers go only to directed messages from 0 to 14, and not under a 0x30 follower"
abbrev pub may_answer_by : Derived → State → Message → Bool
may_answer_by d s m = is_directed m && is_registered m && not (d.passthrough s)

abbrev pub may_answer : State → Message → Bool
may_answer = may_answer_by counted

-- "9F gives 9E, version"
abbrev pub version_answer : Settings → ℕ → ℕ → List ℕ
version_answer x here asker = header here asker ∷ CEC-MSG-CEC-VERSION ∷ x.version ∷ []

-- "8C gives 87, vendor id, to 15"; "Numbers go high byte first"
abbrev pub vendor_answer : Settings → ℕ → List ℕ
vendor_answer x here = header here CEC-LOG-ADDR-BROADCAST ∷ CEC-MSG-DEVICE-VENDOR-ID ∷ (x.vendor_id / 65536 % 256) ∷ (x.vendor_id / 256 % 256) ∷ (x.vendor_id % 256) ∷ []

-- "83 gives 84, address, device type, to 15"
abbrev pub address_answer : Settings → ℕ → List ℕ
address_answer x here = header here CEC-LOG-ADDR-BROADCAST ∷ CEC-MSG-REPORT-PHYSICAL-ADDR ∷ (x.physical_address / 256) ∷ (x.physical_address % 256) ∷ x.device_type ∷ []

-- "46 gives 47, name"
abbrev pub name_answer : Settings → ℕ → ℕ → List ℕ
name_answer x here asker = header here asker ∷ CEC-MSG-SET-OSD-NAME ∷ take x.name_length x.name

-- a Feature Abort of an opcode, for a reason: "FF gives 00, FF, 4"
abbrev pub feature_abort : ℕ → ℕ → ℕ → ℕ → List ℕ
feature_abort here asker code reason = header here asker ∷ CEC-MSG-FEATURE-ABORT ∷ code ∷ reason ∷ []

-- "the answer comes from the address asked and, where 15 is not named, goes to the asker". It is asked for a question only, so the last is that of FF
abbrev pub core_answer : Settings → Message → List ℕ
core_answer x m =
    let here = destination m.bytes in
    let asker = initiator m.bytes in
    let code = opcode m.bytes in
    cond (eqb code CEC-MSG-GET-CEC-VERSION) (version_answer x here asker)
    (cond (eqb code CEC-MSG-GIVE-DEVICE-VENDOR-ID) (vendor_answer x here)
    (cond (eqb code CEC-MSG-GIVE-PHYSICAL-ADDR) (address_answer x here)
    (cond (eqb code CEC-MSG-GIVE-OSD-NAME) (name_answer x here asker)
    (feature_abort here asker code CEC-OP-ABORT-REFUSED))))

-- the core's answer, if there is one
unfoldable pub answers : State → Bool → List ℕ → State
answers s answered bytes = cond answered (sends s bytes) s

-- document 01's noted address: "84 of length 5 or more from 0 to 14 is always noted in step 4, under a 0x30 follower too"
abbrev pub is_noted : Message → Bool
is_noted m = eqb (opcode m.bytes) CEC-MSG-REPORT-PHYSICAL-ADDR && leb 5 m.length && is_registered m

unfoldable pub notes : State → Message → State
notes s m = cond (is_noted m) (with_noted s (set s.noted (initiator m.bytes) (address_at 2 m.bytes))) s
