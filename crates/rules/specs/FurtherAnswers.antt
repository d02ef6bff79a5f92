-- More answers, worked out by hand from document 01, a table for each section, and from W-203, W-205, W-207 and W-208: the known answers that are not starred, the checks of each call, and places that can be read in two ways.
-- Assumes nothing.
use Rattle.std.specs.Prelude.{ℕ, zero, suc, ◌-◌, Bool, true, false, List, [], ◌∷◌, ◌++◌, map, length, replicate}
use Rattle.constants.specs.Kernel.{EPERM, EBADF, EAGAIN, EBUSY, EINVAL, EMFILE, ENOTTY, ENONET}
use Rattle.entry.specs.Entry.{no_counts}
use Rattle.rules.specs.Call.{Call, call_open, call_close, call_mode, call_transmit, call_receive, call_bus_start, call_bus_result, call_message, call_time, call_configure, call_unconfigure, call_listing, call_lookup, call_active_address}
use Rattle.rules.specs.Cases.{Case, bench, bench_settings, request, incoming, incoming_at}
use Rattle.rules.specs.State.{State, fresh, with_last}
use Rattle.rules.specs.Step.{after}

-- handle 0 open, not configured
abbrev pub unconfigured : State
unconfigured = after (fresh (record { transmit = true; monitor_all = true })) (call_open true ∷ [])

-- handle 0 open, configured, without capabilities
abbrev pub unable : State
unable = after (fresh (record { transmit = false; monitor_all = false })) (call_open true ∷ call_configure bench_settings ∷ [])

-- a message without and with a reply wanted; a transmit with all that can be asked; the result of a message that got through, at a time and at time 0
abbrev pub plain : ℕ → Call
plain h = call_transmit h (request (0x40 ∷ 0x8F ∷ []) 0)

abbrev pub asking : ℕ → Call
asking h = call_transmit h (request (0x40 ∷ 0x8F ∷ []) 0x90)

abbrev pub sending : List ℕ → ℕ → ℕ → ℕ → Call
sending bytes reply timeout flags = call_transmit 0 (record { length = length bytes; bytes = bytes ++ replicate 16 0; reply = reply; timeout = timeout; flags = flags })

abbrev pub ok_at : ℕ → Call
ok_at ts = call_bus_result 0x01 no_counts ts

abbrev pub ok : Call
ok = ok_at 0

-- handle 0 in a mode beside handle 1, which is exclusive initiator, and then other calls
abbrev pub beside : ℕ → List Call → List Call
beside mode cs = call_open true ∷ call_mode 0 mode ∷ call_mode 1 0x02 ∷ cs

-- a listing into n rows; a configure; one of a version, with the three bytes of CEC 2.0
abbrev pub rows : ℕ → Call
rows n = call_listing (replicate n (record { number = 0; is_open = false; mode = 0; entries = 0; owed = 0; lost = 0 }))

abbrev pub setting : ℕ → ℕ → ℕ → ℕ → ℕ → ℕ → Call
setting address mask version type vendor name =
    call_configure (record { physical_address = address; mask = mask; version = version; device_type = type; vendor_id = vendor; name_length = name; name = replicate 14 0x41; all_device_types = 0; rc_profile = 0; device_features = 0 })

abbrev pub profile : ℕ → ℕ → ℕ → ℕ → Call
profile version types rc features =
    call_configure (record { physical_address = 0x1000; mask = 0x0010; version = version; device_type = 4; vendor_id = 0; name_length = 1; name = 0x42 ∷ replicate 13 0; all_device_types = types; rc_profile = rc; device_features = features })

-- a call n times, and then others
abbrev pub times : ℕ → Call → List Call → List Call
times n c cs = replicate n c ++ cs

-- n messages of the queue sent, and then other calls
abbrev pub sent_first : ℕ → List Call → List Call
sent_first zero cs = cs
sent_first (suc n) cs = call_bus_start ∷ ok ∷ sent_first n cs

-- what a bus start gives for these bytes, and a receive for an entry without counts: number, tx_status, rx_status, length, opcode of the reply, and the two times, 0 where they are no matter
abbrev pub out : List ℕ → List ℕ
out bytes = 0 ∷ length bytes ∷ bytes ++ replicate (16 - length bytes) 0

abbrev pub got_at : ℕ → ℕ → ℕ → ℕ → ℕ → ℕ → ℕ → List ℕ
got_at number tx rx size reply sent_at received_at = 0 ∷ number ∷ tx ∷ rx ∷ size ∷ 0 ∷ 0 ∷ 0 ∷ 0 ∷ reply ∷ sent_at ∷ received_at ∷ []

abbrev pub got : ℕ → ℕ → ℕ → ℕ → ℕ → List ℕ
got number tx rx size reply = got_at number tx rx size reply 0 0

-- handles, inboxes and the listing ("The adapter's parts")
abbrev pub handle_answers : List Case
handle_answers =
    -- handle 8, and a closed one
    record { start = bench true; calls = plain 8 ∷ []; gives = EBADF ∷ [] }
    ∷ record { start = bench true; calls = plain 1 ∷ []; gives = EBADF ∷ [] }
    ∷ record { start = bench true; calls = call_close 1 ∷ []; gives = EBADF ∷ [] }
    ∷ record { start = bench true; calls = call_receive 0 ∷ []; gives = EAGAIN ∷ [] }
    -- a ninth handle
    ∷ record { start = bench true; calls = times 8 (call_open true) []; gives = EMFILE ∷ [] }
    -- the lowest closed number
    ∷ record { start = bench true; calls = call_open true ∷ call_open true ∷ call_close 1 ∷ call_open true ∷ []; gives = 0 ∷ 1 ∷ [] }
    -- copies past the room are lost and counted, owed room included
    ∷ record { start = bench true; calls = asking 0 ∷ call_mode 0 0xF0 ∷ times 15 (incoming (0x0F ∷ 0xA0 ∷ [])) (rows 8 ∷ []); gives = 0 ∷ 0 ∷ 1 ∷ 240 ∷ 14 ∷ 2 ∷ 1 ∷ [] }
    ∷ record { start = bench true; calls = call_mode 0 0xF0 ∷ times 18 (incoming (0x0F ∷ 0xA0 ∷ [])) (rows 8 ∷ []); gives = 0 ∷ 0 ∷ 1 ∷ 240 ∷ 16 ∷ 0 ∷ 2 ∷ [] }
    -- a closed row, and too few rows
    ∷ record { start = bench true; calls = call_close 0 ∷ rows 8 ∷ []; gives = 0 ∷ 0 ∷ 0 ∷ 0 ∷ 0 ∷ 0 ∷ 0 ∷ [] }
    ∷ record { start = bench true; calls = rows 7 ∷ []; gives = EINVAL ∷ [] }
    ∷ []

-- "Modes"
abbrev pub mode_answers : List Case
mode_answers =
    -- numbers that are no mode
    record { start = bench true; calls = call_mode 0 0xD0 ∷ []; gives = EINVAL ∷ [] }
    ∷ record { start = bench true; calls = call_mode 0 0x101 ∷ []; gives = EINVAL ∷ [] }
    ∷ record { start = bench true; calls = call_mode 0 0x03 ∷ []; gives = EINVAL ∷ [] }
    ∷ record { start = bench true; calls = call_mode 0 0x00 ∷ []; gives = 0 ∷ [] }
    -- without TRANSMIT
    ∷ record { start = unable; calls = plain 0 ∷ []; gives = ENOTTY ∷ [] }
    ∷ record { start = unable; calls = call_mode 0 0x11 ∷ []; gives = EINVAL ∷ [] }
    ∷ record { start = unable; calls = call_mode 0 0xF0 ∷ []; gives = EINVAL ∷ [] }
    -- roles held by another, and one's own
    ∷ record { start = bench true; calls = call_open true ∷ call_mode 0 0x12 ∷ call_mode 1 0x02 ∷ []; gives = EBUSY ∷ [] }
    ∷ record { start = bench true; calls = call_open true ∷ call_mode 0 0x21 ∷ call_mode 1 0x31 ∷ []; gives = EBUSY ∷ [] }
    ∷ record { start = bench true; calls = call_open true ∷ call_mode 0 0x22 ∷ call_mode 0 0x32 ∷ []; gives = 0 ∷ [] }
    -- one's own mode again: that of an open, exclusive roles, a monitor
    ∷ record { start = bench true; calls = rows 8 ∷ []; gives = 0 ∷ 0 ∷ 1 ∷ 0x01 ∷ 0 ∷ 0 ∷ 0 ∷ [] }
    ∷ record { start = unable; calls = call_mode 0 0x01 ∷ []; gives = 0 ∷ [] }
    ∷ record { start = bench true; calls = call_mode 0 0x02 ∷ call_mode 0 0x02 ∷ []; gives = 0 ∷ [] }
    ∷ record { start = bench true; calls = call_mode 0 0x31 ∷ call_mode 0 0x31 ∷ []; gives = 0 ∷ [] }
    ∷ record { start = bench true; calls = call_mode 0 0xE0 ∷ call_mode 0 0xE0 ∷ []; gives = 0 ∷ [] }
    -- a mode that was taken is kept
    ∷ record { start = bench true; calls = call_mode 0 0x31 ∷ rows 8 ∷ []; gives = 0 ∷ 0 ∷ 1 ∷ 49 ∷ 0 ∷ 0 ∷ 0 ∷ [] }
    ∷ []

-- "Transmit: checks in this order", 1 to 7
abbrev pub transmit_answers : List Case
transmit_answers =
    -- 16 bytes are taken, 17 are not
    record { start = bench true; calls = call_transmit 0 (request (0x40 ∷ replicate 15 0x8F) 0x00) ∷ []; gives = 0 ∷ 1 ∷ 0 ∷ [] }
    ∷ record { start = bench true; calls = call_transmit 0 (request (0x40 ∷ replicate 16 0x8F) 0x00) ∷ []; gives = EINVAL ∷ [] }
    ∷ record { start = bench true; calls = sending [] 0x00 0 0 ∷ []; gives = EINVAL ∷ [] }
    -- only flag 1
    ∷ record { start = bench true; calls = sending (0x40 ∷ 0x8F ∷ []) 0x00 0 2 ∷ []; gives = EINVAL ∷ [] }
    ∷ record { start = bench true; calls = sending (0x40 ∷ 0x8F ∷ []) 0x00 0 1 ∷ []; gives = 0 ∷ 1 ∷ 0 ∷ [] }
    -- a monitor may not transmit
    ∷ record { start = bench true; calls = call_mode 0 0xE0 ∷ plain 0 ∷ []; gives = EPERM ∷ [] }
    -- an exclusive initiator keeps the others out, but for the exclusive follower (W-202)
    ∷ record { start = bench true; calls = beside 0x01 (plain 0 ∷ []); gives = EBUSY ∷ [] }
    ∷ record { start = bench true; calls = beside 0x11 (plain 0 ∷ []); gives = EBUSY ∷ [] }
    ∷ record { start = bench true; calls = beside 0x21 (plain 0 ∷ []); gives = 0 ∷ 1 ∷ 0 ∷ [] }
    ∷ record { start = bench true; calls = beside 0x31 (plain 0 ∷ []); gives = 0 ∷ 1 ∷ 0 ∷ [] }
    -- which neither keeps the exclusive initiator out nor lets a third handle in
    ∷ record { start = bench true; calls = beside 0x01 (plain 1 ∷ []); gives = 0 ∷ 1 ∷ 0 ∷ [] }
    ∷ record { start = bench true; calls = beside 0x31 (plain 0 ∷ plain 1 ∷ []); gives = 0 ∷ 2 ∷ 0 ∷ [] }
    ∷ record { start = bench true; calls = beside 0x31 (call_open true ∷ plain 2 ∷ []); gives = EBUSY ∷ [] }
    -- and gives the role up with its mode, or with its handle
    ∷ record { start = bench true; calls = beside 0x31 (call_mode 0 0x11 ∷ plain 0 ∷ []); gives = EBUSY ∷ [] }
    ∷ record { start = bench true; calls = beside 0x31 (call_close 0 ∷ call_open true ∷ plain 0 ∷ []); gives = EBUSY ∷ [] }
    -- the checks before and after stay: no initiator at all, a monitor, a message that is malformed
    ∷ record { start = bench true; calls = beside 0x00 (plain 0 ∷ []); gives = EPERM ∷ [] }
    ∷ record { start = bench true; calls = beside 0xE0 (plain 0 ∷ []); gives = EPERM ∷ [] }
    ∷ record { start = bench true; calls = beside 0x31 (sending [] 0x00 0 0 ∷ []); gives = EINVAL ∷ [] }
    -- polls: to 15, with a reply, to an own address, from a foreign one
    ∷ record { start = bench true; calls = call_transmit 0 (request (0x4F ∷ []) 0x00) ∷ []; gives = EINVAL ∷ [] }
    ∷ record { start = bench true; calls = call_transmit 0 (request (0x40 ∷ []) 0x90) ∷ []; gives = EINVAL ∷ [] }
    ∷ record { start = bench true; calls = call_transmit 0 (request (0xF4 ∷ []) 0x00) ∷ []; gives = 0 ∷ 1 ∷ 4 ∷ [] }
    ∷ record { start = bench true; calls = call_transmit 0 (request (0x54 ∷ []) 0x00) ∷ []; gives = EINVAL ∷ [] }
    -- a poll answered at once uses up a number
    ∷ record { start = bench true; calls = call_transmit 0 (request (0x44 ∷ []) 0x00) ∷ plain 0 ∷ []; gives = 0 ∷ 2 ∷ 0 ∷ [] }
    -- to an own address
    ∷ record { start = bench true; calls = call_transmit 0 (request (0xF4 ∷ 0x8F ∷ []) 0x00) ∷ []; gives = EINVAL ∷ [] }
    -- from a foreign address
    ∷ record { start = bench true; calls = call_transmit 0 (request (0x50 ∷ 0x8F ∷ []) 0x00) ∷ []; gives = EINVAL ∷ [] }
    -- unconfigured: wake-ups only
    ∷ record { start = unconfigured; calls = plain 0 ∷ []; gives = ENONET ∷ [] }
    ∷ record { start = unconfigured; calls = call_transmit 0 (request (0xF0 ∷ 0x04 ∷ []) 0x00) ∷ []; gives = 0 ∷ 1 ∷ 0 ∷ [] }
    ∷ record { start = unconfigured; calls = call_transmit 0 (request (0xF0 ∷ 0x0D ∷ 0x01 ∷ []) 0x00) ∷ []; gives = 0 ∷ 1 ∷ 0 ∷ [] }
    ∷ record { start = unconfigured; calls = call_transmit 0 (request (0xF0 ∷ []) 0x00) ∷ []; gives = 0 ∷ 1 ∷ 0 ∷ [] }
    ∷ record { start = unconfigured; calls = call_transmit 0 (request (0xF1 ∷ 0x04 ∷ []) 0x00) ∷ []; gives = ENONET ∷ [] }
    ∷ record { start = unconfigured; calls = call_transmit 0 (request (0xF0 ∷ 0x04 ∷ []) 0x90) ∷ []; gives = EINVAL ∷ [] }
    ∷ record { start = unconfigured; calls = asking 0 ∷ []; gives = ENONET ∷ [] }
    -- configured, a wake-up may ask for a reply
    ∷ record { start = bench true; calls = call_transmit 0 (request (0xF0 ∷ 0x04 ∷ []) 0x90) ∷ []; gives = 0 ∷ 1 ∷ 0 ∷ [] }
    ∷ []

-- check 8, and the number
abbrev pub room_answers : List Case
room_answers =
    -- a live number is skipped
    record { start = with_last (after (bench true) (plain 0 ∷ [])) 0; calls = plain 0 ∷ []; gives = 0 ∷ 2 ∷ 0 ∷ [] }
    -- 18 queued beside one on the wire, and no 19th
    ∷ record { start = bench true; calls = call_open true ∷ call_open true ∷ times 10 (plain 0) (call_bus_start ∷ times 9 (plain 1) []); gives = 0 ∷ 19 ∷ 0 ∷ [] }
    ∷ record { start = bench true; calls = call_open true ∷ call_open true ∷ times 10 (plain 0) (call_bus_start ∷ times 9 (plain 1) (plain 2 ∷ [])); gives = EBUSY ∷ [] }
    -- 4 wanted replies, and no 5th
    ∷ record { start = bench true; calls = times 4 (asking 0) []; gives = 0 ∷ 4 ∷ 0 ∷ [] }
    ∷ record { start = bench true; calls = times 5 (asking 0) []; gives = EBUSY ∷ [] }
    -- room for 16 entries
    ∷ record { start = bench true; calls = times 16 (plain 0) []; gives = 0 ∷ 16 ∷ 0 ∷ [] }
    ∷ record { start = bench true; calls = times 17 (plain 0) []; gives = EBUSY ∷ [] }
    ∷ record { start = bench true; calls = times 14 (plain 0) (asking 0 ∷ []); gives = 0 ∷ 15 ∷ 0 ∷ [] }
    ∷ record { start = bench true; calls = times 15 (plain 0) (asking 0 ∷ []); gives = EBUSY ∷ [] }
    -- but a poll of an own address needs none
    ∷ record { start = bench true; calls = times 16 (plain 0) (call_transmit 0 (request (0x44 ∷ []) 0x00) ∷ []); gives = 0 ∷ 17 ∷ 4 ∷ [] }
    ∷ []

-- "Wire, time and configuration": bus start and bus result
abbrev pub bus_answers : List Case
bus_answers =
    -- the bus
    record { start = bench true; calls = call_bus_start ∷ []; gives = EAGAIN ∷ [] }
    ∷ record { start = bench true; calls = plain 0 ∷ plain 0 ∷ call_bus_start ∷ call_bus_start ∷ []; gives = EBUSY ∷ [] }
    ∷ record { start = bench true; calls = ok ∷ []; gives = EINVAL ∷ [] }
    ∷ record { start = bench true; calls = plain 0 ∷ call_bus_start ∷ []; gives = out (0x40 ∷ 0x8F ∷ []) }
    -- the wire taken and the queue empty
    ∷ record { start = bench true; calls = plain 0 ∷ call_bus_start ∷ call_bus_start ∷ []; gives = EBUSY ∷ [] }
    -- counts whose bit is clear are 0, and a status of two ends
    ∷ record { start = bench true; calls = plain 0 ∷ call_bus_start ∷ call_bus_result 0x25 (record { arb_lost = 1; nack = 2; low_drive = 3; error = 4 }) 0 ∷ []; gives = EINVAL ∷ [] }
    ∷ record { start = bench true; calls = plain 0 ∷ call_bus_start ∷ call_bus_result 0x26 (record { arb_lost = 1; nack = 2; low_drive = 3; error = 4 }) 0 ∷ call_receive 0 ∷ []; gives = 0 ∷ 1 ∷ 0x26 ∷ 0 ∷ 2 ∷ 1 ∷ 2 ∷ 0 ∷ 0 ∷ 0 ∷ 0 ∷ 0 ∷ [] }
    -- a result, and the copy that a monitor gets before it
    ∷ record { start = bench true; calls = plain 0 ∷ call_mode 0 0xE0 ∷ call_bus_start ∷ call_bus_result 0x22 no_counts 0 ∷ call_receive 0 ∷ []; gives = got 0 0x22 0x00 2 0x00 }
    ∷ record { start = bench true; calls = plain 0 ∷ call_mode 0 0xE0 ∷ call_bus_start ∷ call_bus_result 0x22 no_counts 0 ∷ call_receive 0 ∷ call_receive 0 ∷ []; gives = got 1 0x22 0x00 2 0x00 }
    -- no wait without the OK bit
    ∷ record { start = bench true; calls = asking 0 ∷ call_bus_start ∷ call_bus_result 0x20 no_counts 0 ∷ call_receive 0 ∷ call_time 1000 ∷ call_receive 0 ∷ []; gives = EAGAIN ∷ [] }
    -- with the OK bit beside another
    ∷ record { start = bench true; calls = asking 0 ∷ call_bus_start ∷ call_bus_result 0x05 no_counts 0 ∷ call_receive 0 ∷ call_time 1000 ∷ call_receive 0 ∷ []; gives = got 1 0x00 0x02 2 0x90 }
    ∷ []

-- time
abbrev pub time_answers : List Case
time_answers =
    -- time ends the least time left first
    record { start = bench true; calls = sending (0x40 ∷ 0x8F ∷ []) 0x90 500 0 ∷ sending (0x40 ∷ 0x8F ∷ []) 0x90 300 0 ∷ call_bus_start ∷ ok ∷ call_bus_start ∷ ok ∷ call_receive 0 ∷ call_receive 0 ∷ call_time 500 ∷ call_receive 0 ∷ []; gives = got 2 0x00 0x02 2 0x90 }
    ∷ record { start = bench true; calls = sending (0x40 ∷ 0x8F ∷ []) 0x90 500 0 ∷ sending (0x40 ∷ 0x8F ∷ []) 0x90 300 0 ∷ call_bus_start ∷ ok ∷ call_bus_start ∷ ok ∷ call_receive 0 ∷ call_receive 0 ∷ call_time 299 ∷ call_receive 0 ∷ []; gives = EAGAIN ∷ [] }
    ∷ record { start = bench true; calls = sending (0x40 ∷ 0x8F ∷ []) 0x90 500 0 ∷ sending (0x40 ∷ 0x8F ∷ []) 0x90 300 0 ∷ call_bus_start ∷ ok ∷ call_bus_start ∷ ok ∷ call_receive 0 ∷ call_receive 0 ∷ call_time 299 ∷ call_time 1 ∷ call_receive 0 ∷ []; gives = got 2 0x00 0x02 2 0x90 }
    ∷ record { start = bench true; calls = sending (0x40 ∷ 0x8F ∷ []) 0x90 500 0 ∷ sending (0x40 ∷ 0x8F ∷ []) 0x90 300 0 ∷ call_bus_start ∷ ok ∷ call_bus_start ∷ ok ∷ call_receive 0 ∷ call_receive 0 ∷ call_time 300 ∷ call_receive 0 ∷ call_receive 0 ∷ []; gives = EAGAIN ∷ [] }
    -- time in the queue and on the wire does not count
    ∷ record { start = bench true; calls = asking 0 ∷ call_time 500 ∷ call_bus_start ∷ ok ∷ call_receive 0 ∷ call_time 500 ∷ call_receive 0 ∷ []; gives = EAGAIN ∷ [] }
    ∷ record { start = bench true; calls = asking 0 ∷ call_bus_start ∷ call_time 500 ∷ ok ∷ call_receive 0 ∷ call_time 500 ∷ call_receive 0 ∷ []; gives = EAGAIN ∷ [] }
    -- timeout 0 is 1000 ms, from the result on
    ∷ record { start = bench true; calls = asking 0 ∷ call_time 5000 ∷ call_bus_start ∷ ok ∷ call_receive 0 ∷ call_time 999 ∷ call_receive 0 ∷ []; gives = EAGAIN ∷ [] }
    ∷ record { start = bench true; calls = asking 0 ∷ call_time 5000 ∷ call_bus_start ∷ ok ∷ call_receive 0 ∷ call_time 1000 ∷ call_receive 0 ∷ []; gives = got 1 0x00 0x02 2 0x90 }
    ∷ []

-- configure, unconfigure, close
abbrev pub configuration_answers : List Case
configuration_answers =
    -- unconfigure ends what is on the wire, queued and waiting
    record { start = bench true; calls = asking 0 ∷ call_bus_start ∷ ok ∷ call_receive 0 ∷ asking 0 ∷ plain 0 ∷ call_bus_start ∷ call_unconfigure ∷ call_receive 0 ∷ []; gives = got 2 0x40 0x00 2 0x00 }
    ∷ record { start = bench true; calls = asking 0 ∷ call_bus_start ∷ ok ∷ call_receive 0 ∷ asking 0 ∷ plain 0 ∷ call_bus_start ∷ call_unconfigure ∷ call_receive 0 ∷ call_receive 0 ∷ []; gives = got 3 0x40 0x00 2 0x00 }
    ∷ record { start = bench true; calls = asking 0 ∷ call_bus_start ∷ ok ∷ call_receive 0 ∷ asking 0 ∷ plain 0 ∷ call_bus_start ∷ call_unconfigure ∷ call_receive 0 ∷ call_receive 0 ∷ call_receive 0 ∷ []; gives = got 1 0x00 0x08 2 0x90 }
    ∷ record { start = bench true; calls = asking 0 ∷ call_bus_start ∷ call_unconfigure ∷ ok ∷ []; gives = EINVAL ∷ [] }
    -- a reopened handle gets nothing of the old holder
    ∷ record { start = bench true; calls = asking 0 ∷ call_bus_start ∷ ok ∷ call_close 0 ∷ call_open true ∷ incoming (0x04 ∷ 0x90 ∷ 0x00 ∷ []) ∷ call_receive 0 ∷ []; gives = EAGAIN ∷ [] }
    ∷ record { start = bench true; calls = asking 0 ∷ call_close 0 ∷ call_open true ∷ call_bus_start ∷ ok ∷ call_receive 0 ∷ []; gives = EAGAIN ∷ [] }
    -- configure
    ∷ record { start = bench true; calls = setting 0xFFFF 0x0010 5 4 0 1 ∷ []; gives = EBUSY ∷ [] }
    ∷ record { start = unconfigured; calls = setting 0xFFFF 0x0010 5 4 0 1 ∷ []; gives = EINVAL ∷ [] }
    ∷ record { start = unconfigured; calls = setting 0x1000 0x0000 5 4 0 1 ∷ []; gives = EINVAL ∷ [] }
    ∷ record { start = unconfigured; calls = setting 0x1000 0x8010 5 4 0 1 ∷ []; gives = EINVAL ∷ [] }
    ∷ record { start = unconfigured; calls = setting 0x1000 0x001F 5 4 0 1 ∷ []; gives = EINVAL ∷ [] }
    ∷ record { start = unconfigured; calls = setting 0x1000 0x8001 5 4 0 1 ∷ []; gives = EINVAL ∷ [] }
    ∷ record { start = unconfigured; calls = setting 0x1000 0x8000 5 4 0 1 ∷ []; gives = EINVAL ∷ [] }
    ∷ record { start = unconfigured; calls = setting 0x1000 0x7FFF 5 4 0 1 ∷ []; gives = EINVAL ∷ [] }
    ∷ record { start = unconfigured; calls = setting 0x1000 0x000F 5 4 0 1 ∷ []; gives = 0 ∷ [] }
    ∷ record { start = unconfigured; calls = setting 0x1000 0x7800 5 4 0 1 ∷ []; gives = 0 ∷ [] }
    ∷ record { start = unconfigured; calls = setting 0x1000 0x4000 5 4 0 1 ∷ []; gives = 0 ∷ [] }
    ∷ record { start = unconfigured; calls = setting 0x1000 0x0010 3 4 0 1 ∷ []; gives = EINVAL ∷ [] }
    ∷ record { start = unconfigured; calls = setting 0x1000 0x0010 7 4 0 1 ∷ []; gives = EINVAL ∷ [] }
    ∷ record { start = unconfigured; calls = setting 0x1000 0x0010 5 2 0 1 ∷ []; gives = EINVAL ∷ [] }
    ∷ record { start = unconfigured; calls = setting 0x1000 0x0010 5 8 0 1 ∷ []; gives = EINVAL ∷ [] }
    ∷ record { start = unconfigured; calls = setting 0x1000 0x0010 5 4 16777216 1 ∷ []; gives = EINVAL ∷ [] }
    ∷ record { start = unconfigured; calls = setting 0x1000 0x0010 5 4 0 0 ∷ []; gives = EINVAL ∷ [] }
    ∷ record { start = unconfigured; calls = setting 0x1000 0x0010 5 4 0 15 ∷ []; gives = EINVAL ∷ [] }
    ∷ record { start = unconfigured; calls = setting 0x1000 0x4444 5 4 0 1 ∷ []; gives = 0 ∷ [] }
    ∷ record { start = unconfigured; calls = setting 0x1000 0x0010 4 7 16777215 14 ∷ []; gives = 0 ∷ [] }
    ∷ []

-- "A message from the wire": copies and replies
abbrev pub message_answers : List Case
message_answers =
    -- from the wire too, 16 bytes are taken, 17 are not
    record { start = bench true; calls = incoming (0x0F ∷ replicate 15 0xA0) ∷ []; gives = 0 ∷ [] }
    ∷ record { start = bench true; calls = call_mode 0 0xF0 ∷ incoming (0x0F ∷ replicate 15 0xA0) ∷ call_receive 0 ∷ []; gives = got 0 0x00 0x01 16 0x00 }
    ∷ record { start = bench true; calls = incoming (0x0F ∷ replicate 16 0xA0) ∷ []; gives = EINVAL ∷ [] }
    ∷ record { start = bench true; calls = call_message 17 (replicate 16 0) 0 ∷ []; gives = EINVAL ∷ [] }
    ∷ record { start = bench true; calls = call_message 0 (replicate 16 0) 0 ∷ []; gives = EINVAL ∷ [] }
    -- a reply is no follower's, unless the flag was set
    ∷ record { start = bench true; calls = call_open true ∷ call_mode 1 0x11 ∷ asking 0 ∷ call_bus_start ∷ ok ∷ incoming (0x04 ∷ 0x90 ∷ 0x00 ∷ []) ∷ call_receive 1 ∷ []; gives = EAGAIN ∷ [] }
    ∷ record { start = bench true; calls = call_open true ∷ call_mode 1 0x11 ∷ sending (0x40 ∷ 0x8F ∷ []) 0x90 0 1 ∷ call_bus_start ∷ ok ∷ incoming (0x04 ∷ 0x90 ∷ 0x00 ∷ []) ∷ call_receive 1 ∷ []; gives = got 0 0x00 0x01 3 0x00 }
    -- the oldest match alone
    ∷ record { start = bench true; calls = call_open true ∷ call_mode 1 0x11 ∷ asking 0 ∷ asking 1 ∷ call_bus_start ∷ ok ∷ call_bus_start ∷ ok ∷ call_receive 0 ∷ call_receive 1 ∷ incoming (0x04 ∷ 0x90 ∷ 0x00 ∷ []) ∷ call_receive 1 ∷ []; gives = EAGAIN ∷ [] }
    ∷ record { start = bench true; calls = call_open true ∷ call_mode 1 0x11 ∷ asking 0 ∷ asking 1 ∷ call_bus_start ∷ ok ∷ call_bus_start ∷ ok ∷ call_receive 0 ∷ call_receive 1 ∷ incoming (0x04 ∷ 0x90 ∷ 0x00 ∷ []) ∷ incoming (0x04 ∷ 0x90 ∷ 0x00 ∷ []) ∷ call_receive 1 ∷ []; gives = got 2 0x00 0x01 3 0x90 }
    -- the exclusive follower alone
    ∷ record { start = bench true; calls = call_open true ∷ call_mode 0 0x11 ∷ call_mode 1 0x21 ∷ incoming (0x04 ∷ 0xA0 ∷ []) ∷ call_receive 0 ∷ []; gives = EAGAIN ∷ [] }
    ∷ record { start = bench true; calls = call_open true ∷ call_mode 0 0x11 ∷ call_mode 1 0x21 ∷ incoming (0x04 ∷ 0xA0 ∷ []) ∷ call_receive 1 ∷ []; gives = got 0 0x00 0x01 2 0x00 }
    -- monitors
    ∷ record { start = bench true; calls = call_mode 0 0xE0 ∷ incoming (0x05 ∷ 0xA0 ∷ []) ∷ call_receive 0 ∷ []; gives = EAGAIN ∷ [] }
    ∷ record { start = bench true; calls = call_mode 0 0xF0 ∷ incoming (0x05 ∷ 0xA0 ∷ []) ∷ call_receive 0 ∷ []; gives = got 0 0x00 0x01 2 0x00 }
    ∷ record { start = bench true; calls = call_mode 0 0xE0 ∷ incoming (0x05 ∷ 0xA0 ∷ []) ∷ incoming (0x0F ∷ 0xA0 ∷ []) ∷ call_receive 0 ∷ []; gives = got 0 0x00 0x01 2 0x00 }
    ∷ record { start = unconfigured; calls = call_mode 0 0xE0 ∷ incoming (0x04 ∷ 0xA0 ∷ []) ∷ call_receive 0 ∷ []; gives = EAGAIN ∷ [] }
    -- the ARC pair: 0xC0 sent, one report wanted, the other came
    ∷ record { start = bench true; calls = call_transmit 0 (request (0x40 ∷ 0xC0 ∷ []) 0xC1) ∷ call_bus_start ∷ ok ∷ call_receive 0 ∷ incoming (0x04 ∷ 0xC2 ∷ []) ∷ call_receive 0 ∷ []; gives = got 1 0x00 0x01 2 0xC2 }
    ∷ record { start = bench true; calls = call_transmit 0 (request (0x40 ∷ 0xC3 ∷ []) 0xC1) ∷ call_bus_start ∷ ok ∷ call_receive 0 ∷ incoming (0x04 ∷ 0xC2 ∷ []) ∷ call_receive 0 ∷ []; gives = EAGAIN ∷ [] }
    -- a follower that lost its copy is a follower: no Feature Abort
    ∷ record { start = bench true; calls = call_mode 0 0x11 ∷ times 17 (incoming (0x04 ∷ 0xA0 ∷ [])) (call_bus_start ∷ []); gives = EAGAIN ∷ [] }
    ∷ record { start = bench true; calls = call_mode 0 0x11 ∷ times 17 (incoming (0x04 ∷ 0xA0 ∷ [])) (rows 8 ∷ []); gives = 0 ∷ 0 ∷ 1 ∷ 17 ∷ 16 ∷ 0 ∷ 1 ∷ [] }
    ∷ []

-- core work and Feature Abort
abbrev pub core_answers : List Case
core_answers =
    -- the core answers
    record { start = bench true; calls = incoming (0x04 ∷ 0x9F ∷ []) ∷ call_bus_start ∷ []; gives = out (0x40 ∷ 0x9E ∷ 0x05 ∷ []) }
    ∷ record { start = bench true; calls = incoming (0x04 ∷ 0x8C ∷ []) ∷ call_bus_start ∷ []; gives = out (0x4F ∷ 0x87 ∷ 0x00 ∷ 0xA0 ∷ 0xB0 ∷ []) }
    ∷ record { start = bench true; calls = incoming (0x04 ∷ 0x83 ∷ []) ∷ call_bus_start ∷ []; gives = out (0x4F ∷ 0x84 ∷ 0x10 ∷ 0x00 ∷ 0x04 ∷ []) }
    ∷ record { start = bench true; calls = incoming (0x04 ∷ 0x46 ∷ []) ∷ call_bus_start ∷ []; gives = out (0x40 ∷ 0x47 ∷ 0x42 ∷ []) }
    ∷ record { start = bench true; calls = incoming (0x04 ∷ 0xFF ∷ []) ∷ call_bus_start ∷ []; gives = out (0x40 ∷ 0x00 ∷ 0xFF ∷ 0x04 ∷ []) }
    -- without TRANSMIT the core sends nothing
    ∷ record { start = unable; calls = incoming (0x04 ∷ 0x9F ∷ []) ∷ call_bus_start ∷ []; gives = EAGAIN ∷ [] }
    -- the core's answer may be the 18th, and then there is no 19th; with 18 queued it is dropped
    ∷ record { start = bench true; calls = call_open true ∷ times 16 (plain 0) (plain 1 ∷ incoming (0x04 ∷ 0x9F ∷ []) ∷ sent_first 17 (call_bus_start ∷ [])); gives = out (0x40 ∷ 0x9E ∷ 0x05 ∷ []) }
    ∷ record { start = bench true; calls = call_open true ∷ times 16 (plain 0) (plain 1 ∷ incoming (0x04 ∷ 0x9F ∷ []) ∷ plain 1 ∷ []); gives = EBUSY ∷ [] }
    ∷ record { start = bench true; calls = call_open true ∷ times 16 (plain 0) (plain 1 ∷ plain 1 ∷ incoming (0x04 ∷ 0x9F ∷ []) ∷ sent_first 17 (call_bus_start ∷ [])); gives = out (0x40 ∷ 0x8F ∷ []) }
    ∷ record { start = bench true; calls = call_open true ∷ times 16 (plain 0) (plain 1 ∷ plain 1 ∷ incoming (0x04 ∷ 0x9F ∷ []) ∷ sent_first 18 (call_bus_start ∷ [])); gives = EAGAIN ∷ [] }
    -- and not to 15, from 15, to others or to a poll
    ∷ record { start = bench true; calls = incoming (0x0F ∷ 0x9F ∷ []) ∷ call_bus_start ∷ []; gives = EAGAIN ∷ [] }
    ∷ record { start = bench true; calls = incoming (0xF4 ∷ 0x9F ∷ []) ∷ call_bus_start ∷ []; gives = EAGAIN ∷ [] }
    ∷ record { start = bench true; calls = incoming (0x05 ∷ 0x9F ∷ []) ∷ call_bus_start ∷ []; gives = EAGAIN ∷ [] }
    ∷ record { start = bench true; calls = incoming (0x04 ∷ []) ∷ call_bus_start ∷ []; gives = EAGAIN ∷ [] }
    -- nor under passthrough, where the follower gets the question
    ∷ record { start = bench true; calls = call_mode 0 0x31 ∷ incoming (0x04 ∷ 0x9F ∷ []) ∷ call_bus_start ∷ []; gives = EAGAIN ∷ [] }
    ∷ record { start = bench true; calls = call_mode 0 0x31 ∷ incoming (0x04 ∷ 0x9F ∷ []) ∷ call_receive 0 ∷ []; gives = got 0 0x00 0x01 2 0x00 }
    -- a follower gets no question that was answered
    ∷ record { start = bench true; calls = call_mode 0 0x11 ∷ incoming (0x04 ∷ 0x9F ∷ []) ∷ call_receive 0 ∷ []; gives = EAGAIN ∷ [] }
    -- Feature Abort where nobody follows
    ∷ record { start = bench true; calls = incoming (0x04 ∷ 0xA0 ∷ 0x01 ∷ []) ∷ call_bus_start ∷ []; gives = out (0x40 ∷ 0x00 ∷ 0xA0 ∷ 0x00 ∷ []) }
    ∷ record { start = bench true; calls = call_mode 0 0x11 ∷ incoming (0x04 ∷ 0xA0 ∷ 0x01 ∷ []) ∷ call_bus_start ∷ []; gives = EAGAIN ∷ [] }
    ∷ record { start = bench true; calls = incoming (0x0F ∷ 0xA0 ∷ []) ∷ call_bus_start ∷ []; gives = EAGAIN ∷ [] }
    ∷ record { start = bench true; calls = incoming (0x04 ∷ 0x00 ∷ []) ∷ call_bus_start ∷ []; gives = EAGAIN ∷ [] }
    -- a noted address
    ∷ record { start = bench true; calls = incoming (0x0F ∷ 0x84 ∷ 0x20 ∷ 0x00 ∷ 0x04 ∷ []) ∷ call_lookup 0 ∷ []; gives = 0 ∷ 8192 ∷ [] }
    ∷ record { start = bench true; calls = incoming (0x0F ∷ 0x84 ∷ 0x20 ∷ 0x00 ∷ []) ∷ call_lookup 0 ∷ []; gives = 0 ∷ 65535 ∷ [] }
    ∷ record { start = bench true; calls = call_mode 0 0x31 ∷ incoming (0x04 ∷ 0x84 ∷ 0x20 ∷ 0x00 ∷ 0x04 ∷ []) ∷ call_lookup 0 ∷ []; gives = 0 ∷ 8192 ∷ [] }
    ∷ record { start = bench true; calls = incoming (0x04 ∷ 0x84 ∷ 0x20 ∷ 0x00 ∷ 0x04 ∷ []) ∷ call_bus_start ∷ []; gives = EAGAIN ∷ [] }
    ∷ record { start = bench true; calls = incoming (0x04 ∷ 0x84 ∷ 0x20 ∷ 0x00 ∷ []) ∷ call_bus_start ∷ []; gives = out (0x40 ∷ 0x00 ∷ 0x84 ∷ 0x00 ∷ []) }
    ∷ record { start = bench true; calls = call_lookup 15 ∷ []; gives = EINVAL ∷ [] }
    ∷ record { start = bench true; calls = incoming (0x0F ∷ 0x84 ∷ 0x20 ∷ 0x00 ∷ 0x04 ∷ []) ∷ call_unconfigure ∷ call_lookup 0 ∷ []; gives = 0 ∷ 65535 ∷ [] }
    -- a reply that is a question too: delivered, answered, not copied even with the flag
    ∷ record { start = bench true; calls = call_open true ∷ call_mode 1 0x11 ∷ sending (0x40 ∷ 0x9F ∷ []) 0x9F 0 1 ∷ call_bus_start ∷ ok ∷ call_receive 0 ∷ incoming (0x04 ∷ 0x9F ∷ []) ∷ call_receive 0 ∷ []; gives = got 1 0x00 0x01 2 0x9F }
    ∷ record { start = bench true; calls = call_open true ∷ call_mode 1 0x11 ∷ sending (0x40 ∷ 0x9F ∷ []) 0x9F 0 1 ∷ call_bus_start ∷ ok ∷ call_receive 0 ∷ incoming (0x04 ∷ 0x9F ∷ []) ∷ call_receive 1 ∷ []; gives = EAGAIN ∷ [] }
    ∷ record { start = bench true; calls = call_open true ∷ call_mode 1 0x11 ∷ sending (0x40 ∷ 0x9F ∷ []) 0x9F 0 1 ∷ call_bus_start ∷ ok ∷ call_receive 0 ∷ incoming (0x04 ∷ 0x9F ∷ []) ∷ call_bus_start ∷ []; gives = out (0x40 ∷ 0x9E ∷ 0x05 ∷ []) }
    ∷ []

-- document 02, W-203: handle 0 open, configured with version 6 and three bytes, with and without TRANSMIT
abbrev pub version6 : Bool → State
version6 transmit = after (fresh (record { transmit = transmit; monitor_all = true })) (call_open true ∷ profile 6 0x10 0x4A 0x23 ∷ [])

-- a CEC 2.0 profile
abbrev pub feature_answers : List Case
feature_answers =
    -- configure: the first byte is free, the other two are below 128
    record { start = unconfigured; calls = profile 6 0 0 0 ∷ []; gives = 0 ∷ [] }
    ∷ record { start = unconfigured; calls = profile 6 255 127 127 ∷ []; gives = 0 ∷ [] }
    ∷ record { start = unconfigured; calls = profile 6 0 128 0 ∷ []; gives = EINVAL ∷ [] }
    ∷ record { start = unconfigured; calls = profile 6 0 0 128 ∷ []; gives = EINVAL ∷ [] }
    -- with version 4 or 5 all three are 0
    ∷ record { start = unconfigured; calls = profile 5 1 0 0 ∷ []; gives = EINVAL ∷ [] }
    ∷ record { start = unconfigured; calls = profile 5 0 1 0 ∷ []; gives = EINVAL ∷ [] }
    ∷ record { start = unconfigured; calls = profile 4 0 0 1 ∷ []; gives = EINVAL ∷ [] }
    ∷ record { start = unconfigured; calls = profile 4 0 0 0 ∷ []; gives = 0 ∷ [] }
    -- the EBUSY test comes first
    ∷ record { start = bench true; calls = profile 6 0 128 0 ∷ []; gives = EBUSY ∷ [] }
    -- A5 is answered to 15, also with parameters; the version that is told is 6
    ∷ record { start = version6 true; calls = incoming (0x04 ∷ 0xA5 ∷ []) ∷ call_bus_start ∷ []; gives = out (0x4F ∷ 0xA6 ∷ 0x06 ∷ 0x10 ∷ 0x4A ∷ 0x23 ∷ []) }
    ∷ record { start = version6 true; calls = incoming (0x04 ∷ 0xA5 ∷ 0x01 ∷ 0x02 ∷ []) ∷ call_bus_start ∷ []; gives = out (0x4F ∷ 0xA6 ∷ 0x06 ∷ 0x10 ∷ 0x4A ∷ 0x23 ∷ []) }
    ∷ record { start = version6 true; calls = incoming (0x04 ∷ 0x9F ∷ []) ∷ call_bus_start ∷ []; gives = out (0x40 ∷ 0x9E ∷ 0x06 ∷ []) }
    -- and not to 15, from 15, to others, or once unconfigured
    ∷ record { start = version6 true; calls = incoming (0x0F ∷ 0xA5 ∷ []) ∷ call_bus_start ∷ []; gives = EAGAIN ∷ [] }
    ∷ record { start = version6 true; calls = incoming (0xF4 ∷ 0xA5 ∷ []) ∷ call_bus_start ∷ []; gives = EAGAIN ∷ [] }
    ∷ record { start = version6 true; calls = incoming (0x05 ∷ 0xA5 ∷ []) ∷ call_bus_start ∷ []; gives = EAGAIN ∷ [] }
    ∷ record { start = version6 true; calls = call_unconfigure ∷ incoming (0x04 ∷ 0xA5 ∷ []) ∷ call_bus_start ∷ []; gives = EAGAIN ∷ [] }
    -- without TRANSMIT, or with 18 queued, the answer is dropped, and the question still counts as answered
    ∷ record { start = version6 false; calls = incoming (0x04 ∷ 0xA5 ∷ []) ∷ call_bus_start ∷ []; gives = EAGAIN ∷ [] }
    ∷ record { start = version6 true; calls = call_open true ∷ call_open true ∷ call_mode 2 0x11 ∷ times 16 (plain 0) (plain 1 ∷ plain 1 ∷ incoming (0x04 ∷ 0xA5 ∷ []) ∷ call_receive 2 ∷ []); gives = EAGAIN ∷ [] }
    ∷ record { start = version6 true; calls = call_open true ∷ times 16 (plain 0) (plain 1 ∷ plain 1 ∷ incoming (0x04 ∷ 0xA5 ∷ []) ∷ sent_first 18 (call_bus_start ∷ [])); gives = EAGAIN ∷ [] }
    -- a follower gets no A5 that was answered, be it exclusive or not; under passthrough it is the follower's
    ∷ record { start = version6 true; calls = call_mode 0 0x11 ∷ incoming (0x04 ∷ 0xA5 ∷ []) ∷ call_receive 0 ∷ []; gives = EAGAIN ∷ [] }
    ∷ record { start = version6 true; calls = call_mode 0 0x21 ∷ incoming (0x04 ∷ 0xA5 ∷ []) ∷ call_receive 0 ∷ []; gives = EAGAIN ∷ [] }
    ∷ record { start = version6 true; calls = call_mode 0 0x21 ∷ incoming (0x04 ∷ 0xA5 ∷ []) ∷ call_bus_start ∷ []; gives = out (0x4F ∷ 0xA6 ∷ 0x06 ∷ 0x10 ∷ 0x4A ∷ 0x23 ∷ []) }
    ∷ record { start = version6 true; calls = call_mode 0 0x31 ∷ incoming (0x04 ∷ 0xA5 ∷ []) ∷ call_receive 0 ∷ []; gives = got 0 0x00 0x01 2 0x00 }
    ∷ record { start = version6 true; calls = call_mode 0 0x31 ∷ incoming (0x04 ∷ 0xA5 ∷ []) ∷ call_bus_start ∷ []; gives = EAGAIN ∷ [] }
    -- A6 is no core message
    ∷ record { start = version6 true; calls = incoming (0x04 ∷ 0xA6 ∷ []) ∷ call_bus_start ∷ []; gives = out (0x40 ∷ 0x00 ∷ 0xA6 ∷ 0x00 ∷ []) }
    -- with version 4 or 5 A5 is no core message, and unconfigure leaves nothing of a profile
    ∷ record { start = bench true; calls = incoming (0x04 ∷ 0xA5 ∷ []) ∷ call_bus_start ∷ []; gives = out (0x40 ∷ 0x00 ∷ 0xA5 ∷ 0x00 ∷ []) }
    ∷ record { start = unconfigured; calls = profile 4 0 0 0 ∷ incoming (0x04 ∷ 0xA5 ∷ []) ∷ call_bus_start ∷ []; gives = out (0x40 ∷ 0x00 ∷ 0xA5 ∷ 0x00 ∷ []) }
    ∷ record { start = bench true; calls = call_mode 0 0x11 ∷ incoming (0x04 ∷ 0xA5 ∷ []) ∷ call_receive 0 ∷ []; gives = got 0 0x00 0x01 2 0x00 }
    ∷ record { start = version6 true; calls = call_unconfigure ∷ profile 5 0 0 0 ∷ incoming (0x04 ∷ 0xA5 ∷ []) ∷ call_bus_start ∷ []; gives = out (0x40 ∷ 0x00 ∷ 0xA5 ∷ 0x00 ∷ []) }
    ∷ []

-- messages from the wire, and then the active address
abbrev pub telling : List (List ℕ) → List Call
telling ms = map incoming ms ++ (call_active_address ∷ [])

-- the routing tracker (document 02, W-205)
abbrev pub tracker_answers : List Case
tracker_answers =
    -- none at first; 82, 86, and the second address of 80
    record { start = bench true; calls = telling []; gives = 0 ∷ 0xFFFF ∷ [] }
    ∷ record { start = bench true; calls = telling ((0x0F ∷ 0x82 ∷ 0x10 ∷ 0x00 ∷ []) ∷ []); gives = 0 ∷ 0x1000 ∷ [] }
    ∷ record { start = bench true; calls = telling ((0x0F ∷ 0x86 ∷ 0x32 ∷ 0x10 ∷ []) ∷ []); gives = 0 ∷ 0x3210 ∷ [] }
    ∷ record { start = bench true; calls = telling ((0x0F ∷ 0x80 ∷ 0x10 ∷ 0x00 ∷ 0x21 ∷ 0x00 ∷ []) ∷ []); gives = 0 ∷ 0x2100 ∷ [] }
    -- the last one counts, 0.0.0.0 too
    ∷ record { start = bench true; calls = telling ((0x0F ∷ 0x82 ∷ 0x10 ∷ 0x00 ∷ []) ∷ (0x0F ∷ 0x86 ∷ 0x20 ∷ 0x00 ∷ []) ∷ []); gives = 0 ∷ 0x2000 ∷ [] }
    ∷ record { start = bench true; calls = telling ((0x0F ∷ 0x82 ∷ 0x10 ∷ 0x00 ∷ []) ∷ (0x0F ∷ 0x82 ∷ 0x00 ∷ 0x00 ∷ []) ∷ []); gives = 0 ∷ 0x0000 ∷ [] }
    -- a byte too few or too many
    ∷ record { start = bench true; calls = telling ((0x0F ∷ 0x82 ∷ 0x10 ∷ []) ∷ []); gives = 0 ∷ 0xFFFF ∷ [] }
    ∷ record { start = bench true; calls = telling ((0x0F ∷ 0x82 ∷ 0x10 ∷ 0x00 ∷ 0x00 ∷ []) ∷ []); gives = 0 ∷ 0xFFFF ∷ [] }
    ∷ record { start = bench true; calls = telling ((0x0F ∷ 0x86 ∷ 0x10 ∷ 0x00 ∷ 0x00 ∷ []) ∷ []); gives = 0 ∷ 0xFFFF ∷ [] }
    ∷ record { start = bench true; calls = telling ((0x0F ∷ 0x80 ∷ 0x10 ∷ 0x00 ∷ []) ∷ []); gives = 0 ∷ 0xFFFF ∷ [] }
    ∷ record { start = bench true; calls = telling ((0x0F ∷ 0x80 ∷ 0x10 ∷ 0x00 ∷ 0x21 ∷ []) ∷ []); gives = 0 ∷ 0xFFFF ∷ [] }
    ∷ record { start = bench true; calls = telling ((0x0F ∷ 0x80 ∷ 0x10 ∷ 0x00 ∷ 0x21 ∷ 0x00 ∷ 0x00 ∷ []) ∷ []); gives = 0 ∷ 0xFFFF ∷ [] }
    -- only to 15: not to an own address, not elsewhere
    ∷ record { start = bench true; calls = telling ((0x04 ∷ 0x82 ∷ 0x10 ∷ 0x00 ∷ []) ∷ []); gives = 0 ∷ 0xFFFF ∷ [] }
    ∷ record { start = bench true; calls = telling ((0x05 ∷ 0x86 ∷ 0x10 ∷ 0x00 ∷ []) ∷ []); gives = 0 ∷ 0xFFFF ∷ [] }
    ∷ record { start = bench true; calls = telling ((0x04 ∷ 0x80 ∷ 0x10 ∷ 0x00 ∷ 0x21 ∷ 0x00 ∷ []) ∷ []); gives = 0 ∷ 0xFFFF ∷ [] }
    -- an address that is ill formed; of 80 only the second counts
    ∷ record { start = bench true; calls = telling ((0x0F ∷ 0x82 ∷ 0x10 ∷ 0x10 ∷ []) ∷ []); gives = 0 ∷ 0xFFFF ∷ [] }
    ∷ record { start = bench true; calls = telling ((0x0F ∷ 0x82 ∷ 0x01 ∷ 0x00 ∷ []) ∷ []); gives = 0 ∷ 0xFFFF ∷ [] }
    ∷ record { start = bench true; calls = telling ((0x0F ∷ 0x86 ∷ 0xFF ∷ 0xFF ∷ []) ∷ []); gives = 0 ∷ 0xFFFF ∷ [] }
    ∷ record { start = bench true; calls = telling ((0x0F ∷ 0x82 ∷ 0xFF ∷ 0xFE ∷ []) ∷ []); gives = 0 ∷ 0xFFFE ∷ [] }
    ∷ record { start = bench true; calls = telling ((0x0F ∷ 0x80 ∷ 0xFF ∷ 0xFF ∷ 0x11 ∷ 0x00 ∷ []) ∷ []); gives = 0 ∷ 0x1100 ∷ [] }
    ∷ record { start = bench true; calls = telling ((0x0F ∷ 0x82 ∷ 0x10 ∷ 0x00 ∷ []) ∷ (0x0F ∷ 0x80 ∷ 0x10 ∷ 0x00 ∷ 0x10 ∷ 0x10 ∷ []) ∷ []); gives = 0 ∷ 0x1000 ∷ [] }
    -- 9D with that same address clears it: to an own address, elsewhere, to 15
    ∷ record { start = bench true; calls = telling ((0x0F ∷ 0x82 ∷ 0x10 ∷ 0x00 ∷ []) ∷ (0x04 ∷ 0x9D ∷ 0x10 ∷ 0x00 ∷ []) ∷ []); gives = 0 ∷ 0xFFFF ∷ [] }
    ∷ record { start = bench true; calls = telling ((0x0F ∷ 0x82 ∷ 0x10 ∷ 0x00 ∷ []) ∷ (0x05 ∷ 0x9D ∷ 0x10 ∷ 0x00 ∷ []) ∷ []); gives = 0 ∷ 0xFFFF ∷ [] }
    ∷ record { start = bench true; calls = telling ((0x0F ∷ 0x82 ∷ 0x10 ∷ 0x00 ∷ []) ∷ (0x0F ∷ 0x9D ∷ 0x10 ∷ 0x00 ∷ []) ∷ []); gives = 0 ∷ 0xFFFF ∷ [] }
    -- with another, or of another length, it does not
    ∷ record { start = bench true; calls = telling ((0x0F ∷ 0x82 ∷ 0x10 ∷ 0x00 ∷ []) ∷ (0x04 ∷ 0x9D ∷ 0x20 ∷ 0x00 ∷ []) ∷ []); gives = 0 ∷ 0x1000 ∷ [] }
    ∷ record { start = bench true; calls = telling ((0x0F ∷ 0x82 ∷ 0x10 ∷ 0x00 ∷ []) ∷ (0x04 ∷ 0x9D ∷ 0x10 ∷ []) ∷ []); gives = 0 ∷ 0x1000 ∷ [] }
    ∷ record { start = bench true; calls = telling ((0x0F ∷ 0x82 ∷ 0x10 ∷ 0x00 ∷ []) ∷ (0x04 ∷ 0x9D ∷ 0x10 ∷ 0x00 ∷ 0x00 ∷ []) ∷ []); gives = 0 ∷ 0x1000 ∷ [] }
    -- what the tracker hears is no core work: a directed 9D that no one follows gets its Feature Abort
    ∷ record { start = bench true; calls = incoming (0x0F ∷ 0x82 ∷ 0x10 ∷ 0x00 ∷ []) ∷ incoming (0x04 ∷ 0x9D ∷ 0x10 ∷ 0x00 ∷ []) ∷ call_bus_start ∷ []; gives = out (0x40 ∷ 0x00 ∷ 0x9D ∷ 0x00 ∷ []) }
    -- other messages change nothing
    ∷ record { start = bench true; calls = telling ((0x0F ∷ 0x82 ∷ 0x10 ∷ 0x00 ∷ []) ∷ (0x0F ∷ 0x84 ∷ 0x20 ∷ 0x00 ∷ 0x04 ∷ []) ∷ []); gives = 0 ∷ 0x1000 ∷ [] }
    ∷ record { start = bench true; calls = telling ((0x0F ∷ 0x82 ∷ 0x10 ∷ 0x00 ∷ []) ∷ (0x0F ∷ 0x81 ∷ 0x20 ∷ 0x00 ∷ []) ∷ []); gives = 0 ∷ 0x1000 ∷ [] }
    -- from 15 and from an own address
    ∷ record { start = bench true; calls = telling ((0xFF ∷ 0x82 ∷ 0x10 ∷ 0x00 ∷ []) ∷ []); gives = 0 ∷ 0x1000 ∷ [] }
    ∷ record { start = bench true; calls = telling ((0x4F ∷ 0x82 ∷ 0x20 ∷ 0x00 ∷ []) ∷ []); gives = 0 ∷ 0x2000 ∷ [] }
    -- under a passthrough follower and under a monitor
    ∷ record { start = bench true; calls = call_mode 0 0x31 ∷ telling ((0x0F ∷ 0x82 ∷ 0x10 ∷ 0x00 ∷ []) ∷ []); gives = 0 ∷ 0x1000 ∷ [] }
    ∷ record { start = bench true; calls = call_mode 0 0xE0 ∷ telling ((0x0F ∷ 0x82 ∷ 0x10 ∷ 0x00 ∷ []) ∷ (0x05 ∷ 0x9D ∷ 0x10 ∷ 0x00 ∷ []) ∷ []); gives = 0 ∷ 0xFFFF ∷ [] }
    -- unconfigured it hears nothing
    ∷ record { start = unconfigured; calls = telling ((0x0F ∷ 0x82 ∷ 0x10 ∷ 0x00 ∷ []) ∷ []); gives = 0 ∷ 0xFFFF ∷ [] }
    -- a message that is refused is not heard, nor is a transmit
    ∷ record { start = bench true; calls = incoming (0x0F ∷ 0x82 ∷ 0x10 ∷ 0x00 ∷ []) ∷ telling ((0x0F ∷ 0x82 ∷ 0x20 ∷ 0x00 ∷ replicate 13 0x00) ∷ [] ∷ []); gives = 0 ∷ 0x1000 ∷ [] }
    ∷ record { start = bench true; calls = call_transmit 0 (request (0x4F ∷ 0x82 ∷ 0x20 ∷ 0x00 ∷ []) 0x00) ∷ call_bus_start ∷ ok ∷ telling []; gives = 0 ∷ 0xFFFF ∷ [] }
    -- unconfigure clears it, and a later configure does not bring it back
    ∷ record { start = bench true; calls = incoming (0x0F ∷ 0x82 ∷ 0x10 ∷ 0x00 ∷ []) ∷ call_unconfigure ∷ telling []; gives = 0 ∷ 0xFFFF ∷ [] }
    ∷ record { start = bench true; calls = incoming (0x0F ∷ 0x82 ∷ 0x10 ∷ 0x00 ∷ []) ∷ call_unconfigure ∷ call_configure bench_settings ∷ telling []; gives = 0 ∷ 0xFFFF ∷ [] }
    ∷ []

-- document 02, W-207: an opcode is sent to the TV with a reply wanted, a timeout and a flag, and its result is received; then other calls
abbrev pub awaiting : ℕ → ℕ → ℕ → ℕ → List Call → List Call
awaiting code reply timeout flags cs = sending (0x40 ∷ code ∷ []) reply timeout flags ∷ call_bus_start ∷ ok ∷ call_receive 0 ∷ cs

-- the opcode of the reply that an entry shows
abbrev pub reply_answers : List Case
reply_answers =
    -- the one that came: the wanted one, the other of the pair, a Feature Abort
    record { start = bench true; calls = awaiting 0xC0 0xC1 0 0 (incoming (0x04 ∷ 0xC1 ∷ []) ∷ call_receive 0 ∷ []); gives = got 1 0x00 0x01 2 0xC1 }
    ∷ record { start = bench true; calls = awaiting 0xC0 0xC1 0 0 (incoming (0x04 ∷ 0xC2 ∷ []) ∷ call_receive 0 ∷ []); gives = got 1 0x00 0x01 2 0xC2 }
    ∷ record { start = bench true; calls = awaiting 0xC0 0xC2 0 0 (incoming (0x04 ∷ 0xC1 ∷ []) ∷ call_receive 0 ∷ []); gives = got 1 0x00 0x01 2 0xC1 }
    ∷ record { start = bench true; calls = awaiting 0xC0 0xC1 0 0 (incoming (0x04 ∷ 0x00 ∷ 0xC0 ∷ 0x04 ∷ []) ∷ call_receive 0 ∷ []); gives = got 1 0x00 0x05 4 0x00 }
    -- the wanted one where none came: timeout, unconfigure
    ∷ record { start = bench true; calls = awaiting 0xC0 0xC1 500 0 (call_time 500 ∷ call_receive 0 ∷ []); gives = got 1 0x00 0x02 2 0xC1 }
    ∷ record { start = bench true; calls = awaiting 0xC0 0xC1 500 0 (call_unconfigure ∷ call_receive 0 ∷ []); gives = got 1 0x00 0x08 2 0xC1 }
    -- two waits ended at once, each with its own
    ∷ record { start = bench true; calls = awaiting 0xC0 0xC1 500 0 (awaiting 0x8F 0x90 500 0 (call_time 500 ∷ call_receive 0 ∷ [])); gives = got 1 0x00 0x02 2 0xC1 }
    ∷ record { start = bench true; calls = awaiting 0xC0 0xC1 500 0 (awaiting 0x8F 0x90 500 0 (call_time 500 ∷ call_receive 0 ∷ call_receive 0 ∷ [])); gives = got 2 0x00 0x02 2 0x90 }
    -- a wait that only a Feature Abort ends: 0 was wanted
    ∷ record { start = bench true; calls = awaiting 0x8F 0x00 500 0 (incoming (0x04 ∷ 0x00 ∷ 0x8F ∷ []) ∷ call_receive 0 ∷ []); gives = got 1 0x00 0x05 3 0x00 }
    ∷ record { start = bench true; calls = awaiting 0x8F 0x00 500 0 (call_time 500 ∷ call_receive 0 ∷ []); gives = got 1 0x00 0x02 2 0x00 }
    ∷ record { start = bench true; calls = awaiting 0x8F 0x00 500 0 (call_unconfigure ∷ call_receive 0 ∷ []); gives = got 1 0x00 0x08 2 0x00 }
    -- results show 0, those of unconfigure too, though a reply was wanted
    ∷ record { start = bench true; calls = asking 0 ∷ call_bus_start ∷ ok ∷ call_receive 0 ∷ []; gives = got 1 0x01 0x00 2 0x00 }
    ∷ record { start = bench true; calls = asking 0 ∷ call_unconfigure ∷ call_receive 0 ∷ []; gives = got 1 0x40 0x00 2 0x00 }
    -- copies show 0, those of a reply too: for a follower with the flag, for a monitor before the reply itself
    ∷ record { start = bench true; calls = call_open true ∷ call_mode 1 0x11 ∷ awaiting 0x8F 0x90 0 1 (incoming (0x04 ∷ 0x90 ∷ 0x00 ∷ []) ∷ call_receive 1 ∷ []); gives = got 0 0x00 0x01 3 0x00 }
    ∷ record { start = bench true; calls = awaiting 0x8F 0x90 0 0 (call_mode 0 0xE0 ∷ incoming (0x04 ∷ 0x90 ∷ 0x00 ∷ []) ∷ call_receive 0 ∷ []); gives = got 0 0x00 0x01 3 0x00 }
    ∷ record { start = bench true; calls = awaiting 0x8F 0x90 0 0 (call_mode 0 0xE0 ∷ incoming (0x04 ∷ 0x90 ∷ 0x00 ∷ []) ∷ call_receive 0 ∷ call_receive 0 ∷ []); gives = got 1 0x00 0x01 3 0x90 }
    -- the owner as a follower gets both; a copy of a Feature Abort
    ∷ record { start = bench true; calls = call_mode 0 0x11 ∷ awaiting 0x8F 0x90 0 1 (incoming (0x04 ∷ 0x90 ∷ 0x00 ∷ []) ∷ call_receive 0 ∷ []); gives = got 1 0x00 0x01 3 0x90 }
    ∷ record { start = bench true; calls = call_mode 0 0x11 ∷ awaiting 0x8F 0x90 0 1 (incoming (0x04 ∷ 0x90 ∷ 0x00 ∷ []) ∷ call_receive 0 ∷ call_receive 0 ∷ []); gives = got 0 0x00 0x01 3 0x00 }
    ∷ record { start = bench true; calls = call_open true ∷ call_mode 1 0x11 ∷ awaiting 0x8F 0x90 0 1 (incoming (0x04 ∷ 0x00 ∷ 0x8F ∷ 0x00 ∷ []) ∷ call_receive 1 ∷ []); gives = got 0 0x00 0x01 4 0x00 }
    -- a monitor's copy of the result of a transmit that wants a reply
    ∷ record { start = bench true; calls = asking 0 ∷ call_mode 0 0xE0 ∷ call_bus_start ∷ ok ∷ call_receive 0 ∷ []; gives = got 0 0x01 0x00 2 0x00 }
    ∷ []

-- document 02, W-208: a message from the TV to all, at a time; a question to it whose result comes at a time and is received; a message on the wire; then other calls
abbrev pub told : ℕ → Call
told ts = incoming_at (0x0F ∷ 0x90 ∷ 0x00 ∷ []) ts

abbrev pub asked_at : ℕ → List Call → List Call
asked_at ts cs = sending (0x40 ∷ 0x8F ∷ []) 0x90 500 0 ∷ call_bus_start ∷ ok_at ts ∷ call_receive 0 ∷ cs

abbrev pub on_wire : List Call → List Call
on_wire cs = plain 0 ∷ call_bus_start ∷ cs

-- the times that an entry shows, and the clock
abbrev pub timestamp_answers : List Case
timestamp_answers =
    -- a bus result and its copy show the sent time, those of a handle that was closed too
    record { start = bench true; calls = on_wire (ok_at 5 ∷ call_receive 0 ∷ []); gives = got_at 1 0x01 0x00 2 0x00 5 0 }
    ∷ record { start = bench true; calls = on_wire (call_bus_result 0x20 no_counts 5 ∷ call_receive 0 ∷ []); gives = got_at 1 0x20 0x00 2 0x00 5 0 }
    ∷ record { start = bench true; calls = on_wire (call_mode 0 0xE0 ∷ ok_at 5 ∷ call_receive 0 ∷ []); gives = got_at 0 0x01 0x00 2 0x00 5 0 }
    ∷ record { start = bench true; calls = on_wire (call_close 0 ∷ call_open true ∷ call_mode 0 0xE0 ∷ ok_at 5 ∷ call_receive 0 ∷ []); gives = got_at 0 0x01 0x00 2 0x00 5 0 }
    -- the copy of a message shows the received time: for a follower, an exclusive one, a monitor
    ∷ record { start = bench true; calls = call_mode 0 0x11 ∷ told 7 ∷ call_receive 0 ∷ []; gives = got_at 0 0x00 0x01 3 0x00 0 7 }
    ∷ record { start = bench true; calls = call_mode 0 0x21 ∷ told 7 ∷ call_receive 0 ∷ []; gives = got_at 0 0x00 0x01 3 0x00 0 7 }
    ∷ record { start = bench true; calls = call_mode 0 0xE0 ∷ told 7 ∷ call_receive 0 ∷ []; gives = got_at 0 0x00 0x01 3 0x00 0 7 }
    -- a reply and a Feature Abort show both, the sent one that of the transmit's own result
    ∷ record { start = bench true; calls = asked_at 5 (told 7 ∷ call_receive 0 ∷ []); gives = got_at 1 0x00 0x01 3 0x90 5 7 }
    ∷ record { start = bench true; calls = asked_at 5 (told 5 ∷ call_receive 0 ∷ []); gives = got_at 1 0x00 0x01 3 0x90 5 5 }
    ∷ record { start = bench true; calls = asked_at 5 (incoming_at (0x04 ∷ 0x00 ∷ 0x8F ∷ 0x00 ∷ []) 7 ∷ call_receive 0 ∷ []); gives = got_at 1 0x00 0x05 4 0x00 5 7 }
    ∷ record { start = bench true; calls = asked_at 5 (asked_at 6 (told 7 ∷ call_receive 0 ∷ [])); gives = got_at 1 0x00 0x01 3 0x90 5 7 }
    ∷ record { start = bench true; calls = asked_at 5 (asked_at 6 (told 7 ∷ told 8 ∷ call_receive 0 ∷ call_receive 0 ∷ [])); gives = got_at 2 0x00 0x01 3 0x90 6 8 }
    -- the copy of a reply shows no sent time
    ∷ record { start = bench true; calls = asked_at 5 (call_mode 0 0xE0 ∷ told 7 ∷ call_receive 0 ∷ []); gives = got_at 0 0x00 0x01 3 0x00 0 7 }
    -- a timeout and an aborted wait show the sent time, each its own
    ∷ record { start = bench true; calls = asked_at 5 (call_time 500 ∷ call_receive 0 ∷ []); gives = got_at 1 0x00 0x02 2 0x90 5 0 }
    ∷ record { start = bench true; calls = asked_at 5 (call_unconfigure ∷ call_receive 0 ∷ []); gives = got_at 1 0x00 0x08 2 0x90 5 0 }
    ∷ record { start = bench true; calls = asked_at 5 (asked_at 6 (incoming_at (0x0F ∷ []) 9 ∷ call_time 500 ∷ call_receive 0 ∷ call_receive 0 ∷ [])); gives = got_at 2 0x00 0x02 2 0x90 6 0 }
    -- a result of unconfigure shows 0, whatever the clock says
    ∷ record { start = bench true; calls = told 7 ∷ plain 0 ∷ call_unconfigure ∷ call_receive 0 ∷ []; gives = got_at 1 0x40 0x00 2 0x00 0 0 }
    ∷ record { start = bench true; calls = told 7 ∷ on_wire (call_unconfigure ∷ call_receive 0 ∷ []); gives = got_at 1 0x40 0x00 2 0x00 0 0 }
    -- a time below the last is refused, after a result and after a message; an equal one is fine
    ∷ record { start = bench true; calls = on_wire (ok_at 5 ∷ on_wire (ok_at 4 ∷ [])); gives = EINVAL ∷ [] }
    ∷ record { start = bench true; calls = on_wire (ok_at 5 ∷ on_wire (ok_at 5 ∷ [])); gives = 0 ∷ [] }
    ∷ record { start = bench true; calls = on_wire (told 5 ∷ ok_at 4 ∷ []); gives = EINVAL ∷ [] }
    ∷ record { start = bench true; calls = on_wire (told 5 ∷ ok_at 5 ∷ []); gives = 0 ∷ [] }
    ∷ record { start = bench true; calls = told 5 ∷ told 4 ∷ []; gives = EINVAL ∷ [] }
    ∷ record { start = bench true; calls = told 5 ∷ told 5 ∷ []; gives = 0 ∷ [] }
    ∷ record { start = bench true; calls = on_wire (ok_at 5 ∷ told 4 ∷ []); gives = EINVAL ∷ [] }
    ∷ record { start = bench true; calls = on_wire (ok_at 5 ∷ told 5 ∷ []); gives = 0 ∷ [] }
    -- 64 bits
    ∷ record { start = bench true; calls = told 18446744073709551615 ∷ told 18446744073709551614 ∷ []; gives = EINVAL ∷ [] }
    ∷ record { start = bench true; calls = call_mode 0 0x11 ∷ told 18446744073709551615 ∷ call_receive 0 ∷ []; gives = got_at 0 0x00 0x01 3 0x00 0 18446744073709551615 }
    -- what is refused by its time changes nothing: the wire stays taken, the wait waits on, nobody gets anything
    ∷ record { start = bench true; calls = told 5 ∷ on_wire (ok_at 4 ∷ call_bus_start ∷ []); gives = EBUSY ∷ [] }
    ∷ record { start = bench true; calls = told 5 ∷ on_wire (ok_at 4 ∷ call_receive 0 ∷ []); gives = EAGAIN ∷ [] }
    ∷ record { start = bench true; calls = told 5 ∷ on_wire (ok_at 4 ∷ ok_at 6 ∷ call_receive 0 ∷ []); gives = got_at 1 0x01 0x00 2 0x00 6 0 }
    ∷ record { start = bench true; calls = asked_at 5 (told 4 ∷ call_receive 0 ∷ []); gives = EAGAIN ∷ [] }
    ∷ record { start = bench true; calls = asked_at 5 (told 4 ∷ told 6 ∷ call_receive 0 ∷ []); gives = got_at 1 0x00 0x01 3 0x90 5 6 }
    ∷ record { start = bench true; calls = asked_at 5 (call_mode 0 0xE0 ∷ told 4 ∷ call_receive 0 ∷ []); gives = EAGAIN ∷ [] }
    -- and the clock stays: refused by its time, by its length, by its status, with nothing on the wire
    ∷ record { start = bench true; calls = told 5 ∷ told 4 ∷ told 4 ∷ []; gives = EINVAL ∷ [] }
    ∷ record { start = bench true; calls = told 5 ∷ call_message 17 (replicate 16 0) 9 ∷ told 5 ∷ []; gives = 0 ∷ [] }
    ∷ record { start = bench true; calls = on_wire (call_bus_result 0x21 no_counts 9 ∷ ok_at 5 ∷ []); gives = 0 ∷ [] }
    ∷ record { start = bench true; calls = ok_at 9 ∷ told 5 ∷ []; gives = 0 ∷ [] }
    -- every message that is accepted moves it: a poll, one to another address, one while unconfigured
    ∷ record { start = bench true; calls = incoming_at (0x04 ∷ []) 5 ∷ told 4 ∷ []; gives = EINVAL ∷ [] }
    ∷ record { start = bench true; calls = incoming_at (0x05 ∷ 0x90 ∷ []) 5 ∷ told 4 ∷ []; gives = EINVAL ∷ [] }
    ∷ record { start = unconfigured; calls = told 5 ∷ told 4 ∷ []; gives = EINVAL ∷ [] }
    -- and every result: a failure, one of a handle that was closed, one while unconfigured
    ∷ record { start = bench true; calls = on_wire (call_bus_result 0x20 no_counts 5 ∷ told 4 ∷ []); gives = EINVAL ∷ [] }
    ∷ record { start = bench true; calls = on_wire (call_close 0 ∷ ok_at 5 ∷ told 4 ∷ []); gives = EINVAL ∷ [] }
    ∷ record { start = unconfigured; calls = call_transmit 0 (request (0xF0 ∷ 0x04 ∷ []) 0) ∷ call_bus_start ∷ ok_at 5 ∷ told 4 ∷ []; gives = EINVAL ∷ [] }
    -- unconfigure keeps it, and so do a configure and elapsed time
    ∷ record { start = bench true; calls = told 5 ∷ call_unconfigure ∷ told 4 ∷ []; gives = EINVAL ∷ [] }
    ∷ record { start = bench true; calls = told 5 ∷ call_unconfigure ∷ told 5 ∷ []; gives = 0 ∷ [] }
    ∷ record { start = bench true; calls = told 5 ∷ call_unconfigure ∷ call_configure bench_settings ∷ told 4 ∷ []; gives = EINVAL ∷ [] }
    ∷ record { start = bench true; calls = told 5 ∷ call_time 1000 ∷ told 5 ∷ []; gives = 0 ∷ [] }
    ∷ []
