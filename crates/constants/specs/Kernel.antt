-- The kernel's names for the numbers, with '-' for '_': errno.h and linux/cec.h.
-- Assumes nothing.
use Rattle.std.specs.Prelude.{ℕ}

-- Errors: what a refused call gives back (document 01, "Numbers given back"; errno.h).
abbrev pub EPERM : ℕ
EPERM = 1

abbrev pub EBADF : ℕ
EBADF = 9

abbrev pub EAGAIN : ℕ
EAGAIN = 11

abbrev pub EBUSY : ℕ
EBUSY = 16

abbrev pub EINVAL : ℕ
EINVAL = 22

abbrev pub EMFILE : ℕ
EMFILE = 24

abbrev pub ENOTTY : ℕ
ENOTTY = 25

abbrev pub ENONET : ℕ
ENONET = 64

-- Modes of a handle: the initiator part in the low digit, the follower part above it (document 01, "Modes"; linux/cec.h).
abbrev pub CEC-MODE-NO-INITIATOR : ℕ
CEC-MODE-NO-INITIATOR = 0x00

abbrev pub CEC-MODE-INITIATOR : ℕ
CEC-MODE-INITIATOR = 0x01

abbrev pub CEC-MODE-EXCL-INITIATOR : ℕ
CEC-MODE-EXCL-INITIATOR = 0x02

abbrev pub CEC-MODE-NO-FOLLOWER : ℕ
CEC-MODE-NO-FOLLOWER = 0x00

abbrev pub CEC-MODE-FOLLOWER : ℕ
CEC-MODE-FOLLOWER = 0x10

abbrev pub CEC-MODE-EXCL-FOLLOWER : ℕ
CEC-MODE-EXCL-FOLLOWER = 0x20

abbrev pub CEC-MODE-EXCL-FOLLOWER-PASSTHRU : ℕ
CEC-MODE-EXCL-FOLLOWER-PASSTHRU = 0x30

abbrev pub CEC-MODE-MONITOR : ℕ
CEC-MODE-MONITOR = 0xE0

abbrev pub CEC-MODE-MONITOR-ALL : ℕ
CEC-MODE-MONITOR-ALL = 0xF0

-- Status bits of a transmit (document 01, "Wire, time and configuration"; linux/cec.h).
abbrev pub CEC-TX-STATUS-OK : ℕ
CEC-TX-STATUS-OK = 0x01

abbrev pub CEC-TX-STATUS-ARB-LOST : ℕ
CEC-TX-STATUS-ARB-LOST = 0x02

abbrev pub CEC-TX-STATUS-NACK : ℕ
CEC-TX-STATUS-NACK = 0x04

abbrev pub CEC-TX-STATUS-LOW-DRIVE : ℕ
CEC-TX-STATUS-LOW-DRIVE = 0x08

abbrev pub CEC-TX-STATUS-ERROR : ℕ
CEC-TX-STATUS-ERROR = 0x10

abbrev pub CEC-TX-STATUS-MAX-RETRIES : ℕ
CEC-TX-STATUS-MAX-RETRIES = 0x20

abbrev pub CEC-TX-STATUS-ABORTED : ℕ
CEC-TX-STATUS-ABORTED = 0x40

abbrev pub CEC-TX-STATUS-TIMEOUT : ℕ
CEC-TX-STATUS-TIMEOUT = 0x80

-- Status bits of a received message (document 01, "A message from the wire"; linux/cec.h).
abbrev pub CEC-RX-STATUS-OK : ℕ
CEC-RX-STATUS-OK = 0x01

abbrev pub CEC-RX-STATUS-TIMEOUT : ℕ
CEC-RX-STATUS-TIMEOUT = 0x02

abbrev pub CEC-RX-STATUS-FEATURE-ABORT : ℕ
CEC-RX-STATUS-FEATURE-ABORT = 0x04

abbrev pub CEC-RX-STATUS-ABORTED : ℕ
CEC-RX-STATUS-ABORTED = 0x08

-- The flag of a transmit (linux/cec.h).
abbrev pub CEC-MSG-FL-REPLY-TO-FOLLOWERS : ℕ
CEC-MSG-FL-REPLY-TO-FOLLOWERS = 1

-- Opcodes (document 01, "A message from the wire"; document 02, W-203 and W-205; linux/cec.h).
abbrev pub CEC-MSG-FEATURE-ABORT : ℕ
CEC-MSG-FEATURE-ABORT = 0x00

abbrev pub CEC-MSG-IMAGE-VIEW-ON : ℕ
CEC-MSG-IMAGE-VIEW-ON = 0x04

abbrev pub CEC-MSG-TEXT-VIEW-ON : ℕ
CEC-MSG-TEXT-VIEW-ON = 0x0D

abbrev pub CEC-MSG-GIVE-OSD-NAME : ℕ
CEC-MSG-GIVE-OSD-NAME = 0x46

abbrev pub CEC-MSG-SET-OSD-NAME : ℕ
CEC-MSG-SET-OSD-NAME = 0x47

abbrev pub CEC-MSG-ROUTING-CHANGE : ℕ
CEC-MSG-ROUTING-CHANGE = 0x80

abbrev pub CEC-MSG-ACTIVE-SOURCE : ℕ
CEC-MSG-ACTIVE-SOURCE = 0x82

abbrev pub CEC-MSG-GIVE-PHYSICAL-ADDR : ℕ
CEC-MSG-GIVE-PHYSICAL-ADDR = 0x83

abbrev pub CEC-MSG-REPORT-PHYSICAL-ADDR : ℕ
CEC-MSG-REPORT-PHYSICAL-ADDR = 0x84

abbrev pub CEC-MSG-SET-STREAM-PATH : ℕ
CEC-MSG-SET-STREAM-PATH = 0x86

abbrev pub CEC-MSG-DEVICE-VENDOR-ID : ℕ
CEC-MSG-DEVICE-VENDOR-ID = 0x87

abbrev pub CEC-MSG-GIVE-DEVICE-VENDOR-ID : ℕ
CEC-MSG-GIVE-DEVICE-VENDOR-ID = 0x8C

abbrev pub CEC-MSG-GIVE-DEVICE-POWER-STATUS : ℕ
CEC-MSG-GIVE-DEVICE-POWER-STATUS = 0x8F

abbrev pub CEC-MSG-REPORT-POWER-STATUS : ℕ
CEC-MSG-REPORT-POWER-STATUS = 0x90

abbrev pub CEC-MSG-INACTIVE-SOURCE : ℕ
CEC-MSG-INACTIVE-SOURCE = 0x9D

abbrev pub CEC-MSG-CEC-VERSION : ℕ
CEC-MSG-CEC-VERSION = 0x9E

abbrev pub CEC-MSG-GET-CEC-VERSION : ℕ
CEC-MSG-GET-CEC-VERSION = 0x9F

abbrev pub CEC-MSG-GIVE-FEATURES : ℕ
CEC-MSG-GIVE-FEATURES = 0xA5

abbrev pub CEC-MSG-REPORT-FEATURES : ℕ
CEC-MSG-REPORT-FEATURES = 0xA6

abbrev pub CEC-MSG-INITIATE-ARC : ℕ
CEC-MSG-INITIATE-ARC = 0xC0

abbrev pub CEC-MSG-REPORT-ARC-INITIATED : ℕ
CEC-MSG-REPORT-ARC-INITIATED = 0xC1

abbrev pub CEC-MSG-REPORT-ARC-TERMINATED : ℕ
CEC-MSG-REPORT-ARC-TERMINATED = 0xC2

abbrev pub CEC-MSG-ABORT : ℕ
CEC-MSG-ABORT = 0xFF

-- Reasons of a Feature Abort (document 01, "A message from the wire"; linux/cec.h).
abbrev pub CEC-OP-ABORT-UNRECOGNIZED-OP : ℕ
CEC-OP-ABORT-UNRECOGNIZED-OP = 0

abbrev pub CEC-OP-ABORT-REFUSED : ℕ
CEC-OP-ABORT-REFUSED = 4

-- Versions (document 01, "Wire, time and configuration"; document 02, W-203; linux/cec.h).
abbrev pub CEC-OP-CEC-VERSION-1-3A : ℕ
CEC-OP-CEC-VERSION-1-3A = 4

abbrev pub CEC-OP-CEC-VERSION-1-4 : ℕ
CEC-OP-CEC-VERSION-1-4 = 5

abbrev pub CEC-OP-CEC-VERSION-2-0 : ℕ
CEC-OP-CEC-VERSION-2-0 = 6

-- Addresses (linux/cec.h): 15 is the unregistered initiator and the broadcast destination.
abbrev pub CEC-LOG-ADDR-UNREGISTERED : ℕ
CEC-LOG-ADDR-UNREGISTERED = 15

abbrev pub CEC-LOG-ADDR-BROADCAST : ℕ
CEC-LOG-ADDR-BROADCAST = 15

abbrev pub CEC-PHYS-ADDR-INVALID : ℕ
CEC-PHYS-ADDR-INVALID = 0xFFFF
