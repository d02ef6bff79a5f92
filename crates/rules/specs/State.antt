-- The adapter's state (document 01, "The adapter's parts").
-- Assumes nothing.
use Rattle.std.specs.Prelude.{ℕ, Bool, false, List, [], replicate}
use Rattle.constants.specs.Kernel.{CEC-PHYS-ADDR-INVALID}
use Rattle.entry.specs.declared.Entry.{Entry}
use Rattle.handle.specs.declared.Handle.{Handle}
use Rattle.settings.specs.declared.Settings.{Settings}
use Rattle.transmission.specs.declared.Transmission.{Transmission}
use Rattle.wait.specs.declared.Wait.{Wait}

-- "Capabilities, fixed at creation: TRANSMIT and MONITOR_ALL, each yes or no."
pub record Capabilities : Type 0 where
  pub transmit : Bool
  pub monitor_all : Bool

-- "8 handles", "A transmit queue of 18 messages", "a wire that holds at most one more", "An inbox of 16 entries per handle", "Waits", the settings, "one noted physical address for each of 0 to 14", the last sequence number given;
-- document 02: the active address of the routing tracker (W-205), and the clock, the time of the last bus result or message that was accepted, in nanoseconds (W-208)
pub record State : Type 0 where
  pub capabilities : Capabilities
  pub handles : List Handle
  pub inboxes : List (List Entry)
  pub queue : List Transmission
  pub wire : List Transmission
  pub waits : List Wait
  pub last : ℕ
  pub settings : Settings
  pub noted : List ℕ
  pub active : ℕ
  pub clock : ℕ

-- a handle number that is not open
abbrev pub closed_handle : Handle
closed_handle = record { is_open = false; privileged = false; mode = 0; lost = 0 }

-- as unconfigure leaves them: "address 0xFFFF, mask 0", "The other settings become 0"
abbrev pub no_settings : Settings
no_settings = record {
  physical_address = CEC-PHYS-ADDR-INVALID;
  mask = 0;
  version = 0;
  device_type = 0;
  vendor_id = 0;
  name_length = 0;
  name = replicate 14 0;
  all_device_types = 0;
  rc_profile = 0;
  device_features = 0;
}

-- "noted addresses cleared": "0xFFFF if none"
abbrev pub none_noted : List ℕ
none_noted = replicate 15 CEC-PHYS-ADDR-INVALID

-- "A fresh adapter is as unconfigure leaves it, all handles closed, queue and wire empty, its last sequence number 0."; the clock is "0 at first" (document 02, W-208)
unfoldable pub fresh : Capabilities → State
fresh c = record {
  capabilities = c;
  handles = replicate 8 closed_handle;
  inboxes = replicate 8 [];
  queue = [];
  wire = [];
  waits = [];
  last = 0;
  settings = no_settings;
  noted = none_noted;
  active = CEC-PHYS-ADDR-INVALID;
  clock = 0;
}

-- the state with one part changed
abbrev pub with_handles : State → List Handle → State
with_handles s x = record { capabilities = s.capabilities; handles = x; inboxes = s.inboxes; queue = s.queue; wire = s.wire; waits = s.waits; last = s.last; settings = s.settings; noted = s.noted; active = s.active; clock = s.clock }

abbrev pub with_inboxes : State → List (List Entry) → State
with_inboxes s x = record { capabilities = s.capabilities; handles = s.handles; inboxes = x; queue = s.queue; wire = s.wire; waits = s.waits; last = s.last; settings = s.settings; noted = s.noted; active = s.active; clock = s.clock }

abbrev pub with_queue : State → List Transmission → State
with_queue s x = record { capabilities = s.capabilities; handles = s.handles; inboxes = s.inboxes; queue = x; wire = s.wire; waits = s.waits; last = s.last; settings = s.settings; noted = s.noted; active = s.active; clock = s.clock }

abbrev pub with_wire : State → List Transmission → State
with_wire s x = record { capabilities = s.capabilities; handles = s.handles; inboxes = s.inboxes; queue = s.queue; wire = x; waits = s.waits; last = s.last; settings = s.settings; noted = s.noted; active = s.active; clock = s.clock }

abbrev pub with_waits : State → List Wait → State
with_waits s x = record { capabilities = s.capabilities; handles = s.handles; inboxes = s.inboxes; queue = s.queue; wire = s.wire; waits = x; last = s.last; settings = s.settings; noted = s.noted; active = s.active; clock = s.clock }

abbrev pub with_last : State → ℕ → State
with_last s x = record { capabilities = s.capabilities; handles = s.handles; inboxes = s.inboxes; queue = s.queue; wire = s.wire; waits = s.waits; last = x; settings = s.settings; noted = s.noted; active = s.active; clock = s.clock }

abbrev pub with_settings : State → Settings → State
with_settings s x = record { capabilities = s.capabilities; handles = s.handles; inboxes = s.inboxes; queue = s.queue; wire = s.wire; waits = s.waits; last = s.last; settings = x; noted = s.noted; active = s.active; clock = s.clock }

abbrev pub with_noted : State → List ℕ → State
with_noted s x = record { capabilities = s.capabilities; handles = s.handles; inboxes = s.inboxes; queue = s.queue; wire = s.wire; waits = s.waits; last = s.last; settings = s.settings; noted = x; active = s.active; clock = s.clock }

abbrev pub with_active : State → ℕ → State
with_active s x = record { capabilities = s.capabilities; handles = s.handles; inboxes = s.inboxes; queue = s.queue; wire = s.wire; waits = s.waits; last = s.last; settings = s.settings; noted = s.noted; active = x; clock = s.clock }

abbrev pub with_clock : State → ℕ → State
with_clock s x = record { capabilities = s.capabilities; handles = s.handles; inboxes = s.inboxes; queue = s.queue; wire = s.wire; waits = s.waits; last = s.last; settings = s.settings; noted = s.noted; active = s.active; clock = x }
