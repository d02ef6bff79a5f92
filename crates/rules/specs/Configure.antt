-- Configure (document 01, "Wire, time and configuration"; document 02, W-203).
-- Assumes nothing.
use Rattle.std.specs.Prelude.{ℕ, ◌-◌, ◌^◌, Bool, ◌&&◌, ◌||◌, not, List, [], ◌∷◌, ◌++◌, eqb, leb, ltb, take, replicate}
use Rattle.constants.specs.Kernel.{EBUSY, EINVAL, CEC-OP-CEC-VERSION-1-3A, CEC-OP-CEC-VERSION-1-4, CEC-OP-CEC-VERSION-2-0, CEC-PHYS-ADDR-INVALID}
use Rattle.lists.specs.Sums.{count}
use Rattle.rules.specs.Call.{Outcome, finish, unless, check, Answer}
use Rattle.rules.specs.Handles.{is_configured, has_bit}
use Rattle.rules.specs.State.{State, with_settings}
use Rattle.settings.specs.declared.Settings.{Settings}

-- the logical addresses that a device can have
abbrev pub logical_addresses : List ℕ
logical_addresses = 0 ∷ 1 ∷ 2 ∷ 3 ∷ 4 ∷ 5 ∷ 6 ∷ 7 ∷ 8 ∷ 9 ∷ 10 ∷ 11 ∷ 12 ∷ 13 ∷ 14 ∷ []

-- "mask of 1 to 4 bits among 0 to 14"
abbrev pub is_mask : ℕ → Bool
is_mask mask =
    ltb mask (2 ^ 15)
    && leb 1 (count (λ a. has_bit (2 ^ a) mask) logical_addresses)
    && leb (count (λ a. has_bit (2 ^ a) mask) logical_addresses) 4

-- "version 4 or 5"; W-203: "With version 4 or 5 the bytes must be 0"
abbrev pub is_version1 : Settings → Bool
is_version1 x =
    (eqb x.version CEC-OP-CEC-VERSION-1-3A || eqb x.version CEC-OP-CEC-VERSION-1-4)
    && eqb x.all_device_types 0
    && eqb x.rc_profile 0
    && eqb x.device_features 0

-- W-203: "Version 6 becomes allowed in configure, with three more bytes: all device types, RC profile, device features, the last two below 128"
abbrev pub is_version2 : Settings → Bool
is_version2 x = eqb x.version CEC-OP-CEC-VERSION-2-0 && ltb x.rc_profile 128 && ltb x.device_features 128

-- "device type 0, 1, 3, 4, 5, 6 or 7"
abbrev pub is_device_type : ℕ → Bool
is_device_type t = leb t 7 && not (eqb t 2)

-- "physical address not 0xFFFF, mask .., version .., device type .., vendor id below 16,777,216, name of 1 to 14 bytes"
abbrev pub is_settings : Settings → Bool
is_settings x =
    not (eqb x.physical_address CEC-PHYS-ADDR-INVALID)
    && is_mask x.mask
    && (is_version1 x || is_version2 x)
    && is_device_type x.device_type
    && ltb x.vendor_id 16777216
    && (leb 1 x.name_length && leb x.name_length 14)

-- "the EBUSY test comes first"
abbrev pub configure_refusal : State → Settings → ℕ
configure_refusal s x = check (is_configured s) EBUSY (check (not (is_settings x)) EINVAL 0)

-- the settings as they are kept: the name 0 past its length
abbrev pub kept_settings : Settings → Settings
kept_settings x = record {
  physical_address = x.physical_address;
  mask = x.mask;
  version = x.version;
  device_type = x.device_type;
  vendor_id = x.vendor_id;
  name_length = x.name_length;
  name = take x.name_length x.name ++ replicate (14 - x.name_length) 0;
  all_device_types = x.all_device_types;
  rc_profile = x.rc_profile;
  device_features = x.device_features;
}

unfoldable pub do_configure : State → Settings → Outcome
do_configure s x = unless (configure_refusal s x) s (finish Answer.done (with_settings s (kept_settings x)))
