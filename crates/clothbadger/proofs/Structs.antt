-- The layout of the structs that C sees: the fields in their order, the offset of each, the size and the alignment. A field that moves, or another size, is refused here;
-- `c/run` compares the numbers with those of the C compiler and of `include/clothbadger.h`.
-- Assumes nothing.
use Prim.Native.Nat.{ℕ, ◌+◌}
use mathlib.Core.List.{List, [], ◌∷◌}
use mathlib.Core.Path.{◌≡◌, refl}
use denote.Struct.Record.{Record}
use denote.Struct.Values.{Values}
use mir.Syntax.{Ty, ty_int, ty_bool, ty_float, ty_ptr, ty_ref, ty_array, ty_unit, ty_struct, ty_enum, ty_named, ty_param, ty_const, ty_array_p, Tys, tnil, tcons}
use prog.Memory.{size, align, up}
use Rattle.adapter.proofs.Adapter.TheLaws as Adapter'
use Rattle.adapter.specs.contracts.Done as Done
use Rattle.adapter.proofs.Done.TheLaws as Done'
use Rattle.adapter.specs.contracts.Opened as Opened
use Rattle.adapter.proofs.Opened.TheLaws as Opened'
use Rattle.adapter.specs.contracts.Received as Received
use Rattle.adapter.proofs.Received.TheLaws as Received'
use Rattle.adapter.specs.contracts.Started as Started
use Rattle.adapter.proofs.Started.TheLaws as Started'
use Rattle.adapter.specs.contracts.Transmitted as Transmitted
use Rattle.adapter.proofs.Transmitted.TheLaws as Transmitted'
use Rattle.entry.specs.contracts.Counts as Counts
use Rattle.entry.proofs.Counts.TheLaws as Counts'
use Rattle.entry.specs.contracts.Entry as Entry
use Rattle.entry.proofs.Entry.TheLaws as Entry'
use Rattle.handle.specs.contracts.Row as Row
use Rattle.handle.proofs.Row.TheLaws as Row'
use Rattle.message.specs.contracts.Message as Message
use Rattle.message.proofs.Message.TheLaws as Message'
use Rattle.route.specs.contracts.Route as Route
use Rattle.route.proofs.Route.TheLaws as Route'
use Rattle.rows.specs.contracts.Noted as Noted
use Rattle.rows.proofs.Noted.TheLaws as Noted'
use Rattle.settings.specs.contracts.Settings as Settings
use Rattle.settings.proofs.Settings.TheLaws as Settings'
use Rattle.request.specs.contracts.Request as Request
use Rattle.request.proofs.Request.TheLaws as Request'

-- where these fields begin, if what stands before them ends at e
abbrev offsets_from : ℕ → Tys → List ℕ
offsets_from e tnil = []
offsets_from e (tcons τ τs) = up (align τ) e ∷ offsets_from (up (align τ) e + size τ) τs

-- only a struct has fields
abbrev offsets : Ty → List ℕ
offsets (ty_int w) = []
offsets ty_bool = []
offsets (ty_float f) = []
offsets ty_ptr = []
offsets (ty_ref κ μ τ) = []
offsets (ty_array τ n) = []
offsets ty_unit = []
offsets (ty_struct ν τs) = offsets_from 0 τs
offsets (ty_enum ν τss) = []
offsets (ty_named ν τs) = []
offsets (ty_param i) = []
offsets (ty_const n) = []
offsets (ty_array_p τ n) = []

abbrev HasLayout : (s : Record) → Ty → (s.D → Values s.parts) → List ℕ → ℕ → ℕ → Type 0
HasLayout s τ fields at bytes aligned = ((d : s.D) → s.as_values d ≡ fields d) × ((offsets τ ≡ at) × ((size τ ≡ bytes) × (align τ ≡ aligned)))

adapter : (size Adapter'.mir ≡ 8744) × (align Adapter'.mir ≡ 8)
adapter = (refl, refl)

message : HasLayout Message.struct Message'.mir (λ d. (d.length, (d.bytes, tt))) (0 ∷ 1 ∷ []) 17 1
message = (λ d. refl, (refl, (refl, refl)))

counts : HasLayout Counts.struct Counts'.mir (λ d. (d.arb_lost, (d.nack, (d.low_drive, (d.error, tt))))) (0 ∷ 1 ∷ 2 ∷ 3 ∷ []) 4 1
counts = (λ d. refl, (refl, (refl, refl)))

entry : HasLayout Entry.struct Entry'.mir (λ d. (d.sequence, (d.tx_status, (d.rx_status, (d.message, (d.counts, (d.reply, (d.tx_ts, (d.rx_ts, tt))))))))) (0 ∷ 4 ∷ 5 ∷ 6 ∷ 23 ∷ 27 ∷ 32 ∷ 40 ∷ []) 48 8
entry = (λ d. refl, (refl, (refl, refl)))

request : HasLayout Request.struct Request'.mir (λ d. (d.length, (d.bytes, (d.reply, (d.timeout, (d.flags, tt)))))) (0 ∷ 1 ∷ 17 ∷ 20 ∷ 24 ∷ []) 28 4
request = (λ d. refl, (refl, (refl, refl)))

settings : HasLayout Settings.struct Settings'.mir
    (λ d. (d.physical_address, (d.mask, (d.version, (d.device_type, (d.vendor_id, (d.name_length, (d.name, (d.all_device_types, (d.rc_profile, (d.device_features, tt)))))))))))
    (0 ∷ 2 ∷ 4 ∷ 5 ∷ 8 ∷ 12 ∷ 13 ∷ 27 ∷ 28 ∷ 29 ∷ []) 32 4
settings = (λ d. refl, (refl, (refl, refl)))

row : HasLayout Row.struct Row'.mir (λ d. (d.number, (d.is_open, (d.mode, (d.entries, (d.owed, (d.lost, tt))))))) (0 ∷ 1 ∷ 4 ∷ 8 ∷ 12 ∷ 16 ∷ []) 20 4
row = (λ d. refl, (refl, (refl, refl)))

noted : HasLayout Noted.struct Noted'.mir (λ d. (d.errno, (d.address, tt))) (0 ∷ 4 ∷ []) 8 4
noted = (λ d. refl, (refl, (refl, refl)))

route : HasLayout Route.struct Route'.mir (λ d. (d.errno, (d.ancestor, (d.on_path, (d.port, tt))))) (0 ∷ 4 ∷ 6 ∷ 7 ∷ []) 8 4
route = (λ d. refl, (refl, (refl, refl)))

done : HasLayout Done.struct Done'.mir (λ d. (d.adapter, (d.errno, tt))) (0 ∷ 8744 ∷ []) 8752 8
done = (λ d. refl, (refl, (refl, refl)))

opened : HasLayout Opened.struct Opened'.mir (λ d. (d.adapter, (d.errno, (d.handle, tt)))) (0 ∷ 8744 ∷ 8748 ∷ []) 8752 8
opened = (λ d. refl, (refl, (refl, refl)))

transmitted : HasLayout Transmitted.struct Transmitted'.mir (λ d. (d.adapter, (d.errno, (d.sequence, (d.tx_status, tt))))) (0 ∷ 8744 ∷ 8748 ∷ 8752 ∷ []) 8760 8
transmitted = (λ d. refl, (refl, (refl, refl)))

received : HasLayout Received.struct Received'.mir (λ d. (d.adapter, (d.errno, (d.entry, tt)))) (0 ∷ 8744 ∷ 8752 ∷ []) 8800 8
received = (λ d. refl, (refl, (refl, refl)))

started : HasLayout Started.struct Started'.mir (λ d. (d.adapter, (d.errno, (d.message, tt)))) (0 ∷ 8744 ∷ 8748 ∷ []) 8768 8
started = (λ d. refl, (refl, (refl, refl)))
