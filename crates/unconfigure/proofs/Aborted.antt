-- What unconfigure ends, from the parts: the wire, the queue and the waits.
-- Assumes nothing.
use Prim.Native.Nat.{ℕ}
use mathlib.Core.List.{List, []}
use mathlib.Core.Path.{◌≡◌, sym}
use Rattle.constants.specs.Kernel.{CEC-PHYS-ADDR-INVALID}
use Rattle.unconfigure.specs.Aborted.{transmits_aborted, waits_aborted}
use Rattle.entry.specs.declared.Entry.{Entry}
use Rattle.rules.proofs.Deliveries.{each_delivers}
use Rattle.rules.specs.Deliver.{each}
use Rattle.rules.specs.Owed.{pending}
use Rattle.rules.specs.State.{State, no_settings, none_noted, with_inboxes, with_queue, with_wire, with_waits, with_settings, with_noted, with_active}
use Rattle.rules.specs.Unconfigure.{abort_transmit, abort_wait, unset, aborted_result, abort_entry}
use Rattle.settings.specs.declared.Settings.{Settings}
use Rattle.transmission.specs.declared.Transmission.{Transmission}
use Rattle.wait.specs.declared.Wait.{Wait}

-- the rule's state, from its parts: the inboxes alone are worked on
pub unconfigured : (s u : State) (is : List (List Entry)) (queue wire : List Transmission) (waits : List Wait) (settings : Settings) (noted : List ℕ)
    → u ≡ with_inboxes s is
    → is ≡ waits_aborted (transmits_aborted s.inboxes (pending s)) s.waits
    → queue ≡ []
    → wire ≡ []
    → waits ≡ []
    → settings ≡ no_settings
    → noted ≡ none_noted
    → ◌≡◌ {A = State}
    (with_queue (with_wire (with_waits (with_settings (with_noted (with_active u CEC-PHYS-ADDR-INVALID) noted) settings) waits) wire) queue)
    (each abort_wait (each abort_transmit (unset s) (pending s)) s.waits)
unconfigured s u is queue wire waits settings noted p a b c d e f =
    let sent = each_delivers (λ t. t.owner) aborted_result (unset s) (pending s) in
    let waited = each_delivers (λ w. w.owner) abort_entry (with_inboxes (unset s) (transmits_aborted s.inboxes (pending s))) s.waits in
    rw (p, a, b, c, d, e, f, sent) (sym waited)
