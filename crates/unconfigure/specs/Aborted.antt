-- The inboxes after what unconfigure ends (document 01, "Wire, time and configuration").
-- Assumes nothing.
use Rattle.std.specs.Prelude.{List}
use Rattle.entry.specs.declared.Entry.{Entry}
use Rattle.inbox.specs.Inboxes.{delivered_all}
use Rattle.rules.specs.Unconfigure.{aborted_result, abort_entry}
use Rattle.transmission.specs.declared.Transmission.{Transmission}
use Rattle.wait.specs.declared.Wait.{Wait}

-- the inboxes after the entries by which they end, for the owners of some transmits, of some waits, in their order
abbrev pub transmits_aborted : List (List Entry) → List Transmission → List (List Entry)
transmits_aborted is ts = delivered_all (λ t. t.owner) aborted_result is ts

abbrev pub waits_aborted : List (List Entry) → List Wait → List (List Entry)
waits_aborted is ws = delivered_all (λ w. w.owner) abort_entry is ws
