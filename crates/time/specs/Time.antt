-- Time passing, one wait after the other (document 01, "Wire, time and configuration").
-- Assumes nothing.
use Rattle.std.specs.Prelude.{List}
use Rattle.entry.specs.declared.Entry.{Entry}
use Rattle.inbox.specs.Inboxes.{delivered_all}
use Rattle.rules.specs.Time.{timeout_entry}
use Rattle.wait.specs.declared.Wait.{Wait}

-- the inboxes after the entries by which time ends some waits, for their owners, in their order
abbrev pub timed_out_all : List (List Entry) → List Wait → List (List Entry)
timed_out_all is ws = delivered_all (λ w. w.owner) timeout_entry is ws
