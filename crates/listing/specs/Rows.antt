-- The answer of the listing, read as an outcome of the rules (document 01, "A message from the wire"): an errno and the lent rows afterwards; the state is the one before it.
-- Assumes nothing.
use Rattle.std.specs.Prelude.{ℕ, List, ◌≡◌}
use Rattle.handle.specs.declared.Row.{Row}
use Rattle.parts.specs.Parts.{or_refused}
use Rattle.rules.specs.Call.{Outcome, finish, listed, call_listing}
use Rattle.rules.specs.Listing.{rows_after}
use Rattle.rules.specs.State.{State}
use Rattle.rules.specs.Step.{step}

abbrev pub listed_of : State → ℕ → List Row → Outcome
listed_of s errno rows = finish (or_refused errno (listed rows)) s

-- what a listing of lent rows gives: the rows afterwards, and the answer
abbrev pub Lists : State → List Row → ℕ → List Row → Type 0
Lists s lent errno rows = (rows ≡ rows_after s lent) × (listed_of s errno rows ≡ step s (call_listing lent))
