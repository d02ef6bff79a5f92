-- Listing (document 01, "A message from the wire": "The listing fills a lent table of rows, one per handle number").
-- Assumes nothing.
use Rattle.std.specs.Prelude.{ℕ, true, false, cond, List, map, ◌++◌, eqb, ltb, length, drop}
use Rattle.constants.specs.Kernel.{EINVAL}
use Rattle.handle.specs.declared.Row.{Row}
use Rattle.inbox.specs.Inboxes.{inbox_of}
use Rattle.rules.specs.Call.{Outcome, finish, unless, check, Answer}
use Rattle.rules.specs.Deliver.{handle_numbers}
use Rattle.rules.specs.Derived.{Derived, counted}
use Rattle.rules.specs.Handles.{handle_at, is_open}
use Rattle.rules.specs.State.{State}

-- "Under 8 rows: EINVAL"
abbrev pub listing_refusal : List Row → ℕ
listing_refusal rows = check (ltb (length rows) 8) EINVAL 0

-- "number, open or not, mode, entries, owed room, lost; a closed row is 0 but for its number"
abbrev pub row_of_by : Derived → State → ℕ → Row
row_of_by d s h = cond (is_open s h)
    (record { number = h; is_open = true; mode = (handle_at s h).mode; entries = length (inbox_of s.inboxes h); owed = d.owed s h; lost = (handle_at s h).lost })
    (record { number = h; is_open = false; mode = 0; entries = 0; owed = 0; lost = 0 })

abbrev pub row_of : State → ℕ → Row
row_of = row_of_by counted

-- "rows past 8 stay"
abbrev pub filled_rows : State → List Row → List Row
filled_rows s rows = map (row_of s) handle_numbers ++ drop 8 rows

-- the lent rows after the call: on a refusal they are as they were
unfoldable pub rows_after : State → List Row → List Row
rows_after s rows = cond (eqb (listing_refusal rows) 0) (filled_rows s rows) rows

unfoldable pub do_listing : State → List Row → Outcome
do_listing s rows = unless (listing_refusal rows) s (finish (Answer.listed (filled_rows s rows)) s)
