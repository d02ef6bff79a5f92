-- Listings that the promise rules out, for any adapter: rows that are left as they were lent, eight rows that are refused, seven that are taken.
-- Assumes nothing.
use mathlib.Core.Bool.{false}
use mathlib.Core.List.{List}
use mathlib.Core.Path.{ap, sym}
use native.Mathlib.Omega.{arith}
use lib.ListN.{get_or, replicate}
use Rattle.constants.specs.Kernel.{EINVAL}
use Rattle.handle.specs.declared.Row.{Row}
use Rattle.listing.specs.Rows.{Lists}
use Rattle.listing.proofs.Written.{no_refusal}
use Rattle.lists.specs.Tests.{split}
use Rattle.rules.specs.Call.{Outcome, unless, check}
use Rattle.rules.specs.Handles.{is_open}
use Rattle.rules.specs.Listing.{rows_after, do_listing}
use Rattle.rules.specs.State.{State}

-- a row that no listing writes
abbrev blank : Row
blank = record { number = 8; is_open = false; mode = 0; entries = 0; owed = 0; lost = 0 }

pub rows_left : (s : State) → Lists s (replicate 8 blank) 0 (replicate 8 blank) → ⊥
unfolding rows_after check
rows_left s l =
    let first = ap (λ (rs : List Row). (get_or rs 0 blank).number) l.0 in
    split (is_open s 0)
    (λ e. let n = rw e at first in omega arith)
    (λ e. let n = rw e at first in omega arith)

pub eight_refused : (s : State) (rows : List Row) → Lists s (replicate 8 blank) EINVAL rows → ⊥
unfolding do_listing unless check
eight_refused s rows l = no_refusal _ _ (ap (λ (o : Outcome). o.answer) l.1)

pub seven_taken : (s : State) (rows : List Row) → Lists s (replicate 7 blank) 0 rows → ⊥
unfolding do_listing unless check
seven_taken s rows l = no_refusal _ _ (ap (λ (o : Outcome). o.answer) (sym l.1))
