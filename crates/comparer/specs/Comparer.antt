-- The comparer as what is compared (`Comparing`), and its answer as the comparison of two logs (document 02, W-209).
-- Assumes nothing.
use Rattle.std.specs.Prelude.{◌≡◌, ℕ, ◌<◌, ◌≤◌, Bool, true, false, ◌&&◌, List, length, nat_le, nat_lt, Option, None, Some}
use Rattle.std.specs.declared.ops.Range.{Range}
use Rattle.comparison.specs.Compare as compare
use Rattle.comparison.specs.Compare.{in_kind, in_body, in_end, Verdict, equal, differs, sides, is_past}
use Rattle.comparison.specs.Comparing as comparing
use Rattle.comparison.specs.Comparing.{going, decided, Comparing}
use Rattle.comparer.specs.declared.Comparer.{Comparer}
use Rattle.comparer.specs.declared.Comparison.{Comparison}
use Rattle.comparer.specs.declared.Difference.{Difference}
use Rattle.comparer.specs.declared.End.{End}
use Rattle.comparer.specs.declared.Ending.{Ending}
use Rattle.comparer.specs.declared.Ending.TheVariants.{Whole, Bad, Cut}
use Rattle.comparer.specs.declared.Field.{Field}
use Rattle.comparer.specs.declared.Log.{Log}
use Rattle.comparer.specs.declared.Progress.{Progress}
use Rattle.comparer.specs.declared.Progress.TheVariants.{Going, Decided}
use Rattle.comparer.specs.declared.Side.{Side}
use Rattle.comparer.specs.declared.Side.TheVariants.{Left, Right}
use Rattle.comparer.specs.declared.Taken.{Taken}
use Rattle.comparer.specs.declared.What.{What}
use Rattle.comparer.specs.declared.What.TheVariants.{Kind, Body, End as InEnd}
use Rattle.reading.specs.Reading as reading
use Rattle.reading.specs.Reading.{at_end, bad_at, cut_at}
use Rattle.reader.specs.Turn.{reading_of, came_of}

-- whether a log is the right one
abbrev pub is_right : Side → Bool
is_right Left = false
is_right Right = true

-- a log with its bytes and its counts
abbrev pub log_in : Log → comparing.Side
log_in l = record { reading = reading_of l.bytes l.cursor; waiting = came_of l.waits l.bytes; counts = l.counts; over = l.over }

abbrev pub what_in : What → compare.What
what_in Kind = in_kind
what_in Body = in_body
what_in InEnd = in_end

abbrev pub difference_in : Difference → compare.Difference
difference_in d = record { number = d.number; offsets = sides d.left_offset d.right_offset; what = what_in d.what }

abbrev pub progress_in : Progress → comparing.Progress
progress_in (Going number place) = going number place
progress_in (Decided d) = decided (difference_in d)

-- the difference that has been found
abbrev pub found : Progress → Option Difference
found (Going number place) = None
found (Decided d) = Some d

abbrev pub comparing_of : Comparer → Comparing
comparing_of c = record { left = log_in c.left; right = log_in c.right; progress = progress_in c.progress }

abbrev pub fed_in : Comparer → Taken → comparing.Fed
fed_in c t = record { comparing = comparing_of c; left = t.left; right = t.right }

-- how a log ends
abbrev pub end_at : Ending → reading.Ending
end_at Whole = at_end
end_at (Bad place) = bad_at place
end_at (Cut place) = cut_at place

abbrev pub end_in : End → reading.Ending
end_in e = end_at e.ending

-- none: equal
abbrev pub verdict_in : Option Difference → Verdict
verdict_in None = equal
verdict_in (Some d) = differs (difference_in d)

abbrev pub comparison_of : Comparison → compare.Comparison
comparison_of c = record {
  verdict = verdict_in c.difference;
  counts = sides c.left.counts c.right.counts;
  endings = sides (end_in c.left) (end_in c.right);
}

-- where a kind has a length; one with none has room for no byte
abbrev pub field_in : Option Field → compare.Field
field_in None = record { length_at = 0; size = 0 }
field_in (Some f) = record { length_at = f.length_at; size = f.size }

-- the places of a record's bytes past its length, if there are any
abbrev pub is_in : Option (Range ℕ) → ℕ → Bool
is_in None at = false
is_in (Some p) at = nat_le p.start at && nat_lt at p.end

abbrev pub IsWithin : List ℕ → Option (Range ℕ) → Type 0
IsWithin r None = Unit {0}
IsWithin r (Some p) = (p.start ≤ p.end) × (p.end ≤ length r)

pub record Marks (r : List ℕ) (p : Option (Range ℕ)) : Type 0 where
  pub marks : (at : ℕ) → at < length r → is_in p at ≡ is_past r at
  pub within : IsWithin r p
