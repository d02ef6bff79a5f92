-- What is written of a comparison into a lent buffer (document 02, W-209).
-- Assumes nothing.
use Rattle.std.specs.Prelude.{ℕ, ◌≤◌, cond, List, [], ltb, length}
use Rattle.comparer.specs.Comparer.{comparison_of}
use Rattle.comparer.specs.declared.Comparison.{Comparison}
use Rattle.comparison.specs.Compare as compare
use Rattle.comparison.specs.Text.{printed, text_max}

-- in a buffer that has room for the longest
abbrev pub text_in : Comparison → List ℕ → List ℕ
text_in c out = cond (ltb (length out) text_max) [] (printed (comparison_of c))

-- no comparison prints more
abbrev pub NeverMore : Type 0
NeverMore = (c : compare.Comparison) → length (printed c) ≤ text_max
