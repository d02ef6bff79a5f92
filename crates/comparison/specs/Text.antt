-- What is printed of a comparison (document 02, W-209), in ASCII: single blanks, and a newline at the end of each line.
-- Assumes nothing.
use Rattle.std.specs.Prelude.{ℕ, List, [], ◌∷◌, ◌++◌}
use Rattle.comparison.specs.Compare.{What, in_kind, in_body, in_end, Verdict, equal, differs, kinds, Comparison}
use Rattle.reading.specs.Reading.{Ending, at_end, bad_at, cut_at}
use Rattle.session_log.specs.Text.{decimal, blanked, bad_line, cut_line}

-- " kind", " body" or " end"
abbrev pub what_word : What → List ℕ
what_word in_kind = 32 ∷ 107 ∷ 105 ∷ 110 ∷ 100 ∷ []
what_word in_body = 32 ∷ 98 ∷ 111 ∷ 100 ∷ 121 ∷ []
what_word in_end = 32 ∷ 101 ∷ 110 ∷ 100 ∷ []

-- "equal", or "differ NUMBER LEFT RIGHT WHAT" with the two offsets
abbrev pub verdict_line : Verdict → List ℕ
verdict_line equal = 101 ∷ 113 ∷ 117 ∷ 97 ∷ 108 ∷ 10 ∷ []
verdict_line (differs d) =
    (100 ∷ 105 ∷ 102 ∷ 102 ∷ 101 ∷ 114 ∷ []) ++ (blanked (d.number ∷ d.offsets.left ∷ d.offsets.right ∷ []) ++ (what_word d.what ++ (10 ∷ [])))

-- "A bad or cut log is named as such with its offset": a side, and then as the replay names it
abbrev pub end_line : List ℕ → Ending → List ℕ
end_line side at_end = []
end_line side (bad_at place) = side ++ (32 ∷ bad_line place)
end_line side (cut_at place) = side ++ (32 ∷ cut_line place)

-- "left" and "right"
abbrev pub left_word : List ℕ
left_word = 108 ∷ 101 ∷ 102 ∷ 116 ∷ []

abbrev pub right_word : List ℕ
right_word = 114 ∷ 105 ∷ 103 ∷ 104 ∷ 116 ∷ []

-- "KIND LEFT RIGHT": the counts of a kind in both logs
abbrev pub count_lines : List ℕ → List ℕ → List ℕ → List ℕ
count_lines [] ls rs = []
count_lines (k ∷ ks) [] rs = []
count_lines (k ∷ ks) (l ∷ ls) [] = []
count_lines (k ∷ ks) (l ∷ ls) (r ∷ rs) = (decimal k ++ (blanked (l ∷ r ∷ []) ++ (10 ∷ []))) ++ count_lines ks ls rs

unfoldable pub printed : Comparison → List ℕ
printed c =
    verdict_line c.verdict
    ++ (end_line left_word c.endings.left
    ++ (end_line right_word c.endings.right
    ++ count_lines kinds c.counts.left c.counts.right))

-- no comparison prints more: 75 bytes, twice 30 or 31, and eleven lines of 44 or 45
abbrev pub text_max : ℕ
text_max = 640
