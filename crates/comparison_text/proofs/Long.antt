-- How long each line of a comparison is at most, and that no comparison prints more than 640 bytes.
-- Assumes nothing.
use Prim.Native.Nat.{ℕ, ◌+◌, ◌*◌, ◌≤◌, ◌<◌}
use mathlib.Core.Bool.{Bool, true, ◌&&◌}
use mathlib.Core.List.{List, [], ◌∷◌, ◌++◌}
use mathlib.Core.Path.{◌≡◌, refl}
use native.Mathlib.Omega.{arith}
use lib.Dec.{ltb}
use lib.ListN.{length, length-append}
use borrow.Author.Tests.{ltb-true}
use Rattle.comparison.specs.Compare.{What, in_kind, in_body, in_end, Verdict, equal, differs, kinds}
use Rattle.comparison.specs.Text.{what_word, verdict_line, end_line, left_word, right_word, count_lines, printed}
use Rattle.comparison_text.specs.Text.{NeverMore}
use Rattle.lists.specs.Tests.{both}
use Rattle.reading.specs.Reading.{Ending, at_end, bad_at, cut_at}
use Rattle.session_log.specs.Text.{decimal, blanked, line_of}
use Rattle.text.proofs.Digits.{digits_le, decimal_most}

-- a blank and a number; a number of two digits
pub value_most : (n : ℕ) → length (blanked (n ∷ [])) ≤ 21
value_most n = simp length-append (omega (arith, decimal_most n))

pub two_digits : (n : ℕ) → n < 100 → length (decimal n) ≤ 2
unfolding decimal
two_digits n h = digits_le 20 1 n (omega arith)

what_most : (w : What) → length (what_word w) ≤ 5
what_most in_kind = omega arith
what_most in_body = omega arith
what_most in_end = omega arith

pub verdict_most : (v : Verdict) → length (verdict_line v) ≤ 75
verdict_most equal = omega arith
verdict_most (differs d) =
    simp length-append
    (omega (arith, what_most d.what, decimal_most d.number, decimal_most d.offsets.left, decimal_most d.offsets.right))

pub end_most : (side : List ℕ) (e : Ending) → length (end_line side e) ≤ length side + 26
end_most side at_end = omega arith
end_most side (bad_at place) = simp length-append (omega (arith, decimal_most place))
end_most side (cut_at place) = simp length-append (omega (arith, decimal_most place))

pub line_most : (k l r : ℕ) → k < 100 → length (line_of k (l ∷ r ∷ [])) ≤ 45
line_most k l r h = simp length-append (omega (arith, two_digits k h, decimal_most l, decimal_most r))

-- kinds of two digits
abbrev small : List ℕ → Bool
small [] = true
small (k ∷ ks) = ltb k 100 && small ks

lines_most : (ks ls rs : List ℕ) → small ks ≡ true → length (count_lines ks ls rs) ≤ 45 * length ks
lines_most [] ls rs e = omega arith
lines_most (k ∷ ks) [] rs e = omega arith
lines_most (k ∷ ks) (l ∷ ls) [] e = omega arith
lines_most (k ∷ ks) (l ∷ ls) (r ∷ rs) e =
    let b = both (ltb k 100) (small ks) e in
    let i = lines_most ks ls rs b.1 in
    rw (length-append (line_of k (l ∷ r ∷ [])) (count_lines ks ls rs)) (omega (arith, line_most k l r (ltb-true k 100 b.0)))

counts_most : (ls rs : List ℕ) → length (count_lines kinds ls rs) ≤ 495
counts_most ls rs = lines_most kinds ls rs refl

pub never_more : NeverMore
unfolding printed
never_more c =
    let v = verdict_line c.verdict in
    let l = end_line left_word c.endings.left in
    let r = end_line right_word c.endings.right in
    let n = count_lines kinds c.counts.left c.counts.right in
    rw (length-append v (l ++ (r ++ n)), length-append l (r ++ n), length-append r n)
    (omega (arith, verdict_most c.verdict, end_most left_word c.endings.left, end_most right_word c.endings.right, counts_most c.counts.left c.counts.right))
