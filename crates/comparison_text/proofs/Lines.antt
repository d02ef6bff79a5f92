-- The lines of a comparison in a lent buffer, of words and numbers one after the other.
-- Assumes nothing.
use Prim.Native.Nat.{ℕ, ◌+◌, ◌≤◌, ◌<◌}
use mathlib.Core.List.{List, [], ◌∷◌, ◌++◌, append_assoc, append-nil}
use mathlib.Core.Path.{◌≡◌}
use native.Mathlib.Omega.{arith}
use lib.ListN.{length, drop, length-append}
use borrow.Author.Tests.{le-ltb}
use Rattle.comparer.specs.Comparer.{verdict_in, end_in, comparison_of}
use Rattle.comparer.specs.declared.Comparison.{Comparison}
use Rattle.comparison.specs.Compare.{What, sides, differs_at, kinds}
use Rattle.comparison.specs.Text.{what_word, verdict_line, end_line, left_word, right_word, count_lines, printed}
use Rattle.comparison_text.proofs.Long.{value_most, two_digits, verdict_most, end_most}
use Rattle.comparison_text.specs.Text.{text_in}
use Rattle.session_log.specs.Text.{decimal, blanked, line_of}
use Rattle.text.proofs.Puts.{put_long, joined, spelt}
use Rattle.text.specs.Line.{PutAt, RoomAt, LineAt}

numbers : (number left right : ℕ) (word rest : List ℕ)
    → (((word ++ blanked (number ∷ [])) ++ blanked (left ∷ [])) ++ blanked (right ∷ [])) ++ rest ≡ word ++ (blanked (number ∷ left ∷ right ∷ []) ++ rest)
numbers number left right word rest = simp (append_assoc, append-nil)

-- "differ" and three numbers, and what differs after them
module _ {out : List ℕ} {at m₁ m₂ m₃ m₄ : ℕ} {out₁ out₂ out₃ out₄ : List ℕ} (number left right : ℕ) (h : at + 75 ≤ length out)
    (a : RoomAt 6 out at (100 ∷ 105 ∷ 102 ∷ 102 ∷ 101 ∷ 114 ∷ []) m₁ out₁) (b : RoomAt 21 out₁ m₁ (blanked (number ∷ [])) m₂ out₂)
    (c : RoomAt 21 out₂ m₂ (blanked (left ∷ [])) m₃ out₃) (d : RoomAt 21 out₃ m₃ (blanked (right ∷ [])) m₄ out₄) where
  three : PutAt out at ((((100 ∷ 105 ∷ 102 ∷ 102 ∷ 101 ∷ 114 ∷ []) ++ blanked (number ∷ [])) ++ blanked (left ∷ [])) ++ blanked (right ∷ [])) m₄ out₄ × (m₄ ≤ at + 69)
  three =
      let p = a.fits (omega arith) in
      let q = b.fits (omega (arith, put_long p)) in
      let r = c.fits (omega (arith, put_long p, put_long q, value_most number)) in
      let s = d.fits (omega (arith, put_long p, put_long q, put_long r, value_most number, value_most left)) in
      (joined (joined (joined p q) r) s, omega (arith, value_most number, value_most left, value_most right))

  pub what_room : m₄ + 6 ≤ length out₄
  what_room = omega (arith, put_long three.0, three.1)

  pub differing : {end : ℕ} {out₅ : List ℕ} (w : What) → PutAt out₄ m₄ (what_word w ++ (10 ∷ [])) end out₅
      → PutAt out at (verdict_line (differs_at number (sides left right) w)) end out₅
  differing w p = spelt (numbers number left right (100 ∷ 105 ∷ 102 ∷ 102 ∷ 101 ∷ 114 ∷ []) (what_word w ++ (10 ∷ []))) (joined three.0 p)

-- the counts of a kind
pub counted : {out : List ℕ} {at m₁ m₂ m₃ end : ℕ} {out₁ out₂ out₃ out₄ : List ℕ} (kind left right : ℕ) → at + 45 ≤ length out → kind < 100
    → RoomAt 20 out at (decimal kind) m₁ out₁ → RoomAt 21 out₁ m₁ (blanked (left ∷ [])) m₂ out₂ → RoomAt 21 out₂ m₂ (blanked (right ∷ [])) m₃ out₃
    → RoomAt 1 out₃ m₃ (10 ∷ []) end out₄ → PutAt out at (line_of kind (left ∷ right ∷ [])) end out₄
counted kind left right h k a b c d =
    let p = a.fits (omega arith) in
    let q = b.fits (omega (arith, put_long p, two_digits kind k)) in
    let r = c.fits (omega (arith, put_long p, put_long q, two_digits kind k, value_most left)) in
    let s = d.fits (omega (arith, put_long p, put_long q, put_long r, two_digits kind k, value_most left, value_most right)) in
    spelt (simp (append_assoc, append-nil)) (joined (joined (joined p q) r) s)

-- a side and a blank, and a line of the replay after them
pub called : {out : List ℕ} {at mid end : ℕ} {out' out'' : List ℕ} (side text : List ℕ) → at + (length side + 30) ≤ length out
    → PutAt out at (side ++ (32 ∷ [])) mid out' → LineAt out' mid text end out'' → PutAt out at (side ++ (32 ∷ text)) end out''
called side text h p q =
    let r = q.fits (omega (arith, put_long p, p.place, length-append side (32 ∷ []))) in
    spelt (append_assoc side (32 ∷ []) text) (joined p r)

-- the lines of a comparison, one after the other at the start of a buffer
module _ {out : List ℕ} {m₁ : ℕ} {out₁ : List ℕ} (c : Comparison) (h : 640 ≤ length out)
    (v : PutAt out 0 (verdict_line (verdict_in c.difference)) m₁ out₁) where
  pub left_room : m₁ + 34 ≤ length out₁
  left_room = omega (arith, put_long v, v.place, verdict_most (verdict_in c.difference))

  module _ {m₂ : ℕ} {out₂ : List ℕ} (l : PutAt out₁ m₁ (end_line left_word (end_in c.left)) m₂ out₂) where
    pub right_room : m₂ + 35 ≤ length out₂
    right_room = omega (arith, put_long v, put_long l, v.place, l.place, verdict_most (verdict_in c.difference), end_most left_word (end_in c.left))

    module _ {m₃ : ℕ} {out₃ : List ℕ} (r : PutAt out₂ m₂ (end_line right_word (end_in c.right)) m₃ out₃) where
      pub counts_room : m₃ + 495 ≤ length out₃
      counts_room =
          omega (arith, put_long v, put_long l, put_long r, v.place, l.place, r.place, verdict_most (verdict_in c.difference), end_most left_word (end_in c.left), end_most right_word (end_in c.right))

      pub written : {end : ℕ} {out₄ : List ℕ} → PutAt out₃ m₃ (count_lines kinds c.left.counts c.right.counts) end out₄
          → (end ≡ length (text_in c out)) × ((out₄ ≡ text_in c out ++ drop (length (text_in c out)) out) × (end ≤ length out₄))
      unfolding printed
      written {end} n =
          let p = joined v (joined l (joined r n)) in
          let e : end ≡ length (printed (comparison_of c)) = omega (arith, p.place) in
          rw (le-ltb (length out) 640 h) (e, (rw (← e) p.bytes, omega (arith, p.room, put_long p)))
