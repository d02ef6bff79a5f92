-- What the comparer's code does with one log, with the progress and with both logs, over plain values.
-- Assumes nothing.
use Rattle.std.proofs.Common.{◌≡◌, ℕ, ◌+◌, ◌<◌, min, Bool, true, false, cond, ◌||◌, ltb, ◌≢◌, List, [], ◌∷◌, length, take, Option, None, Some, refl, sym, ap, ◌∙◌, ap₂, arith, length-take, take_all, ltb-false, ltb-true, ne_eqb, leb-true, true≢false}
use Rattle.std.specs.Option.{is_some}
use Rattle.comparer.specs.Comparer.{log_in, progress_in, comparing_of}
use Rattle.comparer.specs.declared.Comparer.{Comparer}
use Rattle.comparer.specs.declared.Log.{Log}
use Rattle.comparer.specs.declared.Progress.{Progress}
use Rattle.comparison.specs.Compare.{kinds}
use Rattle.comparison.specs.Comparing as comparing
use Rattle.comparison.specs.Comparing.{met, alone, counted, tallied, is_waiting, FedSide, fed_side, settled, settled_by}
use Rattle.lists.specs.Tests.{split}
use Rattle.reading.proofs.Reading.{came_whole}
use Rattle.session_log.proofs.Record.{kind_held}
use Rattle.reading.specs.Reading as reading
use Rattle.reading.specs.Reading.{end_of, turn}
use Rattle.session_log.specs.Record.{body_length, kind_of}
use Rattle.reader.specs.Turn.{reading_of, came_of, turn_of}
use Rattle.reader.specs.declared.Cursor.{Cursor}
use Rattle.reader.specs.declared.Turn.{Turn}
use Rattle.reader.specs.declared.Whole.{Whole}

-- how a log ends
pub end_bad : (bytes : List ℕ) (c : Cursor) → c.ended ≡ true → reading.bad_at c.place ≡ end_of (reading_of bytes c)
unfolding end_of
end_bad bytes c e = rw e

pub end_whole : (bytes : List ℕ) (c : Cursor) → c.ended ≡ false → c.count ≡ 0 → reading.at_end ≡ end_of (reading_of bytes c)
unfolding end_of
end_whole bytes c e z = rw (e, z)

pub end_cut : (bytes : List ℕ) (c : Cursor) → length bytes ≡ 28 → c.ended ≡ false → c.count ≢ 0 → reading.cut_at c.place ≡ end_of (reading_of bytes c)
unfolding end_of
end_cut bytes c l e d = rw (e, ne_eqb (length (take c.count bytes)) 0 (λ z. d (omega (arith, length-take c.count bytes))))

-- a record that waits, or none
by_waits : (s : Log) (w : Option Whole) → s.waits ≡ w → is_waiting (log_in s) ≡ is_some s.waits
by_waits s None e = rw e
by_waits s (Some n) e = rw e

pub waiting_is : (s : Log) → is_waiting (log_in s) ≡ is_some s.waits
waiting_is s = by_waits s s.waits refl

no_record : (x : Option Whole) → is_some x ≡ false → x ≡ None
no_record None e = refl
no_record (Some n) e = absurd (true≢false e)

-- a log with a portion
module _ (s : Log) (portion : List ℕ) where
  pub read_stays : (is_some s.waits || s.over) ≡ true → record { side = log_in s; taken = 0 } ≡ fed_side (log_in s) portion
  unfolding fed_side
  read_stays e = rw (waiting_is s, e)

  abbrev made : reading.Turn → FedSide
  made t = record { side = record { reading = t.read.reading; waiting = t.read.came; counts = tallied s.counts t.read.came; over = false }; taken = t.taken }

  -- what the turn brought
  took : (is_some s.waits || s.over) ≡ false → fed_side (log_in s) portion ≡ made (turn (reading_of s.bytes s.cursor) portion)
  unfolding fed_side
  took e = rw (waiting_is s, e)

  module _ (w : is_some s.waits ≡ false) (o : s.over ≡ false) (t : Turn) (bytes : List ℕ) (h : turn_of t bytes ≡ turn (reading_of s.bytes s.cursor) portion) where
    can : (is_some s.waits || s.over) ≡ false
    can = rw (w, o)

    -- the log after the turn
    abbrev after : Option Whole → List ℕ → FedSide
    after came counts = record { side = log_in (record { cursor = t.cursor; waits = came; over = s.over; bytes = bytes; counts = counts }); taken = t.taken }

    -- a record that came is whole, and so it is not empty
    came_some : (g : Whole) → t.came ≡ Some g → 0 < g.length
    came_some g d =
        let b = take g.length bytes in
        let c : (turn (reading_of s.bytes s.cursor) portion).read.came ≡ b ∷ [] = sym (ap (λ (x : reading.Turn). x.read.came) h) ∙ ap (λ (x : Option Whole). came_of x bytes) d in
        let w = leb-true (1 + body_length (kind_of b)) (length b) (came_whole (reading_of s.bytes s.cursor) portion b [] c) in
        omega (arith, length-take g.length bytes)

    -- the counts, as what came has them
    by_came : (came : Option Whole) → t.came ≡ came → (counts : List ℕ) → counts ≡ cond (is_some came) (counted kinds s.counts (kind_of bytes)) s.counts
        → counts ≡ tallied s.counts (came_of came bytes)
    by_came None d counts q = q
    by_came (Some g) d counts q = q ∙ ap (counted kinds s.counts) (sym (kind_held bytes g.length (came_some g d)))

    pub read_turn : (counts : List ℕ) → counts ≡ cond (is_some t.came) (counted kinds s.counts (kind_of bytes)) s.counts
        → record { side = log_in (record { cursor = t.cursor; waits = t.came; over = s.over; bytes = bytes; counts = counts }); taken = t.taken } ≡ fed_side (log_in s) portion
    read_turn counts q = rw o (ap with_counts (by_came t.came refl counts q)) ∙ ap made h ∙ sym (took can)
      where
        with_counts : List ℕ → FedSide
        with_counts cs = record { side = record { reading = reading_of bytes t.cursor; waiting = came_of t.came bytes; counts = cs; over = false }; taken = t.taken }

-- both logs, where one waits, or both
take_28 : (n : ℕ) (l : List ℕ) → length l ≡ 28 → take (min n 28) l ≡ take n l
take_28 n l e = split (ltb n 28)
    (λ p. let m : min n 28 ≡ n = omega (arith, ltb-true n 28 p) in rw m)
    (λ p. let m : min n 28 ≡ 28 = omega (arith, ltb-false n 28 p) in rw (m, take_all 28 l (omega arith), take_all n l (omega (arith, ltb-false n 28 p))))

-- a log without the record that waited
abbrev freed : Log → Log
freed s = record { cursor = s.cursor; waits = None; over = s.over; bytes = s.bytes; counts = s.counts }

module _ (c : Comparer) where
  abbrev logs : comparing.Comparing
  logs = comparing_of c

  settled_at : (x y : Option Whole) → c.left.waits ≡ x → c.right.waits ≡ y → settled_by logs (came_of x c.left.bytes) (came_of y c.right.bytes) ≡ settled logs
  unfolding settled
  settled_at x y p q = sym (ap₂ (λ (u v : Option Whole). settled_by logs (came_of u c.left.bytes) (came_of v c.right.bytes)) p q)

  pub settle_met : (n m : Whole) (p : Progress) → length c.left.bytes ≡ 28 → length c.right.bytes ≡ 28 → c.left.waits ≡ Some n → c.right.waits ≡ Some m
      → progress_in p ≡ met (progress_in c.progress) (take (min n.length 28) c.left.bytes) (take (min m.length 28) c.right.bytes)
      → comparing_of (record { left = freed c.left; right = freed c.right; progress = p }) ≡ settled logs
  settle_met n m p el er x y h =
      ap (λ (q : comparing.Progress). record { left = log_in (freed c.left); right = log_in (freed c.right); progress = q })
      (h ∙ ap₂ (met (progress_in c.progress)) (take_28 n.length c.left.bytes el) (take_28 m.length c.right.bytes er))
      ∙ settled_at (Some n) (Some m) x y

  -- the record of one log waits, and the other is done or not
  module _ (n : Whole) where
    abbrev left_alone : comparing.Progress → comparing.Comparing
    left_alone q = record { left = log_in (freed c.left); right = log_in c.right; progress = q }

    pub settle_left : (p : Progress) → c.left.waits ≡ Some n → c.right.waits ≡ None → (c.right.over || c.right.cursor.ended) ≡ true
        → progress_in p ≡ alone (progress_in c.progress) → comparing_of (record { left = freed c.left; right = c.right; progress = p }) ≡ settled logs
    settle_left p x y done h =
        ap left_alone h
        ∙ sym (ap (λ (k : Bool). cond {A = comparing.Comparing} k (left_alone (alone (progress_in c.progress))) logs) done)
        ∙ settled_at (Some n) None x y

    pub left_stays : c.left.waits ≡ Some n → c.right.waits ≡ None → (c.right.over || c.right.cursor.ended) ≡ false → logs ≡ settled logs
    left_stays x y going =
        sym (ap (λ (k : Bool). cond {A = comparing.Comparing} k (left_alone (alone (progress_in c.progress))) logs) going)
        ∙ settled_at (Some n) None x y

    abbrev right_alone : comparing.Progress → comparing.Comparing
    right_alone q = record { left = log_in c.left; right = log_in (freed c.right); progress = q }

    pub settle_right : (p : Progress) → c.left.waits ≡ None → c.right.waits ≡ Some n → (c.left.over || c.left.cursor.ended) ≡ true
        → progress_in p ≡ alone (progress_in c.progress) → comparing_of (record { left = c.left; right = freed c.right; progress = p }) ≡ settled logs
    settle_right p x y done h =
        ap right_alone h
        ∙ sym (ap (λ (k : Bool). cond {A = comparing.Comparing} k (right_alone (alone (progress_in c.progress))) logs) done)
        ∙ settled_at None (Some n) x y

    pub right_stays : c.left.waits ≡ None → c.right.waits ≡ Some n → (c.left.over || c.left.cursor.ended) ≡ false → logs ≡ settled logs
    right_stays x y going =
        sym (ap (λ (k : Bool). cond {A = comparing.Comparing} k (right_alone (alone (progress_in c.progress))) logs) going)
        ∙ settled_at None (Some n) x y

  pub none_wait : c.left.waits ≡ None → c.right.waits ≡ None → logs ≡ settled logs
  none_wait x y = settled_at None None x y
