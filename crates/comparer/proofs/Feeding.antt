-- The loop that takes a portion of each log: what it has taken so far, how that begins, goes on and ends; and the answer.
-- Assumes nothing.
use Rattle.std.proofs.Common.{◌≡◌, ℕ, ◌+◌, ◌-◌, ◌<◌, ◌≤◌, Bool, true, false, cond, ◌&&◌, ◌||◌, eqb, List, [], length, drop, Option, None, Some, refl, sym, ap, ◌∙◌, ap₂, add-zero, add_assoc, zero-add, arith, length-drop, drop-drop, eq-eqb, ne_eqb}
use Rattle.std.specs.Option.{is_some}
use mathlib.Core.Logic.{◌⊎◌, inl, inr}
use Rattle.comparer.specs.Comparer.{log_in, progress_in, found, comparing_of, fed_in, verdict_in}
use Rattle.comparer.specs.declared.Comparer.{Comparer}
use Rattle.comparer.specs.declared.Difference.{Difference}
use Rattle.comparer.specs.declared.Log.{Log}
use Rattle.comparer.specs.declared.Progress.{Progress}
use Rattle.comparer.specs.declared.Progress.TheVariants.{Going, Decided}
use Rattle.comparer.proofs.Sides.{waiting_is}
use Rattle.comparison.proofs.Comparing.{can_take_lem, fed_left, fed_right, fed_none, settled_one, last_verdict, settled_answer}
use Rattle.comparison.specs.Compare.{Verdict, sides}
use Rattle.comparison.specs.Comparing as comparing
use Rattle.comparison.specs.Comparing.{alone, is_waiting, is_wanted, FedSide, fed_side, Comparing, with_side, settled, turned, turn_length, Fed, further, can_take, fed, verdict_by, answer_of}
use Rattle.reading.specs.Reading.{Ending, end_of}
use Rattle.reader.specs.Turn.{reading_of}
use Rattle.reader.specs.declared.Whole.{Whole}

-- of portions a and b, offered to a comparer c₀, l and r bytes are taken, and the comparer is c
pub record Feeding (c₀ : Comparing) (a b : List ℕ) (c : Comparing) (l r : ℕ) : Type 0 where
  pub left_within : l ≤ length a
  pub right_within : r ≤ length b
  pub all : fed c₀ a b ≡ further l r (fed c (drop l a) (drop r b))

abbrev with_taken : Fed → ℕ → ℕ → Fed
with_taken f n m = record { comparing = f.comparing; left = n; right = m }

-- bytes are left of a portion, or none
some_left : (a : List ℕ) (l : ℕ) → l < length a → eqb (length (drop l a)) 0 ≡ false
some_left a l t = ne_eqb (length (drop l a)) 0 (λ z. omega (arith, length-drop l a))

none_left : (a : List ℕ) (l : ℕ) → length a ≤ l → eqb (length (drop l a)) 0 ≡ true
none_left a l t = eq-eqb (length (drop l a)) 0 (omega (arith, length-drop l a))

-- a log that wants no bytes, or has none
pub cannot : (s : comparing.Side) (a : List ℕ) (l : ℕ) {w : Bool} → w ≡ is_wanted s → ((w ≡ true) × (length a ≤ l)) ⊎ (w ≡ false) → can_take s (drop l a) ≡ false
cannot s a l e (inl (t, h)) = rw (sym e ∙ t, none_left a l h)
cannot s a l e (inr f) = rw (sym e ∙ f)

-- one turn after the other
further_left : (l r n : ℕ) (f : Fed) → further l r (further n 0 f) ≡ further (l + n) r f
further_left l r n f = ap₂ (with_taken f) (sym (add_assoc l n f.left)) (ap (λ (x : ℕ). r + x) (zero-add f.right))

further_right : (l r n : ℕ) (f : Fed) → further l r (further 0 n f) ≡ further l (r + n) f
further_right l r n f = ap₂ (with_taken f) (ap (λ (x : ℕ). l + x) (zero-add f.left)) (sym (add_assoc r n f.right))

-- how it begins
pub begins : (c : Comparing) (a b : List ℕ) → Feeding c a b c 0 0
begins c a b = record {
  left_within = omega arith;
  right_within = omega arith;
  all = ap₂ (with_taken (fed c a b)) (sym (zero-add (fed c a b).left)) (sym (zero-add (fed c a b).right));
}

module _ (c₀ : Comparing) (a b : List ℕ) (o : Comparer) (l r : ℕ) (f : Feeding c₀ a b (comparing_of o) l r) where
  abbrev now : Comparing
  now = comparing_of o

  -- a turn of the left log
  module _ (e : is_wanted now.left ≡ true) (t : l < length a) (k : Log) (n : ℕ) (h : record { side = log_in k; taken = n } ≡ fed_side now.left (drop l a)) where
    left_can : can_take now.left (drop l a) ≡ true
    left_can = rw (e, some_left a l t)

    pub left_taken : (0 < n) × (n ≤ length a - l)
    left_taken =
        let c = can_take_lem now.left (drop l a) left_can in
        let q : n ≡ (fed_side now.left (drop l a)).taken = ap (λ (x : FedSide). x.taken) h in
        (omega (arith, c.0), omega (arith, c.1, length-drop l a))

    pub left_turn : (o' : Comparer) → comparing_of o' ≡ settled (comparing_of (record { left = k; right = o.right; progress = o.progress }))
        → Feeding c₀ a b (comparing_of o') (l + n) r
    unfolding turned
    left_turn o' q =
        let g = left_taken in
        let m : turn_length now false (drop l a) ≡ n = ap (λ (x : FedSide). x.taken) (sym h) in
        let d : turned now false (drop l a) ≡ comparing_of o' = ap (λ (x : FedSide). settled (with_side false x.side now)) (sym h) ∙ sym q in
        record {
          left_within = omega (arith, f.left_within, g);
          right_within = f.right_within;
          all = f.all
              ∙ ap (further l r) (fed_left now (drop l a) (drop r b) left_can)
              ∙ ap₂ (λ (x : Comparing) (m : ℕ). further l r (further m 0 (fed x (drop m (drop l a)) (drop r b)))) d m
              ∙ further_left l r n (fed (comparing_of o') (drop n (drop l a)) (drop r b))
              ∙ ap (λ (x : List ℕ). further (l + n) r (fed (comparing_of o') x (drop r b))) (drop-drop n l a);
        }

  -- where the left log can take nothing
  module _ (left_cannot : can_take now.left (drop l a) ≡ false) where
    -- a turn of the right log
    module _ (e : is_wanted now.right ≡ true) (t : r < length b) (k : Log) (n : ℕ) (h : record { side = log_in k; taken = n } ≡ fed_side now.right (drop r b)) where
      right_can : can_take now.right (drop r b) ≡ true
      right_can = rw (e, some_left b r t)

      pub right_taken : (0 < n) × (n ≤ length b - r)
      right_taken =
          let c = can_take_lem now.right (drop r b) right_can in
          let q : n ≡ (fed_side now.right (drop r b)).taken = ap (λ (x : FedSide). x.taken) h in
          (omega (arith, c.0), omega (arith, c.1, length-drop r b))

      pub right_turn : (o' : Comparer) → comparing_of o' ≡ settled (comparing_of (record { left = o.left; right = k; progress = o.progress }))
          → Feeding c₀ a b (comparing_of o') l (r + n)
      unfolding turned
      right_turn o' q =
          let i = right_taken in
          let m : turn_length now true (drop r b) ≡ n = ap (λ (x : FedSide). x.taken) (sym h) in
          let d : turned now true (drop r b) ≡ comparing_of o' = ap (λ (x : FedSide). settled (with_side true x.side now)) (sym h) ∙ sym q in
          record {
            left_within = f.left_within;
            right_within = omega (arith, f.right_within, i);
            all = f.all
                ∙ ap (further l r) (fed_right now (drop l a) (drop r b) left_cannot right_can)
                ∙ ap₂ (λ (x : Comparing) (m : ℕ). further l r (further 0 m (fed x (drop l a) (drop m (drop r b))))) d m
                ∙ further_right l r n (fed (comparing_of o') (drop l a) (drop n (drop r b)))
                ∙ ap (λ (x : List ℕ). further l (r + n) (fed (comparing_of o') (drop l a) x)) (drop-drop n r b);
          }

    -- nothing more can be taken
    pub ends : can_take now.right (drop r b) ≡ false → fed_in o (record { left = l; right = r }) ≡ fed c₀ a b
    ends u = sym (f.all
        ∙ ap (further l r) (fed_none now (drop l a) (drop r b) left_cannot u)
        ∙ ap₂ (λ (x y : ℕ). record { comparing = now; left = x; right = y }) (add-zero l) (add-zero r))

-- the verdict of a progress
verdict_lem : (p : Progress) → verdict_in (found p) ≡ verdict_by (progress_in p) [] []
verdict_lem (Going number place) = refl
verdict_lem (Decided d) = refl

short_by : (s : Log) (w : Option Whole) → s.waits ≡ w → length (log_in s).waiting ≤ 1
short_by s None e = rw e (omega arith)
short_by s (Some n) e = rw e (omega arith)

-- the answer, from the settled comparer
pub answer_found : (o d : Comparer) (p : Progress) (q : Option Difference) (e f : Ending) → comparing_of d ≡ settled (comparing_of o)
    → progress_in p ≡ cond (is_some d.left.waits || is_some d.right.waits) (alone (progress_in d.progress)) (progress_in d.progress)
    → q ≡ found p → e ≡ end_of (reading_of d.left.bytes d.left.cursor) → f ≡ end_of (reading_of d.right.bytes d.right.cursor)
    → record { verdict = verdict_in q; counts = sides d.left.counts d.right.counts; endings = sides e f } ≡ answer_of (comparing_of o)
unfolding answer_of
answer_found o d p q e f same h g u v =
    let c = comparing_of o in
    let x = comparing_of d in
    let one : (is_waiting x.left && is_waiting x.right) ≡ false = ap (λ (k : Comparing). is_waiting k.left && is_waiting k.right) same
    ∙ settled_one c (short_by o.left o.left.waits refl) (short_by o.right o.right.waits refl) in
    let verdict : verdict_in q ≡ verdict_by (progress_in d.progress) x.left.waiting x.right.waiting =
    ap verdict_in g ∙ verdict_lem p
    ∙ ap (λ (z : comparing.Progress). verdict_by z [] []) (h
    ∙ sym (ap₂ (λ (y z : Bool). cond (y || z) (alone (progress_in d.progress)) (progress_in d.progress)) (waiting_is d.left) (waiting_is d.right)))
    ∙ sym (last_verdict (progress_in d.progress) x.left.waiting x.right.waiting one) in
    ap₂ (λ (y z : Ending). record { verdict = verdict_in q; counts = sides d.left.counts d.right.counts; endings = sides y z }) u v
    ∙ ap (λ (y : Verdict). record { verdict = y; counts = sides d.left.counts d.right.counts; endings = (answer_of x).endings }) verdict
    ∙ ap answer_of same
    ∙ settled_answer c
