-- Two logs that come in portions, cut anywhere and in any order: the comparison of the two logs.
-- What is still to come of a comparer and of the bytes that are left of the logs stays the same with every move.
-- Assumes nothing.
use Prim.Native.Nat.{ℕ, zero, suc, ◌+◌, ◌-◌, ◌%◌, ◌≤◌, ◌<◌}
use mathlib.Core.Bool.{Bool, true, false, cond, ◌&&◌, ◌||◌, not}
use mathlib.Core.List.{List, [], ◌∷◌, ◌++◌, map, append-nil}
use mathlib.Core.Path.{◌≡◌, refl, sym, ap, ap₂, ◌∙◌}
use native.Mathlib.Nat.{add-zero, zero-add, sub-zero, mod-add-mod}
use native.Mathlib.Omega.{arith}
use lib.Dec.{eqb, eqb-suc-zero}
use lib.ListN.{length, take, drop, length-drop, take-append-drop}
use lib.Seq.{drop-drop}
use borrow.Author.Tests.{eqb-true, eqb-false, not-true, not-false}
use Rattle.comparison.specs.Compare.{meant, same_bytes, sides, in_kind, in_body, Verdict, first_from, kinds, counts_of, Comparison, compared, compare}
use Rattle.comparison.specs.Comparing.{Progress, going, decided, decided_at, met, alone, counted, tallied, Side, is_waiting, is_done, is_wanted, FedSide, fed_side, Comparing, with_waiting, settled_by, settled, fresh_side, fresh_comparing, with_side, turned, turn_length, Fed, further, can_take, fed_by, fed, over, verdict_by, answer_of, Move, offer, close, Rest, moved, moved_all, is_read, AnyCutting, NeverStuck, AllTaken}
use Rattle.comparison.proofs.Compare.{meant_length, same_true, first_kind, first_body, first_on}
use Rattle.lists.specs.Elements.{empty_list}
use Rattle.lists.specs.Sums.{count}
use Rattle.lists.specs.Tests.{bit, split, clash, both, neither, and-false, or-true}
use Rattle.reading.specs.Reading.{Ending, reading_at, Read, still, joined, read, end_of, turn, place_after, log_of}
use Rattle.session_log.specs.Record.{kind_of}
use Rattle.reading.proofs.Reading.{read_ended, reads_log, turn_on, turn_one, turn_within, turn_some}

-- the counts of some records and then others
tallied_append : (cs : List ℕ) (xs ys : List (List ℕ)) → tallied (tallied cs xs) ys ≡ tallied cs (xs ++ ys)
tallied_append cs [] ys = refl
tallied_append cs (x ∷ xs) ys = tallied_append (counted kinds cs (kind_of x)) xs ys

-- a count of 64 bits, and a record more
one_more : (n : ℕ) (b : Bool) → cond b (place_after (place_after 0 n) 1) (place_after 0 n) ≡ place_after 0 (n + bit b)
one_more n true = mod-add-mod (0 + n) 18446744073709551616 1 ∙ ap (λ (x : ℕ). x % 18446744073709551616) (same n)
  where
    same : (n : ℕ) → 0 + n + 1 ≡ 0 + (n + 1)
    same n = omega arith
one_more n false = ap (place_after 0) (sym (add-zero n))

-- exact counts of some kinds, each held in 64 bits
abbrev held : (ℕ → ℕ) → List ℕ → List ℕ
held f ks = map (λ k. place_after 0 (f k)) ks

counted_held : (f : ℕ → ℕ) (ks : List ℕ) (kind : ℕ) → counted ks (held f ks) kind ≡ held (λ k. f k + bit (eqb kind k)) ks
counted_held f [] kind = refl
counted_held f (k ∷ ks) kind = ap₂ ◌∷◌ (one_more (f k) (eqb kind k)) (counted_held f ks kind)

held_same : (f g : ℕ → ℕ) (ks : List ℕ) → ((k : ℕ) → f k ≡ g k) → held f ks ≡ held g ks
held_same f g [] e = refl
held_same f g (k ∷ ks) e = ap₂ ◌∷◌ (ap (place_after 0) (e k)) (held_same f g ks e)

abbrev number_of : List (List ℕ) → ℕ → ℕ
number_of rs k = count (λ (r : List ℕ). eqb (kind_of r) k) rs

tallied_held : (f : ℕ → ℕ) (rs : List (List ℕ)) → tallied (held f kinds) rs ≡ held (λ k. f k + number_of rs k) kinds
tallied_held f [] = held_same f (λ k. f k + 0) kinds (λ k. sym (add-zero (f k)))
tallied_held f (r ∷ rs) =
    ap (λ (cs : List ℕ). tallied cs rs) (counted_held f kinds (kind_of r))
    ∙ tallied_held (λ k. f k + bit (eqb (kind_of r) k)) rs
    ∙ held_same (λ k. f k + bit (eqb (kind_of r) k) + number_of rs k) (λ k. f k + number_of (r ∷ rs) k) kinds (λ k. omega arith)

-- the counts of a log, from none
tallied_all : (rs : List (List ℕ)) → tallied fresh_side.counts rs ≡ counts_of rs
tallied_all rs = tallied_held (λ k. 0) rs ∙ held_same (λ k. 0 + number_of rs k) (number_of rs) kinds (λ k. zero-add (number_of rs k))

-- what is to come of one log with the bytes that are left of it: its records, its counts, and its end
abbrev records_of : Side → List ℕ → List (List ℕ)
records_of s bytes = s.waiting ++ (read s.reading bytes).came

-- what is to come of both
abbrev to_come : Comparing → List ℕ → List ℕ → Comparison
to_come c a b = record {
  verdict = verdict_by c.progress (records_of c.left a) (records_of c.right b);
  counts = sides (tallied c.left.counts (read c.left.reading a).came) (tallied c.right.counts (read c.right.reading b).came);
  endings = sides (end_of (read c.left.reading a).reading) (end_of (read c.right.reading b).reading);
}

-- of a log that is done nothing more comes
abbrev Closed : Side → List ℕ → Type 0
Closed s bytes = s.over ≡ true → bytes ≡ []

none_more : (s : Side) (bytes : List ℕ) → Closed s bytes → is_done s ≡ true → (read s.reading bytes).came ≡ []
none_more s bytes h d =
    split s.over
    (λ e. ap (λ (l : List ℕ). (read s.reading l).came) (h e))
    (λ e. ap (λ (n : Read). n.came) (read_ended s.reading bytes (rw e at d)))

-- the two records of one number are the first of the records to come
met_first : (p : Progress) (l r : List ℕ) (ls rs : List (List ℕ)) → verdict_by (met p l r) ls rs ≡ verdict_by p (l ∷ ls) (r ∷ rs)
met_first (decided d) l r ls rs = refl
met_first (going n place) l r ls rs =
    let at = sides place place in
    let then : Progress → Verdict = λ p. verdict_by p ls rs in
    split (eqb (kind_of l) (kind_of r))
    (λ k. split (same_bytes (meant l) (meant r))
    (λ b. ap then (met_on n place l r k b)
    ∙ ap (λ (x : ℕ). first_from (place_after n 1) (sides (place_after place (length l)) (place_after place x)) ls rs) (meant_length l r (same_true (meant l) (meant r) b))
    ∙ sym (first_on n at l r ls rs k b))
    (λ b. ap then (met_body n place l r k b) ∙ sym (first_body n at l r ls rs k b)))
    (λ k. ap then (met_kind n place l r k) ∙ sym (first_kind n at l r ls rs k))
  where
    met_kind : (n place : ℕ) (l r : List ℕ) → eqb (kind_of l) (kind_of r) ≡ false → met (going n place) l r ≡ decided_at n place in_kind
    met_kind n place l r k = rw k

    met_body : (n place : ℕ) (l r : List ℕ) → eqb (kind_of l) (kind_of r) ≡ true → same_bytes (meant l) (meant r) ≡ false → met (going n place) l r ≡ decided_at n place in_body
    met_body n place l r k b = rw (k, b)

    met_on : (n place : ℕ) (l r : List ℕ) → eqb (kind_of l) (kind_of r) ≡ true → same_bytes (meant l) (meant r) ≡ true
        → met (going n place) l r ≡ going (place_after n 1) (place_after place (length l))
    met_on n place l r k b = rw (k, b)

left_alone : (p : Progress) (l : List ℕ) (ls more : List (List ℕ)) → verdict_by (alone p) ls more ≡ verdict_by p (l ∷ ls) []
left_alone (decided d) l ls more = refl
left_alone (going n place) l ls more = refl

right_alone : (p : Progress) (r : List ℕ) (rs more : List (List ℕ)) → verdict_by (alone p) more rs ≡ verdict_by p [] (r ∷ rs)
right_alone (decided d) r rs more = refl
right_alone (going n place) r rs more = refl

-- a comparison with another verdict
abbrev with_verdict : Comparison → Verdict → Comparison
with_verdict c v = record { verdict = v; counts = c.counts; endings = c.endings }

-- Settling changes nothing of what is to come.
settled_by_lem : (c : Comparing) (a b : List ℕ) (ls rs : List (List ℕ)) → Closed c.left a → Closed c.right b → c.left.waiting ≡ ls → c.right.waiting ≡ rs
    → to_come (settled_by c ls rs) a b ≡ to_come c a b
settled_by_lem c a b [] [] h k p q = refl
settled_by_lem c a b (l ∷ ls) (r ∷ rs) h k p q =
    let x = (read c.left.reading a).came in
    let y = (read c.right.reading b).came in
    ap (with_verdict (to_come c a b)) (met_first c.progress l r (ls ++ x) (rs ++ y) ∙ sym (ap₂ (λ (u v : List (List ℕ)). verdict_by c.progress (u ++ x) (v ++ y)) p q))
settled_by_lem c a b (l ∷ ls) [] h k p q =
    let x = (read c.left.reading a).came in
    let y = (read c.right.reading b).came in
    let then : Comparing = record { left = with_waiting c.left ls; right = c.right; progress = alone c.progress } in
    split (is_done c.right)
    (λ d. ap (λ (f : Bool). to_come (cond f then c) a b) d
    ∙ ap (with_verdict (to_come c a b))
    (left_alone c.progress l (ls ++ x) (c.right.waiting ++ y)
    ∙ sym (ap₂ (λ (u v : List (List ℕ)). verdict_by c.progress (u ++ x) v) p (ap₂ (λ (u v : List (List ℕ)). u ++ v) q (none_more c.right b k d)))))
    (λ d. ap (λ (f : Bool). to_come (cond f then c) a b) d)
settled_by_lem c a b [] (r ∷ rs) h k p q =
    let x = (read c.left.reading a).came in
    let y = (read c.right.reading b).came in
    let then : Comparing = record { left = c.left; right = with_waiting c.right rs; progress = alone c.progress } in
    split (is_done c.left)
    (λ d. ap (λ (f : Bool). to_come (cond f then c) a b) d
    ∙ ap (with_verdict (to_come c a b))
    (right_alone c.progress r (rs ++ y) (c.left.waiting ++ x)
    ∙ sym (ap₂ (λ (u v : List (List ℕ)). verdict_by c.progress u (v ++ y)) (ap₂ (λ (u v : List (List ℕ)). u ++ v) p (none_more c.left a h d)) q)))
    (λ d. ap (λ (f : Bool). to_come (cond f then c) a b) d)

settled_same : (c : Comparing) (a b : List ℕ) → Closed c.left a → Closed c.right b → to_come (settled c) a b ≡ to_come c a b
unfolding settled
settled_same c a b h k = settled_by_lem c a b c.left.waiting c.right.waiting h k refl refl

-- two readings of one log from which the same is to come
record Same (s : Side) (a : List ℕ) (t : Side) (b : List ℕ) : Type 0 where
  records : records_of s a ≡ records_of t b
  counts : tallied s.counts (read s.reading a).came ≡ tallied t.counts (read t.reading b).came
  ending : end_of (read s.reading a).reading ≡ end_of (read t.reading b).reading

-- a portion of a log, and then the rest of it
not_waiting : (s : Side) → is_waiting s ≡ false → s.waiting ≡ []
not_waiting s e = empty_list s.waiting (eqb-true (length s.waiting) 0 (not-false (eqb (length s.waiting) 0) e))

module _ (s : Side) (bytes : List ℕ) (n : ℕ) where
  abbrev portion : List ℕ
  portion = take n bytes

  abbrev then : FedSide
  then = let t = turn s.reading portion in record {
    side = record { reading = t.read.reading; waiting = t.read.came; counts = tallied s.counts t.read.came; over = false };
    taken = t.taken;
  }

  fed_stays : (is_waiting s || s.over) ≡ true → fed_side s portion ≡ record { side = s; taken = 0 }
  unfolding fed_side
  fed_stays e = rw e

  fed_takes : (is_waiting s || s.over) ≡ false → fed_side s portion ≡ then
  unfolding fed_side
  fed_takes e = rw e

  all_read : let t = turn s.reading portion in read s.reading bytes ≡ joined t.read (read t.read.reading (drop t.taken bytes))
  all_read =
      let t = turn s.reading portion in
      let e = take-append-drop n bytes in
      ap (read s.reading) (sym e) ∙ turn_on s.reading portion (drop n bytes) ∙ ap (λ (l : List ℕ). joined t.read (read t.read.reading (drop t.taken l))) e

  then_same : is_waiting s ≡ false → Same then.side (drop then.taken bytes) s bytes
  then_same e =
      let t = turn s.reading portion in
      let w = not_waiting s e in
      let more = read t.read.reading (drop t.taken bytes) in
      record {
        records = sym (ap₂ (λ (u : List (List ℕ)) (m : Read). u ++ m.came) w all_read);
        counts = tallied_append s.counts t.read.came more.came ∙ sym (ap (λ (m : Read). tallied s.counts m.came) all_read);
        ending = sym (ap (λ (m : Read). end_of m.reading) all_read);
      }

  abbrev Goes : FedSide → Type 0
  Goes f = Same f.side (drop f.taken bytes) s bytes × Closed f.side (drop f.taken bytes) × (length f.side.waiting ≤ 1)

  fed_goes : Closed s bytes → length s.waiting ≤ 1 → Goes (fed_side s portion)
  fed_goes h o =
      split (is_waiting s || s.over)
      (λ e. rw (fed_stays e) (record { records = refl; counts = refl; ending = refl }, h, o))
      (λ e. rw (fed_takes e) (then_same (neither (is_waiting s) s.over e).0, (λ q. clash q refl), turn_one s.reading portion))

-- what is to come of both, by what is to come of each
come_left : (c : Comparing) (s : Side) (a a' b : List ℕ) → Same s a' c.left a → to_come (with_side false s c) a' b ≡ to_come c a b
come_left c s a a' b e =
    ap (λ (u : List (List ℕ)). with_verdict (to_come (with_side false s c) a' b) (verdict_by c.progress u (records_of c.right b))) e.records
    ∙ ap₂ (λ (u : List ℕ) (v : Ending). record { verdict = (to_come c a b).verdict; counts = sides u (to_come c a b).counts.right; endings = sides v (to_come c a b).endings.right }) e.counts e.ending

come_right : (c : Comparing) (s : Side) (a b b' : List ℕ) → Same s b' c.right b → to_come (with_side true s c) a b' ≡ to_come c a b
come_right c s a b b' e =
    ap (λ (u : List (List ℕ)). with_verdict (to_come (with_side true s c) a b') (verdict_by c.progress (records_of c.left a) u)) e.records
    ∙ ap₂ (λ (u : List ℕ) (v : Ending). record { verdict = (to_come c a b).verdict; counts = sides (to_come c a b).counts.left u; endings = sides (to_come c a b).endings.left v }) e.counts e.ending

-- what holds of a comparer and the bytes that are left, between two moves
record Sound (answer : Comparison) (c : Comparing) (a b : List ℕ) : Type 0 where
  come : to_come c a b ≡ answer
  closed_left : Closed c.left a
  closed_right : Closed c.right b
  one_left : length c.left.waiting ≤ 1
  one_right : length c.right.waiting ≤ 1

-- a log may be done or able to take bytes, and one of the two is
abbrev Unstuck : Comparing → Type 0
Unstuck c = ((is_done c.left && is_done c.right) || (is_wanted c.left || is_wanted c.right)) ≡ true

-- Settling keeps all that, and leaves no two logs that wait for each other.
record Settles (answer : Comparison) (c : Comparing) (a b : List ℕ) : Type 0 where
  sound : Sound answer c a b
  unstuck : Unstuck c

none_waiting : (c : Comparing) → c.left.waiting ≡ [] → c.right.waiting ≡ [] → Unstuck c
none_waiting c p q =
    rw (p, q) (split (is_done c.left)
    (λ d. rw d (split (is_done c.right) (λ e. rw e) (λ e. rw e)))
    (λ d. rw d))

right_wanted : (c : Comparing) → c.right.waiting ≡ [] → is_done c.right ≡ false → Unstuck c
right_wanted c q d = rw (q, d) (or_end (is_done c.left && false) (is_wanted c.left))
  where
    or_end : (x y : Bool) → (x || (y || true)) ≡ true
    or_end x y = ap (λ (z : Bool). x || z) (or-true y) ∙ or-true x

left_wanted : (c : Comparing) → c.left.waiting ≡ [] → is_done c.left ≡ false → Unstuck c
left_wanted c q d = rw (q, d)

tail_none : (x : List ℕ) (xs rs : List (List ℕ)) → rs ≡ x ∷ xs → length rs ≤ 1 → xs ≡ []
tail_none x xs rs e h = let m : length (x ∷ xs) ≤ 1 = rw e at h in empty_list xs (omega arith)

short : (xs : List (List ℕ)) → xs ≡ [] → length xs ≤ 1
short xs e = rw e (omega arith)

settles_same : (answer : Comparison) (c d : Comparing) (a b : List ℕ) → c ≡ d → Settles answer d a b → Settles answer c a b
settles_same answer c d a b e h = rw e h

settles_by : (answer : Comparison) (c : Comparing) (a b : List ℕ) (ls rs : List (List ℕ)) → Sound answer c a b → c.left.waiting ≡ ls → c.right.waiting ≡ rs
    → Settles answer (settled_by c ls rs) a b
settles_by answer c a b [] [] h p q = record { sound = h; unstuck = none_waiting c p q }
settles_by answer c a b (l ∷ ls) (r ∷ rs) h p q =
    let x = tail_none l ls c.left.waiting p h.one_left in
    let y = tail_none r rs c.right.waiting q h.one_right in
    record {
      sound = record {
        come = settled_by_lem c a b (l ∷ ls) (r ∷ rs) h.closed_left h.closed_right p q ∙ h.come;
        closed_left = h.closed_left;
        closed_right = h.closed_right;
        one_left = short ls x;
        one_right = short rs y;
      };
      unstuck = none_waiting (settled_by c (l ∷ ls) (r ∷ rs)) x y;
    }
settles_by answer c a b (l ∷ ls) [] h p q =
    let then : Comparing = record { left = with_waiting c.left ls; right = c.right; progress = alone c.progress } in
    let x = tail_none l ls c.left.waiting p h.one_left in
    split (is_done c.right)
    (λ d. let e : settled_by c (l ∷ ls) [] ≡ then = ap (λ (f : Bool). cond f then c) d in
    settles_same answer _ then a b e (record {
      sound = record {
        come = sym (ap (λ (k : Comparing). to_come k a b) e) ∙ settled_by_lem c a b (l ∷ ls) [] h.closed_left h.closed_right p q ∙ h.come;
        closed_left = h.closed_left;
        closed_right = h.closed_right;
        one_left = short ls x;
        one_right = h.one_right;
      };
      unstuck = none_waiting then x q;
    }))
    (λ d. settles_same answer _ c a b (ap (λ (f : Bool). cond f then c) d) (record { sound = h; unstuck = right_wanted c q d }))
settles_by answer c a b [] (r ∷ rs) h p q =
    let then : Comparing = record { left = c.left; right = with_waiting c.right rs; progress = alone c.progress } in
    let y = tail_none r rs c.right.waiting q h.one_right in
    split (is_done c.left)
    (λ d. let e : settled_by c [] (r ∷ rs) ≡ then = ap (λ (f : Bool). cond f then c) d in
    settles_same answer _ then a b e (record {
      sound = record {
        come = sym (ap (λ (k : Comparing). to_come k a b) e) ∙ settled_by_lem c a b [] (r ∷ rs) h.closed_left h.closed_right p q ∙ h.come;
        closed_left = h.closed_left;
        closed_right = h.closed_right;
        one_left = h.one_left;
        one_right = short rs y;
      };
      unstuck = none_waiting then p y;
    }))
    (λ d. settles_same answer _ c a b (ap (λ (f : Bool). cond f then c) d) (record { sound = h; unstuck = left_wanted c p d }))

settles : (answer : Comparison) (c : Comparing) (a b : List ℕ) → Sound answer c a b → Settles answer (settled c) a b
unfolding settled
settles answer c a b h = settles_by answer c a b c.left.waiting c.right.waiting h refl refl

-- a turn of a log keeps all that
left_settles : (answer : Comparison) (c : Comparing) (a b : List ℕ) (n : ℕ) → Settles answer c a b
    → Settles answer (turned c false (take n a)) (drop (turn_length c false (take n a)) a) b
unfolding turned
left_settles answer c a b n h =
    let s = h.sound in
    let f = fed_side c.left (take n a) in
    let g = fed_goes c.left a n s.closed_left s.one_left in
    settles answer (with_side false f.side c) (drop f.taken a) b (record {
      come = come_left c f.side a (drop f.taken a) b g.0 ∙ s.come;
      closed_left = g.1;
      closed_right = s.closed_right;
      one_left = g.2;
      one_right = s.one_right;
    })

right_settles : (answer : Comparison) (c : Comparing) (a b : List ℕ) (n : ℕ) → Settles answer c a b
    → Settles answer (turned c true (take n b)) a (drop (turn_length c true (take n b)) b)
unfolding turned
right_settles answer c a b n h =
    let s = h.sound in
    let f = fed_side c.right (take n b) in
    let g = fed_goes c.right b n s.closed_right s.one_right in
    settles answer (with_side true f.side c) a (drop f.taken b) (record {
      come = come_right c f.side a b (drop f.taken b) g.0 ∙ s.come;
      closed_left = s.closed_left;
      closed_right = g.1;
      one_left = s.one_left;
      one_right = g.2;
    })

-- what is left of a portion after a turn
after_turn : (k n : ℕ) (a : List ℕ) → drop k (take n a) ≡ take (n - k) (drop k a)
after_turn zero n a = ap (λ (m : ℕ). take m a) (sym (sub-zero n))
after_turn (suc k) zero a = ap (λ (m : ℕ). take m (drop (suc k) a)) (none k)
  where
    none : (k : ℕ) → 0 ≡ 0 - suc k
    none k = omega arith
after_turn (suc k) (suc n) [] = sym (take-nil (suc n - suc k))
  where
    take-nil : (m : ℕ) → take {A = ℕ} m [] ≡ []
    take-nil zero = refl
    take-nil (suc m) = refl
after_turn (suc k) (suc n) (x ∷ a) = after_turn k n a ∙ ap (λ (m : ℕ). take m (drop k a)) (less n k)
  where
    less : (n k : ℕ) → n - k ≡ suc n - suc k
    less n k = omega arith

-- the portions of both logs, by turns
module _ (n : ℕ) (c : Comparing) (a b : List ℕ) where
  abbrev by_left : Fed
  by_left = let l = turn_length c false a in further l 0 (fed_by n (turned c false a) (drop l a) b)

  abbrev by_right : Fed
  by_right = let r = turn_length c true b in further 0 r (fed_by n (turned c true b) a (drop r b))

  by_left_lem : can_take c.left a ≡ true → fed_by (suc n) c a b ≡ by_left
  by_left_lem e = rw e

  by_right_lem : can_take c.left a ≡ false → can_take c.right b ≡ true → fed_by (suc n) c a b ≡ by_right
  by_right_lem e f = rw (e, f)

-- nothing can be taken
abbrev stays : Comparing → Fed
stays c = record { comparing = c; left = 0; right = 0 }

by_none : (n : ℕ) (c : Comparing) (a b : List ℕ) → can_take c.left a ≡ false → can_take c.right b ≡ false → fed_by n c a b ≡ stays c
by_none zero c a b e f = refl
by_none (suc n) c a b e f = rw (e, f)

abbrev Keeps : Comparison → List ℕ → List ℕ → Fed → Type 0
Keeps answer a b f = Settles answer f.comparing (drop f.left a) (drop f.right b)

keeps_same : (answer : Comparison) (a b : List ℕ) (f g : Fed) → f ≡ g → Keeps answer a b g → Keeps answer a b f
keeps_same answer a b f g e h = rw e h

keeps_further : (answer : Comparison) (a b : List ℕ) (n m : ℕ) (f : Fed) → Keeps answer (drop n a) (drop m b) f → Keeps answer a b (further n m f)
keeps_further answer a b n m f h = rw (← drop-drop f.left n a, ← drop-drop f.right m b) h

fed_keeps : (k : ℕ) (answer : Comparison) (c : Comparing) (a b : List ℕ) (n m : ℕ) → Settles answer c a b → Keeps answer a b (fed_by k c (take n a) (take m b))
fed_keeps zero answer c a b n m h = h
fed_keeps (suc k) answer c a b n m h =
    split (can_take c.left (take n a))
    (λ e. let l = turn_length c false (take n a) in
    let d = turned c false (take n a) in
    let rest : List ℕ → Fed = λ x. fed_by k d x (take m b) in
    let later = fed_keeps k answer d (drop l a) b (n - l) m (left_settles answer c a b n h) in
    keeps_same answer a b _ _ (by_left_lem k c (take n a) (take m b) e ∙ ap (λ (x : List ℕ). further l 0 (rest x)) (after_turn l n a))
    (keeps_further answer a b l 0 (rest (take (n - l) (drop l a))) later))
    (λ e. split (can_take c.right (take m b))
    (λ f. let r = turn_length c true (take m b) in
    let d = turned c true (take m b) in
    let rest : List ℕ → Fed = λ x. fed_by k d (take n a) x in
    let later = fed_keeps k answer d a (drop r b) n (m - r) (right_settles answer c a b m h) in
    keeps_same answer a b _ _ (by_right_lem k c (take n a) (take m b) e f ∙ ap (λ (x : List ℕ). further 0 r (rest x)) (after_turn r m b))
    (keeps_further answer a b 0 r (rest (take (m - r) (drop r b))) later))
    (λ f. keeps_same answer a b _ _ (by_none (suc k) c (take n a) (take m b) e f) h))

-- Each move keeps all that.
abbrev Holds : Comparison → Rest → Type 0
Holds answer w = Settles answer w.comparing w.left w.right

over_holds : (answer : Comparison) (w : Rest) (right : Bool) → cond right w.right w.left ≡ [] → Holds answer w → Settles answer (over w.comparing right) w.left w.right
unfolding over
over_holds answer w false e h =
    let s = h.sound in
    settles answer _ w.left w.right (record { come = s.come; closed_left = λ _. e; closed_right = s.closed_right; one_left = s.one_left; one_right = s.one_right })
over_holds answer w true e h =
    let s = h.sound in
    settles answer _ w.left w.right (record { come = s.come; closed_left = s.closed_left; closed_right = λ _. e; one_left = s.one_left; one_right = s.one_right })

holds_same : (answer : Comparison) (w v : Rest) → w ≡ v → Holds answer v → Holds answer w
holds_same answer w v e h = rw e h

move_holds : (answer : Comparison) (w : Rest) (m : Move) → Holds answer w → Holds answer (moved w m)
unfolding fed
move_holds answer w (offer n m) h = fed_keeps (length (take n w.left) + length (take m w.right)) answer w.comparing w.left w.right n m h
move_holds answer w (close right) h =
    let then : Rest = record { comparing = over w.comparing right; left = w.left; right = w.right } in
    let rest = cond right w.right w.left in
    split (eqb (length rest) 0)
    (λ e. holds_same answer _ then (ap (λ (f : Bool). cond f then w) e) (over_holds answer w right (empty_list rest (eqb-true (length rest) 0 e)) h))
    (λ e. holds_same answer _ w (ap (λ (f : Bool). cond f then w) e) h)

moves_hold : (answer : Comparison) (w : Rest) (ms : List Move) → Holds answer w → Holds answer (moved_all w ms)
moves_hold answer w [] h = h
moves_hold answer w (m ∷ ms) h = moves_hold answer (moved w m) ms (move_holds answer w m h)

-- a fresh comparer, with all of both logs to come
abbrev whole : List ℕ → List ℕ → Rest
whole a b = record { comparing = fresh_comparing; left = a; right = b }

fresh_come : (a b : List ℕ) → to_come fresh_comparing a b ≡ compare a b
unfolding compared
fresh_come a b =
    let x = reads_log a in
    let y = reads_log b in
    let made : List (List ℕ) → List (List ℕ) → Ending → Ending → Comparison =
    λ ls rs e f. record { verdict = first_from 0 (sides 0 0) ls rs; counts = sides (tallied fresh_side.counts ls) (tallied fresh_side.counts rs); endings = sides e f } in
    ap₂ (λ (ls rs : List (List ℕ)). made ls rs (end_of (read (reading_at 0) a).reading) (end_of (read (reading_at 0) b).reading)) x.0 y.0
    ∙ ap₂ (made (log_of a).records (log_of b).records) x.1 y.1
    ∙ ap₂ (λ (u v : List ℕ). record { verdict = (compare a b).verdict; counts = sides u v; endings = (compare a b).endings }) (tallied_all (log_of a).records) (tallied_all (log_of b).records)

fresh_holds : (a b : List ℕ) → Holds (compare a b) (whole a b)
fresh_holds a b = record {
  sound = record { come = fresh_come a b; closed_left = λ e. clash e refl; closed_right = λ e. clash e refl; one_left = omega arith; one_right = omega arith };
  unstuck = refl;
}

-- all of a log has been read
all_come : (s : Side) (bytes : List ℕ) → is_read s bytes ≡ true → read s.reading bytes ≡ still s.reading
all_come s bytes e =
    split (eqb (length bytes) 0)
    (λ z. ap (read s.reading) (empty_list bytes (eqb-true (length bytes) 0 z)))
    (λ z. read_ended s.reading bytes (rw z at e))

read_answer : (c : Comparing) (a b : List ℕ) → is_read c.left a ≡ true → is_read c.right b ≡ true → answer_of c ≡ to_come c a b
unfolding answer_of
read_answer c a b e f =
    let made : Read → Read → Comparison = λ x y. record {
      verdict = verdict_by c.progress (c.left.waiting ++ x.came) (c.right.waiting ++ y.came);
      counts = sides (tallied c.left.counts x.came) (tallied c.right.counts y.came);
      endings = sides (end_of x.reading) (end_of y.reading);
    } in
    ap (with_verdict (made (still c.left.reading) (still c.right.reading)))
    (sym (ap₂ (verdict_by c.progress) (append-nil c.left.waiting) (append-nil c.right.waiting)))
    ∙ sym (ap₂ made (all_come c.left a e) (all_come c.right b f))

-- the answer of a comparer is that of the settled one
pub settled_answer : (c : Comparing) → answer_of (settled c) ≡ answer_of c
settled_answer c = read_answer (settled c) [] [] refl refl ∙ settled_same c [] [] (λ _. refl) (λ _. refl) ∙ sym (read_answer c [] [] refl refl)

-- of a settled comparer at most one log waits
left_free : (c : Comparing) → c.left.waiting ≡ [] → (is_waiting c.left && is_waiting c.right) ≡ false
left_free c e = rw e

right_free : (c : Comparing) → c.right.waiting ≡ [] → (is_waiting c.left && is_waiting c.right) ≡ false
right_free c e = rw e (and-false (is_waiting c.left))

one_by : (c : Comparing) (ls rs : List (List ℕ)) → length c.left.waiting ≤ 1 → length c.right.waiting ≤ 1 → c.left.waiting ≡ ls → c.right.waiting ≡ rs
    → let d = settled_by c ls rs in (is_waiting d.left && is_waiting d.right) ≡ false
one_by c [] [] h k p q = left_free c p
one_by c (l ∷ ls) (r ∷ rs) h k p q = left_free (settled_by c (l ∷ ls) (r ∷ rs)) (tail_none l ls c.left.waiting p h)
one_by c (l ∷ ls) [] h k p q = split (is_done c.right) (λ e. rw (e, q) (and-false (is_waiting (with_waiting c.left ls)))) (λ e. rw e (right_free c q))
one_by c [] (r ∷ rs) h k p q = split (is_done c.left) (λ e. rw (e, p)) (λ e. rw e (left_free c p))

pub settled_one : (c : Comparing) → length c.left.waiting ≤ 1 → length c.right.waiting ≤ 1 → (is_waiting (settled c).left && is_waiting (settled c).right) ≡ false
unfolding settled
settled_one c h k = one_by c c.left.waiting c.right.waiting h k refl refl

-- and the other log has none to meet its record
pub last_verdict : (p : Progress) (ls rs : List (List ℕ)) → (not (eqb (length ls) 0) && not (eqb (length rs) 0)) ≡ false
    → verdict_by p ls rs ≡ verdict_by (cond (not (eqb (length ls) 0) || not (eqb (length rs) 0)) (alone p) p) [] []
last_verdict p [] [] e = refl
last_verdict p (l ∷ ls) [] e = rw (eqb-suc-zero (length ls)) (sym (left_alone p l ls []) ∙ last_alone p ls)
  where
    last_alone : (p : Progress) (ls : List (List ℕ)) → verdict_by (alone p) ls [] ≡ verdict_by (alone p) [] []
    last_alone (decided d) ls = refl
    last_alone (going n place) ls = refl
last_verdict p [] (r ∷ rs) e = rw (eqb-suc-zero (length rs)) (sym (right_alone p r rs []) ∙ last_alone p rs)
  where
    last_alone : (p : Progress) (rs : List (List ℕ)) → verdict_by (alone p) [] rs ≡ verdict_by (alone p) [] []
    last_alone (decided d) rs = refl
    last_alone (going n place) rs = refl
last_verdict p (l ∷ ls) (r ∷ rs) e = clash refl (rw (eqb-suc-zero (length ls), eqb-suc-zero (length rs)) at e)

-- Any cutting of both logs gives the comparison of the two logs, once both are read.
pub any_cutting : AnyCutting
any_cutting a b moves e f =
    let w = moved_all (whole a b) moves in
    read_answer w.comparing w.left w.right e f ∙ (moves_hold (compare a b) (whole a b) moves (fresh_holds a b)).sound.come

-- Whatever was offered, both logs are done, or one of them wants bytes,
pub never_stuck : NeverStuck
never_stuck a b moves = (moves_hold (compare a b) (whole a b) moves (fresh_holds a b)).unstuck

-- a turn takes a byte at least, and no more than there are
pub can_take_lem : (s : Side) (bytes : List ℕ) → can_take s bytes ≡ true → (0 < (fed_side s bytes).taken) × ((fed_side s bytes).taken ≤ length bytes)
unfolding fed_side
can_take_lem s bytes e =
    let c = both (is_wanted s) (not (eqb (length bytes) 0)) e in
    let m = both (not (is_waiting s)) (not (is_done s)) c.0 in
    let d = neither s.over s.reading.ended (not-true (is_done s) m.1) in
    let t : (is_waiting s || s.over) ≡ false = rw (not-true (is_waiting s) m.0, d.0) in
    let some = eqb-false (length bytes) 0 (not-true (eqb (length bytes) 0) c.1) in
    taken_same _ _ (is_waiting s || s.over) t (turn_some s.reading bytes d.1 (omega arith), turn_within s.reading bytes)
  where
    taken_same : (x y : FedSide) (b : Bool) → b ≡ false → (0 < y.taken) × (y.taken ≤ length bytes) → (0 < (cond {A = FedSide} b x y).taken) × ((cond {A = FedSide} b x y).taken ≤ length bytes)
    taken_same x y b e h = rw e h

-- where nothing can be taken and a log wants bytes, there are none
none_left : (s : Side) (bytes : List ℕ) → can_take s bytes ≡ false → is_wanted s ≡ true → 0 ≡ length bytes
none_left s bytes e w = sym (eqb-true (length bytes) 0 (not-false (eqb (length bytes) 0) (rw w at e)))

abbrev Takes : List ℕ → List ℕ → Fed → Type 0
Takes a b f = (is_wanted f.comparing.left ≡ true → f.left ≡ length a) × (is_wanted f.comparing.right ≡ true → f.right ≡ length b)

takes_same : (a b : List ℕ) (f g : Fed) → f ≡ g → Takes a b g → Takes a b f
takes_same a b f g e h = rw e h

fed_takes_all : (k : ℕ) (c : Comparing) (a b : List ℕ) → length a + length b ≤ k → Takes a b (fed_by k c a b)
fed_takes_all zero c a b h = ((λ _. omega arith), (λ _. omega arith))
fed_takes_all (suc k) c a b h =
    split (can_take c.left a)
    (λ e. let l = turn_length c false a in
    let t = can_take_lem c.left a e in
    let d = length-drop l a in
    let later = fed_takes_all k (turned c false a) (drop l a) b (omega (arith, t)) in
    takes_same a b _ _ (by_left_lem k c a b e) ((λ w. omega (arith, later.0 w, t)), (λ w. omega (arith, later.1 w))))
    (λ e. split (can_take c.right b)
    (λ f. let r = turn_length c true b in
    let t = can_take_lem c.right b f in
    let d = length-drop r b in
    let later = fed_takes_all k (turned c true b) a (drop r b) (omega (arith, t)) in
    takes_same a b _ _ (by_right_lem k c a b e f) ((λ w. omega (arith, later.0 w)), (λ w. omega (arith, later.1 w, t))))
    (λ f. takes_same a b _ _ (by_none (suc k) c a b e f) (none_left c.left a e, none_left c.right b f)))

-- and a log that wants bytes has taken all that it was offered.
pub all_taken : AllTaken
unfolding fed
all_taken c a b = fed_takes_all (length a + length b) c a b (omega arith)

no_bytes : (s : Side) (bytes : List ℕ) → length bytes ≡ 0 → can_take s bytes ≡ false
no_bytes s bytes e = rw e (and-false (is_wanted s))

-- more turns than there are bytes change nothing
fed_same : (k j : ℕ) (c : Comparing) (a b : List ℕ) → length a + length b ≤ k → length a + length b ≤ j → fed_by k c a b ≡ fed_by j c a b
fed_same zero j c a b h g = sym (by_none j c a b (no_bytes c.left a (omega arith)) (no_bytes c.right b (omega arith)))
fed_same (suc k) zero c a b h g = by_none (suc k) c a b (no_bytes c.left a (omega arith)) (no_bytes c.right b (omega arith))
fed_same (suc k) (suc j) c a b h g =
    split (can_take c.left a)
    (λ e. let l = turn_length c false a in
    let t = can_take_lem c.left a e in
    let d = length-drop l a in
    by_left_lem k c a b e ∙ ap (further l 0) (fed_same k j (turned c false a) (drop l a) b (omega (arith, t)) (omega (arith, t))) ∙ sym (by_left_lem j c a b e))
    (λ e. split (can_take c.right b)
    (λ f. let r = turn_length c true b in
    let t = can_take_lem c.right b f in
    let d = length-drop r b in
    by_right_lem k c a b e f ∙ ap (further 0 r) (fed_same k j (turned c true b) a (drop r b) (omega (arith, t)) (omega (arith, t))) ∙ sym (by_right_lem j c a b e f))
    (λ f. by_none (suc k) c a b e f ∙ sym (by_none (suc j) c a b e f)))

-- the portions of both logs, a turn at a time
pub fed_left : (c : Comparing) (a b : List ℕ) → can_take c.left a ≡ true
    → let l = turn_length c false a in fed c a b ≡ further l 0 (fed (turned c false a) (drop l a) b)
unfolding fed
fed_left c a b e =
    let l = turn_length c false a in
    let t = can_take_lem c.left a e in
    let n = length a + length b in
    fed_same n (suc n) c a b (omega arith) (omega arith)
    ∙ by_left_lem n c a b e
    ∙ ap (further l 0) (fed_same n (length (drop l a) + length b) (turned c false a) (drop l a) b (omega (arith, length-drop l a)) (omega arith))

pub fed_right : (c : Comparing) (a b : List ℕ) → can_take c.left a ≡ false → can_take c.right b ≡ true
    → let r = turn_length c true b in fed c a b ≡ further 0 r (fed (turned c true b) a (drop r b))
unfolding fed
fed_right c a b e f =
    let r = turn_length c true b in
    let n = length a + length b in
    fed_same n (suc n) c a b (omega arith) (omega arith)
    ∙ by_right_lem n c a b e f
    ∙ ap (further 0 r) (fed_same n (length a + length (drop r b)) (turned c true b) a (drop r b) (omega (arith, length-drop r b)) (omega arith))

pub fed_none : (c : Comparing) (a b : List ℕ) → can_take c.left a ≡ false → can_take c.right b ≡ false → fed c a b ≡ record { comparing = c; left = 0; right = 0 }
unfolding fed
fed_none c a b e f = by_none (length a + length b) c a b e f
