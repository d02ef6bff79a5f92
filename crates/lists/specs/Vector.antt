-- A list of at most k elements, kept as `take count slots` in an array of k slots.
-- Each operation on the array is a loop: what it has made after j turns, how that begins, goes on and ends.
-- Assumes nothing.
use Rattle.std.specs.Prelude.{ℕ, zero, suc, ◌+◌, ◌-◌, ◌≤◌, ◌<◌, min, Bool, true, false, cond, List, [], ◌∷◌, ◌++◌, map, ◌≡◌, refl, ltb, length, get_or, set, take, drop, replicate}
use Rattle.std.proofs.Common.{append_assoc, append-nil, ap, ap₂, ◌∙◌, sym, add-zero, add-one, arith, length-take, length-append, length-set, take-append-drop, drop_of_length-le, take-suc, take_all, take_at, take-suc-set, length-take-le, get_or-take, get_or-drop, get_or-append-add, drop-cons, drop-drop, drop-set-lt, lt-ltb, le-ltb, ltb-true, ltb-false}
use Rattle.std.proofs.lemmas.List.{length-map, length-replicate, replicate-append-replicate, take-set-le, take-append-le, get_or_at, set_at}
use Rattle.std.proofs.Math.Seq.{append_snoc}
use Rattle.lists.specs.Elements.{map-append, take_taken, get_d_within}
use Rattle.lists.specs.Places.{first, first_here, first_none, without, without_append, without_last}
use Rattle.lists.specs.Sums.{sum, sum_next, any, any_next, keep}
use Rattle.lists.specs.Tests.{bit, split}

module _ {A : Type 0} where
  -- one more at the end of a list that holds at most k; a full one stays
  abbrev pub put : ℕ → List A → A → List A
  put k l x = cond (ltb (length l) k) (l ++ (x ∷ [])) l

  -- a count past the array's size counts as that
  pub length_held : (c k n : ℕ) (l : List A) → length l ≡ k → n ≡ min c k → n ≡ length (take c l)
  length_held c k n l e h = rw (length-take c l, e) h

  length_over : (n k : ℕ) (l : List A) → length l ≡ k → k ≤ n → length (take n l) ≡ k
  length_over n k l e h = sym (length_held n k k l e (omega arith))

  pub put_room : (k n : ℕ) (l : List A) (x : A) → length l ≡ k → n < k → take (n + 1) (set l n x) ≡ put k (take n l) x
  put_room k n l x e h = rw (add-one, take-suc-set l n x (omega arith), length-take-le n l (omega arith), lt-ltb n k h)

  pub put_full : (k n : ℕ) (l : List A) (x : A) → length l ≡ k → k ≤ n → take n l ≡ put k (take n l) x
  put_full k n l x e h = rw (length_over n k l e h, le-ltb k k (omega arith))

  -- what one of the first elements passes, one of all does
  any_taken : (p : A → Bool) (l : List A) (i n : ℕ) (d : A) → i < n → i < length l → p (get_or l i d) ≡ true → any p (take n l) ≡ true
  any_taken p [] i n d h k e = absurd (omega arith)
  any_taken p (x ∷ l) i zero d h k e = absurd (omega arith)
  any_taken p (x ∷ l) zero (suc n) d h k e = rw e
  any_taken p (x ∷ l) (suc i) (suc n) d h k e =
      let ih = any_taken p l i n d (omega arith) (omega arith) e in
      split (p x) (λ q. rw q) (λ q. rw (q, ih))

-- a loop over the n elements of the list: turn i looks at slot i
module _ {A : Type 0} (l : List A) (c n : ℕ) (e : n ≡ length (take c l)) where
  pub within_slots : (i : ℕ) → i < n → i < length l
  within_slots i h = omega (arith, length-take c l)

  within_count : (i : ℕ) → i < n → i < c
  within_count i h = omega (arith, length-take c l)

  -- what is read from slot i, whatever stands past an end
  pub slot_read : (i : ℕ) (d z : A) → i < n → get_or (take c l) i d ≡ get_or l i z
  slot_read i d z h = get_or-take c l i d (within_count i h) ∙ get_d_within l i d z (within_slots i h)

  pub loop_end : (i : ℕ) → i ≡ n → take i l ≡ take c l
  loop_end i h = take_taken c i l (h ∙ e)

  -- the loop looks for one that passes a test
  pub any_found : (p : A → Bool) (i : ℕ) (d : A) → i < n → p (get_or l i d) ≡ true → any p (take c l) ≡ true
  any_found p i d h q = any_taken p l i c d (within_count i h) (within_slots i h) q

  pub any_passed : (p : A → Bool) (i : ℕ) (d : A) → i < n → any p (take i l) ≡ false → p (get_or l i d) ≡ false → any p (take (i + 1) l) ≡ false
  any_passed p i d h r q = any_next p l i d (within_slots i h) r ∙ q

  pub any_missed : (p : A → Bool) (i : ℕ) → i ≡ n → any p (take i l) ≡ false → any p (take c l) ≡ false
  any_missed p i h r = rw (← loop_end i h) r

  pub first_found : (p : A → Bool) (i : ℕ) (d : A) → i < n → any p (take i l) ≡ false → p (get_or l i d) ≡ true → first p (take c l) ≡ i
  first_found p i d h r q = first_here p l i c d (within_count i h) (within_slots i h) r q

  pub first_missed : (p : A → Bool) (i : ℕ) → i ≡ n → any p (take i l) ≡ false → first p (take c l) ≡ n
  first_missed p i h r = first_none p (take c l) (any_missed p i h r) ∙ sym e

  -- the loop adds up a weight
  pub sum_passed : (f : A → ℕ) (i : ℕ) (d : A) (s w : ℕ) → i < n → s ≡ sum f (take i l) → w ≡ f (get_or l i d) → s + w ≡ sum f (take (i + 1) l)
  sum_passed f i d s w h a b = ap₂ ◌+◌ a b ∙ sym (sum_next f l i d (within_slots i h))

module _ {A : Type 0} where
  -- the element at i taken out: those after it moved down as far as place j
  abbrev pub shifted : ℕ → ℕ → List A → List A
  shifted i j l = without i (take (suc j) l) ++ drop j l

  length_without : (i : ℕ) (l : List A) → i < length l → length (without i l) + 1 ≡ length l
  length_without i [] h = absurd (omega arith)
  length_without zero (x ∷ l) h = omega arith
  length_without (suc i) (x ∷ l) h = omega (arith, length_without i l (omega arith))

  get_d_past : (xs ys : List A) (n m : ℕ) (d : A) → length xs ≡ n → get_or (xs ++ ys) (n + m) d ≡ get_or ys m d
  get_d_past xs ys n m d e = rw (← e) (get_or-append-add xs ys m d)

  pub length_shift_head : (i j : ℕ) (l : List A) → i ≤ j → j < length l → length (without i (take (suc j) l)) ≡ j
  length_shift_head i j l a b = omega (arith, length_without i (take (suc j) l) (omega (arith, length-take-le (suc j) l b)), length-take-le (suc j) l b)

  pub shift_start : (i : ℕ) (l : List A) → i < length l → l ≡ shifted i i l
  shift_start i l h = rw (without_last i l h, take-append-drop)

  pub shift_next : (i j : ℕ) (l : List A) (d : A) → i ≤ j → j + 1 < length l
      → set (shifted i j l) j (get_or (shifted i j l) (j + 1) d) ≡ shifted i (j + 1) l
  shift_next i j l d a b =
      let n : length (without i (take (suc j) l)) ≡ j = length_shift_head i j l a (omega arith) in
      let m : length (take (suc j) l) ≡ suc j = length-take-le (suc j) l (omega arith) in
      let h : suc j < length l = omega arith in
      let v : get_or (shifted i j l) (j + 1) d ≡ get_or l (j + 1) d = get_d_past (without i (take (suc j) l)) (drop j l) j 1 d n ∙ get_or-drop j l 1 d in
      rw (v, drop-cons l j d (omega arith), set_at (without i (take (suc j) l)) (get_or l j d) (drop (suc j) l) (get_or l (j + 1) d) j n, add-one, take-suc l (suc j) d)
      (rw (without_append i (take (suc j) l) (get_or l (suc j) d ∷ []) (omega arith)) (sym (append_snoc (without i (take (suc j) l)) (get_or l (suc j) d) (drop (suc j) l))))

  pub shift_end : (i j : ℕ) (l : List A) → i ≤ j → j < length l → take j (shifted i j l) ≡ without i (take (suc j) l)
  shift_end i j l a b = take_at (without i (take (suc j) l)) (drop j l) j (length_shift_head i j l a b)

  -- moved down to the end of the list: the element at i is out of it
  pub shift_out : (i j n : ℕ) (l : List A) → i ≤ j → j + 1 ≡ length (take n l) → take j (shifted i j l) ≡ without i (take n l)
  shift_out i j n l a e = shift_end i j l a (omega (arith, length-take n l)) ∙ ap (without i) (take_taken n (suc j) l (omega arith))

module _ {A : Type 0} (f : A → A) where
  -- each element changed: those before place j
  abbrev pub mapped : ℕ → List A → List A
  mapped j l = map f (take j l) ++ drop j l

  pub mapped_next : (j : ℕ) (l : List A) (d : A) → j < length l → set (mapped j l) j (f (get_or (mapped j l) j d)) ≡ mapped (j + 1) l
  mapped_next j l d h =
      let n : length (map f (take j l)) ≡ j = length-map (take j l) f ∙ length-take-le j l (omega arith) in
      let g : drop j l ≡ get_or l j d ∷ drop (suc j) l = drop-cons l j d h in
      let v : get_or (mapped j l) j d ≡ get_or l j d = rw g (get_or_at (map f (take j l)) (get_or l j d) (drop (suc j) l) d j n) in
      rw (v, g, set_at (map f (take j l)) (get_or l j d) (drop (suc j) l) (f (get_or l j d)) j n, add-one, take-suc l j d h, map-append f (take j l) (get_or l j d ∷ []))
      (sym (append_snoc (map f (take j l)) (f (get_or l j d)) (drop (suc j) l)))

  -- where the list is the first c slots: all of it is changed, whatever stands past it
  pub mapped_taken : (c j : ℕ) (l : List A) → j ≡ length (take c l) → take c (mapped j l) ≡ map f (take c l)
  mapped_taken c j l e =
      let t : take j l ≡ take c l = take_taken c j l e in
      let m : length (map f (take c l)) ≡ j = length-map (take c l) f ∙ sym e in
      split (ltb (length l) c)
      (λ g. let h : length l < c = ltb-true (length l) c g in
      let d : drop j l ≡ [] = drop_of_length-le l {i = j} (omega (arith, length-take c l)) in
      rw (t, d, append-nil) (take_all c (map f (take c l)) (omega (arith, length-take c l))))
      (λ g. let h : c ≤ length l = ltb-false (length l) c g in
      rw t (take-append-le c (map f (take c l)) (drop j l) (omega (arith, length-take c l)) ∙ take_all c (map f (take c l)) (omega (arith, length-take c l))))

module _ {A : Type 0} (p : A → Bool) where
  keep_append : (xs ys : List A) → keep p (xs ++ ys) ≡ keep p xs ++ keep p ys
  keep_append [] ys = refl
  keep_append (x ∷ xs) ys =
      let ih = keep_append xs ys in
      split (p x) (λ e. rw e (ap (λ (l : List A). x ∷ l) ih)) (λ e. rw e ih)

  -- two lists that agree from a place on agree there
  get_d_same_rest : (l s : List A) (j : ℕ) (d : A) → drop j s ≡ drop j l → get_or s j d ≡ get_or l j d
  get_d_same_rest l s j d e =
      let a = rw add-zero at (get_or-drop j s 0 d) in
      let b = rw add-zero at (get_or-drop j l 0 d) in
      sym a ∙ ap (λ (r : List A). get_or r 0 d) e ∙ b

  -- those that fail a test taken out: of the first j of l, those that pass are the first k of s, and s is still l from place j on
  pub record Kept (l : List A) (j : ℕ) (s : List A) (k : ℕ) : Type 0 where
    pub same : length s ≡ length l
    pub most : k ≤ j
    pub kept : take k s ≡ keep p (take j l)
    pub rest : drop j s ≡ drop j l

  pub keep_start : (l : List A) → Kept l 0 l 0
  keep_start l = record { same = refl; most = omega arith; kept = refl; rest = refl }

  pub keep_next : (l : List A) (j : ℕ) (s : List A) (k : ℕ) (d : A) → j < length l → Kept l j s k
      → Kept l (j + 1) (set s k (get_or s j d)) (k + bit (p (get_or s j d)))
  keep_next l j s k d h r =
      let g : get_or s j d ≡ get_or l j d = get_d_same_rest l s j d r.rest in
      let k' : k < length s = omega (arith, r.same, r.most) in
      let t : keep p (take (j + 1) l) ≡ keep p (take j l) ++ cond (p (get_or s j d)) (get_or s j d ∷ []) [] = rw (add-one, take-suc l j d h, g) (keep_append (take j l) (get_or l j d ∷ [])) in
      record {
        same = length-set s k (get_or s j d) ∙ r.same;
        most = split (p (get_or s j d)) (λ e. rw e (omega (arith, r.most))) (λ e. rw e (omega (arith, r.most)));
        kept = split (p (get_or s j d))
            (λ e. rw (t, e, add-one, take-suc-set s k (get_or s j d) k', r.kept))
            (λ e. rw (t, e, add-zero, take-set-le k s k (get_or s j d) (omega arith), r.kept, append-nil));
        rest = drop-set-lt (j + 1) s k (get_or s j d) (omega (arith, r.most)) ∙ rw (← drop-drop 1 j s, r.rest) (drop-drop 1 j l);
      }

  -- k of them are left: those of the first n that pass
  pub keep_end : (l : List A) (n : ℕ) (s : List A) (k c : ℕ) → Kept l n s k → take c l ≡ take n l → take k s ≡ keep p (take c l)
  keep_end l n s k c r e = rw e r.kept

module _ {A : Type 0} (z : A) where
  -- the elements from place n on overwritten with z, as far as place i
  abbrev pub filled : ℕ → ℕ → List A → List A
  filled n i l = (take n l ++ replicate (i - n) z) ++ drop i l

  length_filled_head : (n i : ℕ) (l : List A) → n ≤ i → i ≤ length l → length (take n l ++ replicate (i - n) z) ≡ i
  length_filled_head n i l a b = length-append (take n l) (replicate (i - n) z) ∙ omega (arith, length-take-le n l (omega arith), length-replicate (i - n) z)

  pub fill_start : (n : ℕ) (l : List A) → l ≡ filled n n l
  fill_start n l = let e : n - n ≡ 0 = omega arith in rw (e, append-nil) (sym (take-append-drop n l))

  pub fill_next : (n i : ℕ) (l : List A) → n ≤ i → i < length l → set (filled n i l) i z ≡ filled n (i + 1) l
  fill_next n i l a b =
      let g : drop i l ≡ get_or l i z ∷ drop (suc i) l = drop-cons l i z b in
      let k : i + 1 - n ≡ (i - n) + 1 = omega arith in
      rw (g, set_at (take n l ++ replicate (i - n) z) (get_or l i z) (drop (suc i) l) z i (length_filled_head n i l a (omega arith)), k, add-one i, ← replicate-append-replicate (i - n) 1 z)
      (simp append_assoc)

  pub fill_end : (n i : ℕ) (l : List A) → length l ≤ i → filled n i l ≡ take n l ++ replicate (i - n) z
  fill_end n i l h = rw (drop_of_length-le l {i = i} h, append-nil)
