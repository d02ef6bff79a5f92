-- Lists kept in the blocks of one flat array: list h in the block of w slots that begins at w * h, its length in counts.
-- Assumes nothing.
use Rattle.std.specs.Prelude.{ℕ, zero, suc, ◌+◌, ◌*◌, ◌-◌, ◌≤◌, ◌<◌, min, Bool, true, false, List, [], ◌∷◌, ◌++◌, ◌≡◌, refl, leb, length, get_or, set, take, drop}
use Rattle.std.proofs.Common.{ap, ap₂, ◌∙◌, sym, add-zero, zero-add, mul-zero, mul-suc, add-one, arith, length-take, length-drop, take-take, drop-drop, drop-set-lt, take-suc-set, length-take-le, take_all, get_or-take, get_or-drop, leb-true, leb-false}
use Rattle.std.proofs.lemmas.List.{take-append-le, drop-append-le, take-set-le, drop-set-add}
use Rattle.std.proofs.Math.Seq.{drop-append-add, take-set-lt}
use Rattle.lists.specs.Elements.{drop-take, get_d_within}
use Rattle.lists.specs.Places.{without, without_first}
use Rattle.lists.specs.Vector.{shifted, length_shift_head, shift_end}

next_block : (w h : ℕ) → w * suc h ≡ w + w * h
next_block w h = omega (arith, mul-suc w h)

past_shift : (w h m : ℕ) → m < w → w * h + w ≡ w * h + m + (w - m)
past_shift w h m a = omega arith

-- an element taken out by a shift: what is before it, and what is past the shift, stays; what is from it on is shifted by itself
module _ {A : Type 0} where
  take_without : (i : ℕ) (l : List A) → take i (without i l) ≡ take i l
  take_without zero [] = refl
  take_without zero (x ∷ l) = refl
  take_without (suc i) [] = refl
  take_without (suc i) (x ∷ l) = rw (take_without i l)

  drop_without : (i : ℕ) (l : List A) → drop i (without i l) ≡ without 0 (drop i l)
  drop_without zero [] = refl
  drop_without zero (x ∷ l) = refl
  drop_without (suc i) [] = refl
  drop_without (suc i) (x ∷ l) = drop_without i l

  drop_past : (xs ys : List A) (n m : ℕ) → length xs ≡ n → drop (n + m) (xs ++ ys) ≡ drop m ys
  drop_past xs ys n m e = rw (← e) (drop-append-add xs ys m)

  take_shifted : (i j : ℕ) (l : List A) → i ≤ j → j < length l → take i (shifted i j l) ≡ take i l
  take_shifted i j l a b =
      take-append-le i (without i (take (suc j) l)) (drop j l) (omega (arith, length_shift_head i j l a b))
      ∙ take_without i (take (suc j) l)
      ∙ take-take i (suc j) l (omega arith)

  drop_shifted_past : (i j k : ℕ) (l : List A) → i ≤ j → j < length l → drop (j + k) (shifted i j l) ≡ drop (j + k) l
  drop_shifted_past i j k l a b = drop_past (without i (take (suc j) l)) (drop j l) j k (length_shift_head i j l a b) ∙ drop-drop k j l

  drop_shifted : (i m : ℕ) (l : List A) → i + m < length l → drop i (shifted i (i + m) l) ≡ shifted 0 m (drop i l)
  drop_shifted i m l b =
      let s : suc (i + m) ≡ i + suc m = omega arith in
      let a : drop i (take (suc (i + m)) l) ≡ take (suc m) (drop i l) = rw s (drop-take i (suc m) l) in
      drop-append-le i (without i (take (suc (i + m)) l)) (drop (i + m) l) (omega (arith, length_shift_head i (i + m) l (omega arith) b))
      ∙ rw (drop_without i (take (suc (i + m)) l), a, drop-drop m i l)

module _ {A : Type 0} (w : ℕ) where
  -- the list of the lists
  abbrev pub parts : List ℕ → List A → List (List A)
  parts [] l = []
  parts (c ∷ cs) l = take c (take w l) ∷ parts cs (drop w l)

  pub length_parts : (cs : List ℕ) (l : List A) → length (parts cs l) ≡ length cs
  length_parts [] l = refl
  length_parts (c ∷ cs) l = ap suc (length_parts cs (drop w l))

  -- block h of the array
  abbrev block : ℕ → List A → List A
  block h l = take w (drop (w * h) l)

  drop_block : (h : ℕ) (l : List A) → drop (w * h) (drop w l) ≡ drop (w * suc h) l
  drop_block h l = rw (next_block w h) (drop-drop (w * h) w l)

  get_d_parts : (cs : List ℕ) (l : List A) (h : ℕ) → get_or (parts cs l) h [] ≡ take (get_or cs h 0) (block h l)
  get_d_parts [] l h = refl
  get_d_parts (c ∷ cs) l zero = rw mul-zero
  get_d_parts (c ∷ cs) l (suc h) = get_d_parts cs (drop w l) h ∙ ap (λ (r : List A). take (get_or cs h 0) (take w r)) (drop_block h l)

  -- l and m are the same but for block h
  record Apart (h : ℕ) (l m : List A) : Type 0 where
    before : take (w * h) m ≡ take (w * h) l
    after : drop (w * h + w) m ≡ drop (w * h + w) l

  -- a block with its count changed, and no other: that list changes, and no other
  parts_set : (cs : List ℕ) (l m : List A) (h c : ℕ) → Apart h l m → parts (set cs h c) m ≡ set (parts cs l) h (take c (block h m))
  parts_set [] l m h c r = refl
  parts_set (b ∷ cs) l m zero c r =
      let e : drop w m ≡ drop w l = rw (mul-zero, zero-add) at r.after in
      rw (mul-zero, e)
  parts_set (b ∷ cs) l m (suc h) c r =
      let n = next_block w h in
      let a : take (w + w * h) m ≡ take (w + w * h) l = rw n at r.before in
      let t : take w m ≡ take w l = sym (take-take w (w + w * h) m (omega arith)) ∙ ap (λ (x : List A). take w x) a ∙ take-take w (w + w * h) l (omega arith) in
      let q : w * suc h + w ≡ w + (w * h + w) = omega arith in
      let ih = parts_set cs (drop w l) (drop w m) h c (record {
        before = sym (drop-take w (w * h) m) ∙ ap (λ (x : List A). drop w x) a ∙ drop-take w (w * h) l;
        after = drop-drop (w * h + w) w m ∙ (rw q at r.after) ∙ sym (drop-drop (w * h + w) w l);
      }) in
      ap₂ (λ (x : List A) (y : List (List A)). take b x ∷ y) t (ih ∙ ap (λ (x : List A). set (parts cs (drop w l)) h (take c (take w x))) (drop_block h m))

  -- a store into block h
  store_apart : (h n : ℕ) (l : List A) (x : A) → n < w → Apart h l (set l (w * h + n) x)
  store_apart h n l x a = record { before = take-set-le (w * h) l (w * h + n) x (omega arith); after = drop-set-lt (w * h + w) l (w * h + n) x (omega arith) }

  -- one more at the end of list h
  pub parts_put : (cs : List ℕ) (l : List A) (h n : ℕ) (x : A) → get_or cs h 0 ≡ n → n < w → w * h + n < length l
      → parts (set cs h (n + 1)) (set l (w * h + n) x) ≡ set (parts cs l) h (get_or (parts cs l) h [] ++ (x ∷ []))
  parts_put cs l h n x e a b =
      let long : length (block h l) ≡ min w (length l - w * h) = length-take w (drop (w * h) l) ∙ ap (min w) (length-drop (w * h) l) in
      let t : take (suc n) (block h (set l (w * h + n) x)) ≡ take n (block h l) ++ (x ∷ []) =
      rw (drop-set-add (w * h) l n x, take-set-lt w (drop (w * h) l) n x a) (take-suc-set (block h l) n x (omega arith)) in
      parts_set cs l (set l (w * h + n) x) h (n + 1) (store_apart h n l x a)
      ∙ rw (get_d_parts cs l h, e, add-one) (ap (set (parts cs l) h) t)

  -- list h emptied
  pub parts_clear : (cs : List ℕ) (l : List A) (h : ℕ) → parts (set cs h 0) l ≡ set (parts cs l) h []
  parts_clear cs l h = parts_set cs l l h 0 (record { before = refl; after = refl })

  -- a block's list of c elements is the first n of what begins there, n being c held to the block's size
  take_held : (c n : ℕ) (l : List A) → n ≡ min c w → take c (take w l) ≡ take n l
  take_held c n l e = held (leb c w) refl
    where
      held : (b : Bool) → leb c w ≡ b → take c (take w l) ≡ take n l
      held true q = let h : c ≤ w = leb-true c w q in let k : n ≡ c = omega arith in rw k (take-take c w l h)
      held false q = let h : w < c = leb-false c w q in let k : n ≡ w = omega arith in rw k (take_all c (take w l) (omega (arith, length-take w l)))

  -- the first of list h taken out: the others of the block moved down
  shift_apart : (h m : ℕ) (l : List A) → m < w → w * h + m < length l → Apart h l (shifted (w * h) (w * h + m) l)
  shift_apart h m l a b = record {
    before = take_shifted (w * h) (w * h + m) l (omega arith) b;
    after = rw (past_shift w h m a) (drop_shifted_past (w * h) (w * h + m) (w - m) l (omega arith) b);
  }

  shift_first : (cs : List ℕ) (l : List A) (h m : ℕ) → m + 1 ≡ min (get_or cs h 0) w → w * h + m < length l
      → parts (set cs h m) (shifted (w * h) (w * h + m) l) ≡ set (parts cs l) h (drop 1 (get_or (parts cs l) h []))
  shift_first cs l h m e b =
      let n : m < length (drop (w * h) l) = omega (arith, length-drop (w * h) l) in
      let t : take m (block h (shifted (w * h) (w * h + m) l)) ≡ drop 1 (take (suc m) (drop (w * h) l)) =
      rw (drop_shifted (w * h) m l b, take-take m w (shifted 0 m (drop (w * h) l)) (omega arith))
      (shift_end 0 m (drop (w * h) l) (omega arith) n ∙ without_first (take (suc m) (drop (w * h) l))) in
      parts_set cs l (shifted (w * h) (w * h + m) l) h m (shift_apart h m l (omega arith) b)
      ∙ rw (get_d_parts cs l h, take_held (get_or cs h 0) (m + 1) (drop (w * h) l) e, add-one) (ap (set (parts cs l) h) t)

  pub parts_take : (cs : List ℕ) (l : List A) (h m j : ℕ) → m + 1 ≡ min (get_or cs h 0) w → j ≡ w * h + m → j < length l
      → parts (set cs h m) (shifted (w * h) j l) ≡ set (parts cs l) h (drop 1 (get_or (parts cs l) h []))
  parts_take cs l h m j e q b = rw q (shift_first cs l h m e (omega arith))

  -- how long a list is
  pub length_part : (cs : List ℕ) (l : List A) (h : ℕ) → w * h + w ≤ length l → length (get_or (parts cs l) h []) ≡ min (get_or cs h 0) w
  length_part cs l h b =
      rw (get_d_parts cs l h)
      (length-take (get_or cs h 0) (block h l) ∙ ap (min (get_or cs h 0)) (length-take-le w (drop (w * h) l) (omega (arith, length-drop (w * h) l))))

  -- what is read from place i of list h, whatever stands past an end
  part_read : (cs : List ℕ) (l : List A) (h i : ℕ) (d z : A) → i < length (get_or (parts cs l) h []) → get_or (get_or (parts cs l) h []) i d ≡ get_or l (w * h + i) z
  part_read cs l h i d z b =
      let e = get_d_parts cs l h in
      let m : i < min (get_or cs h 0) (min w (length l - w * h)) =
      omega (arith, ap length e, length-take (get_or cs h 0) (block h l), length-take w (drop (w * h) l), length-drop (w * h) l) in
      ap (λ (r : List A). get_or r i d) e
      ∙ get_or-take (get_or cs h 0) (block h l) i d (omega arith)
      ∙ get_or-take w (drop (w * h) l) i d (omega arith)
      ∙ get_or-drop (w * h) l i d
      ∙ get_d_within l (w * h + i) d z (omega arith)

  pub part_first : (cs : List ℕ) (l : List A) (h : ℕ) (d z : A) → 0 < length (get_or (parts cs l) h []) → get_or (get_or (parts cs l) h []) 0 d ≡ get_or l (w * h) z
  part_first cs l h d z b = rw add-zero at (part_read cs l h 0 d z b)

-- a list that has an element is one of the lists
pub part_within : {A : Type 0} (ls : List (List A)) (h : ℕ) → 0 < length (get_or ls h []) → h < length ls
part_within [] h b = absurd (omega arith)
part_within (l ∷ ls) zero b = omega arith
part_within (l ∷ ls) (suc h) b = omega (arith, part_within ls h b)
