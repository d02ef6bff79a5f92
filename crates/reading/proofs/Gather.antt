-- A turn of reading is what is gathered from several bytes at once.
-- Assumes nothing.
use Prim.Native.Nat.{ℕ, suc, ◌<◌}
use mathlib.Core.Bool.{Bool, true, false, cond, ◌&&◌, not}
use mathlib.Core.List.{List, [], ◌∷◌}
use mathlib.Core.Path.{◌≡◌, refl, sym, ap, ap₂, ◌∙◌}
use native.Mathlib.Omega.{arith}
use lib.Dec.{eqb, ltb, leb}
use lib.ListN.{length, get_or, length-append, get_or-append, get_or-eq_default}
use borrow.Author.Tests.{ne_eqb, eqb-true, ltb-false, leb-false, not-true}
use Rattle.lists.specs.Elements.{empty_list}
use Rattle.lists.specs.Tests.{split, both}
use Rattle.lists.specs.Vector.{put}
use Rattle.reading.specs.Gather.{gather, gathered, turned}
use Rattle.reading.specs.Reading.{Reading, reading_at, Read, still, unknown, is_whole, grown, next, Turn, is_part, turn, place_after}
use Rattle.session_log.specs.Record.{is_kind, kind_of, body_length, body_lengths}

-- a reading in which a record has begun
abbrev pub holding : Reading → List ℕ → Reading
holding r g = record { held = g; place = r.place; ended = false }

pub length-put : (g : List ℕ) (b : ℕ) → 0 < length (put 28 g b)
length-put g b = split (ltb (length g) 28)
    (λ e. rw (e, length-append g (b ∷ [])) (omega arith))
    (λ e. rw e (omega (arith, ltb-false (length g) 28 e)))

pub next_held : (r : Reading) (g : List ℕ) (b : ℕ) → 0 < length g → next (holding r g) b ≡ grown r (put 28 g b)
unfolding next grown
next_held r g b h = rw (ne_eqb (length g) 0 (λ e. omega arith))

pub grown_whole : (r : Reading) (g : List ℕ) → is_whole g ≡ true → grown r g ≡ record { reading = reading_at (place_after r.place (length g)); came = g ∷ [] }
unfolding grown
grown_whole r g w = rw w

pub grown_part : (r : Reading) (g : List ℕ) → is_whole g ≡ false → grown r g ≡ still (holding r g)
unfolding grown
grown_part r g w = rw w

pub gather_whole : (g : List ℕ) (b : ℕ) (bs : List ℕ) → is_whole (put 28 g b) ≡ true → (gather g (b ∷ bs) ≡ put 28 g b) × (gathered g (b ∷ bs) ≡ 1)
gather_whole g b bs w = (rw w, rw w)

pub gather_part : (g : List ℕ) (b : ℕ) (bs : List ℕ) → is_whole (put 28 g b) ≡ false → (gather g (b ∷ bs) ≡ gather (put 28 g b) bs) × (gathered g (b ∷ bs) ≡ suc (gathered (put 28 g b) bs))
gather_part g b bs w = (rw w, rw w)

-- a turn, by its first byte
pub turn_ended : (r : Reading) (bytes : List ℕ) → r.ended ≡ true → turn r bytes ≡ record { read = still r; taken = 0 }
turn_ended r [] e = refl
turn_ended r (b ∷ bs) e = rw e

module _ (r : Reading) (b : ℕ) (bs : List ℕ) (e : r.ended ≡ false) where
  -- what comes of the first byte and the others, if the log goes on
  abbrev later : Bool → Turn
  later p = let rest = turn (next r b).reading bs in cond p (record { read = rest.read; taken = suc rest.taken }) (record { read = next r b; taken = 1 })

  turn_going : turn r (b ∷ bs) ≡ later (is_part (next r b))
  turn_going = ap (λ (f : Bool). cond f (record { read = still r; taken = 0 }) (later (is_part (next r b)))) e

  pub turn_last : is_part (next r b) ≡ false → turn r (b ∷ bs) ≡ record { read = next r b; taken = 1 }
  turn_last p = turn_going ∙ ap later p

  pub turn_more : is_part (next r b) ≡ true → let rest = turn (next r b).reading bs in turn r (b ∷ bs) ≡ record { read = rest.read; taken = suc rest.taken }
  turn_more p = turn_going ∙ ap later p

-- the bytes that a record wants at once
abbrev gathering : Reading → List ℕ → List ℕ → Turn
gathering r g bs = record { read = grown r (gather g bs); taken = gathered g bs }

-- a byte more of a record, which is whole then, or goes on
turn_grown : (x r : Reading) (g : List ℕ) (b : ℕ) (bs : List ℕ) → x.ended ≡ false → next x b ≡ grown r (put 28 g b)
    → (is_whole (put 28 g b) ≡ false → turn (holding r (put 28 g b)) bs ≡ gathering r (put 28 g b) bs)
    → turn x (b ∷ bs) ≡ gathering r g (b ∷ bs)
turn_grown x r g b bs e q later =
    split (is_whole (put 28 g b))
    (λ w. let m = gather_whole g b bs w in
    let n : next x b ≡ record { reading = reading_at (place_after r.place (length (put 28 g b))); came = put 28 g b ∷ [] } = q ∙ grown_whole r (put 28 g b) w in
    turn_last x b bs e (ap is_part n) ∙ rw (m.0, m.1, q))
    (λ w. let m = gather_part g b bs w in
    let n : next x b ≡ still (holding r (put 28 g b)) = q ∙ grown_part r (put 28 g b) w in
    turn_more x b bs e (ap is_part n) ∙ ap (λ (k : Read). let t = turn k.reading bs in record { read = t.read; taken = suc t.taken }) n
    ∙ ap (λ (t : Turn). record { read = t.read; taken = suc t.taken }) (later w) ∙ rw (m.0, m.1))

turn_held : (r : Reading) (g bs : List ℕ) → 0 < length g → is_whole g ≡ false → turn (holding r g) bs ≡ gathering r g bs
turn_held r g [] p w = rw (grown_part r g w)
turn_held r g (b ∷ bs) p w = turn_grown (holding r g) r g b bs refl (next_held r g b p) (λ e. turn_held r (put 28 g b) bs (length-put g b) e)

-- the kind of a record that has begun stays
pub put_kind : (g : List ℕ) (b : ℕ) → 0 < length g → kind_of (put 28 g b) ≡ kind_of g
put_kind g b p = split (ltb (length g) 28)
    (λ e. rw e (get_or-append g (b ∷ []) 0 0 p))
    (λ e. rw e)

gather_kind : (g bs : List ℕ) → 0 < length g → kind_of (gather g bs) ≡ kind_of g
gather_kind g [] p = refl
gather_kind g (b ∷ bs) p =
    split (is_whole (put 28 g b))
    (λ e. ap kind_of (gather_whole g b bs e).0 ∙ put_kind g b p)
    (λ e. ap kind_of (gather_part g b bs e).0 ∙ gather_kind (put 28 g b) bs (length-put g b) ∙ put_kind g b p)

-- the kind that the first byte gives
first_kind : (b : ℕ) (bs : List ℕ) → kind_of (gather [] (b ∷ bs)) ≡ b
first_kind b bs =
    split (is_whole (b ∷ []))
    (λ e. ap kind_of (gather_whole [] b bs e).0)
    (λ e. ap kind_of (gather_part [] b bs e).0 ∙ gather_kind (b ∷ []) bs (omega arith))

-- an unknown kind has no body
pub unknown_short : (b : ℕ) → is_kind b ≡ false → body_length b ≡ 0
unfolding body_length
unknown_short b e =
    split (leb 1 b)
    (λ f. get_or-eq_default body_lengths 0 {n = b} (omega (arith, leb-false b 11 (rw f at e))))
    (λ f. ap (λ (n : ℕ). get_or body_lengths n 0) (none b (leb-false 1 b f)))
  where
    none : (n : ℕ) → n < 1 → n ≡ 0
    none n h = omega arith

-- so it is gathered by itself
unknown_alone : (h : List ℕ) (b : ℕ) (bs : List ℕ) → (eqb (length h) 0 && not (is_kind b)) ≡ true → gathered h (b ∷ bs) ≡ 1
unknown_alone h b bs t =
    let m = both (eqb (length h) 0) (not (is_kind b)) t in
    let w : is_whole (b ∷ []) ≡ true = rw (unknown_short b (not-true (is_kind b) m.1)) in
    ap (λ (g : List ℕ). gathered g (b ∷ bs)) (empty_list h (eqb-true (length h) 0 m.0)) ∙ (gather_whole [] b bs w).1

-- the test of an unknown kind, on the byte and on the bytes gathered
test_gathered : (h : List ℕ) (b : ℕ) (bs : List ℕ) → (eqb (length h) 0 && not (is_kind (kind_of (gather h (b ∷ bs))))) ≡ (eqb (length h) 0 && not (is_kind b))
test_gathered h b bs =
    split (eqb (length h) 0)
    (λ z. ap (λ (k : ℕ). eqb (length h) 0 && not (is_kind k)) (ap (λ (g : List ℕ). kind_of (gather g (b ∷ bs))) (empty_list h (eqb-true (length h) 0 z)) ∙ first_kind b bs))
    (λ z. rw z)

-- the first byte of a record is an unknown kind
pub next_unknown : (r : Reading) (b : ℕ) → (eqb (length r.held) 0 && not (is_kind b)) ≡ true → next r b ≡ unknown r
unfolding next
next_unknown r b t = rw t

-- any other first byte, and any byte of a record that has begun
pub next_known : (r : Reading) (b : ℕ) → (eqb (length r.held) 0 && not (is_kind b)) ≡ false → next r b ≡ grown r (put 28 r.held b)
unfolding next
next_known r b t = rw t

-- A turn is as many bytes as the record wants, or as there are.
pub turn_gathers : (r : Reading) (bytes : List ℕ) → r.ended ≡ false → 0 < length bytes
    → turn r bytes ≡ record { read = turned r (gather r.held bytes); taken = gathered r.held bytes }
unfolding turned unknown
turn_gathers r [] e p = absurd (omega arith)
turn_gathers r (b ∷ bs) e p =
    let h = r.held in
    let go : Bool → Read = λ t. cond t (unknown r) (grown r (gather h (b ∷ bs))) in
    let q = test_gathered h b bs in
    split (eqb (length h) 0 && not (is_kind b))
    (λ t. let n = next_unknown r b t in
    turn_last r b bs e (ap is_part n)
    ∙ ap₂ (λ (x : Read) (k : ℕ). record { read = x; taken = k }) (n ∙ sym (ap go (q ∙ t))) (sym (unknown_alone h b bs t)))
    (λ t. turn_grown r r h b bs e (next_known r b t) (λ w. turn_held r (put 28 h b) bs (length-put h b) w)
    ∙ ap (λ (x : Read). record { read = x; taken = gathered h (b ∷ bs) }) (sym (ap go (q ∙ t))))
