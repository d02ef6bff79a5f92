-- Two records agree where all bytes that are not past a length are the same; how the code finds that out.
-- Assumes nothing.
use Rattle.std.proofs.Common.{◌≡◌, ℕ, ◌+◌, ◌-◌, ◌<◌, Bool, true, false, cond, ◌&&◌, eqb, ltb, leb, ◌≢◌, List, length, take, drop, None, Some, sym, ap, ap₂, ◌∙◌, arith, ext_get_or, ltb-false, ltb-true, le-ltb, ne_eqb, length-take, length-drop, take_all}
use Rattle.std.proofs.lemmas.Bool.Decides.{Decides-eqb}
use Rattle.std.proofs.lemmas.List.{get_or-take, get_or-drop}
use Rattle.std.proofs.lemmas.Slice.Eq.{slice_eq-Decides}
use Rattle.std.specs.Cmp.Lexicographic.{pointwise}
use Rattle.std.specs.declared.ops.Range.{Range}
use Rattle.comparer.specs.Comparer.{Marks}
use borrow.Author.Tests.{lt-leb, le-leb}
use lib.ListN.{get_or-eq_default}
use Rattle.comparison.proofs.Compare.{past_byte, kind_not_past, length_not_past, length_meant, meant_kind, meant_length, same_true, same_refl}
use Rattle.comparison.specs.Compare.{field_of, meant, is_past, same_bytes}
use Rattle.lists.specs.Tests.{split, clash, and-false}
use Rattle.session_log.specs.Record.{byte_at, kind_of}

-- a kind with no length
pub no_length : (kind : ℕ) → kind ≢ 4 → kind ≢ 9 → kind ≢ 10 → field_of kind ≡ record { length_at = 0; size = 0 }
unfolding field_of
no_length kind a b c = rw (ne_eqb kind 4 a, ne_eqb kind 9 b, ne_eqb kind 10 c)

-- two records whose kinds and lengths are the same have the same bytes past their length
past_same : (l r : List ℕ) → kind_of l ≡ kind_of r → byte_at l (field_of (kind_of l)).length_at ≡ byte_at r (field_of (kind_of l)).length_at → (i : ℕ) → is_past l i ≡ is_past r i
past_same l r k n i =
    ap (λ (b : ℕ). let f = field_of (kind_of l) in leb (1 + f.length_at + b) i && ltb i (1 + f.length_at + f.size)) n
    ∙ ap (λ (x : ℕ). let f = field_of x in leb (1 + f.length_at + byte_at r f.length_at) i && ltb i (1 + f.length_at + f.size)) k

-- the bytes of two records that are not past a length are the same
abbrev pub SameBut : List ℕ → List ℕ → Type 0
SameBut l r = (j : ℕ) → j < length l → is_past l j ≡ false → byte_at l j ≡ byte_at r j

everywhere : (l r : List ℕ) → length l ≡ length r → SameBut l r → (j : ℕ) → is_past l j ≡ false → byte_at l j ≡ byte_at r j
everywhere l r e s j p =
    split (ltb j (length l))
    (λ k. s j (ltb-true j (length l) k) p)
    (λ k. let m = ltb-false j (length l) k in get_or-eq_default l 0 {n = j} m ∙ sym (get_or-eq_default r 0 {n = j} (omega arith)))

pub agree_all : (l r : List ℕ) → length l ≡ length r → SameBut l r → same_bytes (meant l) (meant r) ≡ true
agree_all l r e s =
    let same = everywhere l r e s in
    let k : kind_of l ≡ kind_of r = same 0 (kind_not_past l) in
    let n = same (field_of (kind_of l)).length_at (length_not_past l) in
    let m : meant l ≡ meant r = ext_get_or 0 (meant l) (meant r) (length_meant l ∙ e ∙ sym (length_meant r)) (λ j _.
    past_byte l j
    ∙ split (is_past l j)
    (λ p. rw (p, sym (past_same l r k n j) ∙ p))
    (λ p. rw (p, sym (past_same l r k n j) ∙ p) (same j p))
    ∙ sym (past_byte r j)) in
    ap (λ (x : List ℕ). same_bytes x (meant r)) m ∙ same_refl (meant r)

-- a byte of a record that is not past its length is meant
as_meant : (r : List ℕ) (i : ℕ) → is_past r i ≡ false → byte_at (meant r) i ≡ byte_at r i
as_meant r i p = past_byte r i ∙ ap (λ (b : Bool). cond b 0 (byte_at r i)) p

pub all_same : (l r : List ℕ) → same_bytes (meant l) (meant r) ≡ true → SameBut l r
all_same l r e j _ p =
    let m = same_true (meant l) (meant r) e in
    let k = meant_kind l r m in
    let at = (field_of (kind_of l)).length_at in
    let q : is_past r at ≡ false = rw k (length_not_past r) in
    let n : byte_at l at ≡ byte_at r at = sym (as_meant l at (length_not_past l)) ∙ ap (λ (x : List ℕ). byte_at x at) m ∙ as_meant r at q in
    sym (as_meant l j p) ∙ ap (λ (x : List ℕ). byte_at x j) m ∙ as_meant r j (sym (past_same l r k n j) ∙ p)

pub agree_length : (l r : List ℕ) → length l ≢ length r → same_bytes (meant l) (meant r) ≡ false
agree_length l r d = split (same_bytes (meant l) (meant r)) (λ e. absurd (d (meant_length l r (same_true (meant l) (meant r) e)))) (λ e. e)

-- a test that says whether these bytes are the same
agree_by : (l r : List ℕ) (b : Bool) → length l ≡ length r → (b ≡ true → SameBut l r) → (SameBut l r → b ≡ true) → b ≡ same_bytes (meant l) (meant r)
agree_by l r b e f g =
    split b
    (λ t. t ∙ sym (agree_all l r e (f t)))
    (λ t. split (same_bytes (meant l) (meant r)) (λ s. clash (g (all_same l r s)) t) (λ s. t ∙ sym s))

-- where no byte is past a length
pub agree_whole : (l r : List ℕ) (b : Bool) → length l ≡ length r → Marks l None → b ≡ pointwise eqb l r → b ≡ same_bytes (meant l) (meant r)
agree_whole l r b e m h =
    let d = slice_eq-Decides Decides-eqb l r b h in
    agree_by l r b e (λ t j _ _. ap (λ (x : List ℕ). byte_at x j) (d.0 t)) (λ s. d.1 (ext_get_or 0 l r e (λ i k. s i k (sym (m.marks i k)))))

-- the rest of a list, as the code lends it
pub rest : (a : List ℕ) (n : ℕ) → take (length a - n) (drop n a) ≡ drop n a
rest a n = take_all (length a - n) (drop n a) (omega (arith, length-drop n a))

-- the bytes before those past a length, and the bytes after them
module _ (l r : List ℕ) (p : Range ℕ) (e : length l ≡ length r) (m : Marks l (Some p)) where
  same_but : take p.start l ≡ take p.start r → drop p.end l ≡ drop p.end r → SameBut l r
  same_but a b j h q =
      split (ltb j p.start)
      (λ k. let t = ltb-true j p.start k in sym (get_or-take p.start l j 0 t) ∙ ap (λ (x : List ℕ). byte_at x j) a ∙ get_or-take p.start r j 0 t)
      (λ k. let t : leb p.start j ≡ true = le-leb p.start j (ltb-false j p.start k) in
      let u : ltb j p.end ≡ false = rw t at (m.marks j h ∙ q) in
      let v : p.end + (j - p.end) ≡ j = omega (arith, ltb-false j p.end u) in
      ap (byte_at l) (sym v) ∙ sym (get_or-drop p.end l (j - p.end) 0) ∙ ap (λ (x : List ℕ). byte_at x (j - p.end)) b ∙ get_or-drop p.end r (j - p.end) 0 ∙ ap (byte_at r) v)

  firsts : SameBut l r → take p.start l ≡ take p.start r
  firsts s = ext_get_or 0 (take p.start l) (take p.start r) (omega (arith, length-take p.start l, length-take p.start r)) (λ i h.
      let t : i < p.start = omega (arith, length-take p.start l) in
      let k : i < length l = omega (arith, length-take p.start l) in
      get_or-take p.start l i 0 t ∙ s i k (sym (m.marks i k) ∙ ap (λ (b : Bool). b && ltb i p.end) (lt-leb p.start i t)) ∙ sym (get_or-take p.start r i 0 t))

  lasts : SameBut l r → drop p.end l ≡ drop p.end r
  lasts s = ext_get_or 0 (drop p.end l) (drop p.end r) (omega (arith, length-drop p.end l, length-drop p.end r)) (λ i h.
      let k : p.end + i < length l = omega (arith, length-drop p.end l) in
      let t : ltb (p.end + i) p.end ≡ false = le-ltb (p.end + i) p.end (omega arith) in
      get_or-drop p.end l i 0 ∙ s (p.end + i) k (sym (m.marks (p.end + i) k) ∙ rw (t, and-false (leb p.start (p.end + i)))) ∙ sym (get_or-drop p.end r i 0))

  -- the first bytes are not the same
  pub agree_first : (b : Bool) → b ≡ pointwise eqb (take p.start l) (take p.start r) → b ≡ false → b ≡ same_bytes (meant l) (meant r)
  agree_first b h f =
      let d = slice_eq-Decides Decides-eqb (take p.start l) (take p.start r) b h in
      agree_by l r b e (λ t. clash t f) (λ s. d.1 (firsts s))

  -- they are, and so it lies with the last
  pub agree_last : (a b : Bool) → a ≡ pointwise eqb (take p.start l) (take p.start r) → a ≡ true
      → b ≡ pointwise eqb (take (length l - p.end) (drop p.end l)) (take (length r - p.end) (drop p.end r)) → b ≡ same_bytes (meant l) (meant r)
  agree_last a b g t h =
      let c = slice_eq-Decides Decides-eqb (take p.start l) (take p.start r) a g in
      let d = slice_eq-Decides Decides-eqb (drop p.end l) (drop p.end r) b (h ∙ ap₂ (pointwise eqb) (rest l p.end) (rest r p.end)) in
      agree_by l r b e (λ u. same_but (c.0 t) (d.0 u)) (λ s. d.1 (lasts s))
