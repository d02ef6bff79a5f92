-- What is gathered where the bytes hold a whole record, and where they end before it is whole.
-- Assumes nothing.
use Prim.Native.Nat.{ℕ, zero, suc, ◌+◌, ◌≤◌, ◌<◌}
use mathlib.Core.List.{List, [], ◌∷◌, ◌++◌, append_assoc, append-nil}
use mathlib.Core.Path.{◌≡◌, refl, sym, ap, ◌∙◌}
use native.Mathlib.Omega.{arith}
use lib.Dec.{ltb, leb}
use lib.ListN.{length, take, length-append, get_or-eq_default}
use borrow.Author.Tests.{lt-ltb, ltb-true, ltb-false, le-leb, lt-leb, leb-true, leb-false}
use Rattle.lists.specs.Below.{below}
use Rattle.lists.specs.Tests.{split}
use Rattle.lists.specs.Vector.{put}
use Rattle.session_log.specs.Gather.{gather, gathered}
use Rattle.session_log.specs.Record.{body_length, body_lengths, kind_of}
use Rattle.session_log.specs.Session.{is_whole}
use Rattle.session_log.proofs.Gather.{put_kind, gather_whole, gather_part, length-put}

-- no body is longer than that of a transmit
pub body_most : (kind : ℕ) → body_length kind ≤ 27
unfolding body_length
body_most kind =
    split (ltb kind 12)
    (λ e. leb-true (body_length kind) 27 (below (λ k. leb (body_length k) 27) 12 refl kind (ltb-true kind 12 e)))
    (λ e. rw (get_or-eq_default body_lengths 0 {n = kind} (ltb-false kind 12 e)) (omega arith))

-- one byte more of a record that wants m more
module _ (g : List ℕ) (b m : ℕ) (p : 0 < length g) (e : m + length g ≡ 1 + body_length (kind_of g)) (h : 0 < m) where
  pub put_more : put 28 g b ≡ g ++ (b ∷ [])
  put_more = rw (lt-ltb (length g) 28 (omega (arith, body_most (kind_of g))))

  pub length_more : length (put 28 g b) ≡ length g + 1
  length_more = ap length put_more ∙ length-append g (b ∷ [])

  pub wants_more : (k : ℕ) → m ≡ suc k → k + length (put 28 g b) ≡ 1 + body_length (kind_of (put 28 g b))
  wants_more k q = ap (λ (n : ℕ). k + n) length_more ∙ omega arith ∙ ap (λ (x : ℕ). 1 + body_length x) (sym (put_kind g b p))

-- a record that has begun is whole after the m bytes that it wants
gather_full : (g bs : List ℕ) (m : ℕ) → 0 < length g → m + length g ≡ 1 + body_length (kind_of g) → 0 < m → m ≤ length bs
    → (gather g bs ≡ g ++ take m bs) × (gathered g bs ≡ m)
gather_full g [] m p e h l = absurd (omega arith)
gather_full g (b ∷ bs) zero p e h l = absurd (omega arith)
gather_full g (b ∷ bs) (suc zero) p e h l =
    let n = wants_more g b 1 p e h 0 refl in
    let w = gather_whole g b bs (le-leb (1 + body_length (kind_of (put 28 g b))) (length (put 28 g b)) (omega (arith, n))) in
    (w.0 ∙ put_more g b 1 p e h, w.1)
gather_full g (b ∷ bs) (suc (suc k)) p e h l =
    let n = wants_more g b (suc (suc k)) p e h (suc k) refl in
    let w = gather_part g b bs (lt-leb (1 + body_length (kind_of (put 28 g b))) (length (put 28 g b)) (omega (arith, n))) in
    let i = gather_full (put 28 g b) bs (suc k) (length-put g b) n (omega arith) (omega arith) in
    (w.0 ∙ i.0 ∙ ap (λ (x : List ℕ). x ++ take (suc k) bs) (put_more g b (suc (suc k)) p e h) ∙ append_assoc g (b ∷ []) (take (suc k) bs), w.1 ∙ ap suc i.1)

-- and holds all the bytes where they are fewer
gather_short : (g bs : List ℕ) (m : ℕ) → 0 < length g → m + length g ≡ 1 + body_length (kind_of g) → length bs < m
    → (gather g bs ≡ g ++ bs) × (gathered g bs ≡ length bs)
gather_short g [] m p e l = (sym (append-nil g), refl)
gather_short g (b ∷ bs) zero p e l = absurd (omega arith)
gather_short g (b ∷ bs) (suc k) p e l =
    let n = wants_more g b (suc k) p e (omega arith) k refl in
    let w = gather_part g b bs (lt-leb (1 + body_length (kind_of (put 28 g b))) (length (put 28 g b)) (omega (arith, n))) in
    let i = gather_short (put 28 g b) bs k (length-put g b) n (omega arith) in
    (w.0 ∙ i.0 ∙ ap (λ (x : List ℕ). x ++ bs) (put_more g b (suc k) p e (omega arith)) ∙ append_assoc g (b ∷ []) bs, w.1 ∙ ap suc i.1)

-- from the kind on
pub record_full : (kind : ℕ) (rest : List ℕ) → body_length kind ≤ length rest
    → (gather [] (kind ∷ rest) ≡ kind ∷ take (body_length kind) rest) × (gathered [] (kind ∷ rest) ≡ suc (body_length kind))
record_full kind rest l =
    split (is_whole (kind ∷ []))
    (λ e. let z : body_length kind ≡ 0 = omega (arith, leb-true (1 + body_length kind) 1 e) in
    let w = gather_whole [] kind rest e in
    (w.0 ∙ ap (λ (n : ℕ). kind ∷ take n rest) (sym z), w.1 ∙ ap suc (sym z)))
    (λ e. let z = leb-false (1 + body_length kind) 1 e in
    let w = gather_part [] kind rest e in
    let i = gather_full (kind ∷ []) rest (body_length kind) (omega arith) (omega arith) (omega arith) l in
    (w.0 ∙ i.0, w.1 ∙ ap suc i.1))

pub record_short : (kind : ℕ) (rest : List ℕ) → length rest < body_length kind
    → (gather [] (kind ∷ rest) ≡ kind ∷ rest) × (gathered [] (kind ∷ rest) ≡ suc (length rest))
record_short kind rest l =
    let w = gather_part [] kind rest (lt-leb (1 + body_length kind) 1 (omega arith)) in
    let i = gather_short (kind ∷ []) rest (body_length kind) (omega arith) (omega arith) l in
    (w.0 ∙ i.0, w.1 ∙ ap suc i.1)
