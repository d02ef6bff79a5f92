-- The copy that gathers a record: how many bytes of a portion it takes, and the record that it gives.
-- Assumes nothing.
use Rattle.std.proofs.Common.{◌≡◌, ℕ, suc, ◌+◌, ◌-◌, ◌<◌, ◌≤◌, min, true, false, ltb, List, [], ◌∷◌, ◌++◌, length, get_or, take, sym, refl, ap, ◌∙◌, ap₂, append-nil, arith, length-append, length-take, length-take-le, take_all, get_or-take, ltb-false, ltb-true, le-ltb, lt-ltb, le-leb}
use Rattle.std.proofs.Math.ListN.{get_or-append}
use Rattle.std.proofs.Math.Seq.{append_snoc}
use Rattle.std.proofs.lemmas.Bool.{lt-leb}
use Rattle.lists.specs.Elements.{take_taken}
use Rattle.lists.specs.Tests.{split}
use Rattle.lists.specs.Vector.{put}
use Rattle.reading.proofs.Whole.{body_most}
use Rattle.reading.specs.Gather.{gather, gathered}
use Rattle.session_log.specs.Record.{body_length, kind_of}
use Rattle.reading.specs.Reading.{is_whole}
use Rattle.reader.specs.Cursor.{at_most28}

pub take_28 : (n : ℕ) (l : List ℕ) → length l ≡ 28 → take (at_most28 n) l ≡ take n l
take_28 n l e = split (ltb n 28)
    (λ p. let m : min n 28 ≡ n = omega (arith, ltb-true n 28 p) in rw m)
    (λ p. let m : min n 28 ≡ 28 = omega (arith, ltb-false n 28 p) in rw (m, take_all 28 l (omega arith), take_all n l (omega (arith, ltb-false n 28 p))))

-- how many bytes the record lacks that has begun with h and goes on with bs; one at least
abbrev lacks : List ℕ → List ℕ → ℕ
lacks h bs = suc (body_length (kind_of (h ++ bs)) - length h)

same_kind : (h : List ℕ) (b : ℕ) (bs : List ℕ) → kind_of (h ++ (b ∷ [])) ≡ kind_of (h ++ (b ∷ bs))
same_kind [] b bs = refl
same_kind (x ∷ h) b bs = refl

-- with room for a byte, all that the record lacks is gathered
gather_is : (h bs : List ℕ) → length h < 28 → (gather h bs ≡ h ++ take (lacks h bs) bs) × (gathered h bs ≡ length (take (lacks h bs) bs))
gather_is h [] l = (sym (append-nil h), refl)
gather_is h (b ∷ bs) l =
    let body = body_length (kind_of (h ++ (b ∷ bs))) in
    let p : put 28 h b ≡ h ++ (b ∷ []) = rw (lt-ltb (length h) 28 l) in
    let n = length-append h (b ∷ []) in
    let m = body_most (kind_of (h ++ (b ∷ bs))) in
    let i = gather_is (h ++ (b ∷ [])) bs in
    split (ltb (length h) body)
    (λ t. let s = ltb-true (length h) body t in
    let w : is_whole (h ++ (b ∷ [])) ≡ false = rw (same_kind h b bs) (lt-leb (1 + body) (length (h ++ (b ∷ []))) (omega arith)) in
    let d : lacks (h ++ (b ∷ [])) bs ≡ body - length h = rw (append_snoc h b bs) (omega arith) in
    let j = i (omega arith) in
    rw (p, w) (j.0 ∙ ap (λ (k : ℕ). (h ++ (b ∷ [])) ++ take k bs) d ∙ append_snoc h b (take (body - length h) bs), ap suc (j.1 ∙ ap (λ (k : ℕ). length (take k bs)) d)))
    (λ t. let s = ltb-false (length h) body t in
    let w : is_whole (h ++ (b ∷ [])) ≡ true = rw (same_kind h b bs) (le-leb (1 + body) (length (h ++ (b ∷ []))) (omega arith)) in
    let d : body - length h ≡ 0 = omega arith in
    rw (p, w, d) (refl, refl))

-- a full record takes a byte and stays
pub gather_full : (h bs : List ℕ) → length h ≡ 28 → 1 ≤ length bs → (gather h bs ≡ h) × (gathered h bs ≡ 1)
gather_full h [] e l = absurd (omega arith)
gather_full h (b ∷ bs) e l =
    let p : put 28 h b ≡ h = rw (le-ltb (length h) 28 (omega arith)) in
    let w : is_whole h ≡ true = le-leb (1 + body_length (kind_of h)) (length h) (omega (arith, body_most (kind_of h))) in
    rw (p, w) (refl, refl)

-- the kind is the first byte that has come, or else that comes
pub kind_new : (bytes portion : List ℕ) (count : ℕ) → count ≡ 0 → get_or portion 0 0 ≡ kind_of (take count bytes ++ portion)
kind_new bytes portion count e = rw e

pub kind_old : (bytes portion : List ℕ) (count : ℕ) → count ≤ length bytes → 0 < count → get_or bytes 0 0 ≡ kind_of (take count bytes ++ portion)
kind_old bytes portion count e h =
    sym (get_or-append (take count bytes) portion 0 0 (omega (arith, length-take count bytes)) ∙ get_or-take count bytes 0 0 h)

-- as many bytes as the record lacks, or as there are
copied : (bytes portion : List ℕ) (count kind n : ℕ) → length bytes ≡ 28 → count < 28 → kind ≡ kind_of (take count bytes ++ portion)
    → n ≡ length (take (suc (body_length kind - count)) portion)
    → (gather (take count bytes) portion ≡ take count bytes ++ take n portion) × (gathered (take count bytes) portion ≡ n)
copied bytes portion count kind n e l k q =
    let h : length (take count bytes) ≡ count = length-take-le count bytes (omega arith) in
    let i = gather_is (take count bytes) portion (omega arith) in
    let d : lacks (take count bytes) portion ≡ suc (body_length kind - count) = ap₂ (λ (x y : ℕ). suc (body_length x - y)) (sym k) h in
    let t : take (lacks (take count bytes) portion) portion ≡ take n portion = ap (λ (m : ℕ). take m portion) d ∙ sym (take_taken (suc (body_length kind - count)) n portion q) in
    let w : n ≤ length portion = omega (arith, length-take (suc (body_length kind - count)) portion) in
    (i.0 ∙ ap (λ (l : List ℕ). take count bytes ++ l) t, i.1 ∙ ap length t ∙ length-take-le n portion w)

-- the code's copy, with no room for a byte, and with some
pub filled_none : (bytes portion : List ℕ) (m : ℕ) → length bytes ≡ 28 → 1 ≤ length portion → at_most28 m ≡ 28
    → (gather (take m bytes) portion ≡ take (at_most28 m + 1) bytes) × (gathered (take m bytes) portion ≡ 1)
filled_none bytes portion m e l h =
    let u : take m bytes ≡ bytes = sym (take_28 m bytes e) ∙ rw h (take_all 28 bytes (omega arith)) in
    let g = gather_full bytes portion e l in
    rw (u, h) (g.0 ∙ sym (take_all 29 bytes (omega arith)), g.1)

pub filled : (bytes portion : List ℕ) (m count kind lack n : ℕ) (bytes' : List ℕ) → length bytes ≡ 28 → count ≡ at_most28 m → count < 28
    → kind ≡ kind_of (take count bytes ++ portion) → lack ≡ suc (body_length kind - count) → n ≡ min lack (length portion)
    → take (count + n) bytes' ≡ take count bytes ++ take n portion
    → (gather (take m bytes) portion ≡ take (at_most28 m + n) bytes') × (gathered (take m bytes) portion ≡ n)
filled bytes portion m count kind lack n bytes' e h l k d q p =
    let t : take count bytes ≡ take m bytes = rw h (take_28 m bytes e) in
    let long : n ≡ length (take (suc (body_length kind - count)) portion) = q ∙ sym (length-take lack portion) ∙ ap (λ (x : ℕ). length (take x portion)) d in
    rw (← t, ← h, p) (copied bytes portion count kind n e l k long)
