-- Texts in a lent buffer, one after the other.
-- Assumes nothing.
use Rattle.std.proofs.Common.{ℕ, ◌+◌, ◌≤◌, ◌<◌, List, [], ◌∷◌, ◌++◌, append_assoc, ◌≡◌, refl, sym, ap, ◌∙◌, arith, length, take, drop, slice_set as set, get_or, length-append, length-drop, add-one, take-suc}
use Rattle.std.proofs.lemmas.List.{append-nil, length-take, take-append-drop, set_split, take_at, drop_at, drop-drop}
use Rattle.session_log.specs.Text.{decimal, blanked, line_of}
use Rattle.text.specs.Line.{PutAt, LineAt}

pub stored : (out : List ℕ) (at b : ℕ) → at < length out → PutAt out at (b ∷ []) (at + 1) (set out at b)
stored out at b h = record { place = refl; room = omega arith; bytes = rw (add-one at) (set_split out at b h) }

-- what stands before the end of a text, and what after it
head_long : {out : List ℕ} {at : ℕ} {text : List ℕ} {end : ℕ} {out' : List ℕ} → PutAt out at text end out' → length (take at out ++ text) ≡ end
head_long {out} {at} {text} p = length-append (take at out) text ∙ omega (arith, p.place, p.room, length-take at out)

pub split_at : {out : List ℕ} {at : ℕ} {text : List ℕ} {end : ℕ} {out' : List ℕ} → PutAt out at text end out'
    → (take end out' ≡ take at out ++ text) × (drop end out' ≡ drop end out)
split_at {out} {at} {text} {end} p =
    let b = p.bytes ∙ sym (append_assoc (take at out) text (drop end out)) in
    (rw b (take_at (take at out ++ text) (drop end out) end (head_long p)), rw b (drop_at (take at out ++ text) (drop end out) end (head_long p)))

pub put_long : {out : List ℕ} {at : ℕ} {text : List ℕ} {end : ℕ} {out' : List ℕ} → PutAt out at text end out' → length out' ≡ length out
put_long {out} {at} {text} {end} p = ap length p.bytes ∙ simp (length-append, length-take, length-drop) (omega (arith, p.place, p.room))

-- a text after a text
pub joined : {out : List ℕ} {at : ℕ} {a : List ℕ} {mid : ℕ} {out' b : List ℕ} {end : ℕ} {out'' : List ℕ}
    → PutAt out at a mid out' → PutAt out' mid b end out'' → PutAt out at (a ++ b) end out''
joined {out} {at} {a} {mid} {out'} {b} {end} p q =
    let s = split_at p in
    let d : drop end out' ≡ drop end out = rw q.place (sym (drop-drop (length b) mid out') ∙ ap (drop (length b)) s.1 ∙ drop-drop (length b) mid out) in
    record {
      place = omega (arith, p.place, q.place, length-append a b);
      room = omega (arith, q.room, put_long p);
      bytes = q.bytes ∙ rw (s.0, d) (append_assoc (take at out) a (b ++ drop end out) ∙ ap (λ (l : List ℕ). take at out ++ l) (sym (append_assoc a b (drop end out))));
    }

pub put_none : (out : List ℕ) (at : ℕ) → at ≤ length out → PutAt out at [] at out
put_none out at h = record { place = omega arith; room = h; bytes = sym (take-append-drop at out) }

pub spelt : {out : List ℕ} {at : ℕ} {text text' : List ℕ} {end : ℕ} {out' : List ℕ} → text ≡ text' → PutAt out at text end out' → PutAt out at text' end out'
spelt e p = rw (← e) p

-- a buffer that has room for the longest line
pub a_line : {out : List ℕ} {at : ℕ} {text : List ℕ} {end : ℕ} {out' : List ℕ} → at + 29 ≤ length out → PutAt out at text end out' → LineAt out at text end out'
a_line h p = record { fits = λ _. p; short = λ s. absurd (omega arith) }

-- the texts that the functions put one after the other
pub number_put : {out : List ℕ} {at mid : ℕ} {out' : List ℕ} {end : ℕ} {out'' : List ℕ} (n : ℕ)
    → PutAt out at (32 ∷ []) mid out' → PutAt out' mid (decimal n) end out'' → PutAt out at (blanked (n ∷ [])) end out''
number_put n p q = spelt (rw (append-nil (decimal n))) (joined p q)

pub whole_line : (kind : ℕ) (numbers : List ℕ) → (decimal kind ++ blanked numbers) ++ (10 ∷ []) ≡ line_of kind numbers
whole_line kind numbers = append_assoc (decimal kind) (blanked numbers) (10 ∷ [])

-- one number more
blanked_append : (xs ys : List ℕ) → blanked (xs ++ ys) ≡ blanked xs ++ blanked ys
blanked_append [] ys = refl
blanked_append (x ∷ xs) ys = ap (λ (l : List ℕ). 32 ∷ l) (rw (blanked_append xs ys) (sym (append_assoc (decimal x) (blanked xs) (blanked ys))))

blanked_next : (ns : List ℕ) (i : ℕ) → i < length ns → blanked (take (i + 1) ns) ≡ blanked (take i ns) ++ blanked (get_or ns i 0 ∷ [])
blanked_next ns i h = rw (add-one i, take-suc ns i 0 h) (blanked_append (take i ns) (get_or ns i 0 ∷ []))

blanked_up_to : (ns : List ℕ) (i : ℕ) → length (blanked (take i ns)) ≤ length (blanked ns)
blanked_up_to ns i =
    omega (arith, ap length (blanked_append (take i ns) (drop i ns)), ap (λ (l : List ℕ). length (blanked l)) (take-append-drop i ns), length-append (blanked (take i ns)) (blanked (drop i ns)))

-- there is room for the next number
pub next_fits : (ns : List ℕ) (i : ℕ) → i < length ns → length (blanked (take i ns)) + 1 + length (decimal (get_or ns i 0)) ≤ length (blanked ns)
next_fits ns i h =
    let n = get_or ns i 0 in
    omega (arith, blanked_up_to ns (i + 1), ap length (blanked_next ns i h), length-append (blanked (take i ns)) (blanked (n ∷ [])), length-append (decimal n) [])

pub next_put : {out : List ℕ} {at i mid : ℕ} {out' : List ℕ} {end : ℕ} {out'' : List ℕ} (ns : List ℕ) → i < length ns
    → PutAt out at (blanked (take i ns)) mid out' → PutAt out' mid (blanked (get_or ns i 0 ∷ [])) end out'' → PutAt out at (blanked (take (i + 1) ns)) end out''
next_put {out} {at} {i} ns h p q = spelt (sym (blanked_next ns i h)) (joined p q)
