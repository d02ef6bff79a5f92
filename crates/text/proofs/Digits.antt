-- The digits of a number in decimal: how many there are, and all but the last.
-- Assumes nothing.
use Rattle.std.proofs.Common.{ℕ, zero, suc, ◌+◌, ◌/◌, ◌%◌, ◌^◌, ◌≤◌, ◌<◌, List, [], ◌∷◌, ◌++◌, ◌≡◌, ap, ◌∙◌, arith, ltb, length, length-append, lt-ltb, le-ltb}
use Rattle.std.proofs.lemmas.List.{append-nil}
use Rattle.lists.specs.Tests.{split}
use Rattle.session_log.specs.Text.{digits, decimal, blanked}

-- a number below 10 ^ (j + 1) has at most j + 1 digits
pub digits_le : (k j n : ℕ) → n < 10 ^ suc j → length (digits k n) ≤ suc j
digits_le zero j n h = omega arith
digits_le (suc k) zero n h = rw (lt-ltb n 10 (omega arith)) (omega arith)
digits_le (suc k) (suc j) n h =
    let i = digits_le k j (n / 10) (omega arith) in
    split (ltb n 10)
    (λ e. rw e (omega arith))
    (λ e. rw (e, length-append (digits k (n / 10)) ((48 + n % 10) ∷ [])) (omega arith))

-- no more digits than are asked for
digits_most : (k n : ℕ) → length (digits k n) ≤ k
digits_most zero n = omega arith
digits_most (suc k) n =
    let i = digits_most k (n / 10) in
    split (ltb n 10)
    (λ e. rw e (omega arith))
    (λ e. rw (e, length-append (digits k (n / 10)) ((48 + n % 10) ∷ [])) (omega arith))

-- more places than it has digits make no difference
pub digits_more : (k n : ℕ) → n < 10 ^ suc k → digits (suc k) n ≡ digits (suc (suc k)) n
digits_more zero n h = rw (lt-ltb n 10 (omega arith))
digits_more (suc k) n h =
    let i = digits_more k (n / 10) (omega arith) in
    split (ltb n 10)
    (λ e. rw e)
    (λ e. rw e (ap (λ (l : List ℕ). l ++ ((48 + n % 10) ∷ [])) i))

pub decimal_one : (n : ℕ) → n < 10 → decimal n ≡ (48 + n) ∷ []
unfolding decimal
decimal_one n h = rw (lt-ltb n 10 h)

pub decimal_next : (n : ℕ) → 10 ≤ n → n < 2 ^ 64 → decimal n ≡ decimal (n / 10) ++ ((48 + n % 10) ∷ [])
unfolding decimal
decimal_next n h g = rw (le-ltb n 10 h) (ap (λ (l : List ℕ). l ++ ((48 + n % 10) ∷ [])) (digits_more 18 (n / 10) (omega arith)))

pub length_next : (n : ℕ) → 10 ≤ n → n < 2 ^ 64 → length (decimal n) ≡ length (decimal (n / 10)) + 1
length_next n h g = ap length (decimal_next n h g) ∙ length-append (decimal (n / 10)) ((48 + n % 10) ∷ [])

-- the digits of a byte, of a number of 32 bits, and of any number
pub decimal_8 : (n : ℕ) → n < 2 ^ 8 → length (decimal n) ≤ 3
unfolding decimal
decimal_8 n h = digits_le 20 2 n (omega arith)

pub decimal_32 : (n : ℕ) → n < 2 ^ 32 → length (decimal n) ≤ 10
unfolding decimal
decimal_32 n h = digits_le 20 9 n (omega arith)

pub decimal_most : (n : ℕ) → length (decimal n) ≤ 20
unfolding decimal
decimal_most n = digits_most 20 n

-- the same of the last of some numbers that stand one after the other
pub last_most : (n : ℕ) → length (decimal n ++ []) ≤ 20
last_most n = rw (append-nil (decimal n)) (decimal_most n)

pub last_32 : (n : ℕ) → n < 2 ^ 32 → length (decimal n ++ []) ≤ 10
last_32 n h = rw (append-nil (decimal n)) (decimal_32 n h)

-- the numbers of an entry
pub entry_most : (sequence tx rx n : ℕ) → sequence < 2 ^ 32 → tx < 2 ^ 8 → rx < 2 ^ 8 → n < 2 ^ 8 → length (blanked (0 ∷ sequence ∷ tx ∷ rx ∷ n ∷ [])) ≤ 25
entry_most sequence tx rx n s t r l =
    rw (decimal_one 0 (omega arith))
    (simp (length-append, append-nil) (omega (arith, decimal_32 sequence s, decimal_8 tx t, decimal_8 rx r, decimal_8 n l)))
