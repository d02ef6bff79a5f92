-- The lines of a replay (document 02, W-201): "One line per record: kind and errno, in decimal, 0 for success; a received entry adds sequence, tx, rx, length."
-- A line is the list of its bytes in ASCII: single blanks, and a newline at its end.
-- Assumes nothing.
use Rattle.std.specs.Prelude.{ℕ, zero, suc, ◌+◌, ◌/◌, ◌%◌, cond, List, [], ◌∷◌, ◌++◌, ltb}
use Rattle.rules.specs.Call.{Answer, refused, done, opened, accepted, received, started, listed, address}

-- the last k digits of a number, with no zero in front
abbrev pub digits : ℕ → ℕ → List ℕ
digits zero n = []
digits (suc k) n = cond (ltb n 10) ((48 + n) ∷ []) (digits k (n / 10) ++ ((48 + n % 10) ∷ []))

-- a number in decimal: 20 digits hold every number of 64 bits
unfoldable pub decimal : ℕ → List ℕ
decimal n = digits 20 n

-- numbers, a blank before each
abbrev pub blanked : List ℕ → List ℕ
blanked [] = []
blanked (n ∷ ns) = 32 ∷ (decimal n ++ blanked ns)

-- what an answer adds to the kind: its errno, "0 for success; a received entry adds sequence, tx, rx, length"
abbrev pub numbers_of : Answer → List ℕ
numbers_of (refused errno) = errno ∷ []
numbers_of done = 0 ∷ []
numbers_of (opened h) = 0 ∷ []
numbers_of (accepted n tx) = 0 ∷ []
numbers_of (received e) = 0 ∷ e.sequence ∷ e.tx_status ∷ e.rx_status ∷ e.message.length ∷ []
numbers_of (started m) = 0 ∷ []
numbers_of (listed rows) = 0 ∷ []
numbers_of (address a) = 0 ∷ []

abbrev pub line_of : ℕ → List ℕ → List ℕ
line_of kind numbers = decimal kind ++ (blanked numbers ++ (10 ∷ []))

-- "An unknown kind prints `bad` and its offset"
abbrev pub bad_line : ℕ → List ℕ
bad_line place = 98 ∷ 97 ∷ 100 ∷ (blanked (place ∷ []) ++ (10 ∷ []))

-- "a cut record at the end prints `cut` and its offset"
abbrev pub cut_line : ℕ → List ℕ
cut_line place = 99 ∷ 117 ∷ 116 ∷ (blanked (place ∷ []) ++ (10 ∷ []))

-- no line is longer: an entry with the widest numbers, the kind a byte and its errno 0
abbrev pub line_max : ℕ
line_max = 29
