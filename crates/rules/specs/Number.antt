-- The sequence number that a transmit is given (document 01, "Transmit: checks in this order").
-- Assumes nothing.
use Rattle.std.specs.Prelude.{ℕ, zero, suc, ◌+◌, ◌%◌, Bool, cond, List, length}
use Rattle.rules.specs.Owed.{pending, is_taken}
use Rattle.rules.specs.State.{State}
use Rattle.transmission.specs.declared.Transmission.{Transmission}
use Rattle.wait.specs.declared.Wait.{Wait}

abbrev pub greatest : ℕ
greatest = 4294967295

-- the k-th number after the last, counted from 0: "wrapping from 4,294,967,295 to 1, skipping 0"
abbrev pub candidate : ℕ → ℕ → ℕ
candidate last k = 1 + (last + k) % greatest

-- the first candidate from the k-th on that is not live, within some more tries
abbrev pub first_free : (ℕ → Bool) → ℕ → ℕ → ℕ → ℕ
first_free live last zero k = candidate last k
first_free live last (suc more) k =
    let later = first_free live last more (suc k) in
    cond (live (candidate last k)) later (candidate last k)

-- "the next after the last one given, .. skipping .. every number still queued, on the wire or waiting": found within as many tries as there are such, and one more
unfoldable pub sequence_after : List Transmission → List Wait → ℕ → ℕ
sequence_after ts ws last = first_free (is_taken ts ws) last (length ts + length ws) 0

abbrev pub next_sequence : State → ℕ
next_sequence s = sequence_after (pending s) s.waits s.last
