-- The search for a number, turn by turn, and what is pending as the parts have it.
-- Assumes nothing.
use Prim.Native.Nat.{ℕ, suc, ◌+◌, ◌-◌, ◌<◌}
use mathlib.Core.Bool.{Bool, true}
use mathlib.Core.List.{List, ◌++◌}
use mathlib.Core.Path.{◌≡◌}
use native.Mathlib.Numerals.{add-one}
use native.Mathlib.Omega.{arith}
use lib.ListN.{length, length-append}
use Rattle.rules.specs.Number.{candidate, first_free, sequence_after}
use Rattle.rules.specs.Owed.{is_taken}
use Rattle.transmission.specs.declared.Owed.{Owed}
use Rattle.transmission.specs.declared.Transmission.{Transmission}
use Rattle.wait.specs.declared.Wait.{Wait}

pub candidate_next : (last k : ℕ) → candidate (candidate last k) 0 ≡ candidate last (k + 1)
candidate_next last k = omega arith

module _ (live : ℕ → Bool) (last : ℕ) where
  -- a live one is passed
  pub search_on : (tries k : ℕ) → k < tries → live (candidate last k) ≡ true → first_free live last (tries - k) k ≡ first_free live last (tries - (k + 1)) (k + 1)
  search_on tries k h e =
      let q : tries - k ≡ suc (tries - (k + 1)) = omega arith in
      rw (q, e, add-one)

-- the search begins with as many tries as there are numbers
pub search_start : (wire queue : List Transmission) (ws : List Wait) (last w q n : ℕ) → w ≡ length wire → q ≡ length queue → n ≡ length ws
    → sequence_after (wire ++ queue) ws last ≡ first_free (is_taken (wire ++ queue) ws) last (w + q + n - 0) 0
unfolding sequence_after
search_start wire queue ws last w q n a b c =
    let e : w + q + n - 0 ≡ length (wire ++ queue) + length ws = omega (arith, length-append wire queue) in
    rw e

abbrev pub room_in : Owed → ℕ
room_in o = o.room

abbrev pub replies_in : Owed → ℕ
replies_in o = o.replies
