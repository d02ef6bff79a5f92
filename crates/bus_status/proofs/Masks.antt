-- The masks on a status byte are the bit tests of the rules: one computed test over all 256 values.
-- Assumes nothing.
use Prim.Native.Nat.{ℕ, ◌<◌}
use mathlib.Core.Bool.{Bool, true, ◌&&◌, not}
use mathlib.Core.Path.{◌≡◌, refl}
use lib.Bits.{bit_and}
use lib.Dec.{eqb}
use Rattle.std.specs.Int.Count.{ones}
use Rattle.std.specs.Prelude.{count_ones}
use borrow.Author.Tests.{eqb-true}
use Rattle.lists.specs.Below.{all_below, below, agree, agreed}
use Rattle.lists.specs.Tests.{split, both}
use Rattle.bus_status.specs.Counted.{is_counted_bit}
use Rattle.rules.specs.BusResult.{is_final}
use Rattle.rules.specs.Handles.{has_bit}

-- one bit of the mask of the four ends, as the code has it
abbrev pub ends_in : ℕ → Bool
ends_in n = eqb (count_ones (bit_and n 225)) 1

abbrev pub is_set : ℕ → ℕ → Bool
is_set b n = not (eqb (bit_and n b) 0)

-- all that the code tests of a status
abbrev right : ℕ → Bool
right n =
    agree (ends_in n) (is_final n)
    && agree (is_set 1 n) (has_bit 1 n)
    && agree (is_set 2 n) (has_bit 2 n)
    && agree (is_set 4 n) (has_bit 4 n)
    && agree (is_set 8 n) (has_bit 8 n)
    && agree (is_set 16 n) (has_bit 16 n)

all_right : all_below right 256 ≡ true
unfolding is_final ones
all_right = refl

-- what the test says of one status
pub record Right (n : ℕ) : Type 0 where
  pub final : ends_in n ≡ is_final n
  pub ok : is_set 1 n ≡ has_bit 1 n
  pub arb_lost : is_set 2 n ≡ has_bit 2 n
  pub nack : is_set 4 n ≡ has_bit 4 n
  pub low_drive : is_set 8 n ≡ has_bit 8 n
  pub error : is_set 16 n ≡ has_bit 16 n

pub masks : (n : ℕ) → n < 256 → Right n
masks n h =
    let a = both _ (agree (is_set 16 n) (has_bit 16 n)) (below right 256 all_right n h) in
    let b = both _ (agree (is_set 8 n) (has_bit 8 n)) a.0 in
    let c = both _ (agree (is_set 4 n) (has_bit 4 n)) b.0 in
    let d = both _ (agree (is_set 2 n) (has_bit 2 n)) c.0 in
    let e = both (agree (ends_in n) (is_final n)) (agree (is_set 1 n) (has_bit 1 n)) d.0 in
    record {
      final = agreed (ends_in n) (is_final n) e.0;
      ok = agreed (is_set 1 n) (has_bit 1 n) e.1;
      arb_lost = agreed (is_set 2 n) (has_bit 2 n) d.1;
      nack = agreed (is_set 4 n) (has_bit 4 n) c.1;
      low_drive = agreed (is_set 8 n) (has_bit 8 n) b.1;
      error = agreed (is_set 16 n) (has_bit 16 n) a.1;
    }

-- for each bit that has a count
pub counted : (n b : ℕ) → n < 256 → is_counted_bit b ≡ true → is_set b n ≡ has_bit b n
counted n b h e =
    let m = masks n h in
    split (eqb b 2)
    (λ q. rw (eqb-true b 2 q) m.arb_lost)
    (λ p. split (eqb b 4)
    (λ q. rw (eqb-true b 4 q) m.nack)
    (λ r. split (eqb b 8)
    (λ q. rw (eqb-true b 8 q) m.low_drive)
    (λ t. rw (eqb-true b 16 (rw (p, r, t) at e)) m.error)))
