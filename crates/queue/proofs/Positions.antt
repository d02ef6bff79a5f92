-- Positions that run on and wrap, and the places of those.
-- Assumes nothing.
use Rattle.std.proofs.Common.{◌≡◌, ℕ, suc, ◌+◌, ◌-◌, ◌%◌, ◌<◌, ◌≢◌, sym, ap, ◌∙◌, arith}
use Rattle.queue.specs.Queue.{onward, place, distance}

-- the code's difference
pub distance_is : (head tail n : ℕ) → n < 4294967296 → (n + head) % 4294967296 ≡ tail → n ≡ distance head tail
distance_is head tail n h e = omega arith

pub distance_none : (p : ℕ) → distance p p ≡ 0
distance_none p = omega arith

-- the tail goes on
pub distance_more : (head tail : ℕ) → distance head tail < 18 → distance head (onward tail 1) ≡ suc (distance head tail)
distance_more head tail h = omega arith

pub distance_onward : (p n : ℕ) → n < 18 → distance p (onward p n) ≡ n
distance_onward p n h = omega arith

pub onward_next : (p n : ℕ) → onward (onward p 1) n ≡ onward p (suc n)
onward_next p n = omega arith

place_wraps : (p : ℕ) → place (p % 4294967296) ≡ place p
place_wraps p = omega arith

pub place_here : (p : ℕ) → place (onward p 0) ≡ place p
place_here p = omega arith

onward_distance : (head tail : ℕ) → onward head (distance head tail) ≡ tail % 4294967296
onward_distance head tail = omega arith

-- the tail's place is the one after those queued
pub place_tail : (head tail : ℕ) → place tail ≡ place (onward head (distance head tail))
place_tail head tail = sym (ap place (onward_distance head tail) ∙ place_wraps tail)

-- no two of 32 positions in a row share a place
pub place_other : (p n m : ℕ) → n < m → m < 32 → place (onward p n) ≢ place (onward p m)
place_other p n m a b e = omega arith

-- where those after the head end
pub onward_end : (head tail n : ℕ) → tail < 4294967296 → n ≡ distance head tail → n ≢ 0 → onward (onward head 1) (n - 1) ≡ tail
onward_end head tail n h e z = omega arith
