-- The bytes of a message of a length and 16 bytes, one by one.
-- Assumes nothing.
use Prim.Native.Nat.{ℕ, ◌+◌, ◌-◌, ◌≤◌, ◌<◌, min}
use mathlib.Core.List.{List}
use mathlib.Core.Path.{◌≡◌, ◌∙◌}
use native.Mathlib.Omega.{arith}
use lib.ListN.{length, get_or, take, replicate, length-take, get_or-append}
use lib.Seq.{get_or-take, get_or-append-add}
use Rattle.lists.specs.Elements.{get_d_replicated}
use Rattle.message.specs.Message.{message}

pub sent_past : (n i : ℕ) (bs : List ℕ) → length bs ≡ 16 → min n 16 ≤ i → get_or (message n bs).bytes i 0 ≡ 0
unfolding message
sent_past n i bs e h =
    let m = min n 16 in
    let at : length (take m bs) + (i - m) ≡ i = omega (arith, length-take m bs) in
    rw (← at) (get_or-append-add (take m bs) (replicate (16 - m) 0) (i - m) 0 ∙ get_d_replicated (16 - m) (i - m) 0)

pub sent_within : (n i : ℕ) (bs : List ℕ) → length bs ≡ 16 → i < min n 16 → get_or (message n bs).bytes i 0 ≡ get_or bs i 0
unfolding message
sent_within n i bs e h =
    let m = min n 16 in
    get_or-append (take m bs) (replicate (16 - m) 0) 0 i (omega (arith, length-take m bs)) ∙ get_or-take m bs i 0 h
