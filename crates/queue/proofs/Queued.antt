-- What is queued after each change of the ring.
-- Assumes nothing.
use Rattle.std.proofs.Common.{◌≡◌, ℕ, zero, suc, ◌+◌, ◌-◌, ◌<◌, ◌≤◌, min, Bool, true, false, ◌||◌, eqb, ltb, ◌≢◌, List, [], ◌∷◌, ◌++◌, map, length, get_or, drop, set, sym, refl, ap, ◌∙◌, ap₂, add-one, arith, length-set, get_or-set_other, get_or-set_same, ltb-false, ltb-true, eqb-true}
use lib.ListN.{get_or-eq_default}
use borrow.Author.Tests.{eqb-false}
use Rattle.lists.specs.Elements.{map-append, get_d_within}
use Rattle.lists.specs.Pigeonhole.{upto}
use Rattle.lists.specs.Sums.{sum, sum_append, any, any_append}
use Rattle.lists.specs.Tests.{split, or-true, or-false}
use Rattle.lists.specs.Vector.{put}
use Rattle.queue.proofs.Positions.{distance_none, distance_more, distance_onward, onward_next, place_here, place_tail, place_other}
use Rattle.queue.specs.Queue.{onward, place, distance, slot_at, length_of, queued_from, queue_of}
use Rattle.queue.specs.Ring.{ring_put, ring_take, closed_slots, ring_close, ring_at, ring_owed, numbered_in}
use Rattle.queue.specs.declared.Queue.{Queue}
use Rattle.transmission.specs.Transmission.{no_transmission, orphaned, room_for, reply_for, numbered, owed_by}
use Rattle.transmission.specs.declared.Transmission.{Transmission}

-- what the code reads at a place, whatever stands past an end
pub place_read : (l : List Transmission) (p n : ℕ) (d : Transmission) → length l ≡ 32 → get_or l (place (onward p n)) d ≡ slot_at l p n
place_read l p n d long = get_d_within l (place (onward p n)) d no_transmission (omega arith)

length_queued : (p n : ℕ) (l : List Transmission) → length (queued_from p n l) ≡ n
length_queued p zero l = refl
length_queued p (suc n) l = ap suc (length_queued (onward p 1) n l)

pub length_queue : (q : Queue) → length (queue_of q) ≡ length_of q
length_queue q = length_queued q.head (length_of q) q.slots

-- one more position
queued_last : (p n : ℕ) (l : List Transmission) → queued_from p (suc n) l ≡ queued_from p n l ++ (slot_at l p n ∷ [])
queued_last p zero l = rw (place_here p)
queued_last p (suc n) l = ap (λ (r : List Transmission). get_or l (place p) no_transmission ∷ r) (queued_last (onward p 1) n l ∙ rw (onward_next p n))

-- the one at a place among those queued
pub queued_at : (p n i : ℕ) (l : List Transmission) (d : Transmission) → i < n → get_or (queued_from p n l) i d ≡ slot_at l p i
queued_at p zero i l d h = absurd (omega arith)
queued_at p (suc n) zero l d h = rw (place_here p)
queued_at p (suc n) (suc i) l d h = queued_at (onward p 1) n i l d (omega arith) ∙ rw (onward_next p i)

-- a loop over what is queued adds up a weight, or looks for one that passes a test
queued_next : (p i : ℕ) (l : List Transmission) → queued_from p (i + 1) l ≡ queued_from p i l ++ (slot_at l p i ∷ [])
queued_next p i l = ap (λ (n : ℕ). queued_from p n l) (add-one i) ∙ queued_last p i l

pub queued_sum : (f : Transmission → ℕ) (p i : ℕ) (l : List Transmission) → sum f (queued_from p (i + 1) l) ≡ sum f (queued_from p i l) + f (slot_at l p i)
queued_sum f p i l = ap (sum f) (queued_next p i l) ∙ omega (arith, sum_append f (queued_from p i l) (slot_at l p i ∷ []))

pub queued_passed : (f : Transmission → Bool) (p i : ℕ) (l : List Transmission) → any f (queued_from p i l) ≡ false → f (slot_at l p i) ≡ false → any f (queued_from p (i + 1) l) ≡ false
queued_passed f p i l a b = ap (any f) (queued_next p i l) ∙ any_append f (queued_from p i l) (slot_at l p i ∷ []) ∙ rw (a, b)

pub queued_found : (f : Transmission → Bool) (p n i : ℕ) (l : List Transmission) → i < n → f (slot_at l p i) ≡ true → any f (queued_from p n l) ≡ true
queued_found f p zero i l h e = absurd (omega arith)
queued_found f p (suc n) zero l h e = rw (rw (place_here p) at e)
queued_found f p (suc n) (suc i) l h e = rw (queued_found f (onward p 1) n i l (omega arith) (rw (← onward_next p i) at e)) (or-true (f (get_or l (place p) no_transmission)))

-- what the ring answers is what is asked of the list
queued_upto : (f : Transmission → ℕ) (p n : ℕ) (l : List Transmission) → upto (λ i. f (slot_at l p i)) n ≡ sum f (queued_from p n l)
queued_upto f p zero l = refl
queued_upto f p (suc n) l =
    omega (arith, queued_upto f p n l, ap (sum f) (queued_last p n l) ∙ sum_append f (queued_from p n l) (slot_at l p n ∷ []))

pub at_ring : (q : Queue) (n : ℕ) → ring_at q n ≡ get_or (queue_of q) n no_transmission
at_ring q n =
    split (ltb n (length_of q))
    (λ e. rw e (sym (queued_at q.head (length_of q) n q.slots no_transmission (ltb-true n (length_of q) e))))
    (λ e. rw e (sym (get_or-eq_default (queue_of q) no_transmission {n = n} (omega (arith, length_queue q, ltb-false n (length_of q) e)))))

pub owed_ring : (q : Queue) (h : ℕ) → ring_owed q h ≡ owed_by h (queue_of q)
owed_ring q h = rw (queued_upto (room_for h) q.head (length_of q) q.slots, queued_upto (reply_for h) q.head (length_of q) q.slots)

numbered_ring : (q : Queue) (number n : ℕ) → numbered_in q number n ≡ any (numbered number) (queued_from q.head n q.slots)
numbered_ring q number zero = refl
numbered_ring q number (suc n) =
    let f = numbered number in
    let x = slot_at q.slots q.head n in
    let more = ap (any f) (queued_last q.head n q.slots) ∙ any_append f (queued_from q.head n q.slots) (x ∷ []) in
    rw (numbered_ring q number n) (sym (more ∙ ap (λ (b : Bool). any f (queued_from q.head n q.slots) || b) (or-false (f x))))

pub sequence_ring : (q : Queue) (number : ℕ) → numbered_in q number (length_of q) ≡ any (numbered number) (queue_of q)
sequence_ring q number = numbered_ring q number (length_of q)

-- a store at a later place
slot_other : (p n m : ℕ) (l : List Transmission) (t : Transmission) → n < m → m < 32 → slot_at (set l (place (onward p m)) t) p n ≡ slot_at l p n
slot_other p n m l t a b = get_or-set_other l (place (onward p m)) (place (onward p n)) t no_transmission (place_other p n m a b)

queued_other : (p n m : ℕ) (l : List Transmission) (t : Transmission) → n ≤ m → m < 32 → queued_from p n (set l (place (onward p m)) t) ≡ queued_from p n l
queued_other p zero m l t a b = refl
queued_other p (suc n) zero l t a b = absurd (omega arith)
queued_other p (suc n) (suc m) l t a b =
    let first = rw (place_here p) at (slot_other p 0 (suc m) l t (omega arith) b) in
    let rest = rw (onward_next p m) at (queued_other (onward p 1) n m l t (omega arith) (omega arith)) in
    ap₂ ◌∷◌ first rest

-- and at the next
queued_set : (p n : ℕ) (l : List Transmission) (t : Transmission) → length l ≡ 32 → n < 32 → queued_from p (suc n) (set l (place (onward p n)) t) ≡ queued_from p n l ++ (t ∷ [])
queued_set p n l t long h =
    queued_last p n (set l (place (onward p n)) t)
    ∙ rw (queued_other p n n l t (omega arith) h, get_or-set_same l (place (onward p n)) t no_transmission (omega arith))

-- put
pub put_ring : (q : Queue) (t : Transmission) → length q.slots ≡ 32 → queue_of (ring_put q t) ≡ put 18 (queue_of q) t
put_ring q t long =
    split (ltb (length_of q) 18)
    (λ e. let h : length_of q < 18 = ltb-true (length_of q) 18 e in
    let n : length_of q ≡ distance q.head q.tail = omega arith in
    let more : min (distance q.head (onward q.tail 1)) 18 ≡ suc (length_of q) = omega (arith, distance_more q.head q.tail (omega arith)) in
    let at : place q.tail ≡ place (onward q.head (length_of q)) = rw n (place_tail q.head q.tail) in
    rw (length_queue q, e, more, at) (queued_set q.head (length_of q) q.slots t long (omega arith)))
    (λ e. rw (length_queue q, e))

-- the head taken
queued_rest : (p n : ℕ) (l : List Transmission) → n ≢ 0 → queued_from (onward p 1) (n - 1) l ≡ drop 1 (queued_from p n l)
queued_rest p zero l h = absurd (h refl)
queued_rest p (suc n) l h = let e : suc n - 1 ≡ n = omega arith in rw e

pub take_ring : (q : Queue) → queue_of (ring_take q) ≡ drop 1 (queue_of q)
take_ring q =
    let m : ℕ = length_of q - 1 in
    let less : min (distance (onward q.head 1) (onward (onward q.head 1) m)) 18 ≡ m = omega (arith, distance_onward (onward q.head 1) m (omega arith)) in
    split (eqb (length_of q) 0)
    (λ e. let z : length_of q ≡ 0 = eqb-true (length_of q) 0 e in rw (e, z))
    (λ e. rw (e, less) (queued_rest q.head (length_of q) q.slots (eqb-false (length_of q) 0 e)))

-- a close
pub length_closed : (h p n : ℕ) (l : List Transmission) → length (closed_slots h p n l) ≡ length l
length_closed h p zero l = refl
length_closed h p (suc n) l = length-set (closed_slots h p n l) (place (onward p n)) _ ∙ length_closed h p n l

-- the code's loop goes on to the next slot
pub closed_next : (h p i : ℕ) (l : List Transmission) (d : Transmission) → length l ≡ 32
    → set (closed_slots h p i l) (place (onward p i)) (orphaned h (get_or (closed_slots h p i l) (place (onward p i)) d)) ≡ closed_slots h p (i + 1) l
closed_next h p i l d long =
    let s = closed_slots h p i l in
    ap (λ (t : Transmission). set s (place (onward p i)) (orphaned h t)) (place_read s p i d (length_closed h p i l ∙ long))
    ∙ ap (λ (n : ℕ). closed_slots h p n l) (sym (add-one i))

closed_later : (h p n m : ℕ) (l : List Transmission) → n ≤ m → m < 32 → slot_at (closed_slots h p n l) p m ≡ slot_at l p m
closed_later h p zero m l a b = refl
closed_later h p (suc n) m l a b =
    get_or-set_other (closed_slots h p n l) (place (onward p n)) (place (onward p m)) _ no_transmission (λ e. place_other p n m (omega arith) b (sym e))
    ∙ closed_later h p n m l (omega arith) b

queued_closed : (h p n : ℕ) (l : List Transmission) → length l ≡ 32 → n ≤ 32 → queued_from p n (closed_slots h p n l) ≡ map (orphaned h) (queued_from p n l)
queued_closed h p zero l long a = refl
queued_closed h p (suc n) l long a =
    queued_set p n (closed_slots h p n l) (orphaned h (slot_at (closed_slots h p n l) p n)) (length_closed h p n l ∙ long) (omega arith)
    ∙ rw (queued_closed h p n l long (omega arith), closed_later h p n n l (omega arith) (omega arith))
    (sym (ap (map (orphaned h)) (queued_last p n l) ∙ map-append (orphaned h) (queued_from p n l) (slot_at l p n ∷ [])))

pub close_ring : (q : Queue) (h : ℕ) → length q.slots ≡ 32 → queue_of (ring_close q h) ≡ map (orphaned h) (queue_of q)
close_ring q h long = queued_closed h q.head (length_of q) q.slots long (omega arith)

-- none left
pub empty_ring : (q : Queue) → q.tail ≡ q.head → queue_of q ≡ []
empty_ring q e =
    let n : length_of q ≡ 0 = rw e (omega (arith, distance_none q.head)) in
    rw n
