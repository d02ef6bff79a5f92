-- A turn of reading, from what the calls of the code promise: its bytes and cursor are the turn of the log's reading.
-- Assumes nothing.
use Rattle.std.proofs.Common.{◌≡◌, ℕ, ◌+◌, ◌<◌, ◌≤◌, min, true, false, cond, not, ◌&&◌, ◌||◌, eqb, ltb, leb, ◌≢◌, Option, None, Some, IfSome, List, [], ◌∷◌, length, take, sym, refl, ap, ◌∙◌, ap₂, arith, length-take, ltb-false, ltb-true, ne_eqb, eqb-true, le-leb, leb-true}
use Rattle.std.proofs.lemmas.Bool.{eqb-false, lt-leb}
use Rattle.lists.specs.Elements.{empty_list}
use Rattle.lists.specs.Tests.{split, both, clash}
use Rattle.reading.proofs.Gather.{holding, grown_whole, grown_part, turn_ended, turn_gathers}
use Rattle.reading.proofs.Reading.{turn_some}
use Rattle.session_log.proofs.Record.{kind_held}
use Rattle.reading.proofs.Whole.{body_most}
use Rattle.reading.specs.Gather.{gather, gathered, turned}
use Rattle.reading.specs.Reading.{Read, reading_at, still, unknown, is_whole, place_after, turn}
use Rattle.session_log.specs.Record.{is_kind, body_length, kind_of}
use Rattle.reader.proofs.Gathering.{take_28}
use Rattle.reader.specs.Cursor.{at_most28, is_bad, is_complete, next_cursor, call_number}
use Rattle.reader.specs.Turn.{reading_of, turn_of, came_of, call_in, number_of}
use Rattle.reader.specs.declared.Cursor.{Cursor}
use Rattle.reader.specs.declared.Turn.{Turn}
use Rattle.reader.specs.declared.Whole.{Whole}
use Rattle.reader.proofs.Codes.{known}

-- none of 28 bytes is held where the count is 0
pub none_held : (bytes : List ℕ) (n : ℕ) → length bytes ≡ 28 → eqb (length (take n bytes)) 0 ≡ eqb n 0
none_held bytes n e = split (eqb n 0)
    (λ z. rw (z, eqb-true n 0 z))
    (λ z. let d = eqb-false n 0 z in rw z (ne_eqb (length (take n bytes)) 0 (λ y. omega (arith, length-take n bytes))))

-- the number of a call is not 0
some_call : (k : ℕ) → cond (is_kind k) k 11 ≢ 0
some_call k z = split (is_kind k)
    (λ e. let h : 1 ≤ k = leb-true 1 k (both (leb 1 k) (leb k 11) e).0 in let y : k ≡ 0 = rw e at z in omega arith)
    (λ e. let y : 11 ≡ 0 = rw e at z in omega arith)

-- the bytes that the code has are a whole record where its count says so
whole_full : (r : List ℕ) (count : ℕ) → length r ≡ 28 → 1 ≤ count → is_whole (take count r) ≡ is_complete (kind_of r) count
whole_full r count e h =
    let k : kind_of (take count r) ≡ kind_of r = kind_held r count h in
    let b = body_most (kind_of r) in
    let l = length-take count r in
    split (ltb (body_length (kind_of r)) count)
    (λ t. rw (t, k) (le-leb (1 + body_length (kind_of r)) (length (take count r)) (omega (arith, ltb-true))))
    (λ t. rw (t, k) (lt-leb (1 + body_length (kind_of r)) (length (take count r)) (omega (arith, ltb-false))))

taken_28 : (r : List ℕ) (count : ℕ) → length r ≡ 28 → length (take count r) ≡ at_most28 count
taken_28 r count e = length-take count r ∙ ap (min count) e

-- no record has come where its number is 0
none_came : (came : Option Whole) → number_of came ≡ 0 → came ≡ None
none_came None e = refl
none_came (Some whole) e = let k : is_kind 0 ≡ true = rw e at (known whole.kind) in absurd (clash k refl)

-- and one has come where it is not
some_came : (came : Option Whole) (r : List ℕ) (n : ℕ) → number_of came ≢ 0 → IfSome came (λ whole. whole.length ≡ n) → came_of came r ≡ take n r ∷ []
some_came None r n e l = absurd (e refl)
some_came (Some whole) r n e l = ap (λ (k : ℕ). take k r ∷ []) l

-- what was read, by the code's bytes, its cursor and the record that came
abbrev read_by : List ℕ → Cursor → Option Whole → Read
read_by r c came = record { reading = reading_of r c; came = came_of came r }

-- what was read is what has been gathered, and the number is that of the call
record Reads (n : Read) (r : List ℕ) (c : Cursor) (came : Option Whole) : Type 0 where
  same : read_by r c came ≡ n
  number : number_of came ≡ call_in n.came

module _ (bytes r : List ℕ) (c : Cursor) (count : ℕ) (came : Option Whole) (e : length bytes ≡ 28) (f : length r ≡ 28) (h : 1 ≤ count)
    (a : number_of came ≡ call_number c (kind_of r) count) (l : IfSome came (λ whole. whole.length ≡ at_most28 count)) where
  abbrev ReadsHere : Read → Type 0
  ReadsHere n = Reads n r (next_cursor c (kind_of r) count) came

  bad_same : (eqb (length (take c.count bytes)) 0 && not (is_kind (kind_of (take count r)))) ≡ is_bad c (kind_of r)
  bad_same = rw (none_held bytes c.count e, kind_held r count h)

  called_bad : is_bad c (kind_of r) ≡ true → number_of came ≡ 0
  unfolding call_number
  called_bad t = a ∙ rw t

  called_part : is_bad c (kind_of r) ≡ false → is_complete (kind_of r) count ≡ false → number_of came ≡ 0
  unfolding call_number
  called_part t u = a ∙ rw (t, u)

  called_full : is_bad c (kind_of r) ≡ false → is_complete (kind_of r) count ≡ true → number_of came ≡ cond (is_kind (kind_of r)) (kind_of r) 11
  unfolding call_number
  called_full t u = a ∙ rw (t, u)

  reads_bad : is_bad c (kind_of r) ≡ true → ReadsHere (unknown (reading_of bytes c))
  unfolding next_cursor unknown
  reads_bad t = rw (t, none_came came (called_bad t)) (record { same = refl; number = refl })

  reads_part : is_bad c (kind_of r) ≡ false → is_complete (kind_of r) count ≡ false → ReadsHere (still (holding (reading_of bytes c) (take count r)))
  unfolding next_cursor
  reads_part t u = rw (t, u, none_came came (called_part t u)) (record { same = refl; number = refl })

  reads_full : is_bad c (kind_of r) ≡ false → is_complete (kind_of r) count ≡ true
      → ReadsHere (record { reading = reading_at (place_after c.place (length (take count r))); came = take count r ∷ [] })
  unfolding next_cursor
  reads_full t u =
      let n = called_full t u in
      let g : came_of came r ≡ take count r ∷ [] = some_came came r (at_most28 count) (λ z. some_call (kind_of r) (sym n ∙ z)) l ∙ rw (take_28 count r f) in
      rw (t, u) (record { same = rw (g, taken_28 r count f); number = rw (kind_held r count h) n })

  reads_gathered : ReadsHere (turned (reading_of bytes c) (take count r))
  unfolding turned
  reads_gathered = rw bad_same (split (is_bad c (kind_of r))
      (λ t. rw t (reads_bad t))
      (λ t. rw t (split (is_complete (kind_of r) count)
      (λ u. rw (grown_whole (reading_of bytes c) (take count r) (whole_full r count f h ∙ u)) (reads_full t u))
      (λ u. rw (grown_part (reading_of bytes c) (take count r) (whole_full r count f h ∙ u)) (reads_part t u)))))

-- a turn of the code is the turn of the log's reading
pub record TurnIs (t : Turn) (bytes' bytes : List ℕ) (c : Cursor) (portion : List ℕ) : Type 0 where
  pub same : turn_of t bytes' ≡ turn (reading_of bytes c) portion
  pub number : number_of t.came ≡ call_in (turn (reading_of bytes c) portion).read.came

-- where the log has ended, or nothing comes, nothing is read
pub none_read : (bytes : List ℕ) (c : Cursor) (portion : List ℕ) → (c.ended || eqb (length portion) 0) ≡ true
    → TurnIs (record { cursor = c; taken = 0; came = None }) bytes bytes c portion
none_read bytes c portion t =
    let e : turn (reading_of bytes c) portion ≡ record { read = still (reading_of bytes c); taken = 0 } = split c.ended
    (λ z. turn_ended (reading_of bytes c) portion z)
    (λ z. ap (turn (reading_of bytes c)) (empty_list portion (eqb-true (length portion) 0 (rw z at t)))) in
    record { same = rw e; number = rw e }

-- the bytes and the cursor before the turn; the bytes gathered and how many; what the turn gives
module _ (bytes : List ℕ) (c : Cursor) (portion bytes' : List ℕ) (n held : ℕ) (long : length bytes ≡ 28) (long' : length bytes' ≡ 28)
    (going : c.ended ≡ false) (some : 0 < length portion) (h : held ≡ at_most28 c.count)
    (g : gather (take c.count bytes) portion ≡ take (at_most28 c.count + n) bytes') (m : gathered (take c.count bytes) portion ≡ n) where
  turn_here : turn (reading_of bytes c) portion ≡ record { read = turned (reading_of bytes c) (take (held + n) bytes'); taken = n }
  turn_here =
      turn_gathers (reading_of bytes c) portion going some
      ∙ ap₂ (λ (x : List ℕ) (k : ℕ). record { read = turned (reading_of bytes c) x; taken = k }) (g ∙ ap (λ (k : ℕ). take (k + n) bytes') (sym h)) m

  some_taken : 0 < n
  some_taken = rw turn_here at (turn_some (reading_of bytes c) portion going some)

  pub read_is : (c' : Cursor) (came : Option Whole) → number_of came ≡ call_number c (kind_of bytes') (held + n) → c' ≡ next_cursor c (kind_of bytes') (held + n)
      → IfSome came (λ whole. whole.length ≡ at_most28 (held + n))
      → TurnIs (record { cursor = c'; taken = n; came = came }) bytes' bytes c portion
  read_is c' came a d l =
      let w = reads_gathered bytes bytes' c (held + n) came long long' (omega (arith, some_taken)) a l in
      record { same = rw (turn_here, d) (ap (λ (x : Read). record { read = x; taken = n }) w.same); number = rw turn_here w.number }
