-- Reading a log: the records that come are those of `log_of`, wherever the log is cut.
-- Assumes nothing.
use Prim.Native.Nat.{ℕ, zero, suc, ◌+◌, ◌≤◌, ◌<◌}
use mathlib.Core.Bool.{Bool, true, false, cond, ◌&&◌, not}
use mathlib.Core.List.{List, [], ◌∷◌, ◌++◌, append_assoc}
use mathlib.Core.Path.{◌≡◌, refl, sym, ap, ap₂, ◌∙◌}
use native.Mathlib.Omega.{arith}
use lib.Dec.{eqb, ltb}
use lib.ListN.{length, take, drop, length-drop}
use lib.Seq.{length-take-le, drop-length, drop-append-le}
use borrow.Author.Tests.{lt-ltb, le-ltb, ltb-true, ltb-false, le-leb, lt-leb, ne_eqb, eqb-true}
use Rattle.lists.specs.Elements.{empty_list}
use Rattle.lists.specs.Tests.{split, both}
use Rattle.lists.specs.Vector.{put}
use Rattle.reading.specs.Gather.{gather, gathered, turned}
use Rattle.reading.specs.Reading.{at_end, bad_at, cut_at, Log, ends, with, read_at, Reading, reading_at, Read, still, unknown, is_whole, grown, next, joined, read, end_of, Turn, is_part, turn, place_after, place_of, ReadsLog, CutsApart, ByTurns}
use Rattle.session_log.specs.Record.{is_kind, body_length}
use Rattle.reading.proofs.Gather.{holding, grown_whole, grown_part, next_unknown, next_known, turn_ended, turn_last, turn_more, turn_gathers}
use Rattle.reading.proofs.Whole.{record_full, record_short}

-- after an unknown kind nothing is read
pub read_ended : (r : Reading) (bytes : List ℕ) → r.ended ≡ true → read r bytes ≡ still r
read_ended r [] e = refl
read_ended r (b ∷ bs) e = ap (λ (f : Bool). cond f (still r) (joined (next r b) (read (next r b).reading bs))) e

pub read_going : (r : Reading) (b : ℕ) (bs : List ℕ) → r.ended ≡ false → read r (b ∷ bs) ≡ joined (next r b) (read (next r b).reading bs)
read_going r b bs e = ap (λ (f : Bool). cond f (still r) (joined (next r b) (read (next r b).reading bs))) e

-- what was read, and then more bytes
abbrev pub onward : Read → List ℕ → Read
onward n bytes = joined n (read n.reading bytes)

pub join_assoc : (n m k : Read) → joined n (joined m k) ≡ joined (joined n m) k
join_assoc n m k = ap (λ (c : List (List ℕ)). record { reading = k.reading; came = c }) (sym (append_assoc n.came m.came k.came))

-- Where a log is cut does not matter.
pub cuts_apart : CutsApart
cuts_apart r [] ys = refl
cuts_apart r (b ∷ xs) ys =
    split r.ended
    (λ e. read_ended r (b ∷ (xs ++ ys)) e ∙ sym (ap (λ (n : Read). onward n ys) (read_ended r (b ∷ xs) e) ∙ ap (joined (still r)) (read_ended r ys e)))
    (λ e. let n = next r b in
    read_going r b (xs ++ ys) e
    ∙ ap (joined n) (cuts_apart n.reading xs ys)
    ∙ join_assoc n (read n.reading xs) (read (read n.reading xs).reading ys)
    ∙ sym (ap (λ (m : Read). onward m ys) (read_going r b xs e)))

-- a part of a record
pub part_none : (n : Read) → is_part n ≡ true → n.came ≡ []
part_none n p = empty_list n.came (eqb-true (length n.came) 0 (both (eqb (length n.came) 0) (not n.reading.ended) p).0)

part_joined : (n m : Read) → is_part n ≡ true → joined n m ≡ m
part_joined n m p = ap (λ (c : List (List ℕ)). record { reading = m.reading; came = c ++ m.came }) (part_none n p)

-- Nor does it matter that a portion is read by turns.
pub by_turns : ByTurns
by_turns r [] = refl
by_turns r (b ∷ bs) =
    let rest : Turn → Read = λ t. onward t.read (drop t.taken (b ∷ bs)) in
    split r.ended
    (λ e. sym (ap rest (turn_ended r (b ∷ bs) e)))
    (λ e. let n = next r b in
    split (is_part n)
    (λ p. read_going r b bs e ∙ part_joined n (read n.reading bs) p ∙ by_turns n.reading bs ∙ sym (ap rest (turn_more r b bs e p)))
    (λ p. read_going r b bs e ∙ sym (ap rest (turn_last r b bs e p))))

-- no more bytes are taken than there are
pub turn_within : (r : Reading) (bytes : List ℕ) → (turn r bytes).taken ≤ length bytes
turn_within r [] = omega arith
turn_within r (b ∷ bs) =
    split r.ended
    (λ e. rw (turn_ended r (b ∷ bs) e) (omega arith))
    (λ e. split (is_part (next r b))
    (λ p. rw (turn_more r b bs e p) (omega (arith, turn_within (next r b).reading bs)))
    (λ p. rw (turn_last r b bs e p) (omega arith)))

-- and so of a portion with what follows it
pub turn_on : (r : Reading) (xs ys : List ℕ) → let t = turn r xs in read r (xs ++ ys) ≡ onward t.read (drop t.taken (xs ++ ys))
turn_on r xs ys =
    let t = turn r xs in
    let n = read t.read.reading (drop t.taken xs) in
    cuts_apart r xs ys
    ∙ ap (λ (m : Read). onward m ys) (by_turns r xs)
    ∙ sym (join_assoc t.read n (read n.reading ys))
    ∙ ap (joined t.read) (sym (cuts_apart t.read.reading (drop t.taken xs) ys))
    ∙ ap (onward t.read) (sym (drop-append-le t.taken xs ys (turn_within r xs)))

-- a record that came is whole
abbrev AllWhole : List (List ℕ) → Type 0
AllWhole [] = Unit {0}
AllWhole (g ∷ gs) = is_whole g ≡ true

next_whole : (r : Reading) (b : ℕ) → AllWhole (next r b).came
unfolding unknown
next_whole r b =
    let g = put 28 r.held b in
    split (eqb (length r.held) 0 && not (is_kind b))
    (λ t. rw (next_unknown r b t) tt)
    (λ t. rw (next_known r b t) (split (is_whole g)
    (λ w. rw (grown_whole r g w) w)
    (λ w. rw (grown_part r g w) tt)))

turn_whole : (r : Reading) (bytes : List ℕ) → AllWhole (turn r bytes).read.came
turn_whole r [] = tt
turn_whole r (b ∷ bs) =
    split r.ended
    (λ e. rw (turn_ended r (b ∷ bs) e) tt)
    (λ e. split (is_part (next r b))
    (λ p. rw (turn_more r b bs e p) (turn_whole (next r b).reading bs))
    (λ p. rw (turn_last r b bs e p) (next_whole r b)))

pub came_whole : (r : Reading) (bytes g : List ℕ) (gs : List (List ℕ)) → (turn r bytes).read.came ≡ g ∷ gs → is_whole g ≡ true
came_whole r bytes g gs e = rw e at (turn_whole r bytes)

-- a turn brings one record at most
next_one : (r : Reading) (b : ℕ) → length (next r b).came ≤ 1
unfolding unknown
next_one r b =
    let g = put 28 r.held b in
    split (eqb (length r.held) 0 && not (is_kind b))
    (λ t. rw (next_unknown r b t) (omega arith))
    (λ t. rw (next_known r b t) (split (is_whole g)
    (λ w. rw (grown_whole r g w) (omega arith))
    (λ w. rw (grown_part r g w) (omega arith))))

pub turn_one : (r : Reading) (bytes : List ℕ) → length (turn r bytes).read.came ≤ 1
turn_one r [] = omega arith
turn_one r (b ∷ bs) =
    split r.ended
    (λ e. rw (turn_ended r (b ∷ bs) e) (omega arith))
    (λ e. split (is_part (next r b))
    (λ p. rw (turn_more r b bs e p) (turn_one (next r b).reading bs))
    (λ p. rw (turn_last r b bs e p) (next_one r b)))

-- some bytes are taken, where there are any and the log has not ended
pub turn_some : (r : Reading) (bytes : List ℕ) → r.ended ≡ false → 0 < length bytes → 0 < (turn r bytes).taken
turn_some r [] e h = absurd (omega arith)
turn_some r (b ∷ bs) e h =
    split (is_part (next r b))
    (λ p. rw (turn_more r b bs e p) (omega arith))
    (λ p. rw (turn_last r b bs e p) (omega arith))

-- the records of a log from a place on, as `log_of` has them
log_bad : (n place kind : ℕ) (rest : List ℕ) → is_kind kind ≡ false → read_at (suc n) place (kind ∷ rest) ≡ ends (bad_at place)
log_bad n place kind rest e = rw e

log_cut : (n place kind : ℕ) (rest : List ℕ) → is_kind kind ≡ true → length rest < body_length kind → read_at (suc n) place (kind ∷ rest) ≡ ends (cut_at place)
log_cut n place kind rest e h = rw (e, lt-ltb (length rest) (body_length kind) h)

log_whole : (n place kind : ℕ) (rest : List ℕ) → is_kind kind ≡ true → body_length kind ≤ length rest
    → let r = kind ∷ take (body_length kind) rest in read_at (suc n) place (kind ∷ rest) ≡ with r (read_at n (place_after place (length r)) (drop (body_length kind) rest))
log_whole n place kind rest e h =
    let k : 1 + body_length kind ≡ length (kind ∷ take (body_length kind) rest) = omega (arith, length-take-le (body_length kind) rest h) in
    rw (e, le-ltb (length rest) (body_length kind) h) (ap (λ (m : ℕ). with (kind ∷ take (body_length kind) rest) (read_at n (place_after place m) (drop (body_length kind) rest))) k)

-- the bytes from the kind of a record on
read_first : (place kind : ℕ) (rest g : List ℕ) (n : ℕ) → gather [] (kind ∷ rest) ≡ g → gathered [] (kind ∷ rest) ≡ n
    → read (reading_at place) (kind ∷ rest) ≡ onward (turned (reading_at place) g) (drop n (kind ∷ rest))
read_first place kind rest g n p q =
    by_turns (reading_at place) (kind ∷ rest)
    ∙ ap (λ (t : Turn). onward t.read (drop t.taken (kind ∷ rest))) (turn_gathers (reading_at place) (kind ∷ rest) refl (omega arith))
    ∙ ap₂ (λ (h : List ℕ) (k : ℕ). onward (turned (reading_at place) h) (drop k (kind ∷ rest))) p q

turned_known : (place kind : ℕ) (rest : List ℕ) → is_kind kind ≡ true → turned (reading_at place) (kind ∷ rest) ≡ grown (reading_at place) (kind ∷ rest)
unfolding turned
turned_known place kind rest k = rw k

read_whole : (place kind : ℕ) (rest : List ℕ) → is_kind kind ≡ true → body_length kind ≤ length rest
    → let r = kind ∷ take (body_length kind) rest in
    read (reading_at place) (kind ∷ rest) ≡ onward (record { reading = reading_at (place_after place (length r)); came = r ∷ [] }) (drop (body_length kind) rest)
read_whole place kind rest k h =
    let r = kind ∷ take (body_length kind) rest in
    let m = record_full kind rest h in
    let w : is_whole r ≡ true = le-leb (1 + body_length kind) (length r) (omega (arith, length-take-le (body_length kind) rest h)) in
    read_first place kind rest r (suc (body_length kind)) m.0 m.1
    ∙ ap (λ (n : Read). onward n (drop (body_length kind) rest)) (turned_known place kind (take (body_length kind) rest) k ∙ grown_whole (reading_at place) r w)

read_cut : (place kind : ℕ) (rest : List ℕ) → is_kind kind ≡ true → length rest < body_length kind
    → read (reading_at place) (kind ∷ rest) ≡ still (holding (reading_at place) (kind ∷ rest))
read_cut place kind rest k h =
    let m = record_short kind rest h in
    let w : is_whole (kind ∷ rest) ≡ false = lt-leb (1 + body_length kind) (length (kind ∷ rest)) (omega arith) in
    read_first place kind rest (kind ∷ rest) (suc (length rest)) m.0 m.1
    ∙ ap₂ (λ (n : Read) (l : List ℕ). onward n l) (turned_known place kind rest k ∙ grown_part (reading_at place) (kind ∷ rest) w) (drop-length rest)

read_bad : (place kind : ℕ) (rest : List ℕ) → is_kind kind ≡ false → read (reading_at place) (kind ∷ rest) ≡ unknown (reading_at place)
unfolding next unknown
read_bad place kind rest k =
    let n : next (reading_at place) kind ≡ unknown (reading_at place) = rw k in
    ap (λ (m : Read). onward m rest) n ∙ ap (joined (unknown (reading_at place))) (read_ended (unknown (reading_at place)).reading rest refl)

-- what was read is a log whose first record is at a place
pub record Reads (n : Read) (place : ℕ) (log : Log) : Type 0 where
  pub records : n.came ≡ log.records
  pub ending : end_of n.reading ≡ log.ending
  pub placed : n.reading.place ≡ place_of place log.records

reads_same : (n m : Read) (place : ℕ) (l k : Log) → n ≡ m → l ≡ k → Reads m place k → Reads n place l
reads_same n m place l k e f p = rw (e, f) p

none_reads : (place : ℕ) → Reads (still (reading_at place)) place (ends at_end)
unfolding end_of
none_reads place = record { records = refl; ending = refl; placed = refl }

bad_reads : (place : ℕ) → Reads (unknown (reading_at place)) place (ends (bad_at place))
unfolding end_of unknown
bad_reads place = record { records = refl; ending = refl; placed = refl }

cut_reads : (place kind : ℕ) (rest : List ℕ) → Reads (still (holding (reading_at place) (kind ∷ rest))) place (ends (cut_at place))
unfolding end_of
cut_reads place kind rest = record { records = refl; ending = rw (ne_eqb (suc (length rest)) 0 (λ e. omega arith)); placed = refl }

record_reads : (n : Read) (place at : ℕ) (r : List ℕ) (l : Log) → at ≡ place_after place (length r) → Reads n at l
    → Reads (joined (record { reading = reading_at at; came = r ∷ [] }) n) place (with r l)
record_reads n place at r l e p = record {
  records = ap (λ (rs : List (List ℕ)). r ∷ rs) p.records;
  ending = p.ending;
  placed = p.placed ∙ ap (λ (x : ℕ). place_of x l.records) e;
}

reads_from : (n place : ℕ) (bytes : List ℕ) → length bytes ≤ n → Reads (read (reading_at place) bytes) place (read_at n place bytes)
reads_from zero place [] h = none_reads place
reads_from zero place (kind ∷ rest) h = absurd (omega arith)
reads_from (suc n) place [] h = none_reads place
reads_from (suc n) place (kind ∷ rest) h =
    split (is_kind kind)
    (λ k. split (ltb (length rest) (body_length kind))
    (λ e. let l = ltb-true (length rest) (body_length kind) e in reads_same _ _ place _ _ (read_cut place kind rest k l) (log_cut n place kind rest k l) (cut_reads place kind rest))
    (λ e. let l = ltb-false (length rest) (body_length kind) e in
    let r = kind ∷ take (body_length kind) rest in
    let more = drop (body_length kind) rest in
    let at = place_after place (length r) in
    let later = reads_from n at more (omega (arith, length-drop (body_length kind) rest)) in
    reads_same _ _ place _ _ (read_whole place kind rest k l) (log_whole n place kind rest k l) (record_reads (read (reading_at at) more) place at r (read_at n at more) refl later)))
    (λ k. reads_same _ _ place _ _ (read_bad place kind rest k) (log_bad n place kind rest k) (bad_reads place))

-- A log read from its first byte: the records of the log came, it ends as the log does, and the reading is at the place after its records.
pub reads_log : ReadsLog
reads_log bytes = let r = reads_from (length bytes) 0 bytes (omega arith) in (r.records, r.ending, r.placed)
