-- A record gathered from several bytes at once: the same as byte by byte.
-- Assumes nothing.
use Prim.Native.Nat.{ℕ, suc, ◌+◌, ◌-◌, ◌<◌}
use mathlib.Core.Bool.{Bool, true, false, cond, ◌&&◌, ◌||◌, not}
use mathlib.Core.List.{List, [], ◌∷◌, ◌++◌}
use mathlib.Core.Path.{◌≡◌, refl, sym, ap, ap₂, ◌∙◌}
use native.Mathlib.Nat.{sub-zero}
use native.Mathlib.Omega.{arith}
use lib.Dec.{eqb, ltb, leb}
use lib.ListN.{length, get_or, drop, length-append, get_or-append, get_or-eq_default}
use borrow.Author.Tests.{ne_eqb, eqb-true, ltb-false, leb-false, not-true}
use Rattle.lists.specs.Tests.{split, both}
use Rattle.lists.specs.Vector.{put}
use Rattle.session_log.specs.Gather.{gather, gathered, turn}
use Rattle.session_log.specs.Record.{is_kind, kind_of, body_length, body_lengths}
use Rattle.session_log.specs.Session.{Session, Printed, bad, played, is_whole, grown, next, fed, Taken, taken}
use Rattle.session_log.specs.Text.{line_max}

-- what was printed, and then the rest of the bytes
abbrev pub fed_on : Printed → List ℕ → Printed
fed_on p bytes = record { session = (fed p.session bytes).session; text = p.text ++ (fed p.session bytes).text }

-- n bytes taken for what was printed, and then the rest of them
abbrev pub taken_on : Printed → ℕ → List ℕ → ℕ → Taken
taken_on p n bytes room =
    let rest = taken p.session (drop n bytes) (room - length p.text) in
    record { session = rest.session; taken = n + rest.taken; text = p.text ++ rest.text }

-- a session with a record that has begun
abbrev pub holding : Session → List ℕ → Session
holding s g = record { state = s.state; held = g; place = s.place; ended = false }

pub length-put : (g : List ℕ) (b : ℕ) → 0 < length (put 28 g b)
length-put g b = split (ltb (length g) 28)
    (λ e. rw (e, length-append g (b ∷ [])) (omega arith))
    (λ e. rw e (omega (arith, ltb-false (length g) 28 e)))

pub next_held : (s : Session) (g : List ℕ) (b : ℕ) → 0 < length g → next (holding s g) b ≡ grown s (put 28 g b)
unfolding next grown played
next_held s g b h = rw (ne_eqb (length g) 0 (λ e. omega arith))

pub grown_whole : (s : Session) (h : List ℕ) → is_whole h ≡ true → grown s h ≡ played s h
unfolding grown
grown_whole s h w = rw w

pub grown_part : (s : Session) (h : List ℕ) → is_whole h ≡ false → grown s h ≡ record { session = holding s h; text = [] }
unfolding grown
grown_part s h w = rw w

pub gather_whole : (g : List ℕ) (b : ℕ) (bs : List ℕ) → is_whole (put 28 g b) ≡ true → (gather g (b ∷ bs) ≡ put 28 g b) × (gathered g (b ∷ bs) ≡ 1)
gather_whole g b bs w = (rw w, rw w)

pub gather_part : (g : List ℕ) (b : ℕ) (bs : List ℕ) → is_whole (put 28 g b) ≡ false → (gather g (b ∷ bs) ≡ gather (put 28 g b) bs) × (gathered g (b ∷ bs) ≡ suc (gathered (put 28 g b) bs))
gather_part g b bs w = (rw w, rw w)

-- one byte more was taken
abbrev taken_more : Taken → Taken
taken_more t = record { session = t.session; taken = 1 + t.taken; text = t.text }

taken_next : (s : Session) (b : ℕ) (bs : List ℕ) (room : ℕ) → s.ended ≡ false → ltb room line_max ≡ false → taken s (b ∷ bs) room ≡ taken_on (next s b) 1 (b ∷ bs) room
taken_next s b bs room e r =
    let rest = taken (next s b).session bs (room - length (next s b).text) in
    let k : suc rest.taken ≡ 1 + rest.taken = omega arith in
    let t : (s.ended || ltb room line_max) ≡ false = rw (e, r) in
    ap (λ (f : Bool). cond f (record { session = s; taken = 0; text = [] }) (record { session = rest.session; taken = suc rest.taken; text = (next s b).text ++ rest.text })) t
    ∙ ap (λ (n : ℕ). record { session = rest.session; taken = n; text = (next s b).text ++ rest.text }) k

taken_sum : (p : Printed) (n b : ℕ) (bs : List ℕ) (room : ℕ) → taken_more (taken_on p n bs room) ≡ taken_on p (suc n) (b ∷ bs) room
taken_sum p n b bs room =
    let rest = taken p.session (drop n bs) (room - length p.text) in
    let k : 1 + (n + rest.taken) ≡ suc n + rest.taken = omega arith in
    ap (λ (m : ℕ). record { session = rest.session; taken = m; text = p.text ++ rest.text }) k

-- a record that is whole, or one that is not and goes on
fed_grown : (s : Session) (g : List ℕ) (b : ℕ) (bs : List ℕ)
    → (is_whole (put 28 g b) ≡ false → fed (holding s (put 28 g b)) bs ≡ fed_on (grown s (gather (put 28 g b) bs)) (drop (gathered (put 28 g b) bs) bs))
    → fed_on (grown s (put 28 g b)) bs ≡ fed_on (grown s (gather g (b ∷ bs))) (drop (gathered g (b ∷ bs)) (b ∷ bs))
fed_grown s g b bs later =
    split (is_whole (put 28 g b))
    (λ e. let m = gather_whole g b bs e in rw (m.0, m.1))
    (λ e. let m = gather_part g b bs e in
    ap (λ (q : Printed). fed_on q bs) (grown_part s (put 28 g b) e) ∙ later e ∙ rw (m.0, m.1))

fed_held : (s : Session) (g bs : List ℕ) → 0 < length g → is_whole g ≡ false → fed (holding s g) bs ≡ fed_on (grown s (gather g bs)) (drop (gathered g bs) bs)
fed_held s g [] p w = rw (grown_part s g w)
fed_held s g (b ∷ bs) p w =
    ap (λ (q : Printed). fed_on q bs) (next_held s g b p)
    ∙ fed_grown s g b bs (λ e. fed_held s (put 28 g b) bs (length-put g b) e)

taken_grown : (s : Session) (g : List ℕ) (b : ℕ) (bs : List ℕ) (room : ℕ)
    → (is_whole (put 28 g b) ≡ false → taken (holding s (put 28 g b)) bs room ≡ taken_on (grown s (gather (put 28 g b) bs)) (gathered (put 28 g b) bs) bs room)
    → taken_on (grown s (put 28 g b)) 1 (b ∷ bs) room ≡ taken_on (grown s (gather g (b ∷ bs))) (gathered g (b ∷ bs)) (b ∷ bs) room
taken_grown s g b bs room later =
    split (is_whole (put 28 g b))
    (λ e. let m = gather_whole g b bs e in rw (m.0, m.1))
    (λ e. let m = gather_part g b bs e in
    ap (λ (q : Printed). taken_on q 1 (b ∷ bs) room) (grown_part s (put 28 g b) e)
    ∙ ap (λ (k : ℕ). taken_more (taken (holding s (put 28 g b)) bs k)) (sub-zero room)
    ∙ ap taken_more (later e)
    ∙ taken_sum (grown s (gather (put 28 g b) bs)) (gathered (put 28 g b) bs) b bs room
    ∙ rw (m.0, m.1))

taken_held : (s : Session) (g bs : List ℕ) (room : ℕ) → 0 < length g → is_whole g ≡ false → ltb room line_max ≡ false
    → taken (holding s g) bs room ≡ taken_on (grown s (gather g bs)) (gathered g bs) bs room
taken_held s g [] room p w r = rw (grown_part s g w)
taken_held s g (b ∷ bs) room p w r =
    taken_next (holding s g) b bs room refl r
    ∙ ap (λ (q : Printed). taken_on q 1 (b ∷ bs) room) (next_held s g b p)
    ∙ taken_grown s g b bs room (λ e. taken_held s (put 28 g b) bs room (length-put g b) e r)

-- the kind of a record that has begun stays
pub put_kind : (g : List ℕ) (b : ℕ) → 0 < length g → kind_of (put 28 g b) ≡ kind_of g
put_kind g b p = split (ltb (length g) 28)
    (λ e. rw e (get_or-append g (b ∷ []) 0 0 p))
    (λ e. rw e)

gather_kind : (g bs : List ℕ) → 0 < length g → kind_of (gather g bs) ≡ kind_of g
gather_kind g [] p = refl
gather_kind g (b ∷ bs) p =
    split (is_whole (put 28 g b))
    (λ e. ap kind_of (gather_whole g b bs e).0 ∙ put_kind g b p)
    (λ e. ap kind_of (gather_part g b bs e).0 ∙ gather_kind (put 28 g b) bs (length-put g b) ∙ put_kind g b p)

-- the kind that the first byte gives
first_kind : (b : ℕ) (bs : List ℕ) → kind_of (gather [] (b ∷ bs)) ≡ b
first_kind b bs =
    split (is_whole (b ∷ []))
    (λ e. ap kind_of (gather_whole [] b bs e).0)
    (λ e. ap kind_of (gather_part [] b bs e).0 ∙ gather_kind (b ∷ []) bs (omega arith))

-- an unknown kind has no body
pub unknown_short : (b : ℕ) → is_kind b ≡ false → body_length b ≡ 0
unfolding body_length
unknown_short b e =
    split (leb 1 b)
    (λ f. get_or-eq_default body_lengths 0 {n = b} (omega (arith, leb-false b 11 (rw f at e))))
    (λ f. ap (λ (n : ℕ). get_or body_lengths n 0) (none b (leb-false 1 b f)))
  where
    none : (n : ℕ) → n < 1 → n ≡ 0
    none n h = omega arith

-- so it is gathered by itself
unknown_whole : (b : ℕ) → is_kind b ≡ false → is_whole (b ∷ []) ≡ true
unknown_whole b e = rw (unknown_short b e)

nil : (l : List ℕ) → length l ≡ 0 → l ≡ []
nil [] e = refl
nil (x ∷ l) e = absurd (omega arith)

-- an unknown kind as the first byte of a record
pub unknown_turn : (s : Session) (b : ℕ) (bs : List ℕ) → (eqb (length s.held) 0 && not (is_kind b)) ≡ true
    → (next s b ≡ bad s) × (turn s (gather s.held (b ∷ bs)) ≡ bad s) × (gathered s.held (b ∷ bs) ≡ 1)
unfolding next turn
unknown_turn s b bs t =
    let m = both (eqb (length s.held) 0) (not (is_kind b)) t in
    let e : s.held ≡ [] = nil s.held (eqb-true (length s.held) 0 m.0) in
    let w = unknown_whole b (not-true (is_kind b) m.1) in
    let k : kind_of (gather s.held (b ∷ bs)) ≡ b = ap (λ (h : List ℕ). kind_of (gather h (b ∷ bs))) e ∙ first_kind b bs in
    let u : (eqb (length s.held) 0 && not (is_kind (kind_of (gather s.held (b ∷ bs))))) ≡ true = ap (λ (x : ℕ). eqb (length s.held) 0 && not (is_kind x)) k ∙ t in (
      ap (λ (f : Bool). cond f (bad s) (grown s (put 28 s.held b))) t,
      ap (λ (f : Bool). cond f (bad s) (grown s (gather s.held (b ∷ bs)))) u,
      ap (λ (h : List ℕ). gathered h (b ∷ bs)) e ∙ (gather_whole [] b bs w).1,
    )

-- any other first byte, and any byte of a record that has begun
pub known_turn : (s : Session) (b : ℕ) (bs : List ℕ) → (eqb (length s.held) 0 && not (is_kind b)) ≡ false
    → (next s b ≡ grown s (put 28 s.held b)) × (turn s (gather s.held (b ∷ bs)) ≡ grown s (gather s.held (b ∷ bs)))
unfolding next turn
known_turn s b bs t =
    let k : eqb (length s.held) 0 ≡ true → kind_of (gather s.held (b ∷ bs)) ≡ b =
    λ z. ap (λ (h : List ℕ). kind_of (gather h (b ∷ bs))) (nil s.held (eqb-true (length s.held) 0 z)) ∙ first_kind b bs in
    let u : (eqb (length s.held) 0 && not (is_kind (kind_of (gather s.held (b ∷ bs))))) ≡ false =
    split (eqb (length s.held) 0)
    (λ z. ap (λ (x : ℕ). eqb (length s.held) 0 && not (is_kind x)) (k z) ∙ t)
    (λ z. ap (λ (f : Bool). f && not (is_kind (kind_of (gather s.held (b ∷ bs))))) z) in (
      ap (λ (f : Bool). cond f (bad s) (grown s (put 28 s.held b))) t,
      ap (λ (f : Bool). cond f (bad s) (grown s (gather s.held (b ∷ bs)))) u,
    )

-- Some bytes of a log are as many of them as a record wants at once, and then the rest.
pub fed_turn : (s : Session) (bytes : List ℕ) → s.ended ≡ false → 0 < length bytes
    → fed s bytes ≡ fed_on (turn s (gather s.held bytes)) (drop (gathered s.held bytes) bytes)
fed_turn s [] e p = absurd (omega arith)
fed_turn s (b ∷ bs) e p =
    ap (λ (f : Bool). cond f (record { session = s; text = [] }) (fed_on (next s b) bs)) e
    ∙ split (eqb (length s.held) 0 && not (is_kind b))
    (λ t. let m = unknown_turn s b bs t in
    ap (λ (q : Printed). fed_on q bs) m.0 ∙ sym (ap₂ (λ (q : Printed) (n : ℕ). fed_on q (drop n (b ∷ bs))) m.1 m.2))
    (λ t. let m = known_turn s b bs t in
    ap (λ (q : Printed). fed_on q bs) m.0
    ∙ fed_grown s s.held b bs (λ w. fed_held s (put 28 s.held b) bs (length-put s.held b) w)
    ∙ sym (ap (λ (q : Printed). fed_on q (drop (gathered s.held (b ∷ bs)) (b ∷ bs))) m.1))

pub taken_turn : (s : Session) (bytes : List ℕ) (room : ℕ) → s.ended ≡ false → 0 < length bytes → ltb room line_max ≡ false
    → taken s bytes room ≡ taken_on (turn s (gather s.held bytes)) (gathered s.held bytes) bytes room
taken_turn s [] room e p r = absurd (omega arith)
taken_turn s (b ∷ bs) room e p r =
    taken_next s b bs room e r
    ∙ split (eqb (length s.held) 0 && not (is_kind b))
    (λ t. let m = unknown_turn s b bs t in
    ap (λ (q : Printed). taken_on q 1 (b ∷ bs) room) m.0 ∙ sym (ap₂ (λ (q : Printed) (n : ℕ). taken_on q n (b ∷ bs) room) m.1 m.2))
    (λ t. let m = known_turn s b bs t in
    ap (λ (q : Printed). taken_on q 1 (b ∷ bs) room) m.0
    ∙ taken_grown s s.held b bs room (λ w. taken_held s (put 28 s.held b) bs room (length-put s.held b) w r)
    ∙ sym (ap (λ (q : Printed). taken_on q (gathered s.held (b ∷ bs)) (b ∷ bs) room) m.1))
