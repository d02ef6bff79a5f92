-- A record that a turn of reading has made whole, as the code has it: how long it is, the number of its call, and that the log has not ended.
-- Assumes nothing.
use Rattle.std.proofs.Common.{◌≡◌, ℕ, ◌+◌, ◌<◌, ◌≤◌, false, cond, not, ◌&&◌, eqb, ◌≢◌, Option, Some, List, [], ◌∷◌, length, take, sym, refl, ap, ◌∙◌, arith, length-take, leb-true}
use Rattle.lists.specs.Tests.{split}
use Rattle.reading.proofs.Gather.{grown_whole, grown_part, turn_ended, turn_gathers}
use Rattle.reading.proofs.Reading.{came_whole, turn_within, turn_some}
use Rattle.session_log.proofs.Record.{kind_held}
use Rattle.reading.specs.Gather.{gather, turned}
use Rattle.reading.specs.Reading as reading
use Rattle.reading.specs.Reading.{Reading, Read, unknown, is_whole, turn}
use Rattle.session_log.specs.Record.{is_kind, body_length, kind_of}
use Rattle.reader.proofs.Turns.{TurnIs}
use Rattle.reader.specs.Kind.{kind_number}
use Rattle.reader.specs.Turn.{reading_of, came_of, call_in, number_of}
use Rattle.reader.specs.declared.Cursor.{Cursor}
use Rattle.reader.specs.declared.Turn.{Turn}
use Rattle.reader.specs.declared.Whole.{Whole}

-- the log has not ended where a record has come
abbrev Goes : Read → Type 0
Goes n = length n.came ≢ 0 → n.reading.ended ≡ false

turned_goes : (r : Reading) (h : List ℕ) → Goes (turned r h)
unfolding turned unknown
turned_goes r h = split (eqb (length r.held) 0 && not (is_kind (kind_of h)))
    (λ t. rw t (λ z. absurd (z refl)))
    (λ t. rw t (split (is_whole h) (λ w. rw (grown_whole r h w) (λ _. refl)) (λ w. rw (grown_part r h w) (λ _. refl))))

turn_goes : (r : Reading) (bytes : List ℕ) → Goes (turn r bytes).read
turn_goes r [] = λ z. absurd (z refl)
turn_goes r (b ∷ bs) = split r.ended
    (λ e. rw (turn_ended r (b ∷ bs) e) (λ z. absurd (z refl)))
    (λ e. rw (turn_gathers r (b ∷ bs) e (omega arith)) (turned_goes r (gather r.held (b ∷ bs))))

pub record Came (t : Turn) (bytes : List ℕ) (whole : Whole) : Type 0 where
  pub long : 1 + body_length (kind_of bytes) ≤ whole.length
  pub number : kind_number whole.kind ≡ cond (is_kind (kind_of bytes)) (kind_of bytes) 11
  pub going : t.cursor.ended ≡ false

module _ {t : Turn} {bytes' bytes : List ℕ} {c : Cursor} {portion : List ℕ} (i : TurnIs t bytes' bytes c portion) where
  -- no more bytes are taken than there are, and some where the log has not ended
  pub taken_within : t.taken ≤ length portion
  taken_within = rw (ap (λ (u : reading.Turn). u.taken) i.same) (turn_within (reading_of bytes c) portion)

  pub taken_some : c.ended ≡ false → 0 < length portion → 0 < t.taken
  taken_some e h = rw (ap (λ (u : reading.Turn). u.taken) i.same) (turn_some (reading_of bytes c) portion e h)

  pub came : (whole : Whole) → t.came ≡ Some whole → Came t bytes' whole
  came whole z =
      let r = reading_of bytes c in
      let g = take whole.length bytes' in
      let e : (turn r portion).read.came ≡ g ∷ [] = sym (ap (λ (u : reading.Turn). u.read.came) i.same) ∙ ap (λ (o : Option Whole). came_of o bytes') z in
      let w = leb-true (1 + body_length (kind_of g)) (length g) (came_whole r portion g [] e) in
      let h : 1 ≤ whole.length = omega (arith, length-take whole.length bytes') in
      let k : kind_of g ≡ kind_of bytes' = kind_held bytes' whole.length h in
      let m : 1 + body_length (kind_of g) ≤ whole.length = omega (arith, length-take whole.length bytes') in
      let some : length (turn r portion).read.came ≢ 0 = rw e (λ y. omega arith) in
      record {
        long = rw k at m;
        number = sym (ap number_of z) ∙ i.number ∙ ap call_in e ∙ ap (λ (x : ℕ). cond (is_kind x) x 11) k;
        going = ap (λ (u : reading.Turn). u.read.reading.ended) i.same ∙ turn_goes r portion some;
      }
