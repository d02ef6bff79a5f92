-- What a portion prints, taken in turns, and what a log prints, read in portions.
-- Assumes nothing.
use Rattle.std.proofs.Common.{ℕ, ◌+◌, ◌<◌, ◌≤◌, List, [], ◌∷◌, ◌++◌, ◌≡◌, ◌⊎◌, Bool, true, false, true≢false, cond, length, take, drop, refl, sym, ap, ap₂, ◌∙◌, subst, arith, append_assoc, append-nil, length-append, inl, inr, None, Some, IfSome, Result, Ok, Err, OnOk}
use borrow.Author.Tests.{le-ltb}
use lib.Seq.{take-length, take-append_seam}
use Rattle.std.specs.declared.option.Option.{Option}
use Rattle.std.specs.Io.KnownBytes.{Appends, Consumes, IsAtEnd}
use Rattle.std.proofs.KnownBytes.{Appends-nil, Appends-trans, Consumes-trans}
use Rattle.lists.specs.Tests.{split}
use Rattle.session_log.proofs.Gather.{fed_on}
use Rattle.session_log.proofs.Log.{cut_anywhere, replayed}
use Rattle.session_log.specs.Log.{printed_of}
use Rattle.player.specs.Player.{Given, given_of, given_by, session_of, last_text, onto}
use Rattle.player.specs.declared.Fed.{Fed}
use Rattle.session_log.specs.Session.{Session, Printed, fresh_session, fed, next, finished, taken}

-- after an unknown kind nothing more is said
pub fed_ended : (s : Session) (bytes : List ℕ) → s.ended ≡ true → fed s bytes ≡ record { session = s; text = [] }
fed_ended s [] e = refl
fed_ended s (b ∷ bs) e = rw e

-- one byte, and then the others
pub fed_next : (s : Session) (b : ℕ) (bs : List ℕ) → s.ended ≡ false → fed s (b ∷ bs) ≡ fed_on (next s b) bs
fed_next s b bs e = ap (λ (f : Bool). cond f (record { session = s; text = [] }) (fed_on (next s b) bs)) e

-- bytes, and then more of them
pub fed_append : (s : Session) (a b : List ℕ) → fed s (a ++ b) ≡ fed_on (fed s a) b
fed_append s [] b = refl
fed_append s (x ∷ a) b = split s.ended
    (λ e. fed_ended s (x ∷ (a ++ b)) e ∙ sym (ap (λ (p : Printed). fed_on p b) (fed_ended s (x ∷ a) e) ∙ fed_ended s b e))
    (λ e.
    let p = next s x in
    let q = fed p.session a in
    fed_next s x (a ++ b) e
    ∙ ap (λ (r : Printed). record { session = r.session; text = p.text ++ r.text }) (fed_append p.session a b)
    ∙ ap (λ (t : List ℕ). record { session = (fed q.session b).session; text = t }) (sym (append_assoc p.text q.text (fed q.session b).text))
    ∙ sym (ap (λ (r : Printed). fed_on r b) (fed_next s x a e)))

-- as much of a portion as the buffer had room for, and then the rest
pub fed_rest : (s : Session) (bytes : List ℕ) (room : ℕ)
    → let t = taken s bytes room in
    ((fed s bytes).session ≡ (fed t.session (drop t.taken bytes)).session) × ((fed s bytes).text ≡ t.text ++ (fed t.session (drop t.taken bytes)).text)
fed_rest s bytes room =
    let c = rw (take-length bytes) at (cut_anywhere s bytes (record { size = length bytes; room = room } ∷ [])) in
    let t = taken s bytes room in
    (sym c.1, sym (ap (λ (x : List ℕ). x ++ (fed t.session (drop t.taken bytes)).text) (sym (append-nil t.text)) ∙ c.0))

add-zero : (n : ℕ) → n + 0 ≡ n
add-zero n = omega arith

-- Some of a portion was taken: what is left of it leads where the whole portion does, and the lines so far were written.
pub record Went (first now : Session) (portion rest : List ℕ) (old new : Option (List ℕ)) : Type 0 where
  pub lines : List ℕ
  pub session_is : (fed first portion).session ≡ (fed now rest).session
  pub text_is : (fed first portion).text ≡ lines ++ (fed now rest).text
  pub wrote : Appends old new lines

pub went_start : (s : Session) (portion : List ℕ) (a : Option (List ℕ)) → Went s s portion portion a a
went_start s portion a = record { lines = []; session_is = refl; text_is = refl; wrote = Appends-nil a }

pub went_on : (first s : Session) (portion rest : List ℕ) (a b c : Option (List ℕ)) (room : ℕ) → Went first s portion rest a b
    → Appends b c (taken s rest room).text → Went first (taken s rest room).session portion (drop (taken s rest room).taken rest) a c
went_on first s portion rest a b c room w p =
    let t = taken s rest room in
    let f = fed_rest s rest room in
    record {
      lines = w.lines ++ t.text;
      session_is = w.session_is ∙ f.0;
      text_is = w.text_is ∙ ap (λ (x : List ℕ). w.lines ++ x) f.1 ∙ sym (append_assoc w.lines t.text (fed t.session (drop t.taken rest)).text);
      wrote = Appends-trans a b c w.lines t.text w.wrote p;
    }

-- what a feed gives, from a part of the portion on
pub went_fed : (first s : Session) (portion rest : List ℕ) (out out' : List ℕ) (r : Fed) (a b c : Option (List ℕ))
    → given_of r out' ≡ given_by (taken s rest (length out)) out
    → Appends b c (take r.written out')
    → Went first s portion rest a b
    → Went first (session_of r.player) portion (drop r.taken rest) a c
went_fed first s portion rest out out' r a b c e p w =
    let t = taken s rest (length out) in
    let text : take r.written out' ≡ t.text =
    ap (λ (x : Given). take x.written x.out) e ∙ take-append_seam t.text (drop (length t.text) out) in
    let went = went_on first s portion rest a b c (length out) w (subst (Appends b c) text p) in
    let same : drop t.taken rest ≡ drop r.taken rest = ap (λ (x : Given). drop x.taken rest) (sym e) in
    subst (λ (x : Session). Went first x portion (drop r.taken rest) a c) (ap (λ (x : Given). x.session) (sym e))
    (subst (λ (l : List ℕ). Went first t.session portion l a c) same went)

-- where nothing was taken, though there was room, nothing is to be played
pub none_taken : (s : Session) (bytes : List ℕ) (room : ℕ) → 29 ≤ room → (taken s bytes room).taken ≡ 0 → fed (taken s bytes room).session bytes ≡ record { session = (taken s bytes room).session; text = [] }
none_taken s [] room h z = refl
none_taken s (b ∷ bs) room h z = split s.ended
    (λ e.
    let stays : (taken s (b ∷ bs) room).session ≡ s = rw e in
    subst (λ (x : Session). fed x (b ∷ bs) ≡ record { session = x; text = [] }) (sym stays) (fed_ended s (b ∷ bs) e))
    (λ e. let y = rw (e, le-ltb room 29 h) at z in absurd (omega arith))

-- where nothing more is to be played, all lines of the portion were written
pub went_end : (first s : Session) (portion rest : List ℕ) (a b : Option (List ℕ)) → Went first s portion rest a b → fed s rest ≡ record { session = s; text = [] }
    → (s ≡ (fed first portion).session) × Appends a b (fed first portion).text
went_end first s portion rest a b w e = (
  sym (w.session_is ∙ ap (λ (p : Printed). p.session) e),
  subst (Appends a b) (sym (w.text_is ∙ ap (λ (p : Printed). w.lines ++ p.text) e ∙ append-nil w.lines)) w.wrote,
)

pub went_none : (first s : Session) (portion rest : List ℕ) (out out' : List ℕ) (r : Fed) (a b c : Option (List ℕ))
    → given_of r out' ≡ given_by (taken s rest (length out)) out
    → Appends b c (take r.written out')
    → Went first s portion rest a b
    → 29 ≤ length out
    → r.taken ≡ 0
    → (session_of r.player ≡ (fed first portion).session) × Appends a c (fed first portion).text
went_none first s portion rest out out' r a b c e p w h z =
    let t = taken s rest (length out) in
    let k : t.taken ≡ 0 = ap (λ (x : Given). x.taken) (sym e) ∙ z in
    let none = none_taken s rest (length out) h k in
    let here : session_of r.player ≡ t.session = ap (λ (x : Given). x.session) e in
    let still : fed (session_of r.player) rest ≡ record { session = session_of r.player; text = [] } =
    subst (λ (x : Session). fed x rest ≡ record { session = x; text = [] }) (sym here) none in
    let went = went_fed first s portion rest out out' r a b c e p w in
    let same : drop r.taken rest ≡ rest = ap (λ (m : ℕ). drop m rest) z in
    went_end first (session_of r.player) portion rest a c (subst (λ (l : List ℕ). Went first (session_of r.player) portion l a c) same went) still

-- The portions so far were played, and one more was read: the session, the lines, and the bytes that the log has left.
pub record Played (log0 log lines0 lines : Option (List ℕ)) (now : Session) (portion : List ℕ) (turns size : ℕ) : Type 0 where
  pub bytes : List ℕ
  pub session_is : now ≡ (fed fresh_session bytes).session
  pub wrote : Appends lines0 lines (fed fresh_session bytes).text
  pub read : Consumes log0 log (bytes ++ portion)
  pub counted : turns ≤ length bytes
  pub stopped : length portion ≡ 0 → 0 < size → now.ended ≡ true ⊎ IsAtEnd log

-- the first portion is read
pub played_start : (log0 log lines : Option (List ℕ)) (s : Session) (portion : List ℕ) (size : ℕ)
    → s ≡ fresh_session
    → Consumes log0 log portion
    → (length portion ≡ 0 → 0 < size → s.ended ≡ true ⊎ IsAtEnd log)
    → Played log0 log lines lines s portion 0 size
played_start log0 log lines s portion size at read stopped =
    record { bytes = []; session_is = at; wrote = Appends-nil lines; read = read; counted = omega arith; stopped = stopped }

-- the portion is played, and the next one is read
pub played_on : (log0 log log' lines0 lines lines' : Option (List ℕ)) (s s' : Session) (portion portion' : List ℕ) (turns size : ℕ)
    → Played log0 log lines0 lines s portion turns size
    → s' ≡ (fed s portion).session
    → Appends lines lines' (fed s portion).text
    → Consumes log log' portion'
    → (length portion' ≡ 0 → 0 < size → s'.ended ≡ true ⊎ IsAtEnd log')
    → 0 < length portion
    → Played log0 log' lines0 lines' s' portion' (turns + 1) size
played_on log0 log log' lines0 lines lines' s s' portion portion' turns size p at wrote read stopped some =
    let b = p.bytes in
    let f : fed fresh_session (b ++ portion) ≡ fed_on (fed fresh_session b) portion = fed_append fresh_session b portion in
    let from : fed s portion ≡ fed (fed fresh_session b).session portion = ap (λ (x : Session). fed x portion) p.session_is in
    record {
      bytes = b ++ portion;
      session_is = at ∙ ap (λ (x : Printed). x.session) from ∙ sym (ap (λ (x : Printed). x.session) f);
      wrote = subst (Appends lines0 lines')
          (ap (λ (x : Printed). (fed fresh_session b).text ++ x.text) from ∙ sym (ap (λ (x : Printed). x.text) f))
          (Appends-trans lines0 lines lines' (fed fresh_session b).text (fed s portion).text p.wrote wrote);
      read = Consumes-trans log0 log log' (b ++ portion) portion' p.read read;
      counted = omega (arith, length-append b portion, p.counted);
      stopped = stopped;
    }

nil : (l : List ℕ) → length l ≡ 0 → l ≡ []
nil [] e = refl
nil (x ∷ l) e = absurd (omega arith)

-- nothing that the log still has is played
nothing_left : (s : Session) (portion rest : List ℕ) → length portion ≡ 0 → s.ended ≡ true ⊎ (rest ≡ []) → fed s (portion ++ rest) ≡ record { session = s; text = [] }
nothing_left s portion rest z (inl e) = fed_ended s (portion ++ rest) e
nothing_left s portion rest z (inr e) = ap (λ (l : List ℕ). fed s l) (ap (λ (l : List ℕ). l ++ rest) (nil portion z) ∙ e)

-- a log that has come to its end, and what is said there
printed_end : (s : Session) (b portion rest bytes : List ℕ) → s ≡ (fed fresh_session b).session → bytes ≡ (b ++ portion) ++ rest
    → fed s (portion ++ rest) ≡ record { session = s; text = [] }
    → (fed fresh_session b).text ++ finished s ≡ printed_of bytes
printed_end s b portion rest bytes at is none =
    let tail = portion ++ rest in
    let f : fed fresh_session bytes ≡ record { session = s; text = (fed fresh_session b).text } =
    ap (λ (l : List ℕ). fed fresh_session l) (is ∙ append_assoc b portion rest)
    ∙ fed_append fresh_session b tail
    ∙ ap (λ (x : Session). record { session = (fed x tail).session; text = (fed fresh_session b).text ++ (fed x tail).text }) (sym at)
    ∙ ap (λ (x : Printed). record { session = x.session; text = (fed fresh_session b).text ++ x.text }) none
    ∙ ap (λ (t : List ℕ). record { session = s; text = t }) (append-nil (fed fresh_session b).text) in
    sym (ap (λ (x : Printed). x.text ++ finished x.session) f) ∙ (replayed bytes).0

-- so many portions are not read where each has a byte
nothing_read : (b portion rest bytes : List ℕ) (turns : ℕ) → bytes ≡ (b ++ portion) ++ rest → turns ≤ length b → length bytes < 18446744073709551616
    → (length portion ≡ 0) ⊎ (18446744073709551615 ≤ turns) → length portion ≡ 0
nothing_read b portion rest bytes turns is many few (inl e) = e
nothing_read b portion rest bytes turns is many few (inr e) =
    let all : length bytes ≡ (length b + length portion) + length rest =
    ap length is ∙ length-append (b ++ portion) rest ∙ ap (λ (n : ℕ). n + length rest) (length-append b portion) in
    omega arith

-- where no more is read, and what is said of the end was written, all that the log prints was written
pub played_end : (log0 log lines0 lines lines' : Option (List ℕ)) (s : Session) (portion : List ℕ) (turns size : ℕ)
    → Played log0 log lines0 lines s portion turns size
    → Appends lines lines' (finished s)
    → 0 < size
    → (length portion ≡ 0) ⊎ (18446744073709551615 ≤ turns)
    → IfSome log0 (λ (bytes : List ℕ). length bytes < 18446744073709551616 → Appends lines0 lines' (printed_of bytes))
played_end None log lines0 lines lines' s portion turns size p w h d = tt
played_end (Some bytes) None lines0 lines lines' s portion turns size p w h d = absurd p.read
played_end (Some bytes) (Some rest) lines0 lines lines' s portion turns size p w h d = λ few.
    let none : length portion ≡ 0 = nothing_read p.bytes portion rest bytes turns p.read p.counted few d in
    let written : Appends lines0 lines' ((fed fresh_session p.bytes).text ++ finished s) = Appends-trans lines0 lines lines' (fed fresh_session p.bytes).text (finished s) p.wrote w in
    subst (Appends lines0 lines') (printed_end s p.bytes portion rest bytes p.session_is p.read (nothing_left s portion rest none (p.stopped none h))) written

pub on_ok : {E : Type 0} {A B : Type 0} (r : Result (Unit {0}) E) → OnOk r A → (A → B) → OnOk r B
on_ok (Ok x) a f = f a
on_ok (Err e) a f = tt

-- what is said at the end of a log, in a buffer that has room for it
pub last_line : (s : Session) (out out' : List ℕ) (written : ℕ) → 29 ≤ length out → written ≡ length (last_text s out) → out' ≡ onto (last_text s out) out → take written out' ≡ finished s
last_line s out out' written room w o =
    let said : last_text s out ≡ finished s = ap (λ (b : Bool). cond b [] (finished s)) (le-ltb (length out) 29 room) in
    ap₂ (λ (n : ℕ) (l : List ℕ). take n l) w o ∙ take-append_seam (last_text s out) (drop (length (last_text s out)) out) ∙ said

-- nothing has come yet
pub none_ended : (b : Bool) (log : Option (List ℕ)) → false ≡ true ⊎ IsAtEnd log → b ≡ true ⊎ IsAtEnd log
none_ended b log (inl e) = absurd (true≢false (sym e))
none_ended b log (inr e) = inr e

pub or_at_end : (b e : Bool) (log : Option (List ℕ)) → b ≡ e → b ≡ true ⊎ IsAtEnd log → e ≡ true ⊎ IsAtEnd log
or_at_end b e log same (inl t) = inl (sym same ∙ t)
or_at_end b e log same (inr t) = inr t
