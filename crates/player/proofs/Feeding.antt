-- The loop that plays a portion: what it has taken and printed so far, how that begins, goes on and ends.
-- Assumes nothing.
use Prim.Native.Nat.{ℕ, ◌+◌, ◌-◌, ◌≤◌, ◌<◌}
use mathlib.Core.Bool.{true, false}
use mathlib.Core.List.{List, [], ◌∷◌, ◌++◌, append_assoc, append-nil}
use mathlib.Core.Path.{◌≡◌, refl, sym, ap, ◌∙◌}
use native.Mathlib.Nat.{add-zero, zero-add, sub-zero, add_assoc, sub-add-eq}
use native.Mathlib.Omega.{arith}
use lib.ListN.{length, take, drop, length-drop, take-append-drop, drop_of_length-le}
use lib.Seq.{drop-drop, length-take-le, take_all}
use borrow.Author.Tests.{lt-ltb, le-ltb}
use Rattle.lists.specs.Tests.{or-true}
use Rattle.session_log.proofs.Gather.{taken_turn}
use Rattle.session_log.specs.Gather.{gather, gathered, turn}
use Rattle.session_log.specs.Session.{Session, Printed, Taken, taken}
use Rattle.player.specs.Player.{given_by}
use Rattle.text.proofs.Puts.{put_long, split_at}
use Rattle.text.specs.Line.{PutAt}

-- some bytes taken and some text printed, and then the rest
abbrev pub resumed : List ℕ → ℕ → Taken → Taken
resumed text n t = record { session = t.session; taken = n + t.taken; text = text ++ t.text }

-- of a portion and a buffer of a session s₀, n bytes are taken and w are written, and the session is s
pub record Feeding (s₀ : Session) (portion out₀ : List ℕ) (s : Session) (n w : ℕ) (out : List ℕ) : Type 0 where
  pub within : n ≤ length portion
  pub room : w ≤ length out₀
  pub long : length out ≡ length out₀
  pub rest : drop w out ≡ drop w out₀
  pub all : taken s₀ portion (length out₀) ≡ resumed (take w out) n (taken s (drop n portion) (length out₀ - w))

-- nothing is taken
abbrev pub idle : Session → Taken
idle s = record { session = s; taken = 0; text = [] }

abbrev with_taken : Taken → ℕ → Taken
with_taken t n = record { session = t.session; taken = n; text = t.text }

pub start : (s : Session) (portion out : List ℕ) → Feeding s portion out s 0 0 out
start s portion out = record {
  within = omega arith;
  room = omega arith;
  long = refl;
  rest = refl;
  all = rw (sub-zero (length out)) (ap (with_taken (taken s portion (length out))) (sym (zero-add (taken s portion (length out)).taken)));
}

pub idle_short : (s : Session) (portion : List ℕ) (room : ℕ) → room < 29 → taken s portion room ≡ idle s
idle_short s [] room h = refl
idle_short s (b ∷ bs) room h = rw (lt-ltb room 29 h, or-true s.ended)

pub idle_ended : (s : Session) (portion : List ℕ) (room : ℕ) → s.ended ≡ true → taken s portion room ≡ idle s
idle_ended s [] room h = refl
idle_ended s (b ∷ bs) room h = rw h

pub idle_done : (s : Session) (portion : List ℕ) (n room : ℕ) → length portion ≤ n → taken s (drop n portion) room ≡ idle s
idle_done s portion n room h = let d : drop n portion ≡ [] = drop_of_length-le portion h in ap (λ (l : List ℕ). taken s l room) d

-- taken one after the other
resume : (text more : List ℕ) (n k : ℕ) (t : Taken) → resumed text n (resumed more k t) ≡ resumed (text ++ more) (n + k) t
resume text more n k t =
    ap (λ (m : ℕ). record { session = t.session; taken = m; text = text ++ (more ++ t.text) }) (sym (add_assoc n k t.taken))
    ∙ ap (λ (l : List ℕ). record { session = t.session; taken = n + k + t.taken; text = l }) (sym (append_assoc text more t.text))

module _ (s₀ : Session) (portion out₀ : List ℕ) (s : Session) (n w : ℕ) (out : List ℕ) (f : Feeding s₀ portion out₀ s n w out) where
  -- a turn of the loop
  pub next : (q : Printed) (k : ℕ) (w' : ℕ) (out' : List ℕ) → n < length portion → s.ended ≡ false → w + 29 ≤ length out₀
      → turn s (gather s.held (drop n portion)) ≡ q → gathered s.held (drop n portion) ≡ k → k ≤ length (drop n portion) → PutAt out w q.text w' out'
      → Feeding s₀ portion out₀ q.session (n + k) w' out'
  next q k w' out' h e r t g b p =
      let l : length (drop n portion) ≡ length portion - n = length-drop n portion in
      let o = f.long in
      let x = split_at p in
      let v : length out₀ - w' ≡ length out₀ - w - length q.text = rw p.place (sub-add-eq (length out₀) w (length q.text)) in
      let d : drop k (drop n portion) ≡ drop (n + k) portion = drop-drop k n portion in
      let m : w + (w' - w) ≡ w' = omega (arith, p.place) in
      record {
        within = omega arith;
        room = omega (arith, p.room);
        long = put_long p ∙ o;
        rest = x.1 ∙ rw (← m, ← drop-drop (w' - w) w out, ← drop-drop (w' - w) w out₀, f.rest);
        all = f.all
            ∙ ap (resumed (take w out) n) (taken_turn s (drop n portion) (length out₀ - w) e (omega arith) (le-ltb (length out₀ - w) 29 (omega arith)) ∙ rw (t, g))
            ∙ resume (take w out) q.text n k (taken q.session (drop k (drop n portion)) (length out₀ - w - length q.text))
            ∙ rw (d, v, x.0);
      }

  -- where the loop ends nothing more is taken
  pub ends : taken s (drop n portion) (length out₀ - w) ≡ idle s → record { session = s; taken = n; written = w; out = out } ≡ given_by (taken s₀ portion (length out₀)) out₀
  ends i =
      let o = f.long in
      let r = f.room in
      let l : length (take w out) ≡ w = length-take-le w out (omega arith) in
      let a : taken s₀ portion (length out₀) ≡ record { session = s; taken = n; text = take w out } = f.all ∙ ap (resumed (take w out) n) i ∙ rw (add-zero n, append-nil (take w out)) in
      let b : take w out ++ drop w out₀ ≡ out = rw (← f.rest) (take-append-drop w out) in
      rw (a, l, b)

-- the rest of a portion, as the code lends it
pub all_left : (p : List ℕ) (n : ℕ) → take (length p - n) (drop n p) ≡ drop n p
all_left p n = take_all (length p - n) (drop n p) (omega (arith, length-drop n p))
