-- Lines in a lent buffer, and the bytes that a player holds.
-- Assumes nothing.
use Prim.Native.Nat.{ℕ, ◌≤◌, ◌<◌}
use mathlib.Core.Bool.{true, false, ◌||◌}
use mathlib.Core.List.{List}
use mathlib.Core.Path.{◌≡◌}
use native.Mathlib.Omega.{arith}
use lib.Dec.{eqb}
use lib.ListN.{length}
use borrow.Author.Tests.{lt-ltb, le-ltb}
use Rattle.session_log.specs.Session.{Session, finished}
use Rattle.session_log.specs.Text.{cut_line}
use Rattle.player.specs.Player.{session_of, onto, room_errno, last_text}
use Rattle.player.specs.declared.Player.{Player}
use Rattle.reader.proofs.Turns.{none_held}
use Rattle.text.specs.Line.{PutAt}

pub no_room : (out : List ℕ) (s : Session) → length out < 29 → (22 ≡ room_errno out) × ((0 ≡ length (last_text s out)) × (out ≡ onto (last_text s out) out))
no_room out s h = let e = lt-ltb (length out) 29 h in (rw e, (rw e, rw e))

pub has_room_lem : (out : List ℕ) → 29 ≤ length out → 0 ≡ room_errno out
has_room_lem out h = rw (le-ltb (length out) 29 h)

-- what a session prints at the end: nothing where no record is cut
pub nothing_cut : (out : List ℕ) (p : Player) → length p.bytes ≡ 28 → 29 ≤ length out → (p.cursor.ended || eqb p.cursor.count 0) ≡ true
    → (0 ≡ length (last_text (session_of p) out)) × (out ≡ onto (last_text (session_of p) out) out)
unfolding finished
nothing_cut out p e h t = let r = le-ltb (length out) 29 h in (rw (r, none_held p.bytes p.cursor.count e, t), rw (r, none_held p.bytes p.cursor.count e, t))

cut_is : (out : List ℕ) (p : Player) → length p.bytes ≡ 28 → 29 ≤ length out → (p.cursor.ended || eqb p.cursor.count 0) ≡ false → last_text (session_of p) out ≡ cut_line p.cursor.place
unfolding finished
cut_is out p e h t = rw (le-ltb (length out) 29 h, none_held p.bytes p.cursor.count e, t)

put_first : {out text : List ℕ} {r : ℕ} {out' : List ℕ} → PutAt out 0 text r out' → (r ≡ length text) × (out' ≡ onto text out)
put_first {out} {text} {r} w =
    let s : r ≡ length text = omega (arith, w.place) in
    (s, rw (← s) w.bytes)

pub cut : {r : ℕ} {out' : List ℕ} (out : List ℕ) (p : Player) → length p.bytes ≡ 28 → 29 ≤ length out → (p.cursor.ended || eqb p.cursor.count 0) ≡ false
    → PutAt out 0 (cut_line p.cursor.place) r out'
    → (r ≡ length (last_text (session_of p) out)) × (out' ≡ onto (last_text (session_of p) out) out)
cut out p e h t w = rw (cut_is out p e h t) (put_first w)
