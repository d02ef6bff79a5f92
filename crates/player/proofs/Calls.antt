-- A record that has come, played: its call is the one that its kind stands for.
-- Assumes nothing.
use Rattle.std.proofs.Common.{◌≡◌, ℕ, Bool, true, false, cond, eqb, Option, None, Some, List, refl, sym, ap, ◌∙◌, ne_eqb}
use Rattle.adapter.specs.Adapter.{state_of}
use Rattle.lists.specs.Tests.{split, clash}
use Rattle.session_log.proofs.Record.{call_by}
use Rattle.session_log.specs.Record.{is_kind, kind_of, call_of}
use Rattle.reader.specs.Kind.{kind_number}
use Rattle.reader.specs.declared.Kind.{Kind}
use Rattle.reader.specs.declared.Whole.{Whole}
use Rattle.play.specs.Play.{played_of, effect}
use Rattle.play.specs.declared.Played.{Played}
use Rattle.rules.specs.Call.{call_unconfigure}
use Rattle.rules.specs.State.{State}

-- what was played for the record that came; nothing where none did
abbrev pub Follows : State → List ℕ → Option Whole → Played → Type 0
Follows s r None p = state_of p.adapter ≡ s
Follows s r (Some whole) p = played_of p ≡ effect s (call_by (kind_number whole.kind) r)

pub follows : (s : State) (r : List ℕ) (came : Option Whole) (whole : Whole) (kind : Kind) (p p' : Played) → came ≡ Some whole → whole.kind ≡ kind → p ≡ p'
    → played_of p' ≡ effect s (call_by (kind_number kind) r) → Follows s r came p
follows s r came whole kind p p' a b e f = rw (a, b, e) f

pub follows_none : (a : Played) (r : List ℕ) (came : Option Whole) (p : Played) → came ≡ None → p ≡ a → Follows (state_of a.adapter) r came p
follows_none a r came p e q = rw (e, q)

-- an unknown kind is none of the known ones
other : (k i : ℕ) → is_kind k ≡ false → is_kind i ≡ true → eqb k i ≡ false
other k i p q = ne_eqb k i (λ e. clash (ap is_kind e ∙ q) p)

unknown : (k : ℕ) (r : List ℕ) → is_kind k ≡ false → call_by k r ≡ call_unconfigure
unknown k r p = rw (other k 1 p refl, other k 2 p refl, other k 3 p refl, other k 4 p refl, other k 5 p refl, other k 6 p refl, other k 7 p refl, other k 8 p refl, other k 9 p refl, other k 10 p refl)

pub called : (r : List ℕ) → call_by (cond (is_kind (kind_of r)) (kind_of r) 11) r ≡ call_of r
unfolding call_of
called r = split (is_kind (kind_of r))
    (λ e. ap (λ (b : Bool). call_by (cond b (kind_of r) 11) r) e)
    (λ e. ap (λ (b : Bool). call_by (cond b (kind_of r) 11) r) e ∙ sym (unknown (kind_of r) r e))
