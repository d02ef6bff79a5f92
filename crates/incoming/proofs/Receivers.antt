-- Copies for the receivers of a kind, or for nobody.
-- Assumes nothing.
use Rattle.std.proofs.Common.{◌≡◌, ℕ, Bool, true, false, cond, ◌&&◌, ◌||◌, eqb, List, [], ◌∷◌, sym, refl, ◌∙◌, Option, Some, None, is_some}
use Rattle.constants.specs.Kernel.{CEC-MODE-FOLLOWER, CEC-MODE-EXCL-FOLLOWER, CEC-MODE-EXCL-FOLLOWER-PASSTHRU}
use Rattle.copies.proofs.Turns.{copies_none, nobody}
use Rattle.copies.specs.Kinds.{gets_copies}
use Rattle.copies.specs.declared.Receivers.{Receivers}
use Rattle.entry.specs.declared.Entry.{Entry}
use Rattle.handle.specs.declared.Handle.{Handle}
use Rattle.incoming.specs.Steps.{follower_kind, receivers_of}
use Rattle.lists.specs.Sums.{any, any_fewer}
use Rattle.lists.specs.Tests.{clash, split}
use Rattle.rules.specs.Deliver.{copies}
use Rattle.rules.specs.Handles.{follower_part, in_role, is_follower}
use Rattle.rules.specs.State.{State}

any_never : (p : Handle → Bool) → ((x : Handle) → p x ≡ false) → (l : List Handle) → any p l ≡ false
any_never p k [] = refl
any_never p k (x ∷ l) = rw (k x, any_never p k l)

pub no_receivers : (kind : Option Receivers) → is_some kind ≡ false → kind ≡ None
no_receivers None e = refl
no_receivers (Some x) e = clash refl e

-- copies for nobody
pub nobody_copies : (kind : Option Receivers) (e : Entry) (s : State) → kind ≡ None → s ≡ copies (in_role (gets_copies kind)) e s
nobody_copies kind e s q = copies_none (in_role (gets_copies kind)) e s refl (any_never (in_role (gets_copies kind)) (λ x. nobody kind x q) s.handles)

-- copies for a kind, if a test holds
pub receivers_copies : (b : Bool) (kind : Receivers) (e : Entry) (s : State) → copies (in_role (gets_copies (receivers_of b s.handles kind))) e s ≡ cond b (copies (in_role (gets_copies (Some kind))) e s) s
receivers_copies b kind e s =
    split b
    (λ q. split (any (in_role (gets_copies (Some kind))) s.handles)
    (λ f. rw (q, f))
    (λ f. rw (q, f) (sym (nobody_copies None e s refl) ∙ copies_none (in_role (gets_copies (Some kind))) e s refl f)))
    (λ q. rw q (sym (nobody_copies None e s refl)))

-- where nobody follows, there is no receiver among followers
fewer : (exclusive a b c : Bool) → (a || b || c) ≡ false → cond exclusive (b || c) a ≡ false
fewer exclusive true b c e = clash refl e
fewer exclusive false true c e = clash refl e
fewer exclusive false false c e = split exclusive (λ q. rw q e) (λ q. rw q)

follower_fewer : (exclusive : Bool) (mode : ℕ) → is_follower mode ≡ false → gets_copies (Some (follower_kind exclusive)) mode ≡ false
follower_fewer true mode e = fewer true (eqb (follower_part mode) CEC-MODE-FOLLOWER) (eqb (follower_part mode) CEC-MODE-EXCL-FOLLOWER) (eqb (follower_part mode) CEC-MODE-EXCL-FOLLOWER-PASSTHRU) e
follower_fewer false mode e = fewer false (eqb (follower_part mode) CEC-MODE-FOLLOWER) (eqb (follower_part mode) CEC-MODE-EXCL-FOLLOWER) (eqb (follower_part mode) CEC-MODE-EXCL-FOLLOWER-PASSTHRU) e

role_fewer : (b p q : Bool) → (q ≡ false → p ≡ false) → (b && q) ≡ false → (b && p) ≡ false
role_fewer true p q k e = k e
role_fewer false p q k e = refl

pub no_followers : (exclusive : Bool) (hs : List Handle) → any (in_role is_follower) hs ≡ false → any (in_role (gets_copies (Some (follower_kind exclusive)))) hs ≡ false
no_followers exclusive hs e =
    any_fewer (in_role (gets_copies (Some (follower_kind exclusive)))) (in_role is_follower) hs
    (λ x. role_fewer x.is_open (gets_copies (Some (follower_kind exclusive)) x.mode) (is_follower x.mode) (follower_fewer exclusive x.mode))
    e
