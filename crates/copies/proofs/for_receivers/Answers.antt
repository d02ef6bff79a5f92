use Rattle.std.proofs.Common.{◌≡◌, ◌≢◌, ℕ, true, arith, refl, sym, ap, ◌∙◌, set, take}
use Rattle.copies.proofs.Turns.{alike, copied, copy_if, each_next, turn_lost, turn_kept, turn_none, nobody}
use Rattle.std.specs.Prelude.{Option, None}
use Rattle.copies.specs.Kinds.{gets_copies}
use Rattle.copies.specs.declared.Receivers.{Receivers}
use Rattle.entry.specs.declared.Entry.{Entry}
use Rattle.inbox.proofs.Arrays.{counted}
use Rattle.lists.specs.Tests.{clash}
use Rattle.parts.proofs.Arrays.{Delivered, LongParts, leaves, stores}
use Rattle.parts.specs.Parts.{state_of}
use Rattle.parts.specs.declared.Parts.{Parts}
use Rattle.rules.specs.Deliver.{each, handle_numbers, loses, copies_by}
use Rattle.rules.specs.Derived.{room_taken}
use Rattle.rules.specs.Handles.{handle_at, in_role}
use Rattle.rules.specs.State.{State}
use Rattle.copies.proofs.for_receivers.Goals as goal
use Rattle.copies.proofs.for_receivers.Goals.{then-is_copied+then-n-owed-eq16, then-is_copied+else-n-owed-eq16+then-h-n, then-is_copied+else-n-owed-eq16+else-h-n, else-is_copied}

-- what a turn does to the parts
abbrev Turn : Option Receivers → Entry → ℕ → Parts → Parts → Type 0
Turn kind e h p q = LongParts q × (state_of q ≡ copy_if kind e (state_of p) h) × (kind ≡ None → q ≡ p)

pub loop-handle-preserved : goal.loop-handle-preserved
loop-handle-preserved c =
    let l = c.loop-handle in
    let a = c.args in
    let kind = a.kind in
    let e = a.entry in
    let j = c.if-is_copied in
    let p = copied a.parts l.handles l.counts l.entries in
    let q = copied a.parts j.handles j.counts j.entries in
    let s = state_of p in
    let h = l.handle in
    let at = c.at-own.ensures in
    let g = c.is_copied.ensures ∙ ap (in_role (gets_copies kind)) at in
    let many = counted p.entries p.counts l.invariant.0 h in
    let kept : c.is_copied.result ≡ true → room_taken s h ≢ 16 → Delivered p h e q → Turn kind e h p q =
    λ b room d. let t = sym g ∙ b in (d.long, d.state ∙ turn_kept kind e s h t room, λ z. clash t (nobody kind (handle_at s h) z)) in
    let done : Turn kind e h p q =
    elim j.branch [
      | then-is_copied+then-n-owed-eq16 w ↦
          let t = sym g ∙ w.if-is_copied.true in (
            rw (w.entries-is, w.counts-is) l.invariant.0,
            ap state_of (alike a.parts _ _ _ _ _ _ w.entries-is w.counts-is w.handles-is)
                ∙ turn_lost kind e s h _ t (omega (arith, w.count_at-n.ensures.value, w.owed-owed.ensures.room_value.0, w.if-n-owed-eq16.true))
                (w.with-handles.ensures ∙ ap (set s.handles h) (w.loses.ensures ∙ ap loses at)),
            λ z. clash t (nobody kind (handle_at s h) z),
          )
      | then-is_copied+else-n-owed-eq16+then-h-n w ↦
          let stays = alike a.parts _ _ _ _ _ _ w.entries-is w.counts-is w.handles-is in
          kept w.if-is_copied.true (λ z. w.if-n-owed-eq16.false (omega (arith, w.count_at-n.ensures.value, w.owed-owed.ensures.room_value.0, z)))
          (stores p l.invariant.0 h _ w.count_at-n.ensures.value e q e w.if-h-n.true refl stays)
      | then-is_copied+else-n-owed-eq16+else-h-n w ↦
          let stays = alike a.parts _ _ _ _ _ _ w.entries-is w.counts-is w.handles-is in
          kept w.if-is_copied.true (λ z. w.if-n-owed-eq16.false (omega (arith, w.count_at-n.ensures.value, w.owed-owed.ensures.room_value.0, z)))
          (leaves p l.invariant.0 h _ w.count_at-n.ensures.value e q w.if-h-n.false stays)
      | else-is_copied w ↦
          let stays = alike a.parts _ _ _ _ _ _ w.entries-is w.counts-is w.handles-is in
          (rw (w.entries-is, w.counts-is) l.invariant.0, ap state_of stays ∙ turn_none kind e s h (sym g ∙ w.if-is_copied.false), λ _. stays)
    ] in (
      done.0,
      done.1
          ∙ ap (λ (t : State). copy_if kind e t h) l.invariant.1
          ∙ sym (each_next (copy_if kind e) (state_of a.parts) h (omega arith)),
      λ z. done.2 z ∙ l.invariant.2 z,
    )

pub returns-clause-result_value : goal.returns-clause-result_value
unfolding copies_by
returns-clause-result_value c =
    let l = c.loop-handle in
    let a = c.args in
    let e : l.handle ≡ 8 = omega arith in
    l.invariant.1 ∙ ap (λ (n : ℕ). each (copy_if a.kind a.entry) (state_of a.parts) (take n handle_numbers)) e
