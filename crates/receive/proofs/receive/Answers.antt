use Rattle.std.proofs.lemmas.Result.{err_from_is_err_and}
use Rattle.std.proofs.Common.{◌≡◌, ◌+◌, ◌-◌, ◌*◌, ◌<◌, List, arith, rules, sym, ap, ap₂, ◌∙◌, min, get_or}
use Rattle.entry.specs.Entry.{no_entry}
use Rattle.entry.specs.declared.Entry.{Entry}
use Rattle.inbox.proofs.Arrays.{counted}
use Rattle.lists.specs.Blocks.{part_first, parts_take}
use Rattle.lists.specs.Vector.{shift_start, shift_next}
use Rattle.parts.proofs.Arrays.{LongParts, with_arrays}
use Rattle.parts.proofs.Outcomes.{accepted_call, passed_check, refused_call}
use Rattle.parts.specs.Parts.{state_of}
use Rattle.receive.proofs.Ends.{some_entry, taken_handle}
use Rattle.rules.specs.Call.{Answer, finish}
use Rattle.rules.specs.Receive.{do_receive}
use Rattle.rules.specs.State.{with_inboxes}
use Rattle.receive.proofs.receive.Goals as goal
use Rattle.receive.proofs.receive.Goals.{After-count_at-n}

-- a receive that is taken, as far as its count: the handle is one of the eight, and has an entry
within : (c : After-count_at-n) → LongParts c.args.parts.now → (c.args.handle < 8) × (0 < c.count_at-n.result)
within c long =
    let some = taken_handle c.args.parts.now c.args.handle long (passed_check _ _ _ c.in_ok-check.was c.check.ensures) in
    (some.0, omega (arith, some.1, c.count_at-n.ensures.value))

pub returns-in_err-check-clause-value : goal.returns-in_err-check-clause-value
unfolding do_receive
returns-in_err-check-clause-value c = refused_call _ _ _ _ _ _ _ c.in_err-check.was c.check.ensures (err_from_is_err_and _ c.from_residual.ensures.1)

pub bounds-parts-first : goal.bounds-parts-first
bounds-parts-first c =
    let long : LongParts c.args.parts.now = record { entries = search rules; counts = search rules } in
    omega (arith, within (goal.at.bounds-parts-first c).After-count_at-n long, long.entries)

pub overflow_sub-last : goal.overflow_sub-last
overflow_sub-last c =
    let long : LongParts c.args.parts.now = record { entries = search rules; counts = search rules } in
    omega (arith, within (goal.at.overflow_sub-last c).After-count_at-n long)

pub loop-i-init : goal.loop-i-init
loop-i-init c =
    let p = c.args.parts.now in
    let long : LongParts p = record { entries = search rules; counts = search rules } in
    let taken = within (goal.at.loop-i-init c).After-count_at-n long in
    ap (λ (es : List Entry). with_arrays p es p.counts) (shift_start (16 * c.args.handle) p.entries (omega (arith, taken, long.entries)))

pub loop-i-preserved : goal.loop-i-preserved
loop-i-preserved c =
    let p = c.args.parts.now in
    let long : LongParts p = record { entries = search rules; counts = search rules } in
    let taken = within (goal.at.loop-i-preserved c).After-count_at-n long in
    let l = c.loop-i in
    rw l.invariant
    (ap (λ (es : List Entry). with_arrays p es p.counts) (shift_next (16 * c.args.handle) l.i p.entries _ (omega (arith, l.auto.i)) (omega (arith, taken, long.entries, c.count_at-n.ensures.upper_bound, c.loop-i-test.true, l.auto.i-end))))

pub overflow_sub-parts : goal.overflow_sub-parts
overflow_sub-parts c =
    let long : LongParts c.args.parts.now = record { entries = search rules; counts = search rules } in
    omega (arith, within (goal.at.overflow_sub-parts c).After-count_at-n long)

pub bounds-parts-h : goal.bounds-parts-h
bounds-parts-h c =
    let long : LongParts c.args.parts.now = record { entries = search rules; counts = search rules } in
    omega (arith, within (goal.at.bounds-parts-h c).After-count_at-n long, long.counts)

pub returns-clause-value : goal.returns-clause-value
unfolding do_receive
returns-clause-value c =
    let a = c.args in
    let p = a.parts.now in
    let long : LongParts p = record { entries = search rules; counts = search rules } in
    let taken = within (goal.at.returns-clause-value c).After-count_at-n long in
    let many = counted p.entries p.counts long a.handle in
    let some = some_entry (state_of p) a.handle (passed_check _ _ _ c.in_ok-check.was c.check.ensures) in
    let l = c.loop-i in
    let n = c.count_at-n.result in
    let m : n - 1 + 1 ≡ min (get_or p.counts a.handle 0) 16 = omega (arith, taken, c.count_at-n.ensures.value) in
    let end : l.i ≡ 16 * a.handle + (n - 1) = omega (arith, taken, l.auto.i, l.auto.i-end, c.loop-i-test.false) in
    let left = parts_take 16 p.counts p.entries a.handle (n - 1) l.i m end (omega (arith, taken, c.count_at-n.ensures.upper_bound, end, long.entries)) in
    let given = sym (part_first 16 p.counts p.entries a.handle no_entry _ some) in
    rw l.invariant
    (ap₂ (λ (e : Entry) (is : List (List Entry)). finish (Answer.received e) (with_inboxes (state_of p) is)) given left
    ∙ accepted_call (state_of p) _ _ _ _ c.in_ok-check.was c.check.ensures)
