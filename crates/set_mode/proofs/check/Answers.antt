use Rattle.std.proofs.Common.{refl}
use Rattle.rules.proofs.Checks.{stopped, onward}
use Rattle.set_mode.proofs.check.Goals as goal

pub returns-then-not-is_open : goal.returns-then-not-is_open
returns-then-not-is_open c = let o = rw c.is_open.ensures at c.if-not-is_open.true in stopped _ _ _ (rw o refl)

pub returns-then-is_mode_invalid : goal.returns-then-is_mode_invalid
returns-then-is_mode_invalid c =
    let o = rw c.is_open.ensures at c.if-not-is_open.false in
    onward _ _ _ _ (rw o refl)
    (stopped _ _ _ (rw c.is_mode_invalid.ensures at c.if-is_mode_invalid.true))

pub returns-then-is_monitor-handle_at : goal.returns-then-is_monitor-handle_at
returns-then-is_monitor-handle_at c =
    let o = rw c.is_open.ensures at c.if-not-is_open.false in
    onward _ _ _ _ (rw o refl)
    (onward _ _ _ _ (rw c.is_mode_invalid.ensures at c.if-is_mode_invalid.false)
    (stopped _ _ _ (rw (c.is_monitor.ensures, c.handle_at.ensures) at c.if-is_monitor-handle_at.true)))

pub returns-then-is_role_held : goal.returns-then-is_role_held
returns-then-is_role_held c =
    let o = rw c.is_open.ensures at c.if-not-is_open.false in
    onward _ _ _ _ (rw o refl)
    (onward _ _ _ _ (rw c.is_mode_invalid.ensures at c.if-is_mode_invalid.false)
    (onward _ _ _ _ (rw (c.is_monitor.ensures, c.handle_at.ensures) at c.if-is_monitor-handle_at.false)
    (stopped _ _ _ (rw c.is_role_held.ensures at c.if-is_role_held.true))))

pub returns : goal.returns
returns c =
    let o = rw c.is_open.ensures at c.if-not-is_open.false in
    onward _ _ _ _ (rw o refl)
    (onward _ _ _ _ (rw c.is_mode_invalid.ensures at c.if-is_mode_invalid.false)
    (onward _ _ _ _ (rw (c.is_monitor.ensures, c.handle_at.ensures) at c.if-is_monitor-handle_at.false)
    (onward _ _ _ _ (rw c.is_role_held.ensures at c.if-is_role_held.false) refl)))
