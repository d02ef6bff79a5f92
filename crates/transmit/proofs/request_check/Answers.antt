use Rattle.std.proofs.Common.{refl}
use Rattle.rules.proofs.Checks.{stopped, onward}
use Rattle.transmit.proofs.request_check.Goals as goal

pub returns-then-is_malformed : goal.returns-then-is_malformed
returns-then-is_malformed c = stopped _ _ _ (rw c.is_malformed.ensures at c.if-is_malformed.true)

pub returns-then-is_poll_invalid : goal.returns-then-is_poll_invalid
returns-then-is_poll_invalid c =
    onward _ _ _ _ (rw c.is_malformed.ensures at c.if-is_malformed.false)
    (stopped _ _ _ (rw c.is_poll_invalid.ensures at c.if-is_poll_invalid.true))

pub returns-then-configured-is_wake_up : goal.returns-then-configured-is_wake_up
returns-then-configured-is_wake_up c =
    onward _ _ _ _ (rw c.is_malformed.ensures at c.if-is_malformed.false)
    (onward _ _ _ _ (rw c.is_poll_invalid.ensures at c.if-is_poll_invalid.false)
    (stopped _ _ _ (rw (c.is_configured-configured.ensures, c.is_wake_up.ensures) at c.if-configured-is_wake_up.true)))

pub returns-then-configured-wants_reply : goal.returns-then-configured-wants_reply
returns-then-configured-wants_reply c =
    onward _ _ _ _ (rw c.is_malformed.ensures at c.if-is_malformed.false)
    (onward _ _ _ _ (rw c.is_poll_invalid.ensures at c.if-is_poll_invalid.false)
    (onward _ _ _ _ (rw (c.is_configured-configured.ensures, c.is_wake_up.ensures) at c.if-configured-is_wake_up.false)
    (stopped _ _ _ (rw (c.is_configured-configured.ensures, c.wants_reply.ensures) at c.if-configured-wants_reply.true))))

pub returns-then-configured-is_misaddressed : goal.returns-then-configured-is_misaddressed
returns-then-configured-is_misaddressed c =
    onward _ _ _ _ (rw c.is_malformed.ensures at c.if-is_malformed.false)
    (onward _ _ _ _ (rw c.is_poll_invalid.ensures at c.if-is_poll_invalid.false)
    (onward _ _ _ _ (rw (c.is_configured-configured.ensures, c.is_wake_up.ensures) at c.if-configured-is_wake_up.false)
    (onward _ _ _ _ (rw (c.is_configured-configured.ensures, c.wants_reply.ensures) at c.if-configured-wants_reply.false)
    (stopped _ _ _ (rw (c.is_configured-configured.ensures, c.is_misaddressed.ensures) at c.if-configured-is_misaddressed.true)))))

pub returns : goal.returns
returns c =
    onward _ _ _ _ (rw c.is_malformed.ensures at c.if-is_malformed.false)
    (onward _ _ _ _ (rw c.is_poll_invalid.ensures at c.if-is_poll_invalid.false)
    (onward _ _ _ _ (rw (c.is_configured-configured.ensures, c.is_wake_up.ensures) at c.if-configured-is_wake_up.false)
    (onward _ _ _ _ (rw (c.is_configured-configured.ensures, c.wants_reply.ensures) at c.if-configured-wants_reply.false)
    (onward _ _ _ _ (rw (c.is_configured-configured.ensures, c.is_misaddressed.ensures) at c.if-configured-is_misaddressed.false) refl))))
