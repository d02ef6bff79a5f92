use Rattle.std.proofs.Common.{refl, ne_eqb}
use Rattle.rules.proofs.Checks.{stopped, onward}
use Rattle.transmit.proofs.sender_check.Goals as goal

pub returns-then-not-own : goal.returns-then-not-own
returns-then-not-own c = let o = rw c.at-own.ensures at c.if-not-own.true in stopped _ _ _ (rw o refl)

pub returns-then-not-parts : goal.returns-then-not-parts
returns-then-not-parts c =
    let o = rw c.at-own.ensures at c.if-not-own.false in
    onward _ _ _ _ (rw o refl)
    (stopped _ _ _ (rw c.if-not-parts.true refl))

pub returns-then-initiator_part-eq-CEC_MODE_NO_INITIATOR : goal.returns-then-initiator_part-eq-CEC_MODE_NO_INITIATOR
returns-then-initiator_part-eq-CEC_MODE_NO_INITIATOR c =
    let o = rw c.at-own.ensures at c.if-not-own.false in
    let part = rw (c.initiator_part.ensures, c.at-own.ensures) at c.if-initiator_part-eq-CEC_MODE_NO_INITIATOR.true in
    onward _ _ _ _ (rw o refl)
    (onward _ _ _ _ (rw c.if-not-parts.false refl)
    (stopped _ _ _ (rw part refl)))

pub returns-then-roles_of_others-is_exclusive_follower : goal.returns-then-roles_of_others-is_exclusive_follower
returns-then-roles_of_others-is_exclusive_follower c =
    let o = rw c.at-own.ensures at c.if-not-own.false in
    let part = rw (c.initiator_part.ensures, c.at-own.ensures) at c.if-initiator_part-eq-CEC_MODE_NO_INITIATOR.false in
    let excluded = rw (c.is_exclusive_follower.ensures, c.roles_of_others.ensures, c.at-own.ensures) at c.if-roles_of_others-is_exclusive_follower.true in
    onward _ _ _ _ (rw o refl)
    (onward _ _ _ _ (rw c.if-not-parts.false refl)
    (onward _ _ _ _ (ne_eqb _ _ part)
    (stopped _ _ _ excluded)))

pub returns : goal.returns
returns c =
    let o = rw c.at-own.ensures at c.if-not-own.false in
    let part = rw (c.initiator_part.ensures, c.at-own.ensures) at c.if-initiator_part-eq-CEC_MODE_NO_INITIATOR.false in
    let excluded = rw (c.is_exclusive_follower.ensures, c.roles_of_others.ensures, c.at-own.ensures) at c.if-roles_of_others-is_exclusive_follower.false in
    onward _ _ _ _ (rw o refl)
    (onward _ _ _ _ (rw c.if-not-parts.false refl)
    (onward _ _ _ _ (ne_eqb _ _ part)
    (onward _ _ _ _ excluded refl)))
