use Rattle.std.proofs.Common.{arith, eq-eqb, ne_eqb}
use Rattle.bus_status.proofs.Masks.{counted, is_set}
use Rattle.bus_status.proofs.kept.Goals as goal

pub returns-then-status-bit-ne0 : goal.returns-then-status-bit-ne0
returns-then-status-bit-ne0 c =
    let a = c.args in
    rw (← counted a.status a.bit (omega arith) c.requires, is_set, ne_eqb _ _ c.if-status-bit-ne0.true)

pub returns-else-status-bit-ne0 : goal.returns-else-status-bit-ne0
returns-else-status-bit-ne0 c =
    let a = c.args in
    rw (← counted a.status a.bit (omega arith) c.requires, is_set, eq-eqb _ _ c.if-status-bit-ne0.false)
