use Rattle.std.proofs.Common.{refl, rules}
use Rattle.parts.proofs.Arrays.{LongParts, leaves, stores}
use Rattle.parts.proofs.Parts.deliver.Goals as goal

pub returns-then-h-n : goal.returns-then-h-n
returns-then-h-n c =
    let a = c.args in
    let p = a.self.now in
    let n = c.count_at-n in
    let long : LongParts p = record { entries = search rules; counts = search rules } in
    (stores p long a.handle n.result n.ensures.value a.entry _ a.entry c.if-h-n.true refl refl).state

pub returns-else-h-n : goal.returns-else-h-n
returns-else-h-n c =
    let a = c.args in
    let p = a.self.now in
    let n = c.count_at-n in
    let long : LongParts p = record { entries = search rules; counts = search rules } in
    (leaves p long a.handle n.result n.ensures.value a.entry p c.if-h-n.false refl).state
