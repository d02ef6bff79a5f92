use Rattle.std.proofs.Common.{◌+◌, ◌≤◌, length, arith, rules, sym, ◌∙◌}
use Rattle.comparer.proofs.Agreeing.{rest}
use Rattle.comparer.proofs.Feeding.{begins, left_taken, left_turn, right_taken, right_turn, cannot, ends}
use Rattle.comparer.specs.Comparer.{log_in, comparing_of}
use Rattle.comparer.proofs.Comparer.feed.Goals as goal
use Rattle.comparer.proofs.Comparer.feed.Goals.{then-is_wanted+then-l-left, else-is_wanted+then-is_wanted-2+then-r-right}

pub loop-self-init : goal.loop-self-init
loop-self-init c = begins (comparing_of c.args.self.now) c.args.left.now c.args.right.now

pub overflow_add-l : goal.overflow_add-l
overflow_add-l c =
    let i = c.loop-self in
    let a = c.args.left.now in
    let k = c.read-n in
    let t = left_taken (comparing_of c.args.self.now) a c.args.right.now i.self i.l i.r i.invariant (sym c.is_wanted.ensures ∙ c.if-is_wanted.true) c.if-l-left.true
    k.new.self k.result (rw (rest a i.l) at k.ensures) in
    let h : i.l + k.result ≤ length a = omega (arith, t.1, i.invariant.left_within) in
    search rules

pub overflow_add-r : goal.overflow_add-r
overflow_add-r c =
    let i = c.loop-self in
    let a = c.args.left.now in
    let b = c.args.right.now in
    let k = c.read-n-then-r-right in
    let n = cannot (log_in i.self.left) a i.l c.is_wanted.ensures c.else-is_wanted.either in
    let t = right_taken (comparing_of c.args.self.now) a b i.self i.l i.r i.invariant n (sym c.is_wanted-else-is_wanted.ensures ∙ c.if-is_wanted-2.true) c.if-r-right.true
    k.new.self k.result (rw (rest b i.r) at k.ensures) in
    let h : i.r + k.result ≤ length b = omega (arith, t.1, i.invariant.right_within) in
    search rules

pub returns-else-is_wanted-2-clause-result_value : goal.returns-else-is_wanted-2-clause-result_value
returns-else-is_wanted-2-clause-result_value c =
    let i = c.loop-self in
    let a = c.args.left.now in
    let b = c.args.right.now in
    ends (comparing_of c.args.self.now) a b i.self i.l i.r i.invariant
    (cannot (log_in i.self.left) a i.l c.is_wanted.ensures c.else-is_wanted.either)
    (cannot (log_in i.self.right) b i.r c.is_wanted-else-is_wanted.ensures c.else-is_wanted-2.either)

pub loop-self-smaller : goal.loop-self-smaller
loop-self-smaller c =
    let i = c.loop-self in
    let a = c.args.left.now in
    let b = c.args.right.now in
    elim c.if-is_wanted.branch [
      | then-is_wanted+then-l-left w ↦
          let k = w.read-n in
          let t = left_taken (comparing_of c.args.self.now) a b i.self i.l i.r i.invariant (sym c.is_wanted.ensures ∙ w.if-is_wanted.true) w.if-l-left.true
          k.new.self k.result (rw (rest a i.l) at k.ensures) in
          rw (w.l-is, w.r-is) (omega (arith, t.0, t.1))
      | else-is_wanted+then-is_wanted-2+then-r-right w ↦
          let k = w.read-n-then-r-right in
          let n = cannot (log_in i.self.left) a i.l c.is_wanted.ensures w.else-is_wanted.either in
          let t = right_taken (comparing_of c.args.self.now) a b i.self i.l i.r i.invariant n (sym w.is_wanted-else-is_wanted.ensures ∙ w.if-is_wanted-2.true) w.if-r-right.true
          k.new.self k.result (rw (rest b i.r) at k.ensures) in
          rw (w.l-is, w.r-is) (omega (arith, t.0, t.1))
    ]

pub loop-self-preserved : goal.loop-self-preserved
loop-self-preserved c =
    let i = c.loop-self in
    let a = c.args.left.now in
    let b = c.args.right.now in
    elim c.if-is_wanted.branch [
      | then-is_wanted+then-l-left w ↦
          let k = w.read-n in
          rw (w.l-is, w.r-is)
          (left_turn (comparing_of c.args.self.now) a b i.self i.l i.r i.invariant (sym c.is_wanted.ensures ∙ w.if-is_wanted.true) w.if-l-left.true
          k.new.self k.result (rw (rest a i.l) at k.ensures) c.settle.new.self (rw w.self-is at c.settle.ensures))
      | else-is_wanted+then-is_wanted-2+then-r-right w ↦
          let k = w.read-n-then-r-right in
          let n = cannot (log_in i.self.left) a i.l c.is_wanted.ensures w.else-is_wanted.either in
          rw (w.l-is, w.r-is)
          (right_turn (comparing_of c.args.self.now) a b i.self i.l i.r i.invariant n (sym w.is_wanted-else-is_wanted.ensures ∙ w.if-is_wanted-2.true) w.if-r-right.true
          k.new.self k.result (rw (rest b i.r) at k.ensures) c.settle.new.self (rw w.self-is at c.settle.ensures))
    ]
