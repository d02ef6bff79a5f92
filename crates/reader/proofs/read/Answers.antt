use Rattle.std.proofs.Common.{◌≡◌, ◌<◌, ◌||◌, true, length, eqb, sym, ◌∙◌, rules}
use Rattle.lists.specs.Tests.{or-true}
use Rattle.reader.proofs.Turns.{none_read, read_is}
use Rattle.reader.proofs.read.Goals as goal
use Rattle.reader.proofs.read.Goals.{then-cursor-via-then-cursor, then-cursor-via-else-cursor+then-is_empty}

pub returns-then-cursor : goal.returns-then-cursor
returns-then-cursor c =
    let none : (c.args.cursor.ended || eqb (length c.args.portion.now) 0) ≡ true = elim c.then-cursor.branch [
      | then-cursor-via-then-cursor w ↦ rw w.if-cursor.true
      | then-cursor-via-else-cursor+then-is_empty w ↦ rw (sym w.is_empty.ensures ∙ w.if-is_empty.true) (or-true c.args.cursor.ended)
    ] in
    let t = none_read c.args.bytes.now c.args.cursor c.args.portion.now none in
    record {
      bytes_after = t.same;
      call_value = t.number;
      bytes_len = c.told-bytes;
      length_bound = search rules;
    }

pub returns : goal.returns
returns c =
    let a = c.args in
    let g = c.gather-n in
    let some : 0 < length a.portion.now = search rules in
    let t = read_is a.bytes.now a.cursor a.portion.now g.new.bytes g.result c.held.result c.told-bytes g.ensures.bytes_len_2 c.if-cursor.false
    some c.held.ensures.value g.ensures.portion_value g.ensures.portion_value_2
    c.next.result c.came.result c.came.ensures.number c.next.ensures c.came.ensures.length in
    record {
      bytes_after = t.same;
      call_value = t.number;
      bytes_len = g.ensures.bytes_len_2;
      length_bound = search rules;
    }
