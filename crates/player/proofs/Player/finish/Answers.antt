use Rattle.std.proofs.Common.{arith, rules}
use Rattle.player.proofs.Printing.{nothing_cut, cut}
use Rattle.player.proofs.Player.finish.Goals as goal

pub returns-then-cursor-clause-written_value : goal.returns-then-cursor-clause-written_value
returns-then-cursor-clause-written_value c = (nothing_cut c.args.out.now c.args.self (search rules) (omega arith) c.if-cursor.true).0

pub returns-then-cursor-clause-out_after : goal.returns-then-cursor-clause-out_after
returns-then-cursor-clause-out_after c = (nothing_cut c.args.out.now c.args.self (search rules) (omega arith) c.if-cursor.true).1

pub returns-clause-written_value : goal.returns-clause-written_value
returns-clause-written_value c = (cut c.args.out.now c.args.self (search rules) (omega arith) c.if-cursor.false (c.cut_line.ensures.fits (omega arith))).0

pub returns-clause-out_after : goal.returns-clause-out_after
returns-clause-out_after c = (cut c.args.out.now c.args.self (search rules) (omega arith) c.if-cursor.false (c.cut_line.ensures.fits (omega arith))).1
