use Rattle.comparison_text.proofs.Lines.{left_room, right_room, counts_room, written}
use Rattle.comparison_text.proofs.write.Goals as goal

pub end_line-end-requires : goal.end_line-end-requires
end_line-end-requires c = left_room c.args.comparison c.if-out-lt-TEXT_MAX.false c.verdict_line-end.ensures

pub end_line-end-requires-2 : goal.end_line-end-requires-2
end_line-end-requires-2 c = right_room c.args.comparison c.if-out-lt-TEXT_MAX.false c.verdict_line-end.ensures c.end_line-end.ensures

pub count_lines-requires : goal.count_lines-requires
count_lines-requires c =
    counts_room c.args.comparison c.if-out-lt-TEXT_MAX.false c.verdict_line-end.ensures c.end_line-end.ensures c.end_line-end-2.ensures

pub returns-clause-value : goal.returns-clause-value
returns-clause-value c =
    (written c.args.comparison c.if-out-lt-TEXT_MAX.false c.verdict_line-end.ensures c.end_line-end.ensures c.end_line-end-2.ensures c.count_lines.ensures).0

pub returns-clause-out_after : goal.returns-clause-out_after
returns-clause-out_after c =
    (written c.args.comparison c.if-out-lt-TEXT_MAX.false c.verdict_line-end.ensures c.end_line-end.ensures c.end_line-end-2.ensures c.count_lines.ensures).1.0
