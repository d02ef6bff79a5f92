use Rattle.std.proofs.Common.{◌≡◌, arith}
use Rattle.listing.proofs.Written.{row_in, written_next, short_says, full_says}
use Rattle.listing.proofs.listing.Goals as goal

pub returns-then-rows-lt8 : goal.returns-then-rows-lt8
returns-then-rows-lt8 c = short_says c.args.adapter c.args.rows.now c.if-rows-lt8.true

pub loop-i-preserved : goal.loop-i-preserved
unfolding row_in
loop-i-preserved c =
    let l = c.loop-i in
    let a = c.args.adapter in
    let lent = c.args.rows.now in
    let row : c.row_at.result ≡ row_in a l.i = c.row_at.ensures in (
      l.invariant.0,
      rw (l.invariant.1, row) (written_next a l.i lent (omega (arith, l.invariant.0))),
    )

pub returns : goal.returns
returns c =
    let l = c.loop-i in
    let end : l.i ≡ 8 = omega arith in
    rw (l.invariant.1, end) (full_says c.args.adapter c.args.rows.now l.invariant.0)
