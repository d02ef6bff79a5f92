use Rattle.std.proofs.Common.{arith}
use Rattle.text.proofs.Puts.{put_long, joined}
use Rattle.comparison_text.proofs.named.Goals as goal

pub returns : goal.returns
returns c =
    let p = c.word-end.ensures.fits (omega (arith, c.requires)) in
    joined p (c.word.ensures.fits (omega (arith, c.requires, put_long p)))
