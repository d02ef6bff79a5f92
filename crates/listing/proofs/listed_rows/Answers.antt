use Rattle.std.proofs.Common.{refl}
use Rattle.listing.proofs.Written.{eight_filled}
use Rattle.adapter.specs.Adapter.{state_of}
use Rattle.listing.proofs.listed_rows.Goals as goal

pub returns : goal.returns
returns c =
    let listed = c.listing-errno in
    eight_filled (state_of c.args.adapter) listed.result _ _ refl listed.ensures.0 listed.ensures.1
