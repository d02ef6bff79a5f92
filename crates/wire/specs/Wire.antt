-- The wire: a list of at most one transmission (document 01, "The adapter's parts").
-- Assumes nothing.
use Rattle.std.specs.Prelude.{cond, List, [], ◌∷◌}
use Rattle.transmission.specs.declared.Transmission.{Transmission}
use Rattle.wire.specs.declared.Wire.{Wire}

-- the transmission on the wire
abbrev pub wire_of : Wire → List Transmission
wire_of w = cond w.busy (w.slot ∷ []) []
