-- The starred known answers of document 01 ("Known answers") as one table.
-- Assumes nothing.
use Rattle.std.specs.Prelude.{true, false, List, [], ◌∷◌}
use Rattle.constants.specs.Kernel.{EPERM, EAGAIN, EINVAL}
use Rattle.rules.specs.Call.{call_mode, call_transmit}
use Rattle.rules.specs.Cases.{Case, bench, request, asked, resulting}
use Rattle.rules.specs.State.{with_last}

abbrev pub known_answers : List Case
known_answers =
    record { start = bench true; calls = call_mode 0 0x31 ∷ []; gives = 0 ∷ [] }
    ∷ record { start = bench true; calls = call_mode 0 0x30 ∷ []; gives = EINVAL ∷ [] }
    ∷ record { start = bench false; calls = call_mode 0 0xE1 ∷ []; gives = EINVAL ∷ [] }
    ∷ record { start = bench false; calls = call_mode 0 0xE0 ∷ []; gives = EPERM ∷ [] }
    ∷ record { start = bench true; calls = call_transmit 0 (request (0x44 ∷ []) 0) ∷ []; gives = 0 ∷ 1 ∷ 0x04 ∷ [] }
    ∷ record { start = bench true; calls = asked (0x04 ∷ 0x90 ∷ 0x00 ∷ []); gives = 0 ∷ 1 ∷ 0 ∷ 0x01 ∷ 3 ∷ 0 ∷ 0 ∷ 0 ∷ 0 ∷ 0x90 ∷ 0 ∷ 0 ∷ [] }
    ∷ record { start = bench true; calls = asked (0x04 ∷ 0x00 ∷ 0x8F ∷ 0x00 ∷ []); gives = 0 ∷ 1 ∷ 0 ∷ 0x05 ∷ 4 ∷ 0 ∷ 0 ∷ 0 ∷ 0 ∷ 0x00 ∷ 0 ∷ 0 ∷ [] }
    ∷ record { start = bench true; calls = asked (0x04 ∷ 0x00 ∷ []); gives = EAGAIN ∷ [] }
    ∷ record { start = bench true; calls = asked (0x54 ∷ 0x90 ∷ 0x00 ∷ []); gives = EAGAIN ∷ [] }
    ∷ record { start = bench true; calls = resulting 0x21; gives = EINVAL ∷ [] }
    ∷ record { start = bench true; calls = resulting 0x02; gives = EINVAL ∷ [] }
    ∷ record { start = with_last (bench true) 4294967295; calls = call_transmit 0 (request (0x40 ∷ 0x8F ∷ []) 0) ∷ []; gives = 0 ∷ 1 ∷ 0 ∷ [] }
    ∷ []
