-- The numbers of the kinds, as the bytes of a log have them (document 02, W-201).
-- Assumes nothing.
use Rattle.std.specs.Prelude.{ℕ}
use Rattle.reader.specs.declared.Kind.{Kind}
use Rattle.reader.specs.declared.Kind.TheVariants.{Open, Close, Mode, Transmit, Receive, BusStart, BusResult, Time, Message, Configure, Unconfigure}

-- the byte that stands for a kind
abbrev pub kind_number : Kind → ℕ
kind_number Open = 1
kind_number Close = 2
kind_number Mode = 3
kind_number Transmit = 4
kind_number Receive = 5
kind_number BusStart = 6
kind_number BusResult = 7
kind_number Time = 8
kind_number Message = 9
kind_number Configure = 10
kind_number Unconfigure = 11
