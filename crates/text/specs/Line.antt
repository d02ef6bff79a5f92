-- What an answer says, and a line's text in a lent buffer.
-- Assumes nothing.
use Rattle.std.specs.Prelude.{ℕ, ◌+◌, ◌≤◌, ◌<◌, List, [], ◌∷◌, ◌++◌, ◌≡◌, length, take, drop}
use Rattle.session_log.specs.Text.{line_max}
use Rattle.text.specs.declared.Said.{Said}
use Rattle.text.specs.declared.Said.TheVariants.{Errno, Entry}

-- the numbers that an answer adds to the kind, as in `Text.numbers_of`
abbrev pub said_of : Said → List ℕ
said_of (Errno errno) = errno ∷ []
said_of (Entry e) = 0 ∷ e.sequence ∷ e.tx_status ∷ e.rx_status ∷ e.message.length ∷ []

-- a text in a buffer from a place on, the place after it, and the buffer with it
pub record PutAt (out : List ℕ) (at : ℕ) (text : List ℕ) (end : ℕ) (out' : List ℕ) : Type 0 where
  pub place : end ≡ at + length text
  pub room : end ≤ length out
  pub bytes : out' ≡ take at out ++ (text ++ drop end out)

-- a line in a buffer that has room for the longest; another stays as it was
pub record LineAt (out : List ℕ) (at : ℕ) (text : List ℕ) (end : ℕ) (out' : List ℕ) : Type 0 where
  pub fits : at + line_max ≤ length out → PutAt out at text end out'
  pub short : length out < at + line_max → (end ≡ at) × (out' ≡ out)

-- a text in a buffer that has room for so many bytes; another stays as it was
pub record RoomAt (most : ℕ) (out : List ℕ) (at : ℕ) (text : List ℕ) (end : ℕ) (out' : List ℕ) : Type 0 where
  pub fits : at + most ≤ length out → PutAt out at text end out'
  pub short : length out < at + most → (end ≡ at) × (out' ≡ out)
