-- A record gathered from several bytes at once, as the player does it; `proofs/Gather` shows that it is the same as byte by byte.
-- Assumes nothing.
use Rattle.std.specs.Prelude.{ℕ, suc, cond, ◌&&◌, not, List, [], ◌∷◌, eqb, length}
use Rattle.lists.specs.Vector.{put}
use Rattle.session_log.specs.Record.{is_kind, record_max, kind_of}
use Rattle.session_log.specs.Session.{Session, Printed, bad, grown, is_whole}

-- a record that has begun, with bytes until it is whole
abbrev pub gather : List ℕ → List ℕ → List ℕ
gather h [] = h
gather h (b ∷ bs) = let g = put record_max h b in cond (is_whole g) g (gather g bs)

-- how many bytes that takes
abbrev pub gathered : List ℕ → List ℕ → ℕ
gathered h [] = 0
gathered h (b ∷ bs) = let g = put record_max h b in cond (is_whole g) 1 (suc (gathered g bs))

-- what is done with the bytes that have been gathered
unfoldable pub turn : Session → List ℕ → Printed
turn s h = cond (eqb (length s.held) 0 && not (is_kind (kind_of h))) (bad s) (grown s h)
