-- A record gathered from several bytes at once, as code reads a log; `proofs/Gather` shows that a turn is this.
-- Assumes nothing.
use Rattle.std.specs.Prelude.{ℕ, suc, cond, ◌&&◌, not, List, [], ◌∷◌, eqb, length}
use Rattle.lists.specs.Vector.{put}
use Rattle.reading.specs.Reading.{Reading, Read, unknown, grown, is_whole}
use Rattle.session_log.specs.Record.{is_kind, record_max, kind_of}

-- a record that has begun, with bytes until it is whole
abbrev pub gather : List ℕ → List ℕ → List ℕ
gather h [] = h
gather h (b ∷ bs) = let g = put record_max h b in cond (is_whole g) g (gather g bs)

-- how many bytes that takes
abbrev pub gathered : List ℕ → List ℕ → ℕ
gathered h [] = 0
gathered h (b ∷ bs) = let g = put record_max h b in cond (is_whole g) 1 (suc (gathered g bs))

-- what the bytes that have been gathered come to
unfoldable pub turned : Reading → List ℕ → Read
turned r h = cond (eqb (length r.held) 0 && not (is_kind (kind_of h))) (unknown r) (grown r h)
