-- Logs and how they compare. Assumes nothing.
use Prim.Native.Nat.{ℕ}
use mathlib.Core.List.{List, [], ◌∷◌, ◌++◌}
use mathlib.Core.Path.{◌≡◌, refl}
use lib.ListN.{replicate}
use Rattle.comparison.specs.Compare.{field_of, meant, Sides, sides, in_kind, in_body, in_end, Verdict, equal, differs_at, compared, compare}
use Rattle.reading.specs.Reading.{Ending, at_end, bad_at, cut_at}
use Rattle.session_log.specs.Record.{body_length}

-- what two logs give, but for the counts
abbrev Gives : List ℕ → List ℕ → Verdict → Sides Ending → Type 0
Gives a b v e = ((compare a b).verdict ≡ v) × ((compare a b).endings ≡ e)

-- 01 00 05 00 0C and itself: equal, and bad at 4 on both sides
pub document_example : Gives (0x01 ∷ 0x00 ∷ 0x05 ∷ 0x00 ∷ 0x0C ∷ []) (0x01 ∷ 0x00 ∷ 0x05 ∷ 0x00 ∷ 0x0C ∷ []) equal (sides (bad_at 4) (bad_at 4))
unfolding body_length field_of meant compared
document_example = (refl, refl)

-- "for each kind, the count in each log", to the end of each: 01 00 05 00 05 01 and 06
pub counts : (compare (0x01 ∷ 0x00 ∷ 0x05 ∷ 0x00 ∷ 0x05 ∷ 0x01 ∷ []) (0x06 ∷ [])).counts
    ≡ sides (1 ∷ 0 ∷ 0 ∷ 0 ∷ 2 ∷ 0 ∷ 0 ∷ 0 ∷ 0 ∷ 0 ∷ 0 ∷ []) (0 ∷ 0 ∷ 0 ∷ 0 ∷ 0 ∷ 1 ∷ 0 ∷ 0 ∷ 0 ∷ 0 ∷ 0 ∷ [])
unfolding body_length compared
counts = refl

-- another kind, with another body
pub another_kind : Gives (0x01 ∷ 0x00 ∷ 0x05 ∷ 0x00 ∷ []) (0x01 ∷ 0x00 ∷ 0x02 ∷ 0x01 ∷ []) (differs_at 1 (sides 2 2) in_kind) (sides at_end at_end)
unfolding body_length field_of meant compared
another_kind = (refl, refl)

-- privilege is yes for 1 and for 2, and yet all other bytes make a difference
pub another_privilege : Gives (0x06 ∷ 0x01 ∷ 0x01 ∷ []) (0x06 ∷ 0x01 ∷ 0x02 ∷ []) (differs_at 1 (sides 1 1) in_body) (sides at_end at_end)
unfolding body_length field_of meant compared
another_privilege = (refl, refl)

-- one log whole, the other cut in the record: taken as ending there
pub one_cut : Gives (0x01 ∷ 0x00 ∷ 0x05 ∷ 0x00 ∷ []) (0x01 ∷ 0x00 ∷ 0x05 ∷ []) (differs_at 1 (sides 2 2) in_end) (sides at_end (cut_at 2))
unfolding body_length field_of meant compared
one_cut = (refl, refl)

-- both logs ended in their second record, one by a cut and one by an unknown kind: equal, and each is named
pub both_ended : Gives (0x06 ∷ 0x03 ∷ 0x07 ∷ []) (0x06 ∷ 0x0C ∷ 0x00 ∷ []) equal (sides (cut_at 1) (bad_at 1))
unfolding body_length field_of meant compared
both_ended = (refl, refl)

-- a message of a length, 15 bytes 0, a last one, and the time 0
abbrev message : ℕ → ℕ → List ℕ
message n last = (0x09 ∷ n ∷ replicate 15 0) ++ (last ∷ replicate 8 0)

-- the last of its 16 bytes is past a length of 15
pub past_fifteen : Gives (message 15 1) (message 15 2) equal (sides at_end at_end)
unfolding body_length field_of meant compared
past_fifteen = (refl, refl)

pub none_past_sixteen : Gives (message 16 1) (message 16 2) (differs_at 0 (sides 0 0) in_body) (sides at_end at_end)
unfolding body_length field_of meant compared
none_past_sixteen = (refl, refl)

-- a length over 16 leaves none past it
pub over_sixteen : Gives (message 200 1) (message 200 2) (differs_at 0 (sides 0 0) in_body) (sides at_end at_end)
unfolding body_length field_of meant compared
over_sixteen = (refl, refl)

-- two lengths differ, though no byte does
pub another_length : Gives (message 0 0) (message 1 0) (differs_at 0 (sides 0 0) in_body) (sides at_end at_end)
unfolding body_length field_of meant compared
another_length = (refl, refl)

-- a transmit of a length, 15 bytes 0, a last one, and a reply; the reply stands past the bytes, and makes a difference
abbrev transmit : ℕ → ℕ → ℕ → List ℕ
transmit n last reply = (0x04 ∷ 0x00 ∷ n ∷ replicate 15 0) ++ (last ∷ reply ∷ replicate 8 0)

pub transmit_past : Gives (transmit 2 1 0) (transmit 2 2 0) equal (sides at_end at_end)
unfolding body_length field_of meant compared
transmit_past = (refl, refl)

pub transmit_reply : Gives (transmit 2 1 0) (transmit 2 1 1) (differs_at 0 (sides 0 0) in_body) (sides at_end at_end)
unfolding body_length field_of meant compared
transmit_reply = (refl, refl)

-- the time stands past the bytes of a message, and makes a difference
pub message_time : Gives ((0x09 ∷ 0x00 ∷ replicate 16 0) ++ (replicate 7 0 ++ (0x01 ∷ []))) (message 0 0) (differs_at 0 (sides 0 0) in_body) (sides at_end at_end)
unfolding body_length field_of meant compared
message_time = (refl, refl)

-- a configure of a name's length, 13 bytes 0, a last one, and three bytes after the name
abbrev configure : ℕ → ℕ → ℕ → List ℕ
configure n last features = (0x0A ∷ replicate 9 0) ++ ((n ∷ replicate 13 0) ++ (last ∷ 0 ∷ 0 ∷ features ∷ []))

pub name_past : Gives (configure 13 1 0) (configure 13 2 0) equal (sides at_end at_end)
unfolding body_length field_of meant compared
name_past = (refl, refl)

pub name_whole : Gives (configure 14 1 0) (configure 14 2 0) (differs_at 0 (sides 0 0) in_body) (sides at_end at_end)
unfolding body_length field_of meant compared
name_whole = (refl, refl)

-- the bytes after the name make a difference, though the name has no byte
pub configure_features : Gives (configure 0 1 1) (configure 0 2 2) (differs_at 0 (sides 0 0) in_body) (sides at_end at_end)
unfolding body_length field_of meant compared
configure_features = (refl, refl)
