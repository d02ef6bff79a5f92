-- Who gets copies: nobody, or the handles of a kind, which has a number too.
-- Assumes nothing.
use Rattle.std.specs.Prelude.{ℕ, Bool, false, cond, ◌&&◌, eqb, Option, None, Some}
use Rattle.constants.specs.Kernel.{CEC-MODE-FOLLOWER, CEC-MODE-MONITOR-ALL}
use Rattle.copies.specs.declared.Receivers.{Receivers}
use Rattle.copies.specs.declared.Receivers.TheVariants.{Monitors, MonitorsOfAll, ExclusiveFollower, Followers}
use Rattle.rules.specs.Handles.{follower_part, is_exclusive_follower, is_monitor}

-- whether a handle of a mode is of the kind that gets copies
abbrev pub gets_copies : Option Receivers → ℕ → Bool
gets_copies None mode = false
gets_copies (Some Monitors) mode = is_monitor mode
gets_copies (Some MonitorsOfAll) mode = is_monitor mode && eqb (follower_part mode) CEC-MODE-MONITOR-ALL
gets_copies (Some ExclusiveFollower) mode = is_exclusive_follower mode
gets_copies (Some Followers) mode = eqb (follower_part mode) CEC-MODE-FOLLOWER

-- the kinds by number
abbrev pub MONITORS : ℕ
MONITORS = 0

abbrev pub MONITORS-OF-ALL : ℕ
MONITORS-OF-ALL = 1

abbrev pub EXCLUSIVE-FOLLOWER : ℕ
EXCLUSIVE-FOLLOWER = 2

abbrev pub FOLLOWERS : ℕ
FOLLOWERS = 3

abbrev pub NOBODY : ℕ
NOBODY = 4

-- whether a handle of a mode is of the kind of a number; any other number is nobody's
abbrev pub gets_copies_by_number : ℕ → ℕ → Bool
gets_copies_by_number kind mode =
    cond (eqb kind MONITORS) (is_monitor mode)
    (cond (eqb kind MONITORS-OF-ALL) (is_monitor mode && eqb (follower_part mode) CEC-MODE-MONITOR-ALL)
    (cond (eqb kind EXCLUSIVE-FOLLOWER) (is_exclusive_follower mode) (eqb kind FOLLOWERS && eqb (follower_part mode) CEC-MODE-FOLLOWER)))

-- the kind of a number
abbrev pub receivers_numbered : ℕ → Option Receivers
receivers_numbered kind =
    cond (eqb kind MONITORS) (Some Monitors)
    (cond (eqb kind MONITORS-OF-ALL) (Some MonitorsOfAll)
    (cond (eqb kind EXCLUSIVE-FOLLOWER) (Some ExclusiveFollower)
    (cond (eqb kind FOLLOWERS) (Some Followers) None)))
