-- Open (document 01, "The adapter's parts": "Open takes the lowest closed number and a privilege flag ..; the mode is 0x01").
-- Assumes nothing.
use Rattle.std.specs.Prelude.{ℕ, Bool, true, not, eqb, length, set}
use Rattle.constants.specs.Kernel.{CEC-MODE-INITIATOR, EMFILE}
use Rattle.handle.specs.declared.Handle.{Handle}
use Rattle.lists.specs.Places.{first}
use Rattle.rules.specs.Call.{Outcome, finish, unless, check, Answer}
use Rattle.rules.specs.State.{State, with_handles}

-- the lowest closed number; 8 where there is none
abbrev pub lowest_closed : State → ℕ
lowest_closed s = first (λ x. not x.is_open) s.handles

abbrev pub opened_handle : Bool → Handle
opened_handle privileged = record { is_open = true; privileged = privileged; mode = CEC-MODE-INITIATOR; lost = 0 }

-- EMFILE is for "open with 8 handles open"
abbrev pub open_refusal : State → ℕ
open_refusal s = check (eqb (lowest_closed s) (length s.handles)) EMFILE 0

abbrev pub open_done : State → Bool → Outcome
open_done s privileged = finish (Answer.opened (lowest_closed s)) (with_handles s (set s.handles (lowest_closed s) (opened_handle privileged)))

unfoldable pub do_open : State → Bool → Outcome
do_open s privileged = unless (open_refusal s) s (open_done s privileged)
