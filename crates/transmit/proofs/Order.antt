-- The checks of a transmit in two parts, each of which can be made before the later ones are.
-- Assumes nothing.
use Prim.Native.Nat.{ℕ}
use native.Mathlib.Omega.{arith}
use Rattle.constants.specs.Kernel.{EBADF, ENOTTY, EPERM, EBUSY, EINVAL, ENONET}
use Rattle.rules.proofs.Checks.{Leads, leads_none, leads_check}
use Rattle.rules.specs.Call.{Request}
use Rattle.rules.specs.State.{State}
use Rattle.rules.specs.Transmit.{sender_refusal, request_refusal}

pub sender_leads : (s : State) (h : ℕ) → Leads (sender_refusal s h)
sender_leads s h =
    leads_check _ EBADF _ (omega arith)
    (leads_check _ ENOTTY _ (omega arith)
    (leads_check _ EPERM _ (omega arith)
    (leads_check _ EBUSY _ (omega arith) leads_none)))

pub request_leads : (s : State) (r : Request) → Leads (request_refusal s r)
request_leads s r =
    leads_check _ EINVAL _ (omega arith)
    (leads_check _ EINVAL _ (omega arith)
    (leads_check _ ENONET _ (omega arith)
    (leads_check _ EINVAL _ (omega arith)
    (leads_check _ EINVAL _ (omega arith) leads_none))))
