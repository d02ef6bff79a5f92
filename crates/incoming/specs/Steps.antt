-- Tests and changes of a message from the wire, as the code makes them (document 01, "A message from the wire").
-- Assumes nothing.
use Rattle.std.specs.Prelude.{ℕ, Bool, cond, not, ◌&&◌, List, ◌==◌, slice_set, Option, Some, None}
use Rattle.copies.specs.Kinds.{gets_copies}
use Rattle.copies.specs.declared.Receivers.{Receivers}
use Rattle.copies.specs.declared.Receivers.TheVariants.{Monitors, MonitorsOfAll, ExclusiveFollower, Followers}
use Rattle.entry.specs.Entry.{reply, feature_abort_reply}
use Rattle.entry.specs.declared.Entry.{Entry}
use Rattle.handle.specs.declared.Handle.{Handle}
use Rattle.lists.specs.Sums.{any}
use Rattle.message.specs.Message.{destination, initiator, address_at}
use Rattle.message.specs.declared.reply.Rule.{Rule}
use Rattle.message.specs.declared.reply.Rule.TheVariants.{FeatureAbort, WantedOpcode, ArcPair}
use Rattle.message.specs.declared.Message.{Message}
use Rattle.rules.specs.Handles.{in_role, is_configured, is_here}
use Rattle.rules.specs.State.{State}
use Rattle.wait.specs.declared.Wait.{Wait}

-- the monitors that see a message, by whether it goes to 15 or an own address
abbrev pub monitor_kind : Bool → Receivers
monitor_kind here = cond here Monitors MonitorsOfAll

-- the followers that get one, by whether there is an exclusive one
abbrev pub follower_kind : Bool → Receivers
follower_kind exclusive = cond exclusive ExclusiveFollower Followers

-- nobody, if there are to be no copies, or no handle is of the kind
abbrev pub receivers_of : Bool → List Handle → Receivers → Option Receivers
receivers_of copied hs kind = cond (copied && any (in_role (gets_copies (Some kind))) hs) (Some kind) None

-- `rules: reply_entry`, by the rule of the match
abbrev pub entry_by_rule : Rule → Wait → Message → ℕ → Entry
entry_by_rule FeatureAbort w m ts = feature_abort_reply w.sequence m w.tx_ts ts
entry_by_rule WantedOpcode w m ts = reply w.sequence m w.tx_ts ts
entry_by_rule ArcPair w m ts = reply w.sequence m w.tx_ts ts

-- not `rules: stops`
abbrev pub goes_on : State → Message → Bool
goes_on s m = is_configured s && not (m.length == 1) && is_here s (destination m.bytes)

-- the noted addresses after `rules: notes` with a message that is noted
abbrev pub noted_at : List ℕ → Message → List ℕ
noted_at noted m = slice_set noted (initiator m.bytes) (address_at 2 m.bytes)
