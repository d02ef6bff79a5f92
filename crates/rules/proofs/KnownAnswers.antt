-- The starred known answers of document 01 are those of the definitions. Assumes nothing.
use mathlib.Core.Bool.{true}
use mathlib.Core.Path.{◌≡◌, refl}
use Rattle.message.specs.Message.{message}
use Rattle.message.specs.Reply.{is_reply}
use Rattle.route.specs.Address.{is_well_formed}
use Rattle.rules.specs.BusResult.{do_bus_result, is_final, kept_counts}
use Rattle.rules.specs.BusStart.{do_bus_start}
use Rattle.rules.specs.Call.{unless, check}
use Rattle.rules.specs.Cases.{all_given}
use Rattle.rules.specs.Close.{do_close}
use Rattle.rules.specs.Configure.{do_configure}
use Rattle.rules.specs.Core.{sends, answers, notes}
use Rattle.rules.specs.Deliver.{copy_to_by, copies_by}
use Rattle.rules.specs.FurtherAnswers.{handle_answers, mode_answers, transmit_answers, room_answers, bus_answers, time_answers, configuration_answers, message_answers, core_answers, feature_answers, tracker_answers, reply_answers, timestamp_answers}
use Rattle.rules.specs.Incoming.{heard_with}
use Rattle.rules.specs.KnownAnswers.{known_answers}
use Rattle.rules.specs.Listing.{do_listing}
use Rattle.rules.specs.Lookup.{do_lookup}
use Rattle.rules.specs.Mode.{do_mode}
use Rattle.rules.specs.Number.{sequence_after}
use Rattle.rules.specs.Open.{do_open}
use Rattle.rules.specs.Owed.{room_owed, replies_wanted, is_taken}
use Rattle.rules.specs.Receive.{do_receive}
use Rattle.rules.specs.State.{fresh}
use Rattle.rules.specs.Time.{do_time}
use Rattle.rules.specs.Tracker.{tracked, do_message}
use Rattle.rules.specs.Transmit.{do_transmit}
use Rattle.rules.specs.Unconfigure.{do_unconfigure}
use Rattle.waits.specs.Waits.{match_taken}

-- to unfold this is to unfold all that a call's rule is made of, so that a history of calls computes
unfoldable pub every_rule : Unit {0}
unfolding message is_reply match_taken fresh room_owed replies_wanted is_taken copy_to_by copies_by unless check do_open do_close do_mode sequence_after do_transmit do_receive
    do_bus_start do_bus_result is_final kept_counts do_time do_configure do_unconfigure do_listing do_lookup sends answers notes heard_with is_well_formed tracked do_message
every_rule = tt

pub known_answers_lem : all_given known_answers ≡ true
unfolding every_rule
known_answers_lem = refl

pub further_answers :
    (all_given handle_answers ≡ true)
    × (all_given mode_answers ≡ true)
    × (all_given transmit_answers ≡ true)
    × (all_given room_answers ≡ true)
    × (all_given bus_answers ≡ true)
    × (all_given time_answers ≡ true)
    × (all_given configuration_answers ≡ true)
    × (all_given message_answers ≡ true)
    × (all_given core_answers ≡ true)
    × (all_given feature_answers ≡ true)
    × (all_given tracker_answers ≡ true)
    × (all_given reply_answers ≡ true)
    × (all_given timestamp_answers ≡ true)
unfolding every_rule
further_answers = (refl, refl, refl, refl, refl, refl, refl, refl, refl, refl, refl, refl, refl)
