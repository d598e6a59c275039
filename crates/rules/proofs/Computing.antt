-- `unfolding computing` opens every definition of the rules, so that a worked case is proved by `refl`. Assumes nothing.
use Rattle.rules.specs.Bytes.{parts, number_from, bytes_of}
use Rattle.rules.specs.Reason.{first, pairs, code_of}
use Rattle.rules.specs.Frame.{stream_formed, arbitrate_formed, configure_formed, write_formed, read_formed, configure_of, write_of, read_frame}
use Rattle.rules.specs.Streams.{no_streams, primary, by_primary, notice_of, notify_all, open_stream, close_records}
use Rattle.rules.specs.Streams.{close_stream, held_elsewhere, arbitrate_reason, binds, bind_records, arbitrate}
use Rattle.rules.specs.Row.{action_of, row_of, row_allowed, rows_allowed, unused_zero, configuration_allowed, row_for}
use Rattle.rules.specs.Value.{is_value, fits, short}
use Rattle.rules.specs.Key.{slot_formed, slot_fits, bits_within, slot_rule, key_formed, key_fits, priority_rule, key_rules, short_slot, short_key}
use Rattle.rules.specs.Entry.{action_formed, action_fits, short_entry}
use Rattle.rules.specs.Update.{stored, held, entry_formed, entry_fits, judge, judge_by, perform, apply, each_alone, failure, all_or_none, batch}
use Rattle.rules.specs.Answer.{answer_bytes, reply_of}
use Rattle.rules.specs.Call.{fresh, configure_reason, write_reason, read_reason, refusal}
use Rattle.rules.specs.Call.{next_control, next_tables, next, shown, answer, command_of, reply, run}
use Rattle.rules.specs.Full.{judge_full_by, judge_full, reply24}

unfoldable pub computing : Unit {0}
unfolding parts number_from bytes_of first pairs code_of stream_formed arbitrate_formed configure_formed write_formed read_formed configure_of write_of
    read_frame no_streams primary by_primary notice_of notify_all open_stream close_records close_stream held_elsewhere arbitrate_reason binds bind_records
    arbitrate action_of row_of row_allowed rows_allowed unused_zero configuration_allowed row_for is_value fits short slot_formed slot_fits bits_within slot_rule
    key_formed key_fits priority_rule key_rules short_slot short_key action_formed action_fits short_entry stored held entry_formed entry_fits judge judge_by
    perform apply each_alone failure all_or_none batch answer_bytes reply_of fresh configure_reason write_reason read_reason refusal next_control next_tables
    next shown answer command_of reply run judge_full_by judge_full reply24
computing = tt
