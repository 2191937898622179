-- The export of `record_at` meets its contract.
use mathlib.Core.Path.{sym, ap, ◌∙◌}
use Rattle.capi.specs.TableExports.{next_position, words_read}
use Rattle.capi.proofs.tables.katydidzinc_motor_table_record.Goals as goal

pub returns-in-Ok : goal.returns-in-Ok
unfolding next_position words_read
returns-in-Ok c = let h = sym c.record_at.ensures ∙ c.in-Ok.is in record { value = sym (ap next_position h); words_after = c.put_words.ensures ∙ sym (ap (words_read c.args.words.now) h) }

pub returns-in-Err : goal.returns-in-Err
unfolding next_position words_read
returns-in-Err c = let h = sym c.record_at.ensures ∙ c.in-Err.is in record { value = sym (ap next_position h); words_after = sym (ap (words_read c.args.words.now) h) }
