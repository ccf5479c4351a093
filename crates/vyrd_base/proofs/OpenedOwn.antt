-- Names whose unfolding opens the definitions of own specifications, so that worked cases compute:
-- those of steps and answers, and with them those of reading.
use Rattle.std.specs.Prelude.{ℕ}
use Rattle.std.specs.Fmt.{digits}
use Rattle.vyrd_base.specs.Own.Steps.{next_of, answer_of, start_of, part_gives, view_of}
use Rattle.vyrd_base.specs.Own.Reading.{after, number_in, atom_read, op_read, round_read}
use Rattle.vyrd_base.specs.Own.Reading.{whole_read}
use Rattle.vyrd_base.specs.Own.Names.{words_of_parts, is_name}
use Rattle.vyrd_base.specs.Own.Outer.{outer_read}
use Rattle.vyrd_base.specs.Own.Methods.{inner_read}
use Rattle.vyrd_base.specs.Own.Changes.{plain_read, change_read, within_read}
use Rattle.vyrd_base.specs.Own.Reader.{method_line_read, line_read, last_after, read_next}

unfoldable pub opened_steps : ℕ
unfolding next_of answer_of start_of part_gives view_of
opened_steps = 0

unfoldable pub opened_reading : ℕ
unfolding opened_steps digits after number_in atom_read op_read round_read whole_read words_of_parts
    is_name outer_read inner_read plain_read change_read within_read method_line_read line_read
    last_after read_next
opened_reading = 0
