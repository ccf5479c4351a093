-- The texts of string buffers: those that the words show, and what a call makes of them.
use Rattle.std.specs.Prelude.{ℕ, ◌+◌, List, Option, Some, None}
use Rattle.std.specs.Bool.{then_some}
use Rattle.vyrd_base.specs.declared.buffers.BuffersMethod.{BuffersMethod}
use Rattle.vyrd_base.specs.declared.buffers.BuffersMethod.TheVariants.{Append, AppendFrom, Cut}
use Rattle.vyrd_base.specs.declared.buffers.BuffersMethod.TheVariants.{Length, Read}
use Rattle.vyrd_base.specs.declared.subject.Args.{Args}
use Rattle.vyrd_base.specs.Amounts.{Amounts, amount_of}
use Rattle.vyrd_base.specs.Buffers.{Buffer, buffer_at, is_buffer, text_of, has_room, joined, cut_to}
use Rattle.vyrd_spec.specs.Rows.{sound_row}

-- the text of a buffer
abbrev pub text_of_buffer : Buffer → ℕ
text_of_buffer buffer = text_of buffer.character buffer.count

-- the text of each buffer, if the words stand for a state
abbrev pub sound_texts : ℕ → List ℕ → Option (List ℕ)
sound_texts size words =
    sound_row (λ b. is_buffer (buffer_at words b)) (λ b. text_of_buffer (buffer_at words b)) size

-- The text of the call's buffer once the call has done its work, and none if the buffer has no room
-- for that.
abbrev pub next_text : BuffersMethod → Args → Amounts → Option ℕ
next_text Append args state = then_some (has_room (amount_of state args.a) (args.b + 1))
    (joined (amount_of state args.a) (args.b + 1))
next_text AppendFrom args state =
    then_some (has_room (amount_of state args.a) (amount_of state args.b))
    (joined (amount_of state args.a) (amount_of state args.b))
next_text Cut args state = Some (cut_to args.b (amount_of state args.a))
next_text Length args state = None
next_text Read args state = None
