use Rattle.vyrd_spec.proofs.Prelude.{◌≡◌, Some, None, rules, ap, ◌∙◌, ◌^◌, is_built_in, Buffers}
use Rattle.vyrd_spec.proofs.Prelude.{collected, buffer_at, buffer_parts, parts_of, row_amounts}
use Rattle.vyrd_spec.specs.Texts.{sound_texts}
use Rattle.vyrd_spec.proofs.BufferWordLaws.{is_buffer_at, text_shown, given_text, small_text}
use Rattle.vyrd_spec.proofs.SoundRows.{first_row, many_in, row_shows, sound_where, unsound_where}
use Rattle.vyrd_spec.proofs.StartFromLaws.{no_state, a_state, few_parts}
use Rattle.vyrd_spec.proofs.buffers.BufferSpecBuiltIn.start_from.Goals as goal

pub invariant_of-result : goal.invariant_of-result
invariant_of-result c =
    let words = c.args.words.now in
    let size = c.size.result in
    let texts = c.in-Some.texts.items in
    let some : sound_texts size words ≡ Some texts = rw c.in-Some.is at c.in_ok-texts.ensures in
    record {
      subject = c.requires.serves;
      few = search rules;
      count = many_in (is_buffer_at words) (text_shown words) size texts some ∙ c.size.ensures;
      small = first_row (is_buffer_at words) (text_shown words) (256 ^ 7) (small_text words) size
          texts
          (few_parts c.args.header size c.size.ensures (ap is_built_in c.requires.serves)) some;
    }

pub returns-in-Some-clause-state : goal.returns-in-Some-clause-state
returns-in-Some-clause-state c =
    let words = c.args.words.now in
    let size = c.size.result in
    let texts = c.in-Some.texts.items in
    let some : sound_texts size words ≡ Some texts = rw c.in-Some.is at c.in_ok-texts.ensures in
    a_state c.args.header Buffers words (row_amounts texts) c.requires.serves c.requires.count
    (cc (c.size.ensures, sound_where (is_buffer_at words) (text_shown words) size texts some))
    (row_shows (is_buffer_at words) (text_shown words)
    (λ b. buffer_parts size b (buffer_at words b)) (given_text size words) size texts some
    ∙ ap (λ n. collected (parts_of Buffers n words)) c.size.ensures)

pub returns-in-None-clause-state : goal.returns-in-None-clause-state
returns-in-None-clause-state c =
    let words = c.args.words.now in
    let none : sound_texts c.size.result words ≡ None = rw c.in-None.is at c.in_ok-texts.ensures in
    no_state c.args.header Buffers words c.requires.serves c.requires.count
    (cc (c.size.ensures, unsound_where (is_buffer_at words) (text_shown words) c.size.result none))
