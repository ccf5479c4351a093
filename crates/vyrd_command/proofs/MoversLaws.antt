-- What was read of an input says the history of the whole input.
use Rattle.vyrd_command.proofs.Prelude
use Prelude.{◌≡◌, ℕ, List, [], ◌+◌, ◌++◌, length, length-append, refl, ap, sym, subst, arith}
use Prelude.{IfSome, IfOk, Result, Ok, Err, SourceKnown, Blocks, Recorded, history_reading, HasRead}
use Prelude.{longest_history, Answer, IsTaken, taken_more, taken_nothing, IsInputRead, IsMoreRead}
use Prelude.{IsMoversAnswer, status_of_blocks, whole_input, long_refused}
use Rattle.std.specs.declared.alloc.AllocError.{AllocError}
use Rattle.vyrd_mover.specs.BlocksText.{blocks_text}
use Rattle.vyrd_mover.specs.EventsRead.{AreBlocksOf}
use Rattle.vyrd_mover.specs.HistoryReading.{Refusal}
use Rattle.vyrd_mover.specs.HistoryReaders.{ReaderState}
use Rattle.vyrd_mover.proofs.SettledLaws.{reading_settled}
use Rattle.vyrd_mover.proofs.TextLaws.{reading_sound}

pub history_is_input : (before after : SourceKnown) (bytes : List ℕ)
    → IsInputRead longest_history before after bytes
    → IfSome before.rest (λ input. history_reading bytes ≡ history_reading input)
history_is_input before after bytes is = whole_input history_reading longest_history before after
    bytes (λ more long. reading_settled bytes more (omega (arith, long))) is

-- what was read of an input, so far, by a reader of a history
pub record ReadSoFar (before after : SourceKnown) (reader : ReaderState) (count : ℕ) : Type 0 where
  pub taken : List ℕ
  pub told : IsTaken before.rest taken after.rest
  pub many : length taken ≡ count
  pub read : HasRead reader taken

pub nothing_read : (before : SourceKnown) (reader : ReaderState) → HasRead reader []
    → ReadSoFar before before reader 0
nothing_read before reader read = grind (arith, taken_nothing before.rest)

-- one piece more
pub piece_read : (before between after : SourceKnown) (reader new : ReaderState) (count most n : ℕ)
    (piece : List ℕ)
    → (so_far : ReadSoFar before between reader count) → IsMoreRead most between after [] piece n
    → HasRead new (so_far.taken ++ piece)
    → ReadSoFar before after new (count + n)
piece_read before between after reader new count most n piece so_far more read =
    let told = subst (λ xs. IsTaken between.rest xs after.rest) (sym more.grown) more.told in
    record {
      taken = so_far.taken ++ piece;
      told = taken_more before.rest between.rest after.rest so_far.taken piece so_far.told told;
      many = omega
          (arith, length-append so_far.taken piece, so_far.many, ap length more.grown, more.many);
      read = read;
    }

-- what is said of the blocks of what was read is the answer to it
pub blocks_are_answered : (reading : Result Recorded Refusal) (blocks : Blocks) (status : ℕ)
    (text : List ℕ) → AreBlocksOf reading blocks
    → status ≡ status_of_blocks blocks → text ≡ blocks_text blocks
    → IsMoversAnswer reading status text
blocks_are_answered reading blocks status text are status_is text_is = grind (arith, text_is)

pub told_is_answered : (told : Result Answer AllocError) (reading : Result Recorded Refusal)
    (blocks : Blocks) → AreBlocksOf reading blocks
    → IfOk told (λ answer. answer.status ≡ status_of_blocks blocks)
    → IfOk told (λ answer. answer.text.items ≡ blocks_text blocks)
    → IfOk told (λ answer. IsMoversAnswer reading answer.status answer.text.items)
told_is_answered told reading blocks are status text = grind (arith, reading, blocks_are_answered)

-- a history as long as can be read is refused
pub movers_refused : (bytes : List ℕ) (status : ℕ) (text : List ℕ)
    → IsMoversAnswer (history_reading bytes) status text
    → length bytes ≡ longest_history → status ≡ 10
movers_refused bytes status text answer long = by_reading (history_reading _) refl answer
  where
    by_reading : (r : Result Recorded Refusal) → history_reading bytes ≡ r
        → IsMoversAnswer r status text → status ≡ 10
    by_reading (Err refusal) e answer = answer.0
    by_reading (Ok r) e answer =
        absurd (long_refused history_reading _ _ (λ bytes r e. (reading_sound bytes r e).text)
        (λ more. reading_settled _ _ (omega (arith, long))) r e)
