use Rattle.vyrd_words.proofs.Prelude.{ap, arith, Header}
use Rattle.vyrd_words.proofs.WordsLaws.{numbers_first}
use Rattle.vyrd_words.proofs.words.Words.new.Goals as goal

pub returns-clause-words : goal.returns-clause-words
returns-clause-words g c = λ starting is. record {
  followed = c.in_ok-start_from.ensures.followed starting is;
  unchanged = c.in_ok-start_from.ensures.changed;
  numbers = rw (c.in_ok-vec.ensures.items_if_clones_equal (λ y e. e))
      (numbers_first c.in_ok-start_from.field-0.header.callers c.callers.result
      (omega (
        arith,
        c.callers.ensures,
        ap (λ (h : Header). h.callers)
            c.in_ok-start_from.ensures.header,
      )));
}
