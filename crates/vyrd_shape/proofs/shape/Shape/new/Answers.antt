use Rattle.vyrd_shape.proofs.ShapeLaws.{followed_none}
use Rattle.vyrd_shape.proofs.shape.Shape.new.Goals as goal

pub returns-clause-followed : goal.returns-clause-followed
returns-clause-followed c =
    rw (
      c.in_ok-vec.ensures.items_if_clones_equal (λ y e. e),
      c.in_ok-new.ensures.by_word,
      c.in_ok-new-2.ensures,
      c.in_ok-new-3.ensures,
      c.callers.ensures,
      c.callers-3.ensures,
    )
    (followed_none c.args.header c.start.result c.plain_words-words.result c.if-version-eq1.new
    c.start.ensures)
