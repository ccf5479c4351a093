use Rattle.vyrd_shape.proofs.Prelude.{◌≡◌, ◌<◌, ◌∙◌, ap, sym, ◌||◌, plain_words, is_held_by_other}
use Rattle.vyrd_shape.proofs.Prelude.{is_passed, HasFollowed}
use Rattle.vyrd_shape.proofs.ShapeLaws.{kept_by, raced_is}
use Rattle.vyrd_shape.proofs.shape.Shape.is_raced.Goals as goal

pub returns-then-is_held_by_another : goal.returns-then-is_held_by_another
returns-then-is_held_by_another c = λ earlier followed is. let s = c.self.inside in
    let now = kept_by s.header s.phases.items s.holders s.commits s.stamps in
    let low : c.args.word < plain_words s.header = rw (← c.self.view_is) at c.requires.word in
    let inside : HasFollowed now earlier = rw c.self.view_is followed in
    let held : is_held_by_other s.header c.args.caller c.args.word earlier
    ≡ c.is_held_by_another.result = raced_is now earlier s.holders c.args.caller c.args.word
    c.self.invariant.enough_callers (λ i. s.holders.by_word) low inside
    ∙ sym c.is_held_by_another.ensures in
    rw (← c.self.view_is) (c.if-is_held_by_another.true
    ∙ ap (λ b. b || is_passed c.args.caller c.args.word earlier)
    (sym (held ∙ c.if-is_held_by_another.true)))

pub returns-else-is_held_by_another : goal.returns-else-is_held_by_another
returns-else-is_held_by_another c = λ earlier followed is. let s = c.self.inside in
    let now = kept_by s.header s.phases.items s.holders s.commits s.stamps in
    let low : c.args.word < plain_words s.header = rw (← c.self.view_is) at c.requires.word in
    let inside : HasFollowed now earlier = rw c.self.view_is followed in
    let held : is_held_by_other s.header c.args.caller c.args.word earlier
    ≡ c.is_held_by_another.result = raced_is now earlier s.holders c.args.caller c.args.word
    c.self.invariant.enough_callers (λ i. s.holders.by_word) low inside
    ∙ sym c.is_held_by_another.ensures in
    rw (← c.self.view_is) (c.is_passed.ensures earlier followed is
    ∙ ap (λ b. b || is_passed c.args.caller c.args.word earlier)
    (sym (held ∙ c.if-is_held_by_another.false)))
