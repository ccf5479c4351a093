use Rattle.vyrd_mover.proofs.Prelude.{◌≡◌, ◌||◌, ◌∙◌, not, ap, sym, subst, IsUse, is_shared}
use Rattle.vyrd_mover.proofs.SeenLaws.{free_at_once, free_by_locks}
use Rattle.vyrd_mover.proofs.UsageLaws.{at_once_true, at_once_second}
use Rattle.vyrd_mover.proofs.usage.Usage.is_race_free.Goals as goal
use Rattle.vyrd_mover.proofs.usage.Usage.is_race_free.Goals.{then-not-are_many, else-not-are_many}

pub returns-then-not-self : goal.returns-then-not-self
returns-then-not-self c = λ cells seen cell is some.
    let here = c.self.inside in
    let value : c.if-not-are_many.value ≡ (not (is_shared here.users) || not here.written) =
    elim c.if-not-are_many.branch [
      | then-not-are_many w ↦ w.value-is ∙ ap not w.if-not-are_many.true
          ∙ at_once_true here.users _ here.written c.are_many.ensures w.if-not-are_many.true
      | else-not-are_many w ↦ w.value-is
          ∙ at_once_second here.users _ here.written c.are_many.ensures w.if-not-are_many.false
    ] in
    c.if-not-self.true
    ∙ sym (free_at_once cells seen cell _ some
    (subst (IsUse cells seen cell) (sym c.self.view_is) is) (sym value ∙ c.if-not-self.true))

pub returns-else-not-self : goal.returns-else-not-self
returns-else-not-self c = λ cells seen cell is some.
    let here = c.self.inside in
    let value : c.if-not-are_many.value ≡ (not (is_shared here.users) || not here.written) =
    elim c.if-not-are_many.branch [
      | then-not-are_many w ↦ w.value-is ∙ ap not w.if-not-are_many.true
          ∙ at_once_true here.users _ here.written c.are_many.ensures w.if-not-are_many.true
      | else-not-are_many w ↦ w.value-is
          ∙ at_once_second here.users _ here.written c.are_many.ensures w.if-not-are_many.false
    ] in
    free_by_locks cells seen cell _ c.is_empty.result
    (subst (IsUse cells seen cell) (sym c.self.view_is) is) (sym value ∙ c.if-not-self.false)
    c.is_empty.ensures.none c.is_empty.ensures.some
