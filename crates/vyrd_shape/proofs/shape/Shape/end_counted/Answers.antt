use Rattle.vyrd_shape.proofs.Prelude.{◌≡◌, ◌∙◌, ap, sym, true, false, refl, is_some, list_any}
use Rattle.vyrd_shape.proofs.Prelude.{is_call_open, HasFollowed}
use Rattle.vyrd_shape.proofs.ShapeLaws.{kept_by, call_open_is}
use Rattle.vyrd_shape.proofs.shape.Shape.end_counted.Goals as goal

pub returns-then-is_any_open-clause-end : goal.returns-then-is_any_open-clause-end
returns-then-is_any_open-clause-end g c = λ earlier followed. let s = c.self.inside in
    let now = kept_by s.header s.phases.items s.holders s.commits s.stamps in
    let inside : HasFollowed now earlier = rw c.self.view_is followed in
    let is : is_call_open s.header earlier
    ≡ true = sym (call_open_is now earlier c.self.invariant.enough_phases inside)
    ∙ ap (λ phases. list_any (λ phase. is_some phase.open_method) phases)
    (sym c.deref.ensures.value) ∙ sym c.is_any_open.ensures.any
    ∙ c.if-is_any_open.true in
    (rw (← c.self.view_is) is, refl)

pub returns-else-is_any_open-clause-end : goal.returns-else-is_any_open-clause-end
returns-else-is_any_open-clause-end g c = λ earlier followed. let s = c.self.inside in
    let now = kept_by s.header s.phases.items s.holders s.commits s.stamps in
    let inside : HasFollowed now earlier = rw c.self.view_is followed in
    let is : is_call_open s.header earlier
    ≡ false = sym (call_open_is now earlier c.self.invariant.enough_phases inside)
    ∙ ap (λ phases. list_any (λ phase. is_some phase.open_method) phases)
    (sym c.deref.ensures.value) ∙ sym c.is_any_open.ensures.any
    ∙ c.if-is_any_open.false in
    rw (← c.self.view_is) is
