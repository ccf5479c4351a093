use Rattle.vyrd_mover.proofs.Prelude.{◌≡◌, ◌∙◌, map, ap, sym, subst, cells_of, Reducible, blocks_of}
use Rattle.vyrd_mover.proofs.Prelude.{step_coded, HasTaken}
use Rattle.vyrd_mover.proofs.CheckLaws.{answer_is, each_is_gathered}
use Rattle.vyrd_mover.proofs.checker.BlockChecker.answer.Goals as goal

pub of-requires : goal.of-requires
of-requires c =
    let here = c.self.inside in
    record {
      history = c.self.invariant.history;
      taken = subst
          (λ cs. HasTaken
          (record { header = here.header; uses = here.uses; steps = map step_coded cs })
          c.self.invariant.history)
          (sym c.deref.ensures.value) c.self.invariant.taken;
    }

pub returns-clause-blocks : goal.returns-clause-blocks
returns-clause-blocks c = λ history taken.
    let here = c.self.inside in
    let had = subst
    (λ cs. HasTaken (record { header = here.header; uses = here.uses; steps = map step_coded cs })
    history)
    (sym c.deref.ensures.value) (subst (λ t. HasTaken t history) (sym c.self.view_is) taken) in
    c.answer.ensures ∙ answer_is (cells_of here.header) history c.in_ok-survey.survey
    (c.in_ok-survey.ensures history had)
    ∙ ap (λ t. blocks_of (cells_of t.header) history) c.self.view_is

pub returns-clause-gathered : goal.returns-clause-gathered
returns-clause-gathered c = λ history taken n e.
    let here = c.self.inside in
    let had = subst
    (λ cs. HasTaken (record { header = here.header; uses = here.uses; steps = map step_coded cs })
    history)
    (sym c.deref.ensures.value) (subst (λ t. HasTaken t history) (sym c.self.view_is) taken) in
    let all = c.answer.ensures ∙ answer_is (cells_of here.header) history c.in_ok-survey.survey
    (c.in_ok-survey.ensures history had)
    ∙ ap (λ t. blocks_of (cells_of t.header) history) c.self.view_is in
    let reducible : c.answer.result ≡ Reducible n = cc in
    each_is_gathered (cells_of c.args.self.now.header) history n taken.legal (sym all ∙ reducible)
