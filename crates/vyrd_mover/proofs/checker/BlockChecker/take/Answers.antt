use Rattle.vyrd_mover.proofs.Prelude.{◌≡◌, ◌∙◌, [], ◌∷◌, ◌++◌, map, ap, sym, subst, step_coded}
use Rattle.vyrd_mover.proofs.Prelude.{code_of, step_of, HasTaken, IsNext}
use Rattle.vyrd_mover.proofs.TakingLaws.{taken_more}
use Rattle.vyrd_mover.proofs.checker.BlockChecker.take.Goals as goal

pub returns-clause-taken : goal.returns-clause-taken
returns-clause-taken c = λ history taken next.
    let e = c.args.event.now in
    let before = c.self.inside in
    let had = subst (λ t. HasTaken t history) (sym c.self.view_is) taken in
    let legal = subst (λ t. IsNext t.header history e) (sym c.self.view_is) next in
    let code = c.code.ensures ∙ ap code_of c.of.ensures in
    let codes : c.push_reserved.new.self.items ≡ before.codes.items ++ code_of (step_of e) ∷ [] =
    c.push_reserved.ensures.items ∙ (λ i. c.reserve.ensures.items i ++ code i ∷ []) in
    rw c.in_ok-follow.ensures.ok
    (rw codes (taken_more before.header before.uses before.codes.items history e had legal))

pub invariant_of-self-2 : goal.invariant_of-self-2
invariant_of-self-2 c =
    let e = c.args.event.now in
    let before = c.self.inside in
    let history = c.requires.legal.history in
    let had = subst (λ t. HasTaken t history) (sym c.self.view_is) c.requires.legal.taken in
    let legal = subst (λ t. IsNext t.header history e) (sym c.self.view_is) c.requires.legal.next in
    let code = c.code.ensures ∙ ap code_of c.of.ensures in
    let codes : c.push_reserved.new.self.items ≡ before.codes.items ++ code_of (step_of e) ∷ [] =
    c.push_reserved.ensures.items ∙ (λ i. c.reserve.ensures.items i ++ code i ∷ []) in
    record {
      history = history ++ e ∷ [];
      taken = subst
          (λ uses. HasTaken
          (record {
            header = before.header;
            uses = uses;
            steps = map step_coded c.push_reserved.new.self.items;
          }) (history ++ e ∷ []))
          (sym c.in_ok-follow.ensures.ok)
          (rw codes (taken_more before.header before.uses before.codes.items history e had
          legal));
    }
