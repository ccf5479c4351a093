use Rattle.vyrd_own_check.proofs.Prelude.{◌++◌, ◌∷◌, [], length, ap, ◌∙◌, arith, number_from}
use Rattle.vyrd_base.proofs.PlaceLaws.{length_below}
use Rattle.vyrd_own_check.proofs.NumberLaws.{numbers_more, are_more}
use Rattle.vyrd_own_check.proofs.numbers.LineNumbers.push.Goals as goal

pub overflow_add-self : goal.overflow_add-self
overflow_add-self c =
    let all = length_below (number_from 0 c.self.inside.runs.items) c.self.inside.count in
    omega (arith, all, ap length c.self.view_is, c.requires)

pub invariant_of-self-2 : goal.invariant_of-self-2
invariant_of-self-2 c =
    are_more c.self.inside.runs.items c.put.new.runs.items c.self.inside.count c.args.line
    c.in_ok-put.ensures.before c.in_ok-put.ensures.here (omega arith) c.self.invariant

pub returns : goal.returns
returns c =
    numbers_more c.self.inside.runs.items c.put.new.runs.items c.self.inside.count c.args.line
    c.in_ok-put.ensures.before c.in_ok-put.ensures.here
    ∙ ap (λ xs. xs ++ c.args.line ∷ []) c.self.view_is
