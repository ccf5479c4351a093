use Rattle.vyrd_spec.proofs.Prelude.{◌≡◌, ap, arith, ◌∙◌, text_length, powers_within}
use Rattle.vyrd_base.proofs.TextLaws.{powers_at_most}
use Rattle.vyrd_spec.proofs.text.text_length.Goals as goal

pub overflow_add-length : goal.overflow_add-length
overflow_add-length c = omega (arith, powers_at_most c.loop-n.n c.args.text)

pub returns-clause-length : goal.returns-clause-length
unfolding text_length
returns-clause-length c =
    let all : c.loop-n.n ≡ 7 = omega arith in c.loop-n.invariant
    ∙ ap (λ n. powers_within n c.args.text) all
