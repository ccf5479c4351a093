use Rattle.std.proofs.Common.{ap, sym, ◌∙◌, ◌++◌, ◌∷◌, List, ℕ, [], append_assoc}
use Rattle.std.specs.Prelude.{flat_map, decimal, take}
use Rattle.vyrd_text.proofs.WrittenLaws.{call_text_after}
use Rattle.vyrd_text.proofs.writer.push_call.Goals as goal

pub returns-clause-text : goal.returns-clause-text
returns-clause-text c =
    let old = c.args.line.now in
    let args = c.args.args in
    let after : ℕ → List ℕ = λ n. flat_map (λ x. 32 ∷ decimal x)
    (take n (args.a ∷ args.b ∷ args.c ∷ [])) in
    c.push_args.ensures.text
    ∙ ap (λ t. t ++ after c.arity.result) c.push.ensures.bytes
    ∙ append_assoc old c.name.result.now (after c.arity.result)
    ∙ (λ i. old ++ (c.name.ensures.text i ++ after (c.arity.ensures i)))
    ∙ ap (λ t. old ++ t) (sym (call_text_after c.args.method args))
