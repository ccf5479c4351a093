use Rattle.vyrd_words.proofs.Prelude.{ℕ, ◌+◌, arith, refl, take, get_or, ap, sym, ◌∙◌, take_all}
use Rattle.vyrd_words.proofs.Prelude.{Amounts, amount_of, with_amount, rules_by, with_touched}
use Rattle.vyrd_words.proofs.Prelude.{Known}
use Rattle.vyrd_words.proofs.TouchedLaws.{touched_more}
use Rattle.vyrd_words.proofs.views.tell_touched.Goals as goal

pub loop-key-preserved : goal.loop-key-preserved
loop-key-preserved g c =
    let i = c.loop-key.key-index in
    let items = c.touched-key-items.result.now in
    let same = c.touched-key-items.ensures in
    let known : Known = g.C.Compare.known c.args.compared.now in
    let shown : Amounts =
    (rules_by (g.S.Spec.charter c.args.spec.now)).shown (g.S.Spec.state c.args.spec.now) in
    let key : ℕ = get_or items i 0 in
    record {
      told = c.in_ok-spec_changed.ensures.ok
          ∙ ap (λ (k : Known). record k { specified = with_amount k.specified key c.amount.result })
          c.loop-key.invariant.told
          ∙ ap (λ a. record known {
            specified = with_amount
                (with_touched (take i (g.S.Spec.touched c.args.spec.now)) shown known.specified)
                key a;
          }) c.amount.ensures
          ∙ ap (λ ks. record known {
            specified = with_amount (with_touched (take i ks) shown known.specified) key
                (amount_of shown key);
          }) (sym same)
          ∙ ap (λ (s : Amounts). record known { specified = s })
          (touched_more items i shown known.specified c.loop-key-test.true)
          ∙ ap (λ ks. record known {
            specified = with_touched (take (i + 1) ks) shown known.specified;
          }) same;
      steps = omega (
        arith,
        c.tick.ensures,
        c.spec_changed.ensures.steps,
        c.loop-key.invariant.steps,
      );
    }

pub returns-clause-ok : goal.returns-clause-ok
returns-clause-ok g c =
    grind (
      arith,
      c.loop-key.invariant.told,
      c.touched-key-items.ensures,
      take_all
          c.loop-key.key-index c.touched-key-items.result.now c.loop-key-test.false,
    )

pub returns-clause-refused : goal.returns-clause-refused
returns-clause-refused g c = grind (arith, c.loop-key.invariant.told, c.requires.sound)

pub loop-key-init : goal.loop-key-init
loop-key-init g c = record { told = refl; steps = omega arith }

pub returns-in_err-spec_changed-clause-steps : goal.returns-in_err-spec_changed-clause-steps
returns-in_err-spec_changed-clause-steps = grind arith

pub returns-clause-steps : goal.returns-clause-steps
returns-clause-steps = grind arith
