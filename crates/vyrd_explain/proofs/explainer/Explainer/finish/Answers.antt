use Rattle.std.proofs.Common.{◌<◌, ◌≤◌, ◌^◌, ◌++◌, length, ap, subst, sym, ◌∙◌}
use Rattle.vyrd_base.specs.VerdictText.{verdict_text}
use Rattle.vyrd_base.specs.Limits.{most_lines}
use Rattle.vyrd_explain.specs.ExplainerView.{explainer_in}
use Rattle.vyrd_explain.specs.Explained.{explained}
use Rattle.vyrd_explain.specs.Explaining.{ExplainerState, HasTaken, own_limit}
use Rattle.vyrd_explain.proofs.TakenLaws.{explained_is, kept_built_in, kept_may_start, kept_few}
use Rattle.vyrd_explain.proofs.TakenLaws.{kept_own, kept_own_few}
use Rattle.vyrd_explain.proofs.explainer.Explainer.finish.Goals as goal

pub said_about-requires : goal.said_about-requires
said_about-requires c =
    let e = explainer_in c.self.inside in
    let somewhere = c.self.invariant.somewhere c.if-self.false in
    let limit = c.self.invariant.limit in
    record {
      built_in = kept_built_in e somewhere;
      may_start = kept_may_start e somewhere;
      few = subst (λ entries. length entries < 2 ^ 62) (sym c.deref.ensures.value)
          (kept_few e somewhere
          (subst (λ m. 1 ≤ m) (sym limit) c.self.invariant.low)
          (subst (λ m. m ≤ most_lines) (sym limit) c.self.invariant.high));
    }

pub own_said_about-requires : goal.own_said_about-requires
own_said_about-requires c =
    let e = explainer_in c.self.inside in
    let somewhere = c.self.invariant.somewhere c.if-self.false in
    let limit = c.self.invariant.own in
    let low = subst (λ m. 1 ≤ m) (sym limit) c.self.invariant.low in
    let high = subst (λ m. m ≤ most_lines) (sym limit) c.self.invariant.high in
    record {
      own = kept_own e somewhere low high;
      few = subst (λ entries. length entries < 2 ^ 62) (sym c.deref-2.ensures.value)
          (kept_own_few e somewhere low high);
    }

pub returns-clause-text : goal.returns-clause-text
returns-clause-text c = λ bytes given.
    let t : HasTaken (explainer_in c.self.inside) bytes =
    subst (λ e. HasTaken e bytes) (sym c.self.view_is) given in
    let inside = c.self.inside in
    let said = c.deref-4.ensures.value
    ∙ c.in_ok-said.ensures bytes t.read (c.deref.ensures.value ∙ t.entries) in
    let own_said = c.deref-5.ensures.value
    ∙ c.in_ok-own_said.ensures bytes t.own_read (c.deref-2.ensures.value ∙ t.own_entries)
    (c.deref-3.ensures.value ∙ t.numbers) in
    c.in_ok-text.ensures ∙ (λ i. verdict_text c.in_ok-verdict.verdict ++ said i ++ own_said i)
    ∙ explained_is c.args.about inside.checker.max_lines inside.reader.max_lines
    (own_limit inside.own) bytes
    c.in_ok-verdict.verdict c.self.invariant.limit c.self.invariant.own
    (c.in_ok-verdict.ensures.verdict bytes t.checked)
    ∙ ap (λ (e : ExplainerState). explained c.args.about e.checker.max_lines bytes) c.self.view_is
