use Rattle.vyrd_follow.proofs.Prelude.{rules, [], ◌∷◌, ◌++◌, ap, ◌∙◌, sym, append-nil, rules_of}
use Rattle.vyrd_follow.proofs.Prelude.{amounts_set}
use Rattle.vyrd_spec.specs.AnySpecs.{header_in, state_in}
use Rattle.vyrd_states.specs.Looks.{keys_looked_at}
use Rattle.vyrd_follow.proofs.SetLaws.{one_key, no_key, set_so}
use Rattle.vyrd_follow.proofs.built_in_spec.AnySpecTells.step_told.Goals as goal
use Rattle.vyrd_follow.proofs.built_in_spec.AnySpecTells.step_told.Goals.{else-named-gt0}
use Rattle.vyrd_follow.proofs.built_in_spec.AnySpecTells.step_told.Goals.{then-named-gt0+in_ok-put_set}

pub returns-else-named-gt1-clause-done : goal.returns-else-named-gt1-clause-done
returns-else-named-gt1-clause-done c =
    let old = c.args.done.now.items in
    let a = c.args.args.a in
    let b = c.args.args.b in
    let before = state_in c.args.self.now in
    let after = state_in c.step.new.self in
    let n = c.keys_named-named.result in
    let next = (rules_of (header_in c.args.self.now)).next c.args.method c.args.args c.args.reply
    before in
    let keys = keys_looked_at c.args.method c.args.args in
    elim c.if-named-gt0.branch [
      | then-named-gt0+in_ok-put_set w ↦
          set_so old c.if-named-gt0.done.items before after next keys (a ∷ [])
          (c.in_ok-step.ensures.allowed (search rules))
          (c.keys_named-named.ensures.keys
          ∙ sym (one_key n a b w.if-named-gt0.true c.if-named-gt1.false))
          (ap (λ v. v.items) w.done-is
          ∙ w.in_ok-put_set.ensures before.shown c.amount-first_before.ensures
          ∙ ap (λ k. old ++ amounts_set before.shown after.shown (k ∷ [])) c.from-first.ensures)
      | else-named-gt0 w ↦
          set_so old c.if-named-gt0.done.items before after next keys []
          (c.in_ok-step.ensures.allowed (search rules))
          (c.keys_named-named.ensures.keys
          ∙ sym (no_key n a b w.if-named-gt0.false))
          (ap (λ v. v.items) w.done-is ∙ sym (append-nil old))
    ]
