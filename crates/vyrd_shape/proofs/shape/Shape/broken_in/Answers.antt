use Rattle.vyrd_shape.proofs.Prelude.{◌∙◌, ap, sym, checks_of, first_broken}
use Rattle.vyrd_shape.proofs.shape.Shape.broken_in.Goals as goal

pub returns-in-Return-clause-rule : goal.returns-in-Return-clause-rule
returns-in-Return-clause-rule c = λ earlier followed is. let h = c.args.self.now.header in let who =
    c.args.entry.now.caller in
    c.return_rule.ensures h who c.in-Return.field-0 earlier is
    ∙ ap (λ kind. first_broken (checks_of h earlier who kind)) (sym c.in-Return.is)

pub returns-in-Commit-clause-rule : goal.returns-in-Commit-clause-rule
returns-in-Commit-clause-rule c = λ earlier followed is.
    let h = c.self.inside.header in let who = c.args.entry.now.caller in
    rw (← c.self.view_is) (c.commit_rule.ensures who earlier is
    ∙ ap (λ kind. first_broken (checks_of h earlier who kind)) (sym c.in-Commit.is))

pub returns-in-BlockOpen-clause-rule : goal.returns-in-BlockOpen-clause-rule
returns-in-BlockOpen-clause-rule c = λ earlier followed is. let h = c.args.self.now.header in
    let who = c.args.entry.now.caller in
    c.open_rule.ensures h who earlier is ∙ ap (λ kind. first_broken (checks_of h earlier who kind))
    (sym c.in-BlockOpen.is)

pub returns-in-BlockClose-clause-rule : goal.returns-in-BlockClose-clause-rule
returns-in-BlockClose-clause-rule c = λ earlier followed is. let h = c.args.self.now.header in
    let who = c.args.entry.now.caller in
    c.close_rule.ensures h who earlier is ∙ ap (λ kind. first_broken (checks_of h earlier who kind))
    (sym c.in-BlockClose.is)

pub returns-in-BlockCommit-clause-rule : goal.returns-in-BlockCommit-clause-rule
returns-in-BlockCommit-clause-rule c = λ earlier followed is. let h = c.args.self.now.header in
    let who = c.args.entry.now.caller in
    c.block_commit_rule.ensures h who earlier is
    ∙ ap (λ kind. first_broken (checks_of h earlier who kind)) (sym c.in-BlockCommit.is)
