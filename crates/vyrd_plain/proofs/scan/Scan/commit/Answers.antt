use Rattle.vyrd_plain.proofs.Prelude.{◌≡◌, Ok, Some, sym, ap, subst, ◌∙◌, slice_get, Header, Rules}
use Rattle.vyrd_plain.proofs.Prelude.{rules_by, map, set, seeing, with_commit, first_difference}
use Rattle.vyrd_plain.proofs.Prelude.{CommitFaults, Reply, View}
use Rattle.vyrd_base.specs.Subjects.{is_built_in}
use Rattle.vyrd_base.specs.Views.{view_of_words}
use Rattle.vyrd_plain.specs.Outcomes.{CommitGoes}
use Rattle.vyrd_base.proofs.KeptLaws.{method_subject, method_args}
use Rattle.vyrd_plain.proofs.OutcomeLaws.{for_execution, refused, differs}
use Rattle.vyrd_base.proofs.ListLaws.{is_none}
use Rattle.vyrd_plain.proofs.scan.Scan.commit.Goals as goal

pub step-requires-clause-subject : goal.step-requires-clause-subject
step-requires-clause-subject g c =
    method_subject (rules_by (g.S.Spec.charter c.args.self.now.spec)).header
    c.in-Some.execution.method c.in-Some.execution.args
    (c.requires.allowed c.args.caller c.in-Some.execution c.requires.caller c.in-Some.ensures)

pub step-requires-clause-args : goal.step-requires-clause-args
step-requires-clause-args g c =
    (method_args (rules_by (g.S.Spec.charter c.args.self.now.spec)).header
    c.in-Some.execution.method c.in-Some.execution.args
    (c.requires.allowed c.args.caller c.in-Some.execution c.requires.caller c.in-Some.ensures))

pub returns-then-not-branch-clause-gives : goal.returns-then-not-branch-clause-gives
returns-then-not-branch-clause-gives g c = λ x is.
    let r = rules_by (g.S.Spec.charter c.args.self.now.spec) in
    let shown = r.view c.args.self.now.effects.words.items in
    let before = g.S.Spec.state c.args.self.now.spec in
    let none = c.in_ok-step.ensures.refused (ap Ok c.if-not-branch.true) in
    for_execution (λ y. CommitFaults r shown y before (Reply c.in-Some-reply.reply))
    (slice_get c.args.self.now.executions.items c.args.caller)
    c.in-Some.execution x c.in-Some.ensures is
    (refused r shown c.in-Some.execution c.in-Some-reply.reply before c.in-Some-reply.is none)

pub returns-in-Some-first_difference-clause-gives :
    goal.returns-in-Some-first_difference-clause-gives
returns-in-Some-first_difference-clause-gives g c = λ x is.
    let r = rules_by (g.S.Spec.charter c.args.self.now.spec) in
    let before = g.S.Spec.state c.args.self.now.spec in
    let after = g.S.Spec.state c.step.new.self in
    let next = c.in_ok-step.ensures.allowed (ap Ok c.if-not-branch.false) in
    let named = c.header.ensures ∙ ap (λ (q : Rules). q.header)
    (ap rules_by c.step.ensures.charter) in
    let shown : c.in_ok-shown.shown ≡ r.view c.args.self.now.effects.words.items =
    c.in_ok-shown.ensures ∙ (λ i. view_of_words (named i) (c.words.ensures i))
    ∙ sym (ap (λ charter. (rules_by charter).view c.args.self.now.effects.words.items)
    (g.met.S.BuiltIn.has_built_in_rules c.args.self.now.spec)) in
    let first : first_difference (r.view c.args.self.now.effects.words.items) (r.shown after)
    ≡ Some c.in-Some-first_difference.key =
    (λ i. first_difference (sym shown i) ((sym (ap rules_by c.step.ensures.charter) i).shown after))
    ∙ ap (first_difference c.in_ok-shown.shown) (sym c.in_ok-after.ensures)
    ∙ sym c.in-Some-first_difference.ensures in
    for_execution (λ y. CommitFaults r (r.view c.args.self.now.effects.words.items) y before
    (View c.in-Some-first_difference.key))
    (slice_get c.args.self.now.executions.items c.args.caller)
    c.in-Some.execution x c.in-Some.ensures is
    (differs r (r.view c.args.self.now.effects.words.items) c.in-Some.execution
    c.in-Some-reply.reply before after c.in-Some-first_difference.key c.in-Some-reply.is next first)

pub returns-clause-gives : goal.returns-clause-gives
returns-clause-gives g c = λ x is.
    let r = rules_by (g.S.Spec.charter c.args.self.now.spec) in
    let before = g.S.Spec.state c.args.self.now.spec in
    let after = g.S.Spec.state c.step.new.self in
    let old = c.args.self.now.executions.items in
    let next = c.in_ok-step.ensures.allowed (ap Ok c.if-not-branch.false) in
    let named = c.header.ensures ∙ ap (λ (q : Rules). q.header)
    (ap rules_by c.step.ensures.charter) in
    let shown : c.in_ok-shown.shown ≡ r.view c.args.self.now.effects.words.items =
    c.in_ok-shown.ensures ∙ (λ i. view_of_words (named i) (c.words.ensures i))
    ∙ sym (ap (λ charter. (rules_by charter).view c.args.self.now.effects.words.items)
    (g.met.S.BuiltIn.has_built_in_rules c.args.self.now.spec)) in
    let none = is_none c.first_difference.result c.in_default-first_difference.not-Some in
    subst (λ s. CommitGoes r (r.view c.args.self.now.effects.words.items) c.args.caller x before
    (g.S.Spec.state s) old c.mark_committed.new.self.executions.items)
    (sym c.mark_committed.ensures.spec)
    (for_execution
    (λ y. CommitGoes r (r.view c.args.self.now.effects.words.items) c.args.caller y before after old
    c.mark_committed.new.self.executions.items)
    (slice_get old c.args.caller)
    c.in-Some.execution x c.in-Some.ensures is
    (record {
      reply = c.in-Some-reply.reply;
      returned = c.in-Some-reply.is;
      next = next;
      same = (λ i. first_difference (sym shown i)
          ((sym (ap rules_by c.step.ensures.charter) i).shown after))
          ∙ ap (first_difference c.in_ok-shown.shown) (sym c.in_ok-after.ensures)
          ∙ sym c.first_difference.ensures ∙ none;
      seen = c.mark_committed.ensures.executions
          ∙ ap (λ (q : Rules). map (seeing q after)
          (set old c.args.caller (Some (with_commit c.in-Some.execution))))
          (ap rules_by c.step.ensures.charter);
    }))

pub view_of-requires-clause-built_in : goal.view_of-requires-clause-built_in
view_of-requires-clause-built_in g c =
    ap (λ (h : Header). is_built_in h.subject) c.header.ensures
    ∙ ap (λ (r : Rules). is_built_in r.header.subject) (ap rules_by c.step.ensures.charter)
    ∙ g.met.S.BuiltIn.has_built_in_subject c.args.self.now.spec
