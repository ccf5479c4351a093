use Rattle.vyrd_states.proofs.Prelude.{◌≡◌, ℕ, ◌+◌, ◌-◌, List, ◌++◌, Option, Some, None, ap, subst}
use Rattle.vyrd_states.proofs.Prelude.{◌∙◌, sym, arith, option_map, Entry, StartWord, numbers_from}
use Rattle.vyrd_states.proofs.Prelude.{Charter, rules_by, State, IsKnown, LeadsTo, Run, state_past}
use Rattle.vyrd_states.proofs.Prelude.{called_by, run_by, answer_after, answers_along}
use Rattle.vyrd_base.specs.Subjects.{are_args}
use Rattle.vyrd_base.proofs.KeptLaws.{method_subject, method_args}
use Rattle.vyrd_states.proofs.RunLaws.{known_next, none_next}
use Rattle.vyrd_states.proofs.WindowLaws.{answers_more, answers_end, answer_known}
use Rattle.vyrd_states.proofs.windows.answers_to.Goals as goal

-- what runs after the entry has the same rules
ours : (c : Charter) (starting : List StartWord) (front : List Entry) (n : ℕ) (run next : Run)
    (state : Option State) → IsKnown c starting front n (Some run)
    → LeadsTo run state (Some next) → next.charter ≡ c
ours c starting front n run next state known leads = leads.charter ∙ known.charter

pub answer-reply-requires-clause-subject : goal.answer-reply-requires-clause-subject
answer-reply-requires-clause-subject g c =
    let of = g.B.Running.Spec in
    let run = run_by of.charter of.state of.made in
    let spec = c.loop-position.spec in
    let charter = g.B.Begins.charter c.args.begins.now in
    let state = state_past (rules_by (of.charter spec)) c.args.front.now c.loop-position.position
    (of.state spec) in
    method_subject (rules_by charter).header c.args.call.method c.args.call.args c.requires.has
    ∙ ap (λ d. (rules_by d).header.subject) (sym (ours charter c.args.starting.now c.args.front.now
    c.loop-position.position (run spec) (run c.in-Some-2.next) state c.loop-position.invariant.0
    (subst (λ found. LeadsTo (run spec) state (option_map run found)) c.in-Some-2.is
    c.in_ok-next.ensures)))

pub answer-reply-requires-clause-args : goal.answer-reply-requires-clause-args
answer-reply-requires-clause-args g c =
    let of = g.B.Running.Spec in
    let run = run_by of.charter of.state of.made in
    let spec = c.loop-position.spec in
    let charter = g.B.Begins.charter c.args.begins.now in
    let state = state_past (rules_by (of.charter spec)) c.args.front.now c.loop-position.position
    (of.state spec) in
    ap (λ d. are_args (rules_by d).header.size c.args.call.method c.args.call.args)
    (ours charter c.args.starting.now c.args.front.now c.loop-position.position (run spec)
    (run c.in-Some-2.next) state c.loop-position.invariant.0
    (subst (λ found. LeadsTo (run spec) state (option_map run found)) c.in-Some-2.is
    c.in_ok-next.ensures))
    ∙ method_args (rules_by charter).header c.args.call.method c.args.call.args c.requires.has

pub returns-in_default : goal.returns-in_default
returns-in_default g c =
    let of = g.B.Running.Spec in
    let charter = g.B.Begins.charter c.args.begins.now in
    let r = rules_by charter in
    let starting = c.args.starting.now in
    let front = c.args.front.now in
    let called = called_by c.args.call in
    let from = c.args.call.called_at in
    let known = subst (λ found. IsKnown charter starting front from
    (option_map (run_by of.charter of.state of.made) found)) c.in_default.is c.in_ok-spec.ensures in
    answers_end r starting front called None from from c.args.at c.new-items.result.items
    (answers_along called.method (answer_after r starting front called) None
    (numbers_from from (c.args.at - from))) (omega arith) c.requires.within (sym known.state_is)
    (ap (λ xs. xs ++ answers_along called.method (answer_after r starting front called) None
    (numbers_from from (c.args.at - from))) c.new-items.ensures.items)

pub returns-in_default-2 : goal.returns-in_default-2
returns-in_default-2 g c =
    let of = g.B.Running.Spec in
    let run = run_by of.charter of.state of.made in
    let charter = g.B.Begins.charter c.args.begins.now in
    let r = rules_by charter in
    let starting = c.args.starting.now in
    let front = c.args.front.now in
    let called = called_by c.args.call in
    let from = c.args.call.called_at in
    let spec = c.loop-position.spec in
    let position = c.loop-position.position in
    answers_end r starting front called c.loop-position.last (position + 1) position c.args.at
    c.loop-position.items.items
    (answers_along called.method (answer_after r starting front called) None
    (numbers_from from (c.args.at - from))) (omega arith) c.requires.within
    (none_next charter starting front position (run spec) (omega arith) c.loop-position.invariant.0
    (subst (λ found. LeadsTo (run spec)
    (state_past (rules_by (of.charter spec)) front position (of.state spec))
    (option_map run found)) c.in_default-2.is c.in_ok-next.ensures))
    c.loop-position.invariant.1

pub loop-position-preserved : goal.loop-position-preserved
loop-position-preserved g c =
    let of = g.B.Running.Spec in
    let run = run_by of.charter of.state of.made in
    let charter = g.B.Begins.charter c.args.begins.now in
    let r = rules_by charter in
    let starting = c.args.starting.now in
    let front = c.args.front.now in
    let called = called_by c.args.call in
    let from = c.args.call.called_at in
    let spec = c.loop-position.spec in
    let position = c.loop-position.position in
    let leads = subst (λ found. LeadsTo (run spec)
    (state_past (rules_by (of.charter spec)) front position (of.state spec))
    (option_map run found)) c.in-Some-2.is c.in_ok-next.ensures in
    let known = known_next charter starting front position (run spec) (run c.in-Some-2.next)
    (omega arith) c.loop-position.invariant.0 leads in (
      known,
      answers_more called.method (answer_after r starting front called) c.loop-position.last
          position c.args.at
          c.answer-reply.result c.loop-position.items.items c.push_answer.new.items.items
          (answers_along called.method (answer_after r starting front called) None
          (numbers_from from (c.args.at - from))) c.loop-position-test.true
          (answer_known r starting front called position c.answer-reply.result
          (of.state c.in-Some-2.next) known.state_is
          (c.answer-reply.ensures ∙ ap (λ d. (rules_by d).answer (of.state c.in-Some-2.next)
          c.args.call.method c.args.call.args) (ours charter starting front position (run spec)
          (run c.in-Some-2.next) _ c.loop-position.invariant.0 leads)))
          c.in_ok-push_answer.ensures c.loop-position.invariant.1,
    )
