use Rattle.vyrd_own_spec.proofs.Prelude.{◌≡◌, Some, ap, sym, ◌∙◌, subst, arith, take, slice_get}
use Rattle.vyrd_own_spec.proofs.Prelude.{map, written, method_of, expr_in}
use Rattle.vyrd_own_spec.proofs.CallLaws.{method_found, answer_found, few_given, length-mapped}
use Rattle.vyrd_own_spec.proofs.stepping.answer_by.Goals as goal

pub answer_of_few-requires : goal.answer_of_few-requires
answer_of_few-requires c =
    let found : slice_get (map method_of c.args.program.now.methods.items) c.in_ok-number.number
    ≡ Some (method_of c.in_ok-found.found.now) =
    subst (λ ms. slice_get (map method_of ms) c.in_ok-number.number
    ≡ Some (method_of c.in_ok-found.found.now)) c.deref.ensures.value
    (method_found c.deref.result.now c.in_ok-number.number c.in_ok-found.found.now
    c.in_ok-found.ensures.lookup.3.0 c.in_ok-found.ensures.lookup.1) in
    let lets = c.requires.small.lets c.in_ok-number.number (method_of c.in_ok-found.found.now)
    found in
    let args = few_given c.in_ok-found.found.now.arity c.args.args.a c.args.args.b c.args.args.c
    c.given.result.now
    (c.given.ensures ∙ ap (take c.in_ok-found.found.now.arity) c.all_args-all.ensures) in
    omega (
      arith,
      c.requires.small.constants,
      c.requires.registers,
      lets,
      args,
      length-mapped
          expr_in c.in_ok-found.found.now.lets.items,
    )

pub returns : goal.returns
returns c =
    answer_found (written c.args.program.now) c.args.method c.args.args c.args.state.now
    c.in_ok-number.number (method_of c.in_ok-found.found.now)
    c.given.result.now c.answer_of_few.result (sym c.own_number.ensures ∙ c.in_ok-number.was)
    (subst (λ ms. slice_get (map method_of ms) c.in_ok-number.number
    ≡ Some (method_of c.in_ok-found.found.now)) c.deref.ensures.value
    (method_found c.deref.result.now c.in_ok-number.number c.in_ok-found.found.now
    c.in_ok-found.ensures.lookup.3.0 c.in_ok-found.ensures.lookup.1))
    (c.given.ensures ∙ ap (take c.in_ok-found.found.now.arity) c.all_args-all.ensures)
    c.answer_of_few.ensures
