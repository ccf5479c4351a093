use Rattle.vyrd_own_log.proofs.Prelude.{arith, ◌≡◌, ap, ◌∙◌, Some, None, sym, length, option_map}
use Rattle.vyrd_own_log.proofs.Prelude.{nat_le, map, named_from, method_of, written, second_true}
use Rattle.vyrd_own_log.proofs.NameLaws.{named_is}
use Rattle.vyrd_own_log.proofs.EntryLaws.{AllCallable, no_method, no_arguments, call_read}
use Rattle.vyrd_own_log.proofs.entry.read_called.Goals as goal

pub returns-in_err-method : goal.returns-in_err-method
returns-in_err-method c =
    let w = written c.args.program.now in
    let all : AllCallable w = second_true (nat_le (length w.methods) 64) _ c.requires in
    let name = c.split_field.result.0.now in
    let none : named_from 0 w.methods name ≡ None =
    ap (λ ms. named_from 0 (map method_of ms) name) (sym c.deref.ensures.value)
    ∙ sym c.in_err-method.ensures in
    rw c.from_residual.ensures
    (no_method w all c.args.text.now name (option_map (λ rest. rest.now) c.split_field.result.1)
    c.split_field.ensures.parts c.split_field.ensures.one_word none)

-- the method that was found
found : (c : goal.In_ok-method) → named_from 0 (written c.args.program.now).methods
    c.split_field.result.0.now ≡ Some c.in_ok-method.method
found c =
    ap (λ ms. named_from 0 (map method_of ms) c.split_field.result.0.now)
    (sym c.deref.ensures.value) ∙ sym c.in_ok-method.ensures

pub read_own_args-requires : goal.read_own_args-requires
read_own_args-requires c =
    let w = written c.args.program.now in
    let all : AllCallable w = second_true (nat_le (length w.methods) 64) _ c.requires in
    (named_is 0 w.methods c.split_field.result.0.now c.in_ok-method.method all (found c)).few

pub returns-in_err-args : goal.returns-in_err-args
returns-in_err-args c =
    let w = written c.args.program.now in
    let all : AllCallable w = second_true (nat_le (length w.methods) 64) _ c.requires in
    let name = c.split_field.result.0.now in
    let is : named_from 0 w.methods name ≡ Some c.in_ok-method.method =
    ap (λ ms. named_from 0 (map method_of ms) name) (sym c.deref.ensures.value)
    ∙ sym c.in_ok-method.ensures in
    rw c.from_residual-in_err-args.ensures
    (no_arguments w all c.args.text.now name (option_map (λ rest. rest.now) c.split_field.result.1)
    c.split_field.ensures.parts c.split_field.ensures.one_word c.in_ok-method.method is
    c.in_err-args.ensures)

pub returns : goal.returns
returns c =
    let w = written c.args.program.now in
    let all : AllCallable w = second_true (nat_le (length w.methods) 64) _ c.requires in
    let name = c.split_field.result.0.now in
    let is : named_from 0 w.methods name ≡ Some c.in_ok-method.method =
    ap (λ ms. named_from 0 (map method_of ms) name) (sym c.deref.ensures.value)
    ∙ sym c.in_ok-method.ensures in
    rw c.own.ensures
    (call_read w all c.args.text.now name (option_map (λ rest. rest.now) c.split_field.result.1)
    c.split_field.ensures.parts c.split_field.ensures.one_word c.in_ok-method.method
    c.in_ok-args.args is c.in_ok-args.ensures
    (omega arith) (omega arith) (omega arith))
