use Rattle.vyrd_own_log.proofs.Prelude.{◌≡◌, rules, ap, sym, ◌∙◌, Some, length, nat_le, map}
use Rattle.vyrd_own_log.proofs.Prelude.{second_true, named_from, method_of, written}
use Rattle.vyrd_own_log.proofs.NameLaws.{named_is}
use Rattle.vyrd_own_log.proofs.EntryLaws.{AllCallable}
use Rattle.vyrd_own_log.proofs.QuickLaws.{called_kind}
use Rattle.vyrd_own_log.proofs.quick.read_called.Goals as goal

pub read_own_args-requires : goal.read_own_args-requires
read_own_args-requires c =
    let w = written c.args.program.now in
    let all : AllCallable w = second_true (nat_le (length w.methods) 64) _ c.requires in
    let front = c.in_ok-method.ensures in
    let is : named_from 0 w.methods front.name ≡ Some c.in_ok-method.method =
    ap (λ ms. named_from 0 (map method_of ms) front.name) (sym c.deref.ensures.value)
    ∙ front.found in
    (named_is 0 w.methods front.name c.in_ok-method.method all is).few

pub returns : goal.returns
returns c =
    let w = written c.args.program.now in
    let all : AllCallable w = second_true (nat_le (length w.methods) 64) _ c.requires in
    let front = c.in_ok-method.ensures in
    let is : named_from 0 w.methods front.name ≡ Some c.in_ok-method.method =
    ap (λ ms. named_from 0 (map method_of ms) front.name) (sym c.deref.ensures.value)
    ∙ front.found in
    rw c.own.ensures
    (rw c.in_ok-rest.ensures
    (called_kind w all c.in_ok-rest.rest.now front.name c.in_ok-method.rest.now
    c.in_ok-args.rest.now c.in_ok-method.method
    c.in_ok-args.args is front.parted c.in_ok-args.ensures (search rules) (search rules)
    (search rules)))
