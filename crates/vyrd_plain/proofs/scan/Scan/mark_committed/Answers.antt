use Rattle.vyrd_plain.proofs.Prelude.{◌≡◌, ◌<◌, Some, length, set, slice_get, sym, ap, ◌∙◌, arith}
use Rattle.vyrd_plain.proofs.Prelude.{same_Some, rules_by, has_method, by_same, slice_get-set_same}
use Rattle.vyrd_plain.proofs.Prelude.{slice_get-set_other, apart_of, with_commit}
use Rattle.vyrd_plain.proofs.scan.Scan.mark_committed.Goals as goal

pub see-requires-clause-allowed : goal.see-requires-clause-allowed
see-requires-clause-allowed g c = λ d y low here.
    let h = (rules_by (g.S.Spec.charter c.args.self.now.spec)).header in
    let xs = c.args.self.now.executions.items in
    let x = with_commit c.args.execution in
    let there : c.args.caller < length xs =
    omega (arith, c.requires.caller, c.args.self.now.callers, c.args.self.now.executions.ok.0) in
    by_same c.args.caller d
    (λ same. let it : x ≡ y =
    same_Some _ _ (same_Some _ _ (sym (slice_get-set_same xs c.args.caller (Some x) there)
    ∙ ap (slice_get (set xs c.args.caller (Some x))) same ∙ here)) in
    ap (λ z. has_method h z.method z.args) (sym it) ∙ c.requires.may)
    (λ other. c.requires.allowed d y low
    (sym (slice_get-set_other xs c.args.caller d (Some x) (apart_of c.args.caller d other)) ∙ here))
