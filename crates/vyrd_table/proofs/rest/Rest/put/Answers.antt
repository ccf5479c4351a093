use Rattle.vyrd_table.proofs.Prelude.{ap, ◌∙◌, sym, unwrap_or, err_from_is_err_and}
use Rattle.vyrd_table.proofs.EntryLaws.{lookup-find, insert-with_value, remove-with_value}
use Rattle.vyrd_table.proofs.rest.Rest.put.Goals as goal

pub returns-then-is_nothing-clause-ok : goal.returns-then-is_nothing-clause-ok
returns-then-is_nothing-clause-ok g c = c.remove.ensures.entries
    ∙ remove-with_value g.V.Value.is_nothing c.args.self.now.map.entries c.args.key c.args.value
    (sym c.is_nothing.ensures ∙ c.if-is_nothing.true) c.requires.rising

pub returns-in_ok-insert-clause-ok : goal.returns-in_ok-insert-clause-ok
returns-in_ok-insert-clause-ok g c = c.in_ok-insert.ensures.entries
    ∙ insert-with_value g.V.Value.is_nothing c.args.self.now.map.entries c.args.key c.args.value
    (sym c.is_nothing.ensures ∙ c.if-is_nothing.false)

pub returns-in_err-insert-clause-absent : goal.returns-in_err-insert-clause-absent
returns-in_err-insert-clause-absent g c =
    let nothing = g.V.Value.nothing in
    let p = err_from_is_err_and c.from_residual.result c.from_residual.ensures.1 in
    rw p.1 (ap (λ o. unwrap_or o nothing)
    (sym (lookup-find c.args.key c.args.self.now.map.entries) ∙ c.in_err-insert.ensures.absent))
