use Rattle.vyrd_table.proofs.Prelude.{◌≡◌, Some, None, ap, cond, sym, subst, ◌∙◌, IsFirst}
use Rattle.vyrd_table.proofs.FirstLaws.{first_in, first_is}
use Rattle.vyrd_table.proofs.rest.Rest.first_marked.Goals as goal

pub returns-then-is_marked : goal.returns-then-is_marked
returns-then-is_marked g c =
    let nothing = g.V.Value.nothing in
    let test = g.V.Marked.is_marked in
    let entries = c.args.self.now.map.entries in
    let first : first_in test entries ≡ Some c.in-Some.key.now = sym c.loop-key.invariant.2
    ∙ ap (first_in test) c.in-Some.ensures.steps
    ∙ ap (λ b. cond b (Some c.in-Some.key.now) (first_in test c.next.new.self))
    (sym c.is_marked.ensures ∙ c.if-is_marked.true) in
    subst (IsFirst nothing test entries) first
    (first_is nothing test g.met.V.Marked.nothing_is_plain entries c.requires.rising)

pub returns : goal.returns
returns g c =
    let nothing = g.V.Value.nothing in
    let test = g.V.Marked.is_marked in
    let entries = c.args.self.now.map.entries in
    let first : first_in test entries ≡ None = sym c.loop-key.invariant.2
    ∙ ap (first_in test) c.in-None.ensures.steps.0 in
    subst (IsFirst nothing test entries) first
    (first_is nothing test g.met.V.Marked.nothing_is_plain entries c.requires.rising)
