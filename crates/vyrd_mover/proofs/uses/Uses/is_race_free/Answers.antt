use Rattle.vyrd_mover.proofs.Prelude.{◌≡◌, ◌<◌, get_or, arith, ap, ◌∙◌, sym, subst, IsUse}
use Rattle.vyrd_mover.proofs.uses.Uses.is_race_free.Goals as goal

pub returns : goal.returns
returns c = λ cells seen have some.
    let here = c.index.result.now in
    let inside : c.args.cell < cells.plain = omega (arith, c.requires, have.all_cells) in
    let is : get_or c.args.self.now.cells c.args.cell here ≡ here =
    ap (λ s. get_or s.cells c.args.cell here) (sym c.self.view_is) ∙ sym c.index.ensures in
    c.is_race_free.ensures cells seen c.args.cell
    (subst (IsUse cells seen c.args.cell) is (have.uses c.args.cell inside here)) some
