use Rattle.vyrd_memory.proofs.Prelude.{◌≡◌, Bool, true, false, not, ◌∙◌, sym, ap, drop, is_some}
use Rattle.vyrd_memory.specs.Laws.Player.{player_between}
use Rattle.vyrd_memory.proofs.player.PlayerMachine.between.Goals as goal

flipped : (a b : Bool) → not a ≡ b → a ≡ not b
flipped true b e = ap not e
flipped false b e = ap not e

pub returns : goal.returns
returns g c =
    let m = c.args.self.now in
    flipped c.is_none.result (is_some m.underway.progress) (sym c.is_none.ensures)
    ∙ sym (player_between m.underway.header m.underway.left (g.P.Progress.rest m.underway.header)
    m.underway.progress
    (g.P.Progress.procedure m.underway.header m.variant) (drop m.begun m.ops.items)
    m.underway.goes_on)
