use Rattle.vyrd_memory.proofs.Prelude.{◌∙◌, sym, drop, option_map_or, stop}
use Rattle.vyrd_memory.specs.Laws.Player.{player_goes_on}
use Rattle.vyrd_memory.proofs.player.PlayerMachine.took.Goals as goal

pub returns-then-is_some-clause-script : goal.returns-then-is_some-clause-script
returns-then-is_some-clause-script g c =
    let m = c.args.self.now in
    let new = option_map_or (g.P.Progress.rest c.go_on.new.self.header) c.go_on.new.self.progress
    stop in
    cc (
      c.go_on.ensures.header,
      player_goes_on m.underway.header m.underway.left (g.P.Progress.rest
          m.underway.header) m.underway.progress (g.P.Progress.procedure m.underway.header m.variant)
          (drop m.begun m.ops.items) c.args.answer new m.underway.goes_on (sym c.is_some.ensures ∙
          c.if-is_some.true) c.go_on.ensures.script,
    )
