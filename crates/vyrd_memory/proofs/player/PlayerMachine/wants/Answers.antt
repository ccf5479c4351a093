use Rattle.vyrd_memory.proofs.Prelude.{◌∙◌, sym, drop, IsUnderway, of_some, underway_sound}
use Rattle.vyrd_memory.specs.Laws.Player.{player_wants}
use Rattle.vyrd_memory.proofs.player.PlayerMachine.wants.Goals as goal

pub wants-requires-clause-sound : goal.wants-requires-clause-sound
wants-requires-clause-sound g c =
    let underway = c.args.self.now.underway in
    underway_sound underway.header underway.left
    (g.P.Progress.rest underway.header c.in-Some.progress)
    (of_some (λ p. IsUnderway underway.header underway.left (g.P.Progress.rest underway.header p))
    underway.progress c.in-Some.progress c.in-Some.is underway.goes_on)

pub returns-in-Some : goal.returns-in-Some
returns-in-Some g c =
    let m = c.args.self.now in
    c.wants.ensures
    ∙ sym (player_wants m.underway.header m.underway.left (g.P.Progress.rest m.underway.header)
    m.underway.progress c.in-Some.progress
    (g.P.Progress.procedure m.underway.header m.variant) (drop m.begun m.ops.items)
    m.underway.goes_on c.in-Some.is)
