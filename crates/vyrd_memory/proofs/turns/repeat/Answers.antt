use Rattle.vyrd_memory.proofs.Prelude.{◌∙◌, ◌+◌, [], ◌∷◌, replicate, arith, stage}
use Rattle.vyrd_memory.proofs.PlayedLaws.{one_more}
use Rattle.vyrd_memory.proofs.ShownLaws.{shown_more}
use Rattle.vyrd_memory.proofs.turns.repeat.Goals as goal

pub loop-time-preserved : goal.loop-time-preserved
loop-time-preserved g c =
    let caller = c.args.turns.now.caller in
    record {
      shown = shown_more c.args.header.now g.M.Machine.header_of g.M.Machine.script
          g.S.EventSink.has_taken
          (replicate c.loop-time._time caller) (caller ∷ [])
          (replicate (c.loop-time._time + 1) caller)
          (stage c.args.machines.now c.args.words.now.items c.args.sink.now)
          (stage c.loop-time.machines c.loop-time.words.items c.loop-time.sink)
          (stage c.turn.new.machines c.turn.new.words.items c.turn.new.sink)
          c.loop-time.invariant.shown c.in_ok-turn.ensures.shown
          (one_more c.loop-time._time caller);
      few = omega (arith, c.loop-time.invariant.few, c.in_ok-turn.ensures.few);
      fixed = c.in_ok-turn.ensures.fixed ∙ c.loop-time.invariant.fixed;
    }
