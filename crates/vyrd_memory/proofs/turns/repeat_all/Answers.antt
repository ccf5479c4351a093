use Rattle.vyrd_memory.proofs.Prelude.{◌∙◌, ◌+◌, take, replicate, arith, get_or, Turn, turns_of}
use Rattle.vyrd_memory.proofs.Prelude.{stage}
use Rattle.vyrd_memory.proofs.PlayedLaws.{turns_more}
use Rattle.vyrd_memory.proofs.ShownLaws.{shown_more}
use Rattle.vyrd_memory.proofs.turns.repeat_all.Goals as goal

-- what stands for the turn past the end
abbrev past : Turn
past = record { caller = 0; count = 0 }

pub loop-turn-preserved : goal.loop-turn-preserved
loop-turn-preserved g c =
    let here = get_or c.args.turns.now c.loop-turn.turn-index past in
    record {
      shown = shown_more c.args.header.now g.M.Machine.header_of g.M.Machine.script
          g.S.EventSink.has_taken
          (turns_of (take c.loop-turn.turn-index c.args.turns.now))
          (replicate here.count here.caller)
          (turns_of (take (c.loop-turn.turn-index + 1) c.args.turns.now))
          (stage c.args.machines.now c.args.words.now.items c.args.sink.now)
          (stage c.loop-turn.machines c.loop-turn.words.items c.loop-turn.sink)
          (stage c.repeat.new.machines c.repeat.new.words.items c.repeat.new.sink)
          c.loop-turn.invariant.shown c.in_ok-repeat.ensures.shown
          (turns_more c.args.turns.now c.loop-turn.turn-index past c.loop-turn-test.true);
      few = omega (arith, c.loop-turn.invariant.few, c.in_ok-repeat.ensures.few);
      fixed = c.in_ok-repeat.ensures.fixed ∙ c.loop-turn.invariant.fixed;
    }
