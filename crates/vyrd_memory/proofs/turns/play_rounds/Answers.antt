use Rattle.vyrd_memory.proofs.Prelude.{◌∙◌, ◌+◌, refl, ap, arith, Ok, stage}
use Rattle.vyrd_memory.proofs.ShownLaws.{one_round_more, rest_shown}
use Rattle.vyrd_memory.proofs.turns.play_rounds.Goals as goal

pub loop-callers-init : goal.loop-callers-init
loop-callers-init g c = record {
  rounds = 0;
  shown = record {
    ready = c.requires.ready;
    count = refl;
    shown = λ history taken. record {
      later = history;
      taken = taken;
      played = record {
        ready = c.requires.ready;
        count = refl;
        plays = λ scripts is. is;
        history = λ scripts is. refl;
      };
    };
  };
  few = omega arith;
  fixed = refl;
  left_out = c.in_ok-callers.ensures;
}

pub loop-callers-preserved : goal.loop-callers-preserved
loop-callers-preserved g c = record {
  rounds = c.loop-callers.invariant.rounds + 1;
  shown = one_round_more c.args.header.now g.M.Machine.header_of g.M.Machine.script
      g.S.EventSink.has_taken
      (stage c.args.machines.now c.args.words.now.items c.args.sink.now)
      (stage c.loop-callers.machines c.loop-callers.words.items c.loop-callers.sink)
      (stage c.round.new.machines c.round.new.words.items c.round.new.sink)
      c.loop-callers.invariant.rounds c.loop-callers.invariant.shown c.in_ok-round.ensures.shown;
  few = omega (arith, c.loop-callers.invariant.few, c.in_ok-round.ensures.few);
  fixed = c.in_ok-round.ensures.fixed ∙ c.loop-callers.invariant.fixed;
  left_out = c.in_ok-round.ensures.left_out;
}

pub returns : goal.returns
returns g c = record {
  rest = rest_shown c.args.header.now g.M.Machine.header_of g.M.Machine.script
      g.S.EventSink.has_taken
      g.S.EventSink.count g.met.S.EventSink.counted
      (stage c.args.machines.now c.args.words.now.items c.args.sink.now)
      (stage c.loop-callers.machines c.loop-callers.words.items c.loop-callers.sink)
      (stage c.round.new.machines c.round.new.words.items c.round.new.sink)
      c.loop-callers.invariant.rounds c.loop-callers.invariant.shown c.in_ok-round.ensures.shown
      (c.in_ok-round.ensures.still (ap Ok c.if-branch.false));
  fixed = c.in_ok-round.ensures.fixed ∙ c.loop-callers.invariant.fixed;
}
