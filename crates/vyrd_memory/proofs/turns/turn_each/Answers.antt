use Rattle.vyrd_memory.proofs.Prelude.{◌+◌, [], ◌∷◌, take, get_or, ap, ◌∙◌, sym, arith, Ok, stage}
use Rattle.std.proofs.lemmas.List.{take_more}
use Rattle.vyrd_memory.proofs.ShownLaws.{shown_more}
use Rattle.vyrd_memory.proofs.turns.turn_each.Goals as goal
use Rattle.vyrd_memory.proofs.turns.turn_each.Goals.{then-branch, else-branch}

pub turn-requires-clause-caller : goal.turn-requires-clause-caller
turn-requires-clause-caller g c = search arith

pub loop-caller-init : goal.loop-caller-init
loop-caller-init g c = grind (arith, c.requires.ready)

pub loop-caller-preserved : goal.loop-caller-preserved
loop-caller-preserved g c = record {
  shown =
      shown_more c.args.header.now g.M.Machine.header_of g.M.Machine.script g.S.EventSink.has_taken
      (take c.loop-caller.caller-index c.args.callers.now)
      (get_or c.args.callers.now c.loop-caller.caller-index 0 ∷ [])
      (take (c.loop-caller.caller-index + 1) c.args.callers.now)
      (stage c.args.machines.now c.args.words.now.items c.args.sink.now)
      (stage c.loop-caller.machines c.loop-caller.words.items c.loop-caller.sink)
      (stage c.turn.new.machines c.turn.new.words.items c.turn.new.sink)
      c.loop-caller.invariant.shown c.in_ok-turn.ensures.shown
      (take_more c.args.callers.now c.loop-caller.caller-index 0 c.loop-caller-test.true);
  few = omega (arith, c.loop-caller.invariant.few, c.in_ok-turn.ensures.few);
  fixed = c.in_ok-turn.ensures.fixed ∙ c.loop-caller.invariant.fixed;
  still = λ e. elim c.if-branch.branch [
    | then-branch w ↦ cc
    | else-branch w ↦ c.in_ok-turn.ensures.still (ap Ok w.if-branch.false)
        ∙ c.loop-caller.invariant.still (sym w.moved-is ∙ e)
  ];
  rests = omega (arith, c.in_ok-turn.ensures.rests, c.loop-caller.invariant.rests);
  falls = λ e. elim c.if-branch.branch [
    | then-branch w ↦ let falls = c.in_ok-turn.ensures.falls (ap Ok w.if-branch.true) in
        omega (arith, falls, c.loop-caller.invariant.rests)
    | else-branch w ↦
        let before = c.loop-caller.invariant.falls (sym w.moved-is ∙ e) in
        omega (arith, c.in_ok-turn.ensures.rests, before)
  ];
  others = λ other apart.
      c.in_ok-turn.ensures.others other (apart c.loop-caller.caller-index c.loop-caller-test.true)
      ∙ c.loop-caller.invariant.others other apart;
}
