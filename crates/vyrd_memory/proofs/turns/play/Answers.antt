use Rattle.vyrd_memory.proofs.Prelude.{◌≡◌, ℕ, ◌+◌, ◌≤◌, ◌^◌, List, ◌∙◌, [], refl, sym, arith}
use Rattle.vyrd_memory.proofs.Prelude.{length, Header, most_ahead, total, stage}
use Rattle.vyrd_base.proofs.HeaderLaws.{few_callers}
use Rattle.vyrd_memory.proofs.RunLaws.{ready_start, playing_start}
use Rattle.vyrd_memory.proofs.ShownLaws.{has_run, are_stuck_there, total_few}
use Rattle.vyrd_memory.proofs.turns.play.Goals as goal

pub repeat_all-requires-clause-ready : goal.repeat_all-requires-clause-ready
repeat_all-requires-clause-ready g c =
    ready_start c.args.header.now g.M.Machine.header_of c.args.machines.now
    c.in_ok-words.words.items c.requires.header c.in_ok-words.ensures

-- what all machines have ahead
few : {M : Type 0} (ahead : M → ℕ) (machines : List M) (count : ℕ)
    → ((m : M) → ahead m ≤ most_ahead) → length machines ≤ 1024
    → count ≡ 0 → count + total ahead machines ≤ 2 ^ 62
few ahead machines count each low none = omega (arith, total_few ahead each machines, low, none)

-- there is one machine for each caller
few_machines : {M : Type 0} (h : Header) (machines : List M) → length machines ≡ h.callers
    → length machines ≤ 1024
few_machines h machines count = omega (arith, count, few_callers h)

pub repeat_all-requires-clause-few : goal.repeat_all-requires-clause-few
repeat_all-requires-clause-few = grind (arith, few_machines, few)

pub play_rounds-requires-clause-few : goal.play_rounds-requires-clause-few
play_rounds-requires-clause-few = grind (arith, few_machines, few)

pub play_rounds-requires-clause-callers : goal.play_rounds-requires-clause-callers
play_rounds-requires-clause-callers = grind (arith, few_machines)

pub returns-then-are_done : goal.returns-then-are_done
returns-then-are_done g c = record {
  runs = has_run c.args.header.now g.M.Machine.header_of g.M.Machine.script g.S.EventSink.has_taken
      c.args.turns.now
      (stage c.args.machines.now c.in_ok-words.words.items c.args.sink.now)
      (stage c.repeat_all.new.machines c.repeat_all.new.words.items c.repeat_all.new.sink)
      (stage c.play_rounds.new.machines c.play_rounds.new.words.items c.play_rounds.new.sink)
      (playing_start c.args.header.now g.M.Machine.script c.args.machines.now
      c.in_ok-words.words.items [] refl c.in_ok-words.ensures)
      c.requires.none c.in_ok-repeat_all.ensures.shown c.in_ok-play_rounds.ensures.rest
      (sym c.are_done.ensures ∙ c.if-are_done.true);
  done = sym c.are_done.ensures ∙ c.if-are_done.true;
  fixed = c.in_ok-play_rounds.ensures.fixed ∙ c.in_ok-repeat_all.ensures.fixed;
}

pub returns-else-are_done : goal.returns-else-are_done
returns-else-are_done g c = record {
  runs = are_stuck_there c.args.header.now g.M.Machine.header_of g.M.Machine.script
      g.S.EventSink.has_taken c.args.turns.now
      (stage c.args.machines.now c.in_ok-words.words.items c.args.sink.now)
      (stage c.repeat_all.new.machines c.repeat_all.new.words.items c.repeat_all.new.sink)
      (stage c.play_rounds.new.machines c.play_rounds.new.words.items c.play_rounds.new.sink)
      (playing_start c.args.header.now g.M.Machine.script c.args.machines.now
      c.in_ok-words.words.items [] refl c.in_ok-words.ensures)
      c.requires.none c.in_ok-repeat_all.ensures.shown c.in_ok-play_rounds.ensures.rest
      (sym c.are_done.ensures ∙ c.if-are_done.false);
  done = tt;
  fixed = c.in_ok-play_rounds.ensures.fixed ∙ c.in_ok-repeat_all.ensures.fixed;
}
