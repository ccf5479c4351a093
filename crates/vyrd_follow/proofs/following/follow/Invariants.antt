use Rattle.vyrd_follow.proofs.Prelude.{◌≡◌, ◌++◌, take, flat_map, option_map, rules_by, items_text}
use Rattle.vyrd_follow.proofs.Prelude.{IsKnown, run_by, words_then, start_items, entry_items}
use Rattle.vyrd_base.specs.Places.{newest_first, numbers_below}
use Rattle.vyrd_witness.specs.Phases.{ArePhases}
use Rattle.vyrd_follow.proofs.following.follow.Given as goal

abbrev pub invariant-loop-at : goal.invariant-loop-at
invariant-loop-at g l =
    let c = g.F.Follows.charter l.fn.words in
    record {
      charter : g.F.Follows.charter l.words ≡ c;
      words : g.F.Follows.words l.words ≡ words_then l.fn.header l.fn.starting l.front l.at;
      phases : ArePhases l.fn.header l.walk.phases.items (newest_first (take l.at l.front));
      known : IsKnown c l.fn.starting l.front l.at
          (option_map (run_by g.S.Spec.charter g.S.Spec.state g.S.Spec.made) l.spec);
      text : l.text.items ≡ l.fn.text.items ++ items_text (g.L.Lines.line l.lines)
          (start_items (rules_by c) l.fn.starting
          ++ flat_map (entry_items c l.fn.starting l.front) (numbers_below l.at));
    }
