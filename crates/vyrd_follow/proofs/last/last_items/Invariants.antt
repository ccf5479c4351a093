use Rattle.vyrd_follow.proofs.Prelude.{◌≡◌, length, map, vec_len, option_map, IsKnown, run_by}
use Rattle.vyrd_follow.proofs.Prelude.{done_before, last_item}
use Rattle.vyrd_follow.proofs.last.last_items.Given as goal

abbrev pub invariant-loop-p : goal.invariant-loop-p
invariant-loop-p g l = record {
  known : IsKnown (g.S.Spec.charter l.fn.spec) l.fn.starting l.front l.p
      (option_map (run_by g.S.Spec.charter g.S.Spec.state g.S.Spec.made) l.spec);
  count : vec_len l.last ≡ length l.items;
  last : l.last.items
      ≡ map (last_item (done_before (g.S.Spec.charter l.fn.spec) l.fn.starting l.front l.p))
      l.items;
}
