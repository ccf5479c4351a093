use Rattle.vyrd_view.proofs.Prelude.{◌≡◌, ◌++◌, false, map, replicate, numbers_below}
use Rattle.vyrd_view.proofs.room.push_quiet.Given as goal

abbrev pub invariant-loop-place : goal.invariant-loop-place
invariant-loop-place g l = record {
  sound : l.parts.refused ≡ false;
  specified : l.parts.specified ≡ l.initial.parts.specified;
  pairs : l.parts.pairs ≡ l.initial.parts.pairs
      ++ map (g.D.Decode.gives l.decoder l.part (replicate (g.D.Decode.width l.decoder) 0))
      (numbers_below l.place);
}
