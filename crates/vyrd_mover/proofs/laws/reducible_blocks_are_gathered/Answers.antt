use Rattle.vyrd_mover.proofs.GatherLaws.{reducible_is_gathered}
use Rattle.vyrd_mover.proofs.laws.reducible_blocks_are_gathered.Goals as goal

pub returns : goal.returns
returns c = λ cells history before rest after opening legal block cut.
    reducible_is_gathered cells history before rest after opening legal block cut
