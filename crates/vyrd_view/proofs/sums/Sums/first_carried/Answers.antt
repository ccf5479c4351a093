use Rattle.std.proofs.Common.{Some, None}
use Rattle.vyrd_view.proofs.SummedLaws.{settled_sums, against_none}
use Rattle.vyrd_view.proofs.sums.Sums.first_carried.Goals as goal

pub first_difference-requires : goal.first_difference-requires
first_difference-requires c = (settled_sums c.args.self.now c.requires).carries

pub at-specified-requires : goal.at-specified-requires
at-specified-requires c = (settled_sums c.args.self.now c.requires).sides

pub returns-in-None-clause-least : goal.returns-in-None-clause-least
returns-in-None-clause-least c =
    against_none c.args.self.now (settled_sums c.args.self.now c.requires) None c.in-None.ensures

pub returns-in-Some-clause-least : goal.returns-in-Some-clause-least
returns-in-Some-clause-least c =
    against_none c.args.self.now (settled_sums c.args.self.now c.requires) (Some c.in-Some.key)
    c.in-Some.ensures
