use Rattle.std.proofs.Common.{rules}
use Rattle.vyrd_tree.proofs.Steps.Stores.{from_slot}
use Rattle.vyrd_tree.proofs.storing.Storing.entries.Goals as goal

pub returns-in-Some : goal.returns-in-Some
returns-in-Some c = λ h later. from_slot c.args.written c.in-Some.slot c.args.place _
    (search rules) c.in-Some.ensures.0 c.in-Some.ensures.1
