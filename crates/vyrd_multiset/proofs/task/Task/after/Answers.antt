use Rattle.vyrd_multiset.specs.declared.place.Place.TheVariants.{Find, Search}
use Rattle.vyrd_multiset.proofs.Steps.{sound_at}
use Rattle.vyrd_multiset.proofs.task.Task.after.Goals as goal

pub after_finding-requires-clause-sound : goal.after_finding-requires-clause-sound
after_finding-requires-clause-sound c =
    sound_at c.args.header.now c.args.self c.args.place (Find c.in-Find.want c.in-Find.place)
    c.in-Find.is c.requires.sound

pub after_searching-requires-clause-sound : goal.after_searching-requires-clause-sound
after_searching-requires-clause-sound c =
    sound_at c.args.header.now c.args.self c.args.place (Search c.in-Search.query c.in-Search.place)
    c.in-Search.is c.requires.sound
