use Rattle.std.proofs.Common.{ap}
use Rattle.vyrd_memory.specs.Scripts.{next_act}
use Rattle.vyrd_memory.specs.declared.act.Act.TheVariants.{Give}
use Rattle.vyrd_buffers.specs.declared.place.Place.TheVariants.{Look, Append, Change, Read, Count}
use Rattle.vyrd_buffers.specs.declared.place.Place.TheVariants.{Join}
use Rattle.vyrd_buffers.specs.Cells.{lock_of}
use Rattle.vyrd_buffers.specs.Rests.{rest_at}
use Rattle.vyrd_buffers.proofs.Steps.{sound_at, next_low}
use Rattle.vyrd_buffers.proofs.task.Task.wants.Goals as goal

pub looking_wants-requires-clause-sound : goal.looking_wants-requires-clause-sound
looking_wants-requires-clause-sound c =
    sound_at c.args.header.now c.args.self c.args.place (Look c.in-Look.purpose c.in-Look.place)
    c.in-Look.is c.requires.sound

pub appending_wants-requires-clause-sound : goal.appending_wants-requires-clause-sound
appending_wants-requires-clause-sound c =
    sound_at c.args.header.now c.args.self c.args.place (Append c.in-Append.count c.in-Append.place)
    c.in-Append.is c.requires.sound

pub changing_wants-requires-clause-sound : goal.changing_wants-requires-clause-sound
changing_wants-requires-clause-sound c =
    sound_at c.args.header.now c.args.self c.args.place (Change c.in-Change.count c.in-Change.place)
    c.in-Change.is c.requires.sound

pub reading_wants-requires-clause-sound : goal.reading_wants-requires-clause-sound
reading_wants-requires-clause-sound c =
    sound_at c.args.header.now c.args.self c.args.place (Read c.in-Read.text) c.in-Read.is
    c.requires.sound

pub counting_wants-requires-clause-sound : goal.counting_wants-requires-clause-sound
counting_wants-requires-clause-sound c =
    sound_at c.args.header.now c.args.self c.args.place (Count c.in-Count.place) c.in-Count.is
    c.requires.sound

pub joining_wants-requires-clause-sound : goal.joining_wants-requires-clause-sound
joining_wants-requires-clause-sound c =
    sound_at c.args.header.now c.args.self c.args.place (Join c.in-Join.place) c.in-Join.is
    c.requires.sound

pub lock_of-requires : goal.lock_of-requires
lock_of-requires c =
    next_low c.args.header.now (rest_at c.args.header.now c.args.self c.args.place)
    (Give (lock_of c.args.header.now c.args.self.b))
    c.requires.subject c.requires.sound
    (ap (λ place. next_act (rest_at c.args.header.now c.args.self place)) c.in-Unlock.is)
