use Rattle.vyrd_multiset.specs.declared.place.Place.TheVariants.{Find, Search, Change, Both, Undo}
use Rattle.vyrd_multiset.proofs.Steps.{sound_at}
use Rattle.vyrd_multiset.proofs.task.Task.wants.Goals as goal

pub finding_wants-requires-clause-sound : goal.finding_wants-requires-clause-sound
finding_wants-requires-clause-sound c =
    sound_at c.args.header.now c.args.self c.args.place (Find c.in-Find.want c.in-Find.place)
    c.in-Find.is c.requires.sound

pub searching_wants-requires-clause-sound : goal.searching_wants-requires-clause-sound
searching_wants-requires-clause-sound c =
    sound_at c.args.header.now c.args.self c.args.place (Search c.in-Search.query c.in-Search.place)
    c.in-Search.is c.requires.sound

pub changing_wants-requires-clause-sound : goal.changing_wants-requires-clause-sound
changing_wants-requires-clause-sound c =
    sound_at c.args.header.now c.args.self c.args.place
    (Change c.in-Change.slot c.in-Change.state c.in-Change.place) c.in-Change.is c.requires.sound

pub pairing_wants-requires-clause-sound : goal.pairing_wants-requires-clause-sound
pairing_wants-requires-clause-sound c =
    sound_at c.args.header.now c.args.self c.args.place
    (Both c.in-Both.slot_x c.in-Both.slot_y c.in-Both.place) c.in-Both.is c.requires.sound

pub undoing_wants-requires-clause-sound : goal.undoing_wants-requires-clause-sound
undoing_wants-requires-clause-sound c =
    sound_at c.args.header.now c.args.self c.args.place (Undo c.in-Undo.slot c.in-Undo.place)
    c.in-Undo.is c.requires.sound
