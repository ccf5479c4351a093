-- What both judges say of an entry: where it stands among the others, and whether its call may be
-- made.
use Rattle.std.specs.Prelude.{Bool, ◌&&◌, List}
use Rattle.vyrd_base.specs.declared.header.Header.{Header}
use Rattle.vyrd_base.specs.declared.subject.Method.{Method}
use Rattle.vyrd_base.specs.declared.subject.Args.{Args}
use Rattle.vyrd_base.specs.declared.log.Entry.{Entry}
use Rattle.vyrd_base.specs.Subjects.{subject_of, same_subject, are_args}
use Rattle.vyrd_base.specs.Places.{Place}

-- the place of an entry between those before it, the newest first, and those after it
abbrev pub place_of : Entry → List Entry → List Entry → Place Entry
place_of e earlier later = record { earlier = earlier; here = e; later = later }

-- whether the header's specification has the method, and may be called with these arguments
abbrev pub has_method : Header → Method → Args → Bool
has_method h method args = same_subject (subject_of method) h.subject && are_args h.size method args
