-- Which entries can be written.
use Rattle.std.specs.Prelude.{Bool, true, ◌&&◌}
use Rattle.vyrd_base.specs.declared.subject.Subject.{Subject}
use Rattle.vyrd_base.specs.declared.log.Kind.{Kind}
use Rattle.vyrd_base.specs.declared.log.Kind.TheVariants.{Call}
use Rattle.vyrd_base.specs.declared.log.Entry.{Entry}
use Rattle.vyrd_base.specs.Subjects.{arity_of, are_padded, is_named}

-- whether a call's arguments that the method doesn't have are 0
abbrev pub is_padded : Kind → Bool
is_padded (Call method args) = are_padded (arity_of method) args
is_padded _ = true

-- whether a call's method is of the subject, which is built in
abbrev pub is_of_subject : Subject → Kind → Bool
is_of_subject subject (Call method args) = is_named method subject
is_of_subject subject _ = true

-- whether the entry can stand in the text of a log of the subject
abbrev pub is_writable : Subject → Entry → Bool
is_writable subject e = is_of_subject subject e.kind && is_padded e.kind
