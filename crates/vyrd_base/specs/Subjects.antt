-- The structures that are built in, that of the user's own, and their methods. Each subject and
-- each
-- method belongs to one structure: whatever is said of it is said by that structure's value.
use Rattle.std.specs.Prelude.{ℕ, Bool, true, false, ◌&&◌, ◌||◌, ◌==◌, nat_lt, List, [], ◌∷◌}
use Rattle.std.specs.Prelude.{map, Option, Some, None}
use Rattle.vyrd_base.specs.declared.subject.Subject.{Subject}
use Rattle.vyrd_base.specs.declared.subject.Subject.TheVariants.{Multiset, Cache, Tree, Buffers}
use Rattle.vyrd_base.specs.declared.subject.Subject.TheVariants.{Own}
use Rattle.vyrd_base.specs.declared.subject.Method.{Method}
use Rattle.vyrd_base.specs.declared.subject.Method.TheVariants.{Multiset as OfMultiset}
use Rattle.vyrd_base.specs.declared.subject.Method.TheVariants.{Cache as OfCache, Tree as OfTree}
use Rattle.vyrd_base.specs.declared.subject.Method.TheVariants.{Buffers as OfBuffers}
use Rattle.vyrd_base.specs.declared.subject.Method.TheVariants.{OwnNever, OwnAtMostOnce, OwnOnce}
use Rattle.vyrd_base.specs.declared.multiset.MultisetMethod.TheVariants.{Insert}
use Rattle.vyrd_base.specs.declared.own.method.OwnMethod.{OwnMethod}
use Rattle.vyrd_base.specs.declared.subject.Args.{Args}
use Rattle.vyrd_base.specs.declared.subject.Commits.{Commits}
use Rattle.vyrd_base.specs.declared.subject.Commits.TheVariants.{Never, AtMostOnce, Once}
use Rattle.vyrd_base.specs.Structures.{Structure}
use Rattle.vyrd_base.specs.Multiset.{multiset}
use Rattle.vyrd_base.specs.Cache.{cache}
use Rattle.vyrd_base.specs.Tree.{tree}
use Rattle.vyrd_base.specs.Buffers.{buffers}
use Rattle.vyrd_base.specs.Own.Subject.{own}

-- the subjects that are built in, in the order in which their names are looked for
abbrev pub subjects : List Subject
subjects = Multiset ∷ Cache ∷ Tree ∷ Buffers ∷ []

-- what the subject's structure says
abbrev pub by_subject : {A : Type 0} → ((M : Type 0) → Structure M → A) → Subject → A
by_subject say Multiset = say _ multiset
by_subject say Cache = say _ cache
by_subject say Tree = say _ tree
by_subject say Buffers = say _ buffers
by_subject say Own = say _ own

-- What the method's structure says of it. How many of three arguments a method of the user's own
-- has is said by its specification alone.
abbrev pub by_method : {A : Type 0} → ((M : Type 0) → Structure M → M → A) → Method → A
by_method say (OfMultiset method) = say _ multiset method
by_method say (OfCache method) = say _ cache method
by_method say (OfTree method) = say _ tree method
by_method say (OfBuffers method) = say _ buffers method
by_method say (OwnNever i) = say _ own (record { number = i; arity = 3; commits = Never })
by_method say (OwnAtMostOnce i) = say _ own (record { number = i; arity = 3; commits = AtMostOnce })
by_method say (OwnOnce i) = say _ own (record { number = i; arity = 3; commits = Once })

-- the subject whose method it is
abbrev pub subject_of : Method → Subject
subject_of (OfMultiset method) = Multiset
subject_of (OfCache method) = Cache
subject_of (OfTree method) = Tree
subject_of (OfBuffers method) = Buffers
subject_of (OwnNever i) = Own
subject_of (OwnAtMostOnce i) = Own
subject_of (OwnOnce i) = Own

-- the methods of a subject, if it is built in
abbrev pub methods_of : Subject → List Method
methods_of Multiset = map OfMultiset multiset.methods
methods_of Cache = map OfCache cache.methods
methods_of Tree = map OfTree tree.methods
methods_of Buffers = map OfBuffers buffers.methods
methods_of Own = []

-- what is known without the specification of a method of the user's own
abbrev pub own_numbered : ℕ → Commits → Method
own_numbered i Never = OwnNever i
own_numbered i AtMostOnce = OwnAtMostOnce i
own_numbered i Once = OwnOnce i

abbrev pub own_call : OwnMethod → Method
own_call m = own_numbered m.number m.commits

-- the number of a method, if it is one of the user's own
abbrev pub own_number : Method → Option ℕ
own_number (OfMultiset method) = None
own_number (OfCache method) = None
own_number (OfTree method) = None
own_number (OfBuffers method) = None
own_number (OwnNever i) = Some i
own_number (OwnAtMostOnce i) = Some i
own_number (OwnOnce i) = Some i

-- whether two subjects are the same
abbrev pub same_subject : Subject → Subject → Bool
same_subject Multiset Multiset = true
same_subject Cache Cache = true
same_subject Tree Tree = true
same_subject Buffers Buffers = true
same_subject Own Own = true
same_subject _ _ = false

-- whether a subject is built in
abbrev pub is_built_in : Subject → Bool
is_built_in Multiset = true
is_built_in Cache = true
is_built_in Tree = true
is_built_in Buffers = true
is_built_in Own = false

-- whether it is a method of this subject, which is built in, so that its name is known
abbrev pub is_named : Method → Subject → Bool
is_named method subject = is_built_in subject && same_subject (subject_of method) subject

-- whether a header of the subject may have this version, this size and this number of callers
abbrev pub limits_of : Subject → ℕ → ℕ → ℕ → Bool
limits_of = by_subject (λ M s. s.limits)

-- some method, to stand where none is called
abbrev pub some_method : Method
some_method = OfMultiset Insert

-- how often an execution of the method commits
abbrev pub commits_of : Method → Commits
commits_of = by_method (λ M s. s.commits)

-- whether no execution commits
abbrev pub never_commits : Commits → Bool
never_commits Never = true
never_commits AtMostOnce = false
never_commits Once = false

-- whether each execution commits
abbrev pub always_commits : Commits → Bool
always_commits Never = false
always_commits AtMostOnce = false
always_commits Once = true

-- the methods that only look, since none of their executions commits; all others are mutators
abbrev pub is_observer : Method → Bool
is_observer method = never_commits (commits_of method)

-- the methods each of whose executions has to commit; one of any other may return without a commit,
-- and then it has only looked
abbrev pub must_commit : Method → Bool
must_commit method = always_commits (commits_of method)

-- how many arguments the method has
abbrev pub arity_of : Method → ℕ
arity_of = by_method (λ M s. s.arity)

-- whether arguments past the method's own are 0
abbrev pub are_padded : ℕ → Args → Bool
are_padded arity args = (args.b == 0 || nat_lt 1 arity) && (args.c == 0 || nat_lt 2 arity)

-- whether the arguments are in their ranges
abbrev pub are_ranged : ℕ → Method → Args → Bool
are_ranged size = by_method (λ M s. s.takes size)

-- whether the arguments are in their ranges, and those that the method doesn't have are 0
abbrev pub are_args : ℕ → Method → Args → Bool
are_args size method args = are_padded (arity_of method) args && are_ranged size method args
