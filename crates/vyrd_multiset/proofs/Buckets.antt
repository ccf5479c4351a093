-- How many buckets there are, in a header of a multiset.
use Rattle.std.proofs.Common.{◌≡◌, ◌≤◌, ap}
use Rattle.vyrd_base.specs.declared.header.Header.{Header}
use Rattle.vyrd_base.specs.declared.subject.Subject.TheVariants.{Multiset}
use Rattle.vyrd_base.specs.Subjects.{is_built_in}
use Rattle.vyrd_base.proofs.HeaderLaws.{some_size, low_size}

pub some_buckets : (h : Header) → h.subject ≡ Multiset → 1 ≤ h.size
some_buckets h is = some_size h (ap is_built_in is)

pub few_buckets : (h : Header) → h.subject ≡ Multiset → h.size ≤ 1024
few_buckets h is = low_size h (ap is_built_in is)
