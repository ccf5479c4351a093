-- What is compared by the parts of one of the built-in subjects.
use Rattle.std.specs.Prelude.{◌≡◌}
use Rattle.vyrd_base.specs.declared.header.Header.{Header}
use Rattle.vyrd_base.specs.declared.subject.Subject.{Subject}
use Rattle.vyrd_base.specs.declared.subject.Subject.TheVariants.{Multiset, Cache, Tree}
use Rattle.vyrd_base.specs.declared.subject.Subject.TheVariants.{Buffers as OfBuffers}
use Rattle.vyrd_base.specs.Layout.{plain_words}
use Rattle.vyrd_view.specs.declared.any_parts.AnyParts.{AnyParts}
use Rattle.vyrd_view.specs.declared.any_parts.AnyParts.TheVariants.{Slots, Chunks, Leaves, Buffers}
use Rattle.vyrd_view.specs.Known.{Known, of_subject}

-- what it knows
abbrev pub known_of_any : AnyParts → Known
known_of_any (Slots c) = c
known_of_any (Chunks c) = c
known_of_any (Leaves c) = c
known_of_any (Buffers c) = c

-- whose parts they are
abbrev pub subject_of_any : AnyParts → Subject
subject_of_any (Slots c) = Multiset
subject_of_any (Chunks c) = Cache
subject_of_any (Leaves c) = Tree
subject_of_any (Buffers c) = OfBuffers

-- it is that of the header's subject
pub record Serves (header : Header) (any : AnyParts) : Type 0 where
  pub subject : subject_of_any any ≡ header.subject
  pub shows : (known_of_any any).shows ≡ of_subject header.subject header.size
  pub count : (known_of_any any).count ≡ plain_words header
