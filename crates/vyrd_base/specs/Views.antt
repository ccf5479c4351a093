-- What the words of each subject show: each part, a slot, a chunk, a node or a buffer, gives
-- amounts to keys, and the view has for each key the sum of what it is given. A key whose sum is 0
-- isn't in the view.
use Rattle.std.specs.Prelude.{ℕ, List}
use Rattle.vyrd_base.specs.declared.header.Header.{Header}
use Rattle.vyrd_base.specs.declared.subject.Subject.{Subject}
use Rattle.vyrd_base.specs.Amounts.{Amounts, collected}
use Rattle.vyrd_base.specs.Subjects.{by_subject}

-- what the parts of a subject of this size give
abbrev pub parts_of : Subject → ℕ → List ℕ → List (ℕ × ℕ)
parts_of = by_subject (λ M s. s.parts)

-- what the words show
unfoldable pub view_of_words : Header → List ℕ → Amounts
view_of_words h words = collected (parts_of h.subject h.size words)
