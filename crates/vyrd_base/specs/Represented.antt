-- The words that represent a state of the specification, and the state, which is the one that they
-- show. All locks are free, and nothing is damaged.
use Rattle.std.specs.Prelude.{ℕ, ◌+◌, Bool, ◌&&◌, ◌==◌, List, length, drop, Option}
use Rattle.std.specs.List.{list_all}
use Rattle.std.specs.Bool.{then_some}
use Rattle.vyrd_base.specs.declared.header.Header.{Header}
use Rattle.vyrd_base.specs.declared.subject.Subject.{Subject}
use Rattle.vyrd_base.specs.Amounts.{Amounts}
use Rattle.vyrd_base.specs.Layout.{plain_words, lock_words}
use Rattle.vyrd_base.specs.Subjects.{by_subject}
use Rattle.vyrd_base.specs.Views.{view_of_words}

-- whether the plain words of a subject of this size stand for a state
abbrev pub is_sound : Subject → ℕ → List ℕ → Bool
is_sound = by_subject (λ M s. s.is_sound)

-- the state for which the words stand: as many as the header says, plain words and then locks, all
-- of which are 0
unfoldable pub state_of_words : Header → List ℕ → Option Amounts
state_of_words h words = then_some (length words == plain_words h + lock_words h
    && (is_sound h.subject h.size words
    && list_all (λ lock. lock == 0) (drop (plain_words h) words))) (view_of_words h words)
