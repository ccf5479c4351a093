-- How many plain words and how many locks the memory of a header has.
use Rattle.std.specs.Prelude.{ℕ}
use Rattle.vyrd_base.specs.declared.header.Header.{Header}
use Rattle.vyrd_base.specs.declared.subject.Subject.{Subject}
use Rattle.vyrd_base.specs.Subjects.{by_subject}

-- how many plain words a structure of this size has
abbrev pub plain_words_of : Subject → ℕ → ℕ
plain_words_of = by_subject (λ M s. s.plain_words)

-- how many locks it has
abbrev pub lock_words_of : Subject → ℕ → ℕ
lock_words_of = by_subject (λ M s. s.locks)

-- The plain words are the cells from 0 on.
abbrev pub plain_words : Header → ℕ
plain_words h = plain_words_of h.subject h.size

-- The locks are the cells after the plain words.
abbrev pub lock_words : Header → ℕ
lock_words h = lock_words_of h.subject h.size
