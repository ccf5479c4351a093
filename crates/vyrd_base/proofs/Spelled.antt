-- What a structure has to meet beside its definitions: its calls can be written on a line of a log
-- and read again, its words are few, and its methods commit once or never. Each structure meets it
-- in a file of its own.
use Rattle.vyrd_base.proofs.Prelude.{◌≡◌, ℕ, ◌+◌, ◌<◌, ◌≤◌, ◌^◌, true, not, length, Some, find}
use Rattle.vyrd_base.proofs.Prelude.{slice_get, bytes_eq, longest_subject, longest_method}
use Rattle.vyrd_base.proofs.Prelude.{never_commits, always_commits, is_plain_field}
use Rattle.vyrd_base.specs.Structures.{Structure}

pub record IsSpelled {M : Type 0} (s : Structure M) : Type 0 where
  -- a method's name is a field of a line, and short
  pub plain : (m : M) → is_plain_field (s.called m) ≡ true
  pub short : (m : M) → length (s.called m) ≤ longest_method
  -- and no other method has it
  pub found : (m : M) → find (λ x. bytes_eq (s.called x) (s.called m)) s.methods ≡ Some m
  -- it stands among the structure's methods
  pub place : M → ℕ
  pub listed : (m : M) → slice_get s.methods (place m) ≡ Some m
  -- it has 1 to 3 arguments
  pub some_arguments : (m : M) → 1 ≤ s.arity m
  pub few_arguments : (m : M) → s.arity m ≤ 3
  -- each of its executions commits, or none does
  pub once_or_never : (m : M) → always_commits (s.commits m) ≡ not (never_commits (s.commits m))
  -- the structure's name is a field too, and short
  pub plain_name : is_plain_field s.name ≡ true
  pub short_name : length s.name ≤ longest_subject
  -- words have numbers of 16 bits
  pub few_words : (size : ℕ) → size ≤ 1024 → s.plain_words size + s.locks size < 2 ^ 16
