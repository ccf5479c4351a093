-- String buffers are spelled on lines, and their words are few.
use Rattle.vyrd_base.proofs.Prelude.{◌≡◌, ℕ, ◌≤◌, true, not, length, Some, refl, arith, find}
use Rattle.vyrd_base.proofs.Prelude.{slice_get, bytes_eq, longest_method, buffers, never_commits}
use Rattle.vyrd_base.proofs.Prelude.{always_commits, is_plain_field}
use Rattle.vyrd_base.specs.declared.buffers.BuffersMethod.{BuffersMethod}
use Rattle.vyrd_base.specs.declared.buffers.BuffersMethod.TheVariants.{Append, AppendFrom, Cut}
use Rattle.vyrd_base.specs.declared.buffers.BuffersMethod.TheVariants.{Length, Read}
use Rattle.vyrd_base.proofs.Spelled.{IsSpelled}

plain : (m : BuffersMethod) → is_plain_field (buffers.called m) ≡ true
plain m = grind arith

short : (m : BuffersMethod) → length (buffers.called m) ≤ longest_method
short m = grind arith

found : (m : BuffersMethod) → find (λ x. bytes_eq (buffers.called x) (buffers.called m))
    buffers.methods ≡ Some m
found m = grind arith

abbrev place : BuffersMethod → ℕ
place Append = 0
place AppendFrom = 1
place Cut = 2
place Length = 3
place Read = 4

listed : (m : BuffersMethod) → slice_get buffers.methods (place m) ≡ Some m
listed m = grind arith

some_arguments : (m : BuffersMethod) → 1 ≤ buffers.arity m
some_arguments m = grind arith

few_arguments : (m : BuffersMethod) → buffers.arity m ≤ 3
few_arguments m = grind arith

once_or_never : (m : BuffersMethod) → always_commits (buffers.commits m)
    ≡ not (never_commits (buffers.commits m))
once_or_never m = grind arith

pub buffers_is : IsSpelled buffers
buffers_is = record {
  plain = plain;
  short = short;
  found = found;
  place = place;
  listed = listed;
  some_arguments = some_arguments;
  few_arguments = few_arguments;
  once_or_never = once_or_never;
  plain_name = refl;
  short_name = omega arith;
  few_words = λ size low. omega (arith, low);
}
