-- Methods of a counter, and what expressions are worth.
use Rattle.std.specs.Prelude.{ℕ, [], ◌∷◌, codes, Some, None}
use Rattle.vyrd_base.specs.declared.own.op.Op.TheVariants.{And}
use Rattle.vyrd_base.specs.Own.Expressions.{number, at, count, shown, infix_of, choice, most}
use Rattle.vyrd_base.specs.Own.Programs.{of_shown, clear_shown, Method}
use Rattle.vyrd_base.specs.Own.Samples.{same}
use Rattle.vyrd_own.specs.declared.reads.Reads.TheVariants.{Shown, Nothing}
use Rattle.vyrd_own.specs.declared.reads.Worth.{Worth}

-- `method compare_and_set old new`
--   `answer (if ([0] == old) then none else 0)`
--   `allow (([0] == old) and (reply == 1))`
--     `set [0] new`
abbrev pub compare_and_set : Method
compare_and_set = record {
  name = codes "compare_and_set";
  names = codes "old" ∷ codes "new" ∷ [];
  arity = 2;
  lets = [];
  answer = Some (choice (same (shown (number 0)) (at 0)) (number most) (number 0));
  cases = record {
    allow = infix_of And (same (shown (number 0)) (at 0)) (same (at 2) (number 1));
    changes = of_shown (number 0) (at 1) ∷ [];
  }
      ∷ [];
}

-- `method clear_all`
--   `allow (reply == count)`
--     `clear`
abbrev pub clear_all : Method
clear_all = record {
  name = codes "clear_all";
  names = [];
  arity = 0;
  lets = [];
  answer = None;
  cases = record { allow = same (at 0) count; changes = clear_shown ∷ [] } ∷ [];
}

-- a value that is no amount
abbrev pub no_amount : ℕ → Worth
no_amount n = record { value = n; reads = Nothing }

-- the shown amount of a key
abbrev pub shown_of : ℕ → ℕ → Worth
shown_of key amount = record { value = amount; reads = Shown key }
