-- What counts for whether a call may have a reply: the expressions by which that is decided, with
-- their parts, what each of them is worth, and which amount of the state it reads.
use Rattle.std.specs.Prelude.{ℕ, List, [], ◌∷◌, ◌++◌, map, if◌then◌else◌}
use Rattle.std.specs.List.{flat_map}
use Rattle.vyrd_base.specs.States.{State}
use Rattle.vyrd_base.specs.Own.Expressions.{Expr, number, at, count, shown, hidden, least, greatest}
use Rattle.vyrd_base.specs.Own.Expressions.{first, last, size, negation, infix_of, choice}
use Rattle.vyrd_base.specs.Own.Expressions.{holds, value}
use Rattle.vyrd_base.specs.Own.Programs.{Method, Written}
use Rattle.vyrd_base.specs.Own.Steps.{at_hand}
use Rattle.vyrd_own.specs.declared.reads.Reads.{Reads}
use Rattle.vyrd_own.specs.declared.reads.Reads.TheVariants.{Shown, Hidden, Nothing}
use Rattle.vyrd_own.specs.declared.reads.Worth.{Worth}

-- The expressions that count for the value of an expression: each behind those that it is made of,
-- and it itself last. Of a choice only what its test leads to counts.
abbrev pub counted : State → List ℕ → Expr → List Expr
counted s values (number n) = number n ∷ []
counted s values (at i) = at i ∷ []
counted s values count = count ∷ []
counted s values (shown e) = counted s values e ++ shown e ∷ []
counted s values (hidden e) = counted s values e ++ hidden e ∷ []
counted s values (least e) = counted s values e ++ least e ∷ []
counted s values (greatest e) = counted s values e ++ greatest e ∷ []
counted s values (first i) = first i ∷ []
counted s values (last i) = last i ∷ []
counted s values (size i) = size i ∷ []
counted s values (negation e) = counted s values e ++ negation e ∷ []
counted s values (infix_of op a b) =
    counted s values a ++ counted s values b ++ infix_of op a b ∷ []
counted s values (choice test a b) = counted s values test
    ++ (if holds (value s values test) then counted s values a else counted s values b)
    ++ choice test a b ∷ []

-- which amount an expression reads by itself, apart from what its parts read
abbrev pub reads_of : State → List ℕ → Expr → Reads
reads_of s values (shown e) = Shown (value s values e)
reads_of s values (hidden e) = Hidden (value s values e)
reads_of s values _ = Nothing

-- what an expression is worth
abbrev pub worth_of : State → List ℕ → Expr → Worth
worth_of s values e = record { value = value s values e; reads = reads_of s values e }

-- what each that counts for the value of an expression is worth
abbrev pub worths_in : State → List ℕ → Expr → List Worth
worths_in s values e = map (worth_of s values) (counted s values e)

-- the expressions by which a method allows a reply: its `let`s, and what its cases ask for
abbrev pub deciding : Method → List Expr
deciding m = m.lets ++ map (λ case. case.allow) m.cases

-- What counts for whether a call may have a reply. A `let` speaks of names before it alone, so it
-- may as well see all those that the cases see.
abbrev pub worths : Written → Method → State → List ℕ → ℕ → List Worth
worths w m s args reply =
    flat_map (worths_in s (at_hand w m s args ++ reply ∷ [])) (deciding m)
