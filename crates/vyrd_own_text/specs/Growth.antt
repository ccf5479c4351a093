-- Nodes that are put behind others, and what the code's types say.
use Rattle.std.specs.Prelude.{◌≡◌, ⊤, ℕ, ◌<◌, List, length, Result, Ok, Err}
use denote.Ref.{Bor}
use Rattle.vyrd_own.specs.declared.node.Node.{Node}
use Rattle.vyrd_own_text.specs.declared.expression.Wrap.{Wrap}
use Rattle.vyrd_own_text.specs.declared.expression.Wrap.TheVariants as wraps
use Rattle.vyrd_own_text.specs.declared.expression.Ends.{Ends}
use Rattle.vyrd_own_text.specs.declared.expression.Ends.TheVariants as ends
use Rattle.vyrd_own_text.specs.declared.expression.Read.{Read}
use Rattle.vyrd_own_text.specs.declared.expression.Read.TheVariants.{Rest, Stopped}
use Rattle.vyrd_base.specs.declared.own.rule.SpecificationRule.{SpecificationRule}
use Rattle.vyrd_own_text.specs.declared.scope.Names.{Names}
use Rattle.vyrd_base.specs.Own.Expressions.{Expr, shown, hidden, least, greatest, first, last, size}
use Rattle.vyrd_base.specs.Own.Expressions.{negation}
use Rattle.vyrd_own.specs.Layout.{texts}
use Rattle.vyrd_own.specs.Nodes.{earlier, exprs_of}
use Rattle.vyrd_base.specs.Own.Spelling.{Scope}
use Rattle.vyrd_base.specs.Own.Reading.{Found}

-- there are more nodes, and those before are as they were
pub record Adds (old new : List Node) : Type 0 where
  pub more : length old < length new
  pub same : (i : ℕ) → i < length old → earlier (exprs_of new) i ≡ earlier (exprs_of old) i

-- what is made of one expression
abbrev pub wrap_of : Wrap → Expr → Expr
wrap_of wraps.Shown e = shown e
wrap_of wraps.Hidden e = hidden e
wrap_of wraps.Least e = least e
wrap_of wraps.Greatest e = greatest e
wrap_of wraps.Not e = negation e

-- what is made of a list
abbrev pub ends_of : Ends → ℕ → Expr
ends_of ends.First i = first i
ends_of ends.Last i = last i
ends_of ends.Size i = size i

-- the names as a definition sees them
abbrev pub scope_of : Names → Scope
scope_of n = record { names = texts n.values.items; lists = texts n.lists.items; reads = n.reads }

-- what the code has read
abbrev pub read_as : {A : Type 0} → A → Read → Found A
read_as found (Rest rest) = Ok (found, rest.now)
read_as found (Stopped rule rest) = Err (rule, rest.now)

-- what holds where something was read
abbrev pub OnRest : Read → Type 0 → Type 0
OnRest (Rest rest) holds = holds
OnRest (Stopped rule rest) holds = ⊤

abbrev pub found_as : {A : Type 0}
    → Result (A × Bor (List ℕ)) (SpecificationRule × Bor (List ℕ)) → Found A
found_as (Ok found) = Ok (found.0, found.1.now)
found_as (Err stop) = Err (stop.0, stop.1.now)
