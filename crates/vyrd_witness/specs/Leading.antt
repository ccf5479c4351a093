-- Changes that lead from one amount to another.
use Rattle.std.specs.Prelude.{◌≡◌, ℕ, List, [], ◌∷◌}
use Rattle.vyrd_witness.specs.declared.change.Change.{Change}

-- the first change begins where one amount is, each further one where the last one ended, and after
-- the last one it is the other
abbrev pub LeadTo : ℕ → List Change → ℕ → Type 0
LeadTo from [] to = from ≡ to
LeadTo from (c ∷ changes) to = (c.before ≡ from) × LeadTo c.after changes to
