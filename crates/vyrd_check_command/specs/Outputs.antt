-- What is written. Bytes that a sink doesn't tell are None.
use Rattle.std.specs.Prelude.{◌≡◌, ℕ, List, ◌++◌, take, Option, option_map}
use Rattle.vyrd_base.specs.declared.verdict.Verdict.{Verdict}
use Rattle.vyrd_base.specs.declared.verdict.Verdict.TheVariants.{Accepted, Violation, Malformed}

-- the sink has taken these bytes after those that it had
abbrev pub Appends : Option (List ℕ) → Option (List ℕ) → List ℕ → Type 0
Appends before after text = after ≡ option_map (λ taken. taken ++ text) before

-- the sink has taken some of the first of these bytes
pub record AppendsFront (before after : Option (List ℕ)) (text : List ℕ) : Type 0 where
  pub count : ℕ
  pub taken : Appends before after (take count text)

-- the status that a verdict ends with
abbrev pub status_of : Verdict → ℕ
status_of (Accepted entries commits observers) = 0
status_of (Violation line why) = 1
status_of (Malformed line rule) = 2
