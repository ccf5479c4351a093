-- Words that are kept by the rules that say what they show.
use Rattle.std.specs.Prelude.{ℕ, List}
use Rattle.vyrd_base.specs.Rules.{Charter}

pub record KeptWords : Type 0 where
  -- what names the rules
  pub charter : Charter
  -- the words
  pub words : List ℕ
