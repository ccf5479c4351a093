-- What it is to answer an input: by what its bytes say.
use Rattle.std.specs.Prelude.{◌≡◌, ℕ, List, Option, IfSome}

-- The status and the text are those of an answer to what the input says. If its bytes are told, that
-- is what the reading makes of them.
pub record Answers {Said : Type 0} (reading : List ℕ → Said)
    (Answered : Said → ℕ → List ℕ → Type 0) (input : Option (List ℕ)) (status : ℕ)
    (text : List ℕ) : Type 0 where
  pub said : Said
  pub read : IfSome input (λ bytes. said ≡ reading bytes)
  pub answer : Answered said status text
