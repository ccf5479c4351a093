-- What a comparison of words with a specification knows, whatever it compares them by.
use Rattle.std.specs.Prelude.{◌≡◌, ℕ, Bool, false, List, [], replicate}
use Rattle.vyrd_base.specs.declared.subject.Subject.{Subject}
use Rattle.vyrd_base.specs.Amounts.{Amounts, collected}
use Rattle.vyrd_base.specs.Rules.{Charter, rules_by}
use Rattle.vyrd_base.specs.Views.{parts_of}

-- A name of what words show, as data: what the rules of a charter say, what the parts of a built-in
-- subject of this size give, or nothing at all. A comparison is seen with this name, since
-- functions can't be told apart.
pub data Shows : Type 0 where
  by_rules : Charter → Shows
  of_subject : Subject → ℕ → Shows
  nothing : Shows

-- what words show by that name
abbrev pub view_by : Shows → List ℕ → Amounts
view_by (by_rules charter) = (rules_by charter).view
view_by (of_subject subject size) = λ words. collected (parts_of subject size words)
view_by nothing = λ words. []

-- what the words show, by its name; how many words there are, and the words that were told last;
-- the specification's amounts; and whether memory was refused
pub record Known : Type 0 where
  pub shows : Shows
  pub count : ℕ
  pub words : List ℕ
  pub specified : Amounts
  pub refused : Bool

-- nothing was told yet: there are n words, each of them 0, and the specification has nothing
pub record IsNew (n : ℕ) (known : Known) : Type 0 where
  pub count : known.count ≡ n
  pub words : known.words ≡ replicate n 0
  pub specified : known.specified ≡ []
  pub sound : known.refused ≡ false
