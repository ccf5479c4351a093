use Rattle.vyrd_own_text.proofs.Prelude.{◌≡◌, ◌++◌, List, ℕ, sym, Option, Some, None, Bor, after}
use Rattle.std.specs.Prelude.{option_map, MatchOption}
use Rattle.vyrd_own_text.proofs.TextLaws.{after_is, after_none}
use Rattle.vyrd_own_text.proofs.text.after.Goals as goal

found : (word text : List ℕ) (r : Option (Bor (List ℕ)))
    → MatchOption r ((rest : List ℕ) → text ≡ word ++ rest → ⊥) (λ rest. text ≡ word ++ rest.now)
    → option_map (λ (rest : Bor (List ℕ)). rest.now) r ≡ after word text
found word text None isnt = sym (after_none word text isnt)
found word text (Some rest) is = sym (after_is word rest.now text is)

pub returns : goal.returns
returns c = found c.args.word.now c.args.text.now c.after.result c.after.ensures
