-- What the parts of a starting line say of it.
use Rattle.vyrd_text.proofs.Prelude.{◌≡◌, ℕ, ◌<◌, ◌^◌, true, List, ◌∷◌, ◌++◌, Option, Some, None}
use Rattle.vyrd_text.proofs.Prelude.{refl, ap, sym, ◌∙◌, arith, codes, decimal, StartWord}
use Rattle.vyrd_text.proofs.Prelude.{start_line, start_in, start_in_sound, both_true, first_true}
use Rattle.vyrd_text.proofs.Prelude.{second_true, below_of, is_below}
use Rattle.vyrd_base.proofs.LineLaws.{is_start, start_in-start_line}
use Rattle.vyrd_text.proofs.PartLaws.{one_before_space}

-- a line that isn't a starting word's
no_start : (line : List ℕ) → ((s : StartWord) → is_start s ≡ true → line ≡ start_line s → ⊥)
    → None ≡ start_in line
no_start line none = by_answer (start_in line) refl
  where
    by_answer : (o : Option StartWord) → start_in line ≡ o → None ≡ o
    by_answer None e = refl
    by_answer (Some s) e = let is = start_in_sound line s e in absurd (none s is.1 is.0)

-- a line that doesn't begin as one
pub no_word : (line : List ℕ) → ((rest : List ℕ) → line ≡ codes "start " ++ rest → ⊥)
    → None ≡ start_in line
no_word line none = no_start line (λ s ok same. none (decimal s.word ++ 32 ∷ decimal s.value) same)

-- a line without a number before a space after that
pub no_number : (line rest : List ℕ) → line ≡ codes "start " ++ rest
    → ((n : ℕ) (more : List ℕ) → n < 2 ^ 32 → rest ≡ decimal n ++ 32 ∷ more → ⊥)
    → None ≡ start_in line
no_number line rest is none = grind (arith, no_start, below_of, first_true)

-- a line without a value after the number
pub no_start_value : (line rest : List ℕ) (word : ℕ) (more : List ℕ) → line ≡ codes "start " ++ rest
    → word < 2 ^ 32
    → rest ≡ decimal word ++ 32 ∷ more → ((n : ℕ) → n < 2 ^ 64 → more ≡ decimal n → ⊥)
    → None ≡ start_in line
no_start_value line rest word more is low parts none = search
    (no_start, below_of, first_true, one_before_space, second_true, arith)

-- a line that is one
pub start_made : (line rest : List ℕ) (word : ℕ) (more : List ℕ) (value : ℕ) → line ≡ codes "start "
    ++ rest → word < 2 ^ 32
    → rest ≡ decimal word ++ 32 ∷ more → value < 2 ^ 64 → more ≡ decimal value
    → Some (record { word = word; value = value }) ≡ start_in line
start_made line rest word more value is low parts small end =
    let s : StartWord = record { word = word; value = value } in
    let same : line ≡ start_line s = cc in
    sym (ap start_in same
    ∙ start_in-start_line s
    (both_true _ _ (is_below word (2 ^ 32) low) (is_below value (2 ^ 64) small)))
