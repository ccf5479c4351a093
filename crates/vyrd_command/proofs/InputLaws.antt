-- What was read of an input, to its end or as far as it is read, and what that says.
use Rattle.std.proofs.Common.{◌≡◌, ℕ, List, [], ◌∷◌, ◌++◌, length, ap, ◌∙◌, sym, arith}
use Rattle.std.proofs.Common.{length-append}
use Rattle.std.specs.Prelude.{IfSome, Result, Ok}
use Rattle.vyrd_base.specs.Devices.{SourceKnown}
use Rattle.vyrd_check_command.proofs.TakenLaws.{no_more_bytes}
use Rattle.vyrd_command.specs.Inputs.{IsInputRead, IsInputTaken}

-- What was read of a source says what its whole input says, if the bytes of the longest input
-- settle that.
pub whole_input : {A : Type 0} (reading : List ℕ → A) (most : ℕ) (before after : SourceKnown)
    (bytes : List ℕ)
    → ((more : List ℕ) → length bytes ≡ most → reading (bytes ++ more) ≡ reading bytes)
    → IsInputRead most before after bytes
    → IfSome before.rest (λ input. reading bytes ≡ reading input)
whole_input reading most before after bytes settled is = search (no_more_bytes, arith)

-- what was read of a source was taken of it
pub input_taken : (most refused status : ℕ) (before after : SourceKnown) (bytes : List ℕ)
    → IsInputRead most before after bytes
    → (length bytes ≡ most → status ≡ refused) → IsInputTaken most refused status before after
input_taken most refused status before after bytes is long = search arith

-- Bytes that settle what they say, whatever follows, say nothing that has one text.
pub long_refused : {A E : Type 0} (reading : List ℕ → Result A E) (bytes : List ℕ)
    (text : A → List ℕ)
    → ((xs : List ℕ) (a : A) → reading xs ≡ Ok a → xs ≡ text a)
    → ((more : List ℕ) → reading (bytes ++ more) ≡ reading bytes)
    → (a : A) → reading bytes ≡ Ok a → ⊥
long_refused reading bytes text sound settled a e =
    let longer : bytes ++ 0 ∷ [] ≡ bytes = sound _ a (settled _ ∙ e) ∙ sym (sound _ a e) in
    omega (arith, ap length longer, length-append bytes (0 ∷ []))
