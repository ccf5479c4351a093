use Rattle.std.proofs.Common.{◌≡◌, ℕ, ◌≤◌, ◌<◌, true, sym, ap, ◌∙◌, subst}
use Rattle.vyrd_base.specs.Buffers.{text_of, text_length, are_characters}
use Rattle.vyrd_base.proofs.TextLaws.{length_of_text, joined_characters, cut_characters}
use Rattle.vyrd_base.proofs.TextLaws.{same_characters}
use Rattle.vyrd_base.proofs.laws.text_stands_for_its_characters.Goals as goal

pub returns-clause-length : goal.returns-clause-length
returns-clause-length c = λ f n few fs. length_of_text f n few fs

pub returns-clause-joined : goal.returns-clause-joined
returns-clause-joined c = λ f n m few fs. joined_characters f n m few fs

pub returns-clause-cut : goal.returns-clause-cut
returns-clause-cut c = λ f n k few fs. cut_characters f n k few fs

told : (f g : ℕ → ℕ) (n m : ℕ) → n ≤ 7 → m ≤ 7 → are_characters f n ≡ true → are_characters g m
    ≡ true
    → text_of f n ≡ text_of g m → (n ≡ m) × ((i : ℕ) → i < n → f i ≡ g i)
told f g n m few_f few_g fs gs same = (length, same_characters f g n fs gs_too same_too)
  where
    length : n ≡ m
    length = sym (length_of_text f n few_f fs) ∙ ap text_length same ∙ length_of_text g m few_g gs

    gs_too : are_characters g n ≡ true
    gs_too = subst (λ k. are_characters g k ≡ true) (sym length) gs

    same_too : text_of f n ≡ text_of g n
    same_too = same ∙ ap (text_of g) (sym length)

pub returns-clause-told : goal.returns-clause-told
returns-clause-told c = λ f g n m few_f few_g fs gs same. told f g n m few_f few_g fs gs same
