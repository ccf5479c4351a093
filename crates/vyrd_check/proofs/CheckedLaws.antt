-- What a checker answers, by what it keeps.
use Rattle.vyrd_check.proofs.Prelude.{◌≡◌, ℕ, true, List, [], ◌∷◌, ◌++◌, length, append_assoc, Some}
use Rattle.vyrd_check.proofs.Prelude.{refl, ap, subst, ◌∙◌, sym, append-nil, arith, ◌==◌, is_some}
use Rattle.vyrd_check.proofs.Prelude.{Verdict, text_verdict, text_verdict_so_far, IsLimit}
use Rattle.vyrd_check.proofs.Prelude.{CheckerState, FollowsBy, HasChecked}
use Rattle.std.proofs.lemmas.Bool.Decides.{nat_tests}
use Rattle.vyrd_base.proofs.TextLasts.{text_verdict_lasts, text_verdict_stands}

-- the verdict that is kept is that of the bytes so far
pub so_far_is : (c : CheckerState) (bytes : List ℕ) → HasChecked c bytes → c.so_far
    ≡ text_verdict_so_far c.kept.reader.max_lines bytes
so_far_is c bytes checked = grind (arith, checked)

-- a verdict that stands is that of all longer bytes
pub checked_longer : (c : CheckerState) (bytes more : List ℕ) → IsLimit c.kept.reader.max_lines
    → is_some c.so_far ≡ true
    → HasChecked c bytes → HasChecked c (bytes ++ more)
checked_longer c bytes more limit there checked = search (is_some, text_verdict_lasts, arith)

-- and of the whole input
pub checked_whole : (c : CheckerState) (bytes : List ℕ) (v : Verdict)
    → IsLimit c.kept.reader.max_lines → c.so_far ≡ Some v
    → HasChecked c bytes → v ≡ text_verdict c.kept.reader.max_lines bytes
checked_whole c bytes v limit there checked =
    let max = c.kept.reader.max_lines in
    let here : text_verdict_so_far max bytes ≡ Some v = subst (FollowsBy _ _) there
    checked.follows in
    sym (ap (text_verdict _) (sym (append-nil _)) ∙ text_verdict_stands _ _ [] v limit.low here)

pub empty_of : (xs : List ℕ) → true ≡ (length xs == 0) → xs ≡ []
empty_of xs e = let none : length xs ≡ 0 = grind (arith, nat_tests) in by_length xs none
  where
    by_length : (ys : List ℕ) → length ys ≡ 0 → ys ≡ []
    by_length [] none = refl
    by_length (y ∷ ys) none = absurd (omega arith)

-- all parts of a piece were followed
pub checked_all : (c : CheckerState) (bytes piece read rest : List ℕ) → piece ≡ read ++ rest
    → true ≡ (length rest == 0)
    → HasChecked c (bytes ++ read) → HasChecked c (bytes ++ piece)
checked_all c bytes piece read rest parted none checked =
    grind (arith, empty_of rest none, append-nil read)

-- a verdict stands before the last part
pub checked_stands : (c : CheckerState) (bytes piece read rest : List ℕ) (v : Verdict)
    → IsLimit c.kept.reader.max_lines → c.so_far ≡ Some v
    → piece ≡ read ++ rest → HasChecked c (bytes ++ read) → HasChecked c (bytes ++ piece)
checked_stands c bytes piece read rest v limit there parted checked =
    subst (HasChecked c) (append_assoc bytes read rest ∙ ap (λ xs. bytes ++ xs) (sym parted))
    (checked_longer c (bytes ++ read) rest limit (ap is_some there) checked)
