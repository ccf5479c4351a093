-- The lines of verdicts, one after the other.
use Rattle.vyrd_batch.proofs.Prelude.{◌≡◌, ℕ, ◌+◌, ◌<◌, List, [], ◌∷◌, ◌++◌, length, take, ap, ◌∙◌}
use Rattle.vyrd_batch.proofs.Prelude.{sym, arith, append_assoc, append-nil, add-one, get_or, Result}
use Rattle.vyrd_batch.proofs.Prelude.{OnErr, length-take, take-suc, Verdict, log_line, lines_from}

lines_append : (log : ℕ) (xs ys : List Verdict) → lines_from log (xs ++ ys) ≡ lines_from log xs
    ++ lines_from (log + length xs) ys
lines_append log [] ys = let same : log ≡ log + 0 = omega arith in ap (λ n. lines_from n ys) same
lines_append log (x ∷ xs) ys =
    let same : log + 1 + length xs ≡ log + length (x ∷ xs) = omega arith in
    ap (λ text. log_line log x ++ text)
    (lines_append (log + 1) xs ys ∙ ap (λ n. lines_from (log + 1) xs ++ lines_from n ys) same)
    ∙ sym (append_assoc (log_line log x) (lines_from (log + 1) xs)
    (lines_from (log + length (x ∷ xs)) ys))

-- one more line
pub lines_more : (verdicts : List Verdict) (i : ℕ) (d : Verdict) → i < length verdicts
    → lines_from 0 (take (i + 1) verdicts) ≡ lines_from 0 (take i verdicts)
    ++ log_line i (get_or verdicts i d)
lines_more verdicts i d within =
    let front = take i verdicts in
    let len : length front ≡ i = length-take i verdicts ∙ omega arith in
    let same : 0 + length front ≡ i = omega (arith, len) in
    ap (λ n. lines_from 0 (take n verdicts)) (add-one i)
    ∙ ap (lines_from 0) (take-suc verdicts i d within)
    ∙ lines_append 0 front (get_or verdicts i d ∷ [])
    ∙ ap (λ n. lines_from 0 front ++ lines_from n (get_or verdicts i d ∷ [])) same
    ∙ ap (λ text. lines_from 0 front ++ text) (append-nil (log_line i (get_or verdicts i d)))

-- what holds anyway holds on an error
pub on_error : {A E P : Type 0} (r : Result A E) → P → OnErr r P
on_error r p = search arith
