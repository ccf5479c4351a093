-- What writes do to words, and when they act as effects do.
use Rattle.vyrd_words.proofs.Prelude
use Prelude.{◌≡◌, ℕ, ◌<◌, true, false, cond, List, [], ◌∷◌, ◌++◌, get_or, Some, None, refl, arith}
use Prelude.{◌==◌, unwrap_or, list_any, Header, StartWord, first_answer, plain_words, given_to}
use Prelude.{value_after, words_with, first_answer-append, at_map, written, given_last, ActAlike}

pub word_with : (h : Header) (starting : List StartWord) (effects : List (ℕ × ℕ)) (x : ℕ)
    → x < plain_words h
    → get_or (words_with h starting effects) x 0 ≡ value_after starting effects x
word_with h starting effects x low = search (at_map, starting, arith)

value_append : (starting : List StartWord) (first rest : List (ℕ × ℕ)) (x : ℕ)
    → value_after starting (first ++ rest) x ≡ unwrap_or (first_answer (given_to x) first)
    (value_after starting rest x)
value_append starting first rest x = grind (arith, starting, first_answer-append)

-- the word has its last value, if there is one
pub word_is : (h : Header) (starting : List StartWord) (effects before : List (ℕ × ℕ)) (x v : ℕ)
    → x < plain_words h
    → first_answer (given_to x) effects ≡ Some v
    → get_or (words_with h starting (effects ++ before)) x 0 ≡ v
word_is h starting effects before x v low given = search (word_with, value_append, arith)

-- what the changed words, with their values, give a word
given-written : (words changed : List ℕ) (x : ℕ)
    → given_last x (written words changed) ≡ cond (list_any (λ y. y == x) changed)
    (Some (get_or words x 0)) None
given-written words [] x = refl
given-written words (w ∷ changed) x = grind (arith, given-written words changed x, changed)

pub written_alike : (words changed : List ℕ) (effects : List (ℕ × ℕ))
    → ((x : ℕ) → list_any (λ y. y == x) changed ≡ true → first_answer (given_to x) effects
    ≡ Some (get_or words x 0))
    → ((x : ℕ) → list_any (λ y. y == x) changed ≡ false → first_answer (given_to x) effects ≡ None)
    → ActAlike (written words changed) effects
written_alike words changed effects there beside = search (given-written, arith)
