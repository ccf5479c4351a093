-- Without starting words the specification starts empty.
use Rattle.vyrd_base.proofs.Prelude
use Prelude.{◌≡◌, ℕ, zero, suc, ◌+◌, List, [], ◌∷◌, ◌++◌, map, length, Some, None, refl, ap, ◌∙◌}
use Prelude.{arith, replicate, option_map, then_some, option_or, replicate-append-replicate, Header}
use Prelude.{Entry, CallOpen, Malformed, numbers_from, newest_first, front, plain_words, lock_words}
use Prelude.{start, showing, state_of_words, words_at_start, state_at_start, value_after, states_of}
use Prelude.{line_of, states_along, first_fault, shape_verdict, start_verdict, begun_verdict}
use Prelude.{verdict_so_far, is_call_open, end_verdict, rules_of}
use Rattle.vyrd_base.proofs.StartLaws.{zeroed_words}

-- words without any effect are 0
pub zeros_from : (k n : ℕ) → map (value_after [] []) (numbers_from k n) ≡ replicate n 0
zeros_from k zero = refl
zeros_from k (suc n) = ap (λ ws. 0 ∷ ws) (zeros_from (k + 1) n)

-- without starting words all words are 0
pub words_at_start-none : (h : Header) → words_at_start h [] ≡ replicate (plain_words h) 0
words_at_start-none h = zeros_from 0 (plain_words h)

pub state_at_start-none : (h : Header) → state_at_start (rules_of h) [] ≡ Some start
unfolding state_at_start
state_at_start-none h =
    ap (λ ws. option_map showing (state_of_words h (ws ++ replicate (lock_words h) 0)))
    (words_at_start-none h)
    ∙ ap (λ ws. option_map showing (state_of_words h ws))
    (replicate-append-replicate (plain_words h) (lock_words h) 0)
    ∙ ap (option_map showing) (zeroed_words h)

-- the states along a front
pub states_along-none : (h : Header) (xs : List Entry) → states_along (rules_of h) [] xs
    ≡ states_of (rules_of h) (Some start) xs
states_along-none h xs = ap (λ o. states_of (rules_of h) o xs) (state_at_start-none h)

-- nothing is wrong with no starting words
pub start_verdict-none : (h : Header) → start_verdict (rules_of h) [] ≡ None
start_verdict-none h = cc (state_at_start-none h)

pub begun_verdict-none : (h : Header) (es : List Entry) → begun_verdict (rules_of h) [] es ≡ None
begun_verdict-none h [] = refl
begun_verdict-none h (e ∷ es) = start_verdict-none h

-- so the verdict is about the entries alone
pub verdict_so_far-none : (h : Header) (es : List Entry)
    → verdict_so_far (rules_of h) [] es ≡ option_or (first_fault (rules_of h) [] (front h es))
    (shape_verdict h [] es)
unfolding verdict_so_far
verdict_so_far-none h es =
    ap (λ o. option_or o
    (option_or (first_fault (rules_of h) [] (front h es)) (shape_verdict h [] es)))
    (begun_verdict-none h es)

pub end_verdict-none : (h : Header) (es : List Entry)
    → end_verdict (rules_of h) [] es ≡ then_some (is_call_open h (newest_first es))
    (Malformed (line_of [] (length es)) CallOpen)
unfolding end_verdict
end_verdict-none h es =
    ap (λ o. option_or o
    (then_some (is_call_open h (newest_first es)) (Malformed (line_of [] (length es)) CallOpen)))
    (start_verdict-none h)

-- without starting words an entry stands two lines after its position
pub line_of-none : (position : ℕ) → line_of [] position ≡ position + 2
line_of-none position = omega arith
