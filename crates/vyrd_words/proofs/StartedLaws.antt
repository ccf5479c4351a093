-- The words at the start, with one starting word after the other.
use Rattle.vyrd_words.proofs.Prelude.{◌≡◌, ℕ, zero, suc, ◌+◌, ◌<◌, true, false, cond, List, [], ◌∷◌}
use Rattle.vyrd_words.proofs.Prelude.{length, take, set, get_or, Option, Some, None, refl, ap, ◌∙◌}
use Rattle.vyrd_words.proofs.Prelude.{sym, arith, ◌==◌, unwrap_or, option_or, take_more, Header}
use Rattle.vyrd_words.proofs.Prelude.{StartWord, plain_words, first_answer, given_to, value_after}
use Rattle.vyrd_words.proofs.Prelude.{do_follow, words_at_start, first_answer-append, above_of}
use Rattle.vyrd_words.proofs.Prelude.{is_same, lower_isnt, first_true, second_true, neither_true}
use Rattle.vyrd_base.proofs.EffectWords.{map_set}
use Rattle.vyrd_words.proofs.StartWords.{StartFits, StartsFit, starts_of}

-- each starting word is in range
some_fits : (h : Header) (starting : List StartWord) (i : ℕ) (d : StartWord) → StartsFit h starting
    → i < length starting → StartFits h (get_or starting i d)
some_fits h [] i d fit low = absurd (omega (arith, low))
some_fits h (s ∷ starting) zero d fit low = fit.0
some_fits h (s ∷ starting) (suc i) d fit low = some_fits h starting i d fit.1 (omega (arith, low))

pub word_fits : (h : Header) (starting : List StartWord) (i : ℕ) (d : StartWord)
    → do_follow h None starting ≡ true → i < length starting
    → (get_or starting i d).word < plain_words h
word_fits h starting i d follows low = search (some_fits, starting, starts_of, arith)

-- They rise.
follows_on : (h : Header) (o : Option StartWord) (s : StartWord) (starting : List StartWord)
    → do_follow h o (s ∷ starting) ≡ true
    → do_follow h (Some s) starting ≡ true
follows_on h o s starting follows = search (second_true, starting, arith)

rises : (h : Header) (last s : StartWord) (starting : List StartWord)
    → do_follow h (Some last) (s ∷ starting) ≡ true → last.word < s.word
rises h last s starting follows = search (first_true, above_of, neither_true, arith)

above_all : (h : Header) (last : StartWord) (starting : List StartWord) (i : ℕ) (d : StartWord)
    → do_follow h (Some last) starting ≡ true
    → i < length starting → last.word < (get_or starting i d).word
above_all h last [] i d follows low = absurd (omega (arith, low))
above_all h last (s ∷ starting) zero d follows low = rises h last s starting follows
above_all h last (s ∷ starting) (suc i) d follows low =
    let rest = above_all h s starting i d (follows_on h (Some last) s starting follows)
    (omega (arith, low)) in
    omega (arith, rises h last s starting follows, rest)

-- So none has a value before.
abbrev value_in : ℕ → List StartWord → Option ℕ
value_in w starting = first_answer (λ s. given_to w (s.word, s.value)) starting

not_before : (h : Header) (o : Option StartWord) (starting : List StartWord) (i : ℕ) (d : StartWord)
    → do_follow h o starting ≡ true
    → i < length starting → value_in (get_or starting i d).word (take i starting) ≡ None
not_before h o [] i d follows low = absurd (omega (arith, low))
not_before h o (s ∷ starting) zero d follows low = refl
not_before h o (s ∷ starting) (suc i) d follows low =
    let onward = follows_on h o s starting follows in
    let within : i < length starting = omega (arith, low) in
    let w = (get_or starting i d).word in
    ap (λ b. option_or (cond b (Some s.value) None) (value_in w (take i starting)))
    (lower_isnt s.word w (above_all h s starting i d onward within))
    ∙ not_before h (Some s) starting i d onward within

none_before : (h : Header) (starting : List StartWord) (i : ℕ) (d : StartWord)
    → do_follow h None starting ≡ true → i < length starting
    → value_in (get_or starting i d).word (take i starting) ≡ None
none_before h starting i d follows low = not_before h None starting i d follows low

pub started_more : (h : Header) (starting : List StartWord) (i : ℕ) (d : StartWord)
    → do_follow h None starting ≡ true → i < length starting
    → set (words_at_start h (take i starting)) (get_or starting i d).word
    (get_or starting i d).value ≡ words_at_start h (take (i + 1) starting)
started_more h starting i d follows low =
    sym (map_set (value_after (take i starting) []) (value_after (take (i + 1) starting) []) 0
    (plain_words h) x.word x.value
    (ap (value_after (take (i + 1) starting) []) zero_more ∙ here) others)
  where
    x : StartWord
    x = get_or starting i d

    zero_more : 0 + x.word ≡ x.word
    zero_more = omega arith

    more : (q : ℕ) → value_in q (take (i + 1) starting) ≡ option_or (value_in q (take i starting))
        (option_or (given_to q (x.word, x.value)) None)
    more q = grind (arith, take_more starting i d low, starting, first_answer-append)

    here : unwrap_or (value_in x.word (take (i + 1) starting)) 0 ≡ x.value
    here = cc (more x.word, none_before h starting i d follows low, is_same x.word x.word refl)

    or_none : (o : Option ℕ) → option_or o None ≡ o
    or_none o = search arith

    others : (q : ℕ) → ((0 + x.word) == q) ≡ false → value_after (take (i + 1) starting) [] q
        ≡ value_after (take i starting) [] q
    others q apart = grind (arith, more q, or_none (value_in q (take i starting)))
