-- What rounds of a batch cost.
use Rattle.vyrd_batch.proofs.Prelude
use Prelude.{◌≡◌, ℕ, zero, suc, ◌+◌, ◌*◌, ◌-◌, ◌<◌, ◌≤◌, Bool, true, false, List, [], ◌∷◌, ◌++◌}
use Prelude.{length, drop, Option, Some, None, refl, ap, ◌∙◌, sym, subst, arith, length-append, inl}
use Prelude.{inr, nat_le, decimal, codes, length-decimal-le, decimal_nonempty, length-drop}
use Prelude.{drop-drop, ended_line, at_most_of, above_of, is_one_line, Span, most_logs, first_word}
use Prelude.{log_word, Cut, first_line, size_in, span_of, log_at, IsNoLog, IsNothingMore}
use Prelude.{IsNothingEver, IsSpentBy, longest_line, line_look, rest_look, moved, IsLeft, IsBegun}
use Rattle.vyrd_batch.proofs.LineFacts.{no_line, one_line}
use Rattle.vyrd_batch.proofs.SettledLaws.{IsLonger, first_longer, cut_len}
use Rattle.vyrd_batch.proofs.RoundLaws.{from_place, count_more}
use Rattle.vyrd_batch.proofs.TextLaws.{stands_at, one_line_word}
use Rattle.vyrd_batch.proofs.UnfinishedLaws.{one_begins, says_few, never_ended, never_sized}

-- where there is no line feed, and where there is one
pub no_end : (bytes : List ℕ) → is_one_line bytes ≡ true → line_look bytes ≡ length bytes
no_end bytes e = grind (arith, no_line)

pub end_there : (bytes line rest : List ℕ) → is_one_line line ≡ true → bytes ≡ line ++ 10 ∷ rest
    → line_look bytes ≡ length line + 1
end_there bytes line rest e is = grind (arith, one_line)

-- no more are looked at than there are
pub look_within : (bytes : List ℕ) → line_look bytes ≤ length bytes
look_within bytes = grind (arith, first_line, cut_len)

-- and of more bytes only the others are looked at besides
pub look_longer : (bytes more : List ℕ) → line_look (bytes ++ more) ≤ line_look bytes + length more
look_longer bytes more = by_cut (first_line bytes) (first_line (bytes ++ more))
    (first_longer bytes more) (look_within (bytes ++ more))
  where
    by_cut : (o all : Option Cut) → IsLonger bytes more o all
        → elim all as (λ _. ℕ) [ None ↦ length (bytes ++ more) | Some cut ↦ length cut.line + 1 ]
        ≤ length (bytes ++ more)
        → elim all as (λ _. ℕ) [ None ↦ length (bytes ++ more) | Some cut ↦ length cut.line + 1 ]
        ≤ elim o as (λ _. ℕ) [ None ↦ length bytes | Some cut ↦ length cut.line + 1 ] + length more
    by_cut None all is within = omega (arith, within, length-append bytes more)
    by_cut (Some cut) all is within = grind (arith, is.same cut refl)

-- the line of a log is short, and the log's bytes stand behind it
pub record IsFramed (place : ℕ) (bytes : List ℕ) (span : Span) : Type 0 where
  pub short : line_look bytes ≤ 13
  pub long : 6 ≤ line_look bytes
  pub past : place + line_look bytes ≤ span.past
  pub within : span.past ≤ place + length bytes

pub framed : (place : ℕ) (bytes : List ℕ) (span : Span) → log_at place bytes ≡ Some span
    → IsFramed place bytes span
framed place bytes span found =
    let s = stands_at place bytes span found in
    let word = log_word s.size in
    let look : line_look bytes ≡ length word + 1 = end_there bytes word s.rest
    (one_line_word s.size s.small) s.is in
    let len : length word ≡ 4 + length (decimal s.size) = length-append (codes "log ")
    (decimal s.size) in
    let most : length (decimal s.size) ≤ 8 = length-decimal-le 8 s.size (omega arith)
    (omega (arith, s.small)) (omega (arith, s.small)) in
    let least : 0 < length (decimal s.size) = decimal_nonempty s.size (omega (arith, s.small)) in
    let all : length bytes ≡ length word + suc (length s.rest) = ap length s.is
    ∙ length-append word (10 ∷ s.rest) in
    record {
      short = omega (arith, look, len, most);
      long = omega (arith, look, len, least);
      past = omega (arith, look, s.first_is, s.past_is);
      within = omega (arith, s.first_is, s.past_is, s.fits, all);
    }

-- a log that stands in bytes, but not in the first of them, ends behind these
pub left_short : (place : ℕ) (left fresh : List ℕ) (span : Span) → log_at place left ≡ None
    → log_at place (left ++ fresh) ≡ Some span
    → place + length left < span.past
left_short place left fresh span none found =
    by_cut (first_line left) (first_line (left ++ fresh)) (first_longer _ _) (cut_len _) none found
  where
    at_cut : Option Cut → Option Span
    at_cut o = elim o as (λ _. Option Span) [
      | None ↦ None
      | Some cut ↦ span_of
          (place + length cut.line + 1) cut.rest (size_in cut.line)
    ]

    -- where the line's end is in the bytes that were left
    by_size : (first : ℕ) (rest more : List ℕ) (o : Option ℕ) → span_of first rest o ≡ None
        → span_of first (rest ++ more) o ≡ Some span
        → first + length rest < span.past
    by_size first rest more None none found = cc
    by_size first rest more (Some size) none found = search (more, found, arith)

    by_cut : (o all : Option Cut) → IsLonger left fresh o all
        → ((cut : Cut) → o ≡ Some cut → length left ≡ length cut.line + 1 + length cut.rest)
        → at_cut o ≡ None → at_cut all ≡ Some span → place + length left < span.past
    by_cut None None is len none found = cc
    by_cut None (Some cut) is len none found = search (found, arith)
    by_cut (Some cut) all is len none found =
        grind (
          arith,
          len cut refl,
          by_size (place + length cut.line + 1) cut.rest fresh
              (size_in cut.line) none (sym (ap at_cut (is.same cut refl)) ∙ found),
        )

-- The line of what a round leaves is short, since a longer one would show that no log comes.
pub spent_look : (place log : ℕ) (left : List ℕ) → IsSpentBy false (Some place) log left
    → line_look left ≤ 13
spent_look place log left spent = by_len (nat_le (length left) longest_line) refl
  where
    -- no log may come of longer bytes
    ever : longest_line < length left → ((more : List ℕ) → log_at place (left ++ more) ≡ None) → ⊥
    ever long none =
        let never : IsNothingEver (Some place) log left =
        λ more. (
          (λ e. absurd (omega (arith, long, ap length e, length-append left more))),
          inr
              (none more),
        ) in
        absurd (omega (arith, long, spent.2 never))

    by_size : longest_line < length left → (cut : Cut) → first_line left ≡ Some cut
        → (o : Option ℕ) → size_in cut.line ≡ o
        → length cut.line + 1 ≤ 13
    by_size long cut is None e = absurd (ever long (never_sized place left cut is e))
    by_size long cut is (Some size) e = omega (arith, (says_few cut.line size (sym e)).short)

    by_cut : longest_line < length left → (o : Option Cut) → first_line left ≡ o
        → elim o as (λ _. ℕ) [ None ↦ length left | Some cut ↦ length cut.line + 1 ] ≤ 13
    by_cut long None is = absurd (ever long (never_ended place left is long))
    by_cut long (Some cut) is = by_size long cut is (size_in cut.line) refl

    by_len : (t : Bool) → nat_le (length left) longest_line ≡ t → line_look left ≤ 13
    by_len true e = omega (arith, look_within left, at_most_of (length left) longest_line e)
    by_len false e = by_cut (above_of (length left) longest_line e) (first_line left) refl

-- What the steps are for the logs that were found so far: the line of the first is short, and the
-- others lie behind it.
pub record AreFoundFor (bytes : List ℕ) (place logs taken old new : ℕ) : Type 0 where
  pub none : logs ≡ 0 → (taken ≡ 0) × (new ≡ old)
  pub some : 0 < logs → (span : Span) × (log_at place bytes ≡ Some span)
      × (new + (span.past - place) ≤ old + 13 + taken)
      × (6 * logs + (span.past - place) ≤ 6 + taken)

pub none_for : (bytes : List ℕ) (place old : ℕ) → AreFoundFor bytes place 0 0 old old
none_for bytes place old = grind arith

pub more_for : (bytes : List ℕ) (place logs taken old new next : ℕ) (span : Span)
    → AreFoundFor bytes place logs taken old new
    → log_at (place + taken) (drop taken bytes) ≡ Some span
    → next ≡ new + line_look (drop taken bytes)
    → AreFoundFor bytes place (logs + 1) (span.past - place) old next
more_for bytes place logs taken old new next span for found is = search (framed, arith)

-- the same, by the spans themselves
pub more_spans : (bytes rest : List ℕ) (place taken old new next : ℕ) (spans grown : List Span)
    (span : Span)
    → AreFoundFor bytes place (length spans) taken old new
    → log_at (place + taken) rest ≡ Some span → rest ≡ drop taken bytes
    → grown ≡ spans ++ from_place place span ∷ [] → next ≡ new + line_look rest
    → AreFoundFor bytes place (length grown) (span.past - place) old next
more_spans bytes rest place taken old new next spans grown span for found rest_is is steps =
    search (count_more, from_place, more_for, arith)

-- the bytes that stay are moved at most once
moved_few : (taken len : ℕ) → moved taken len ≤ len - taken
moved_few taken len = search arith

-- what a round costs, where these logs were found and no more
pub found_cost : (bytes left fresh : List ℕ) (log place logs taken old new next : ℕ)
    → AreFoundFor bytes place logs taken old new
    → IsLeft log place left → bytes ≡ left ++ fresh → taken ≤ length bytes → log + logs ≤ most_logs
    → next ≤ new + line_look (drop taken bytes)
    → next + 6 * logs + line_look (drop taken bytes) + moved taken (length bytes) ≤ old + 3
    * length fresh + 26
found_cost bytes left fresh log place logs taken old new next for spent is within few steps =
    by_logs logs for few
  where
    all : length bytes ≡ length left + length fresh
    all = ap length is ∙ length-append left fresh

    look : line_look (drop taken bytes) ≤ length bytes - taken
    look = omega (arith, look_within (drop taken bytes), length-drop taken bytes)

    by_none : (n : ℕ) → n ≡ taken → n ≡ 0 → new ≡ old
        → next + line_look (drop n bytes) + moved n (length bytes) ≤ old + 3 * length fresh + 26
    by_none zero same z e = grind (arith, look_longer left fresh, spent.1)
    by_none (suc n) same z e = absurd (omega (arith, z))

    by_logs : (logs : ℕ) → AreFoundFor bytes place logs taken old new → log + logs ≤ most_logs
        → next + 6 * logs + line_look (drop taken bytes) + moved taken (length bytes) ≤ old + 3
        * length fresh + 26
    by_logs zero for few = let start = for.none refl in
        omega (arith, by_none taken refl start.0 start.1)
    by_logs (suc n) for few =
        let s = for.some (omega arith) in
        let none : log_at place left ≡ None = there spent.0 in
        let short : place + length left < s.0.past =
        left_short place left fresh s.0 none (ap (log_at place) (sym is) ∙ s.1) in
        omega (arith, s.2, s.3, short, look, moved_few taken (length bytes), all, within, steps)
      where
        there : IsNoLog log place left → log_at place left ≡ None
        there e0 = search (few, arith)

-- what it costs where no bytes were left, and all that stay are moved
pub first_cost : (bytes : List ℕ) (place logs taken old new next : ℕ)
    → AreFoundFor bytes place logs taken old new
    → taken ≤ length bytes → next ≤ new + line_look (drop taken bytes)
    → next + 6 * logs + line_look (drop taken bytes) + length (drop taken bytes) ≤ old + 3
    * length bytes + 26
first_cost bytes place logs taken old new next for within steps =
    grind (arith, taken, within, look_within, length-drop)

-- what is left of the first line, which wasn't read, is short
front_short : (bytes left fresh more : List ℕ) (log : ℕ) → IsNothingMore None log left
    → bytes ≡ left ++ fresh → bytes ≡ ended_line first_word ++ more
    → length bytes ≤ length fresh + 6
front_short bytes left fresh more log apart is begins =
    elim (one_begins left (ended_line first_word) fresh more (sym is ∙ begins)) [
      | inl m ↦ let word : 6 ≡ length left + length m.0 = ap length m.1 ∙ length-append left m.0 in
          omega (arith, ap length is, length-append left fresh, word)
      | inr m ↦ absurd (apart m.0 m.1)
    ]

-- the bytes behind the first line, as what a round begins with
none_left : (log place : ℕ) → IsLeft log place []
none_left log place = (inr refl, omega arith)

-- what a round costs, whether it reads the first line or not
pub whole_cost : (before after : Option ℕ) (log place first taken : ℕ)
    (bytes behind left fresh : List ℕ) (old new : ℕ) → IsBegun before place first bytes
    → behind ≡ drop first bytes → IsSpentBy false before log left → bytes ≡ left ++ fresh
    → ((left fresh : List ℕ) → IsLeft log place left → behind ≡ left ++ fresh
    → new + line_look (drop taken behind) + moved taken (length behind) ≤ old + 3 * length fresh
    + 26)
    → new + line_look (drop taken behind) + length (drop taken behind) ≤ old + 3 * length behind
    + 26
    → new + rest_look after (drop (first + taken) bytes) + moved (first + taken) (length bytes)
    ≤ old + 3 * length fresh + 26
whole_cost before after log place first taken bytes behind left fresh old new begun behind_is spent
    is again first_time = by_before before begun spent
  where
    stay : drop taken behind ≡ drop (first + taken) bytes
    stay = ap (drop taken) behind_is ∙ drop-drop taken first bytes

    look : rest_look after (drop (first + taken) bytes) ≤ line_look (drop taken behind)
    look = by_after after
      where
        by_after : (after : Option ℕ)
            → rest_look after (drop (first + taken) bytes) ≤ line_look (drop taken behind)
        by_after None = omega arith
        by_after (Some n) = omega (arith, ap line_look stay)

    by_before : (before : Option ℕ) → IsBegun before place first bytes
        → IsSpentBy false before log left
        → new + rest_look after (drop (first + taken) bytes) + moved (first + taken) (length bytes)
        ≤ old + 3 * length fresh + 26
    by_before None begun spent =
        let short = front_short bytes left fresh begun.1.0 log spent.0 is begun.1.1 in
        let all : length behind ≡ length bytes - first = ap length behind_is
        ∙ length-drop first bytes in
        omega (
          arith,
          first_time,
          look,
          short,
          all,
          begun.0,
          length-drop taken behind,
          moved_few
              (first + taken) (length bytes),
        )
    by_before (Some n) begun spent =
        let zero_first : first ≡ 0 = begun.0 in
        let all : behind ≡ bytes = behind_is ∙ ap (λ n. drop n bytes) zero_first in
        let left_here : IsLeft log place left = subst (λ n. IsLeft log n left) begun.1
        (spent.0, spent_look n log left spent) in
        let count : first + taken ≡ taken = omega (arith, zero_first) in
        let moves : moved (first + taken) (length bytes) ≡ moved taken (length behind) =
        (λ i. moved (count i) (length (sym all i))) in
        omega (arith, again left fresh left_here (all ∙ is), look, moves)

-- and at most, whatever comes of it
pub whole_ever : (before : Option ℕ) (log place first : ℕ) (bytes behind left fresh : List ℕ)
    (old new : ℕ) → IsBegun before place first bytes
    → behind ≡ drop first bytes → IsSpentBy false before log left → bytes ≡ left ++ fresh
    → ((left fresh : List ℕ) → IsLeft log place left → behind ≡ left ++ fresh
    → new ≤ old + 3 * length fresh + 26)
    → new ≤ old + 3 * length fresh + 26
whole_ever None log place first bytes behind left fresh old new begun behind_is spent is ever =
    let short = front_short bytes left fresh begun.1.0 log spent.0 is begun.1.1 in
    let all : length behind ≡ length bytes - first = ap length behind_is
    ∙ length-drop first bytes in
    omega (arith, ever [] behind (none_left log place) refl, short, all, begun.0)
whole_ever (Some n) log place first bytes behind left fresh old new begun behind_is spent is ever =
    let all : behind ≡ bytes = cc begun.0 in
    ever left fresh (rw (← begun.1) (spent.0, spent_look n log left spent)) (all ∙ is)

-- before the first round nothing is left
pub none_spent : IsSpentBy false None 0 []
none_spent = grind arith
