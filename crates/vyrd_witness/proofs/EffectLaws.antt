-- The effects of a log with their positions, and the words that they lead to.
use Rattle.vyrd_witness.proofs.Prelude
use Prelude.{◌≡◌, ℕ, zero, suc, ◌+◌, ◌-◌, ◌<◌, ◌≤◌, List, [], ◌∷◌, ◌++◌, map, length, take, drop}
use Prelude.{get_or, Some, slice_get, refl, ap, ◌∙◌, sym, arith, append_assoc, map-append}
use Prelude.{drop_more, flat_map_more, slice_get_within, get_or_from_slice_get, slice_get-get_or}
use Prelude.{Header, Commit, Entry, StartWord, newest_first, numbers_from, Rules, effects_at}
use Prelude.{words_with, numbers_from-push, one_write, Effect, Change, numbered_kind, value_at}
use Prelude.{effect_of, effects_by, effects_there, effects_along, words_through, changes_in, plain}
use Prelude.{plain_writes, words_then}
use Rattle.std.specs.List.{flat_map}
use Rattle.vyrd_witness.proofs.Valued.{valued_write, effects_same}
use Rattle.vyrd_witness.proofs.ChangeLaws.{changes-append}
use Rattle.vyrd_witness.proofs.NumberedLaws.{behind, ahead, map-newest_first, turned-append}
use Rattle.vyrd_witness.proofs.NumberedLaws.{turned_twice, behind_back, ahead_back, kind_there}
use Rattle.vyrd_witness.proofs.PhaseLaws.{newest_at}

-- some entry, to stand where there is none
abbrev pub no_entry : Entry
no_entry = record { caller = 0; kind = Commit }

-- without their positions they are those of the words
plain_each : (log : List Entry) (at c : ℕ) (ws : List (ℕ × ℕ))
    → map plain (map (effect_of log at c) ws) ≡ map (valued_write (value_at log)) ws
plain_each log at c [] = refl
plain_each log at c (w ∷ ws) = cc (plain_each log at c ws)

pub plain_effects : (log : List Entry) (at : ℕ) (e : Entry) → slice_get log at ≡ Some e
    → plain_writes (effects_by log at e)
    ≡ effects_at (newest_first (take at log)) e.caller e.kind (drop (at + 1) log)
plain_effects log at e here = ap newest_first (plain_each log at e.caller (newest_first found)
    ∙ map-newest_first (valued_write (value_at _)) found) ∙ turned_twice _
    ∙ sym (effects_same (value_at log) e.caller (numbered_kind at e.kind) (behind log at)
    (ahead log (at + 1)))
    ∙ (λ i. effects_at (behind_back log at i) e.caller (kind_there log at e here i)
    (ahead_back log (at + 1) i))
  where
    found : List (ℕ × ℕ)
    found = effects_at (behind log at) e.caller (numbered_kind at e.kind) (ahead log (at + 1))

-- the words after effects
plain-append : (xs ys : List Effect)
    → plain_writes (xs ++ ys) ≡ plain_writes ys ++ plain_writes xs
plain-append xs ys = cc (map-append plain xs ys, turned-append (map plain xs) (map plain ys))

pub words_through_are : (h : Header) (starting : List StartWord) (es : List Effect)
    (writes : List (ℕ × ℕ))
    → words_through (words_with h starting writes) es
    ≡ words_with h starting (plain_writes es ++ writes)
words_through_are h starting [] writes = refl
words_through_are h starting (e ∷ es) writes =
    ap (λ ws. words_through ws es) (one_write h starting writes e.word e.value)
    ∙ words_through_are h starting es ((e.word, e.value) ∷ writes)
    ∙ ap (words_with h starting)
    (sym (ap (λ ws. ws ++ writes) (plain-append (e ∷ []) es)
    ∙ append_assoc (plain_writes es) ((e.word, e.value) ∷ []) writes))

pub through-append : (words : List ℕ) (xs ys : List Effect)
    → words_through words (xs ++ ys) ≡ words_through (words_through words xs) ys
through-append words [] ys = refl
through-append words (x ∷ xs) ys = through-append _ xs ys

-- one entry further
pub here_on : (log : List Entry) (n : ℕ) (e : Entry) → slice_get log n ≡ Some e
    → drop n log ≡ e ∷ drop (n + 1) log
here_on log n e here = drop_more log n e (slice_get_within log n e here)
    ∙ ap (λ x. x ∷ drop (n + 1) log) (get_or_from_slice_get log n e e here)

pub words_next : (h : Header) (starting : List StartWord) (log : List Entry) (at : ℕ) (e : Entry)
    → slice_get log at ≡ Some e
    → words_through (words_then h starting log at) (effects_by log at e)
    ≡ words_then h starting log (at + 1)
words_next h starting log at e here =
    grind (arith, starting, here, words_through_are, plain_effects, here_on, newest_at)

pub along_next : (log : List Entry) (from at : ℕ) → from ≤ at
    → effects_along log from at ++ effects_there log at ≡ effects_along log from (at + 1)
along_next log from at order =
    let more : at - from + 1 ≡ at + 1 - from = omega (arith, order) in
    let place : from + (at - from) ≡ at = omega (arith, order) in
    ap (λ k. effects_along log from at ++ effects_there log k) (sym place)
    ∙ flat_map_more (effects_there log) [] (numbers_from from (at - from)) (from + (at - from))
    ∙ ap (λ ks. flat_map (effects_there log) ks) (sym (numbers_from-push from (at - from)))
    ∙ ap (λ n. flat_map (effects_there log) (numbers_from from n)) more

-- the words further on are those here after the effects between
pub entry_there : (log : List Entry) (at : ℕ) → at < length log
    → (e : Entry) × (slice_get log at ≡ Some e)
entry_there log at low =
    (get_or log at no_entry, slice_get-get_or log at no_entry low)

pub words_along : (h : Header) (starting : List StartWord) (log : List Entry) (from n : ℕ)
    → from + n ≤ length log
    → words_through (words_then h starting log from) (effects_along log from (from + n))
    ≡ words_then h starting log (from + n)
words_along h starting log from zero within = grind arith
words_along h starting log from (suc n) within =
    let there = entry_there log (from + n) (omega (arith, within)) in
    let one : from + n + 1 ≡ from + suc n = omega arith in
    cc (
      along_next log from (from + n) (omega arith),
      through-append (words_then h starting log
          from) (effects_along log from (from + n)) (effects_there log (from + n)),
      words_along h
          starting log from n (omega (arith, within)),
      there.1,
      words_next h starting log (from + n)
          there.0 there.1,
    )

pub words_reached : (h : Header) (starting : List StartWord) (log : List Entry) (from to : ℕ)
    (words after : List ℕ) → from ≤ to → to ≤ length log
    → words ≡ words_then h starting log from
    → after ≡ words_through words (effects_along log from to)
    → after ≡ words_then h starting log to
words_reached h starting log from to words after order within is through =
    grind (arith, words_along h starting log from (to - from) (omega (arith, within, order)))

-- one entry further along, with what it does to words
pub pass_next : (log : List Entry) (from at : ℕ) (es : List Effect) (words mid after : List ℕ)
    → from ≤ at → es ≡ effects_there log at
    → mid ≡ words_through words (effects_along log from at) → after ≡ words_through mid es
    → after ≡ words_through words (effects_along log from (at + 1))
pass_next log from at es words mid after order is before next =
    next ∙ (λ i. words_through (before i) (is i))
    ∙ sym (through-append words (effects_along log from at) (effects_there log at))
    ∙ ap (words_through words) (along_next log from at order)

pub changes_next : (r : Rules) (key : ℕ) (log : List Entry) (from at : ℕ) (es : List Effect)
    (words mid : List ℕ) (found more : List Change) → from ≤ at → es ≡ effects_there log at
    → mid ≡ words_through words (effects_along log from at)
    → found ≡ changes_in r key words (effects_along log from at)
    → more ≡ found ++ changes_in r key mid es
    → more ≡ changes_in r key words (effects_along log from (at + 1))
changes_next r key log from at es words mid found more order is before so push =
    grind (arith, found, more, changes-append, along_next)
