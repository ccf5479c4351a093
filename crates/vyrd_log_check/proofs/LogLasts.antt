-- A verdict about the bytes of a log of any version that stands stands for all longer bytes.
use Rattle.vyrd_log_check.proofs.Prelude
use Prelude.{◌≡◌, ℕ, suc, ◌<◌, ◌≤◌, Bool, true, false, cond, List, [], ◌∷◌, ◌++◌, length, take}
use Prelude.{Some, None, refl, ap, ◌∙◌, sym, arith, ◌==◌, nat_lt, not, nat_tests, Verdict, has_any}
use Prelude.{reading, text_verdict, text_verdict_so_far, own_text_verdict, own_text_verdict_so_far}
use Prelude.{own_beginning, is_own_text, log_verdict, log_verdict_so_far, lacks, split_whole}
use Rattle.std.proofs.Common.{zero}
use Rattle.std.proofs.lemmas.List.{length-take-le}
use Rattle.std.proofs.Math.Bool.{and-false}
use Rattle.vyrd_base.proofs.TestLaws.{both_true, first_true, second_true}
use Rattle.vyrd_base.proofs.TextLasts.{text_verdict_lasts, text_verdict_stands}
use Rattle.vyrd_base.specs.Limits.{most_lines}
use Rattle.vyrd_own_check.proofs.LastLaws.{own_verdict_lasts, own_verdict_stands}
use Rattle.vyrd_log_check.proofs.BeginningLaws.{begins_longer, part_of}

-- by whether the bytes begin as a log with a specification in front does
pub own_so_far : (max : ℕ) (bytes : List ℕ) → is_own_text bytes ≡ true
    → log_verdict_so_far max bytes ≡ own_text_verdict_so_far max bytes
unfolding log_verdict_so_far
own_so_far max bytes is = search arith

pub first_so_far : (max : ℕ) (bytes : List ℕ) → is_own_text bytes ≡ false
    → log_verdict_so_far max bytes ≡ text_verdict_so_far max bytes
unfolding log_verdict_so_far
first_so_far max bytes is = search arith

pub own_whole : (max : ℕ) (bytes : List ℕ) → is_own_text bytes ≡ true
    → log_verdict max bytes ≡ own_text_verdict max bytes
unfolding log_verdict
own_whole max bytes is = ap (λ b. cond b (own_text_verdict max bytes) (text_verdict max bytes)) is

pub first_whole : (max : ℕ) (bytes : List ℕ) → is_own_text bytes ≡ false
    → log_verdict max bytes ≡ text_verdict max bytes
unfolding log_verdict
first_whole max bytes is = ap (λ b. cond b (own_text_verdict max bytes) (text_verdict max bytes)) is

-- no bytes have no verdict yet
pub nothing_yet : (max : ℕ) → log_verdict_so_far max [] ≡ None
unfolding log_verdict_so_far text_verdict_so_far reading
nothing_yet max = refl

-- a beginning of a line of at most 64 bytes has none either
unfinished : (max : ℕ) (bytes : List ℕ) → 1 ≤ max → lacks 10 bytes ≡ true → length bytes ≤ 64
    → text_verdict_so_far max bytes ≡ None
unfolding text_verdict_so_far reading
unfinished max bytes low one few =
    let allowed : nat_lt max 1 ≡ false = grind (arith, nat_tests) in
    let short : nat_lt 64 (length bytes) ≡ false = grind (arith, nat_tests) in
    cc (split_whole 10 bytes one, and-false (has_any bytes))

pub lacks_take : (b n : ℕ) (xs : List ℕ) → lacks b xs ≡ true → lacks b (take n xs) ≡ true
lacks_take b zero xs e = refl
lacks_take b (suc n) [] e = refl
lacks_take b (suc n) (x ∷ xs) e = both_true (not (x == b)) _ (first_true (not (x == b)) _ e)
    (lacks_take b n xs (second_true (not (x == b)) _ e))

-- nor has a part of the beginning
part_has_none : (max n : ℕ) → 1 ≤ max → n < 11
    → text_verdict_so_far max (take n own_beginning) ≡ None
part_has_none max n low few =
    let eleven : length own_beginning ≡ 11 = refl in
    unfinished max (take n own_beginning) low (lacks_take 10 n own_beginning refl)
    (omega (arith, few, eleven, length-take-le n own_beginning (omega (arith, few, eleven))))

never : (max : ℕ) (bytes more : List ℕ) (v : Verdict) → 1 ≤ max → is_own_text bytes ≡ false
    → is_own_text (bytes ++ more) ≡ true → text_verdict_so_far max bytes ≡ Some v → ⊥
never max bytes more v low isnt later found = search (part_of, part_has_none, arith)

-- a verdict about bytes that stands stands for all longer bytes
pub log_verdict_lasts : (max : ℕ) (bytes more : List ℕ) (v : Verdict) → 1 ≤ max → max ≤ most_lines
    → log_verdict_so_far max bytes ≡ Some v → log_verdict_so_far max (bytes ++ more) ≡ Some v
log_verdict_lasts max bytes more v low high found =
    by_kind (is_own_text bytes) (is_own_text (bytes ++ more)) refl refl
  where
    by_kind : (b c : Bool) → is_own_text bytes ≡ b → is_own_text (bytes ++ more) ≡ c
        → log_verdict_so_far max (bytes ++ more) ≡ Some v
    by_kind true c is later =
        own_so_far max (bytes ++ more) (begins_longer bytes more is)
        ∙ own_verdict_lasts max bytes more v (record { low = low; high = high })
        (sym (own_so_far max bytes is) ∙ found)
    by_kind false true is later = search (never, more, first_so_far, found, arith)
    by_kind false false is later = search (first_so_far, more, text_verdict_lasts, found, arith)

pub log_verdict_stands : (max : ℕ) (bytes more : List ℕ) (v : Verdict) → 1 ≤ max → max ≤ most_lines
    → log_verdict_so_far max bytes ≡ Some v → log_verdict max (bytes ++ more) ≡ v
log_verdict_stands max bytes more v low high found = by_kind (is_own_text bytes)
    (is_own_text (bytes ++ more)) refl refl
  where
    by_kind : (b c : Bool) → is_own_text bytes ≡ b → is_own_text (bytes ++ more) ≡ c
        → log_verdict max (bytes ++ more) ≡ v
    by_kind true c is later = own_whole max (bytes ++ more) (begins_longer bytes more is)
        ∙ own_verdict_stands max bytes more v (record { low = low; high = high })
        (sym (own_so_far max bytes is) ∙ found)
    by_kind false true is later = search (never, more, first_so_far, found, arith)
    by_kind false false is later = search (first_whole, text_verdict_stands, first_so_far, arith)

pub ruleset lasting = (log_verdict_lasts, log_verdict_stands)
