-- A verdict about bytes that stands stands for all longer bytes.
use Rattle.vyrd_own_check.proofs.Prelude
use Prelude.{◌≡◌, ℕ, Bool, true, false, cond, List, ◌++◌, length, Option, Some, None, refl, ap, ◌∙◌}
use Prelude.{sym, subst, arith, option_map, option_and_then, option_or, Verdict, Malformed}
use Prelude.{TextFault, has_any, Charter, Rules, rules_by, verdict_so_far, end_verdict, OwnReading}
use Prelude.{own_reading, told_in_text, own_entries_verdict, known_own_verdict, own_text_verdict}
use Prelude.{own_text_verdict_so_far, IsLimit, to_go_on, input_of, has_begun, IsGrown, ends}
use Prelude.{IsFormed, reading_grown, reading_formed, charter_in, untold_by, untold_in}
use Rattle.vyrd_base.proofs.VerdictLaws.{verdict_lasts}
use Rattle.vyrd_own_check.proofs.PlaceLaws.{IsWithin, within_more, told_stays, nothing_so_far}
use Rattle.vyrd_own_check.proofs.PlaceLaws.{so_far_within, end_within}

-- what is wrong with what was read is told by the lines of the text
pub told_is : (read : OwnReading) → option_and_then (own_entries_verdict read) read.header
    ≡ option_map (told_in_text read.numbers) (untold_in read)
told_is read = grind (arith, read)

pub known_is : (read : OwnReading) → known_own_verdict read
    ≡ option_or (option_map (told_in_text read.numbers) (untold_in read))
    (option_map (λ fault. Malformed fault.line fault.rule) read.fault)
known_is read = grind (arith, read, told_is)

-- a charter that is known stays
pub charter_stays : (old new : OwnReading) (l : Charter) → IsGrown old new → has_begun old ≡ true
    → charter_in old ≡ Some l → charter_in new ≡ Some l
charter_stays old new l g begun is = grind (arith, begun)

-- something wrong was read
module _ (old : OwnReading) (l : Charter) (w : Verdict) (wrong : untold_by old l ≡ Some w) where
  abbrev r : Rules
  r = rules_by l

  some_begun : has_begun old ≡ true
  some_begun = search (has_any, nothing_so_far, arith)

  wrong_within : (max : ℕ) → IsFormed max old → IsWithin (length old.numbers) w
  wrong_within max formed = by_parts (verdict_so_far r _ _) old.ended refl refl wrong
    where
      by_parts : (o : Option Verdict) (b : Bool) → verdict_so_far r old.starting old.entries ≡ o
          → old.ended ≡ b
          → option_or o (cond b (end_verdict r old.starting old.entries) None) ≡ Some w
          → IsWithin (length old.numbers) w
      by_parts (Some x) b is done e =
          let same : x ≡ w = cc in
          within_more _ _ w (omega (arith, formed.numbered))
          (subst (IsWithin _) same (so_far_within r _ _ x is))
      by_parts None true is done e = search (within_more, ends, end_within, arith)
      by_parts None false is done e = cc

  module _ (new : OwnReading) (g : IsGrown old new) where
    starts : new.starting ≡ old.starting
    starts = (g.begun some_begun).1

    wrong_stays : untold_by new l ≡ Some w
    wrong_stays = by_parts (verdict_so_far r old.starting old.entries) old.ended refl refl wrong
      where
        by_parts : (o : Option Verdict) (b : Bool) → verdict_so_far r old.starting old.entries ≡ o
            → old.ended ≡ b
            → option_or o (cond b (end_verdict r old.starting old.entries) None) ≡ Some w
            → untold_by new l ≡ Some w
        by_parts (Some x) b is done e =
            ap (λ o. option_or o (cond new.ended (end_verdict r new.starting new.entries) None))
            ((λ i. verdict_so_far r (starts i) (g.entries.1 i))
            ∙ verdict_lasts r old.starting old.entries g.entries.0 x is) ∙ e
        by_parts None true is done e =
            let over = g.ended done in
            (λ i. option_or (verdict_so_far r (starts i) (over.1 i))
            (cond (over.0 i) (end_verdict r (starts i) (over.1 i)) None))
            ∙ ap (λ o. option_or o (end_verdict r old.starting old.entries)) is ∙ e
        by_parts None false is done e = cc

-- what is wrong already stays wrong, and is told the same
known_stays : (max : ℕ) (old new : OwnReading) (v : Verdict) → IsFormed max old → IsGrown old new
    → known_own_verdict old ≡ Some v
    → known_own_verdict new ≡ Some v
known_stays max old new v formed g found = by_fault old.fault refl
  where
    by_wrong : (o : Option Charter) → charter_in old ≡ o → option_map (told_in_text old.numbers)
        (option_and_then (untold_by old) o) ≡ Some v
        → known_own_verdict new ≡ Some v
    by_wrong None is e = cc
    by_wrong (Some l) is e = by_verdict (untold_by old l) refl e
      where
        by_verdict : (o : Option Verdict) → untold_by old l ≡ o
            → option_map (told_in_text old.numbers) o ≡ Some v → known_own_verdict new ≡ Some v
        by_verdict None wrong f = cc
        by_verdict (Some w) wrong f =
            cc (
              known_is new,
              charter_stays old new l g (some_begun old l w wrong) is,
              wrong_stays
                  old l w wrong new g,
              g.numbers.1,
              told_stays old.numbers g.numbers.0 w (wrong_within old l w wrong max formed),
            )

    by_fault : (o : Option TextFault) → old.fault ≡ o → known_own_verdict new ≡ Some v
    by_fault (Some f) e = ap known_own_verdict (g.fault f e) ∙ found
    by_fault None e = by_wrong (charter_in old) refl
        (or_known (option_map (told_in_text old.numbers) (untold_in old)) v
        (sym (cc (known_is old)) ∙ found))
      where
        or_known : (o : Option Verdict) (a : Verdict) → option_or o None ≡ Some a → o ≡ Some a
        or_known None a f = cc
        or_known (Some x) a f = f

-- a verdict about bytes that stands stands for all longer bytes
pub own_verdict_lasts : (max : ℕ) (bytes more : List ℕ) (v : Verdict) → IsLimit max
    → own_text_verdict_so_far max bytes ≡ Some v
    → own_text_verdict_so_far max (bytes ++ more) ≡ Some v
unfolding own_text_verdict_so_far
own_verdict_lasts max bytes more v limit found =
    known_stays max (own_reading _ _) (own_reading _ _) v (reading_formed _ _ limit.low limit.high)
    (reading_grown _ _ _ _ limit.low limit.high) found

pub own_verdict_stands : (max : ℕ) (bytes more : List ℕ) (v : Verdict) → IsLimit max
    → own_text_verdict_so_far max bytes ≡ Some v
    → own_text_verdict max (bytes ++ more) ≡ v
unfolding own_text_verdict_so_far own_text_verdict
own_verdict_stands max bytes more v limit found =
    cc (known_stays max (own_reading (to_go_on max) bytes)
    (own_reading (input_of max true) (bytes ++ more)) v
    (reading_formed max bytes limit.low limit.high)
    (reading_grown max true bytes more limit.low limit.high) found)
