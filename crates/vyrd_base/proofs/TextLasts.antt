-- A verdict about bytes that stands stands for all longer bytes.
use Rattle.vyrd_base.proofs.Prelude
use Prelude.{◌≡◌, ℕ, ◌≤◌, Bool, true, false, cond, ◌||◌, List, [], ◌∷◌, ◌++◌, Option, Some, None}
use Prelude.{refl, ap, ◌∙◌, sym, unwrap_or, option_map, option_or, option_and_then_some, or_right}
use Prelude.{Header, Entry, StartWord, Verdict, Malformed, front, first_break, Reading, TextFault}
use Prelude.{has_any, reading, first_fault, shape_verdict, verdict_so_far, end_verdict, accepted}
use Prelude.{entries_verdict, known_verdict, text_verdict, text_verdict_so_far, rules_of}
use Rattle.std.specs.Prelude.{option_and_then}
use Rattle.vyrd_base.proofs.ReadingGrows.{TextGrown, so_far, input_of, reading_grows}
use Rattle.vyrd_base.proofs.VerdictLaws.{verdict_lasts}

or_known : {A : Type 0} (o : Option A) (a : A) → option_or o None ≡ Some a → o ≡ Some a
or_known None a e = cc
or_known (Some x) a e = e

-- no verdict stands before the first entry
pub nothing_so_far : (h : Header) (starting : List StartWord) → verdict_so_far (rules_of h) starting
    [] ≡ None
unfolding verdict_so_far first_fault shape_verdict front first_break
nothing_so_far h starting = refl

some_entries : (h : Header) (starting : List StartWord) (es : List Entry) (v : Verdict) (b : Bool)
    → verdict_so_far (rules_of h) starting es ≡ Some v → (has_any es || b) ≡ true
some_entries h starting [] v b e = absurd (none_is_some (sym (nothing_so_far h starting) ∙ e))
  where
    none_is_some : None ≡ Some v → ⊥
    none_is_some f = cc
some_entries h starting (x ∷ es) v b e = refl

-- what is wrong already stays wrong
known_stays : (old new : Reading) (v : Verdict) → TextGrown old new → known_verdict old ≡ Some v
    → known_verdict new ≡ Some v
known_stays old new v g found = by_fault old.fault refl
  where
    by_fault : (o : Option TextFault) → old.fault ≡ o → known_verdict new ≡ Some v
    by_fault (Some f) e = ap known_verdict (g.grown.fault f e) ∙ found
    by_fault None e = option_and_then_some (entries_verdict old) old.header v
        (or_known (option_and_then (entries_verdict old) old.header) v
        (sym (ap (λ o. option_or (option_and_then (entries_verdict old) old.header)
        (option_map (λ fault. Malformed fault.line fault.rule) o)) e) ∙ found))
        (λ h has wrong.
        ap (λ o. option_or (option_and_then (entries_verdict new) o)
        (option_map (λ fault. Malformed fault.line fault.rule) new.fault)) (g.header h has)
        ∙ ap (λ o. option_or o (option_map (λ fault. Malformed fault.line fault.rule) new.fault))
        (by_entries h (verdict_so_far (rules_of h) old.starting old.entries) refl wrong))
      where
        at_end : (h : Header) (b : Bool) → old.ended ≡ b
            → cond b (end_verdict (rules_of h) old.starting old.entries) None ≡ Some v
            → verdict_so_far (rules_of h) old.starting old.entries ≡ None → entries_verdict new h
            ≡ Some v
        at_end h false is w none = cc
        at_end h true is w none =
            let done = g.grown.ended e is in
            let same = g.grown.begun e (or_right (has_any old.entries) old.ended is) in
            (λ i. option_or (verdict_so_far (rules_of h) (same i) (done.0 i))
            (cond (done.1 i) (end_verdict (rules_of h) (same i) (done.0 i)) None))
            ∙ ap (λ o. option_or o (end_verdict (rules_of h) old.starting old.entries)) none ∙ w

        by_entries : (h : Header) (o : Option Verdict)
            → verdict_so_far (rules_of h) old.starting old.entries ≡ o
            → option_or o (cond old.ended (end_verdict (rules_of h) old.starting old.entries) None)
            ≡ Some v → entries_verdict new h ≡ Some v
        by_entries h None none w = at_end h old.ended refl w none
        by_entries h (Some x) has w =
            let more = g.grown.entries e in
            let same = g.grown.begun e (some_entries h old.starting old.entries x old.ended has) in
            ap (λ o. option_or o
            (cond new.ended (end_verdict (rules_of h) new.starting new.entries) None))
            ((λ i. verdict_so_far (rules_of h) (same i) (more.1 i))
            ∙ verdict_lasts (rules_of h) old.starting old.entries more.0 x has) ∙ w

-- a verdict about bytes that stands stands for all longer bytes
pub text_verdict_lasts : (max : ℕ) (bytes more : List ℕ) (v : Verdict) → 1 ≤ max
    → text_verdict_so_far max bytes ≡ Some v
    → text_verdict_so_far max (bytes ++ more) ≡ Some v
unfolding text_verdict_so_far
text_verdict_lasts max bytes more v low found = known_stays (reading (so_far max) bytes)
    (reading (so_far max) (bytes ++ more)) v
    (reading_grows max false bytes more low) found

pub text_verdict_stands : (max : ℕ) (bytes more : List ℕ) (v : Verdict) → 1 ≤ max
    → text_verdict_so_far max bytes ≡ Some v
    → text_verdict max (bytes ++ more) ≡ v
unfolding text_verdict_so_far text_verdict
text_verdict_stands max bytes more v low found =
    ap (λ o. unwrap_or o (accepted (reading (input_of max true) (bytes ++ more)).entries))
    (known_stays (reading (so_far max) bytes) (reading (input_of max true) (bytes ++ more)) v
    (reading_grows max true bytes more low) found)
