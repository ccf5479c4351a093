-- Proofs of laws that an impl in src/ names: no contract says what is defined here. What the
-- machine of a visit owes: the script is sound, it ends in time, its call has the bound, and its
-- return is its end.
use Rattle.std.proofs.Common.{◌≡◌, ℕ, zero, suc, ◌+◌, ◌-◌, ◌≤◌, Bool, true, false, not, ◌&&◌, List}
use Rattle.std.proofs.Common.{[], ◌∷◌, length, drop, refl, ap, ◌∙◌, sym, subst, arith}
use Rattle.std.specs.Prelude.{◌||◌}
use Rattle.std.proofs.lemmas.Bool.{not-true}
use Rattle.vyrd_base.specs.declared.header.Header.{Header}
use Rattle.vyrd_base.specs.declared.subject.Method.{Method}
use Rattle.vyrd_base.specs.declared.subject.Args.{Args}
use Rattle.vyrd_base.specs.declared.log.Kind.TheVariants.{Call, Return, Write, Commit, BlockOpen}
use Rattle.vyrd_base.specs.declared.log.Kind.TheVariants.{BlockClose, BlockCommit}
use Rattle.vyrd_base.proofs.TestLaws.{first_true, second_true}
use Rattle.vyrd_memory.specs.declared.act.Act.{Act}
use Rattle.vyrd_memory.specs.declared.act.Act.TheVariants.{Load, Store, Take, Give, Mark, Done}
use Rattle.vyrd_memory.specs.Scripts.{stop, next_act, after_answer, is_call_or_done, is_between}
use Rattle.vyrd_memory.specs.Scripts.{IsAnswer}
use Rattle.vyrd_memory.specs.Soundness.{Situation, IsSound, IsSoundSomewhere, at_rest, after_act}
use Rattle.vyrd_memory.specs.Soundness.{is_nil}
use Rattle.vyrd_memory.specs.Bounds.{bound_of, EndsWithin, SumsUp}
use Rattle.vyrd_memory.specs.Bounds.{bound_taken, is_return, most_ahead}
use Rattle.vyrd_run_tests.specs.Visits.{visited, listed, rest_of_visit, visit, ahead_after}

zero_is_answer : (act : Act) → IsAnswer act 0
zero_is_answer (Load cell) = omega arith
zero_is_answer (Store cell value) = refl
zero_is_answer (Take lock) = refl
zero_is_answer (Give lock) = refl
zero_is_answer (Mark kind) = refl
zero_is_answer Done = refl

visit_sound : (crosses : Bool) → IsSound visited at_rest (listed (visit crosses))
visit_sound false = (
  refl,
  λ a i. (
    refl,
    λ a i. (
      refl,
      λ a i. (
        refl,
        λ a i. (refl, λ a i. (refl, λ a i. (refl, λ a i. (refl, λ a i. (refl, λ a i. refl))))),
      ),
    ),
  ),
)
visit_sound true = (
  refl,
  λ a i. (
    refl,
    λ a i. (
      refl,
      λ a i. (
        refl,
        λ a i. (refl, λ a i. (refl, λ a i. (refl, λ a i. (refl, λ a i. (refl, λ a i. refl))))),
      ),
    ),
  ),
)

sound_later : (h : Header) (s : Situation) (acts : List Act) (n : ℕ) → IsSound h s (listed acts)
    → IsSoundSomewhere h (listed (drop n acts))
sound_later h s acts zero sound = ∣ (s, sound) ∣₁
sound_later h s [] (suc n) sound = ∣ (s, sound) ∣₁
sound_later h s (act ∷ acts) (suc n) sound =
    sound_later h (after_act s act) acts n (sound.1 0 (zero_is_answer act))

pub visit_is_sound : (crosses : Bool) (n : ℕ)
    → IsSoundSomewhere visited (listed (drop n (visit crosses)))
visit_is_sound crosses n = sound_later visited at_rest (visit crosses) n (visit_sound crosses)

listed_ends : (n : ℕ) (acts : List Act) → length acts ≤ n → EndsWithin n (listed acts)
listed_ends n [] short = tt
listed_ends n (act ∷ acts) short =
    (omega arith, λ goes answer is. listed_ends (n - 1) acts (omega arith))

length_after : (acts : List Act) (n : ℕ) → length (drop n acts) ≡ length acts - n
length_after acts zero = omega arith
length_after [] (suc n) = omega arith
length_after (act ∷ acts) (suc n) =
    let e : length (drop n acts) ≡ length acts - n = length_after acts n in omega arith

rest_has_8 : (crosses : Bool) → length (rest_of_visit crosses) ≡ 8
rest_has_8 false = refl
rest_has_8 true = refl

pub visit_ends : (crosses : Bool) (n : ℕ)
    → ∥ EndsWithin (ahead_after n) (listed (drop n (visit crosses))) ∥₁
visit_ends crosses zero = let e : length (rest_of_visit crosses) ≡ 8 = rest_has_8 crosses in
    ∣ listed_ends 32 (visit crosses) (omega arith) ∣₁
visit_ends crosses (suc n) =
    let e : length (rest_of_visit crosses) ≡ 8 = rest_has_8 crosses in
    let left : length (drop n (rest_of_visit crosses)) ≡ length (rest_of_visit crosses) - n =
    length_after (rest_of_visit crosses) n in
    ∣ listed_ends (8 - n) (drop n (rest_of_visit crosses)) (omega arith) ∣₁

-- whether an act is the mark of a call
abbrev pub is_call : Act → Bool
is_call (Mark (Call method args)) = true
is_call _ = false

abbrev pub have_no_call : List Act → Bool
have_no_call [] = true
have_no_call (act ∷ acts) = not (is_call act) && have_no_call acts

no_call_later : (acts : List Act) (n : ℕ) → have_no_call acts ≡ true
    → is_call (next_act (listed (drop n acts))) ≡ false
no_call_later [] zero none = refl
no_call_later [] (suc n) none = refl
no_call_later (act ∷ acts) zero none =
    let e : not (is_call act) ≡ true = first_true (not (is_call act)) (have_no_call acts) none in
    isnt (is_call act) e
  where
    isnt : (b : Bool) → not b ≡ true → b ≡ false
    isnt false e = refl
    isnt true e = cc
no_call_later (act ∷ acts) (suc n) none =
    no_call_later acts n (second_true (not (is_call act)) (have_no_call acts) none)

rest_has_no_call : (crosses : Bool) → have_no_call (rest_of_visit crosses) ≡ true
rest_has_no_call false = refl
rest_has_no_call true = refl

pub visit_bound : (crosses : Bool) (n : ℕ) (method : Method) (args : Args)
    → next_act (listed (drop n (visit crosses))) ≡ Mark (Call method args)
    → ahead_after n ≡ bound_of visited method
visit_bound crosses zero method args calls = refl
visit_bound crosses (suc n) method args calls =
    absurd (differ (sym (no_call_later (rest_of_visit crosses) n (rest_has_no_call crosses))
    ∙ ap is_call calls))
  where
    differ : false ≡ true → ⊥
    differ e = cc

-- whether nothing comes after a return
abbrev pub return_last : List Act → Bool
return_last [] = true
return_last (act ∷ acts) = (not (is_return act) || is_nil acts) && return_last acts

rests_later : (acts : List Act) (n : ℕ) → return_last acts ≡ true
    → is_return (next_act (listed (drop n acts))) ≡ true
    → is_between (after_answer (listed (drop n acts)) 0) ≡ true
rests_later [] zero last ends = refl
rests_later [] (suc n) last ends = refl
rests_later (act ∷ acts) zero last ends = over acts (at_last (is_return act) ends
    (first_true (not (is_return act) || is_nil acts) (return_last acts) last))
  where
    at_last : (b : Bool) → b ≡ true → (not b || is_nil acts) ≡ true → is_nil acts ≡ true
    at_last true e nil = nil
    at_last false e nil = cc

    over : (acts : List Act) → is_nil acts ≡ true → is_between (listed acts) ≡ true
    over [] e = refl
    over (act ∷ acts) e = cc
rests_later (act ∷ acts) (suc n) last ends = rests_later acts n
    (second_true (not (is_return act) || is_nil acts) (return_last acts) last) ends

visit_return_last : (crosses : Bool) → return_last (visit crosses) ≡ true
visit_return_last false = refl
visit_return_last true = refl

pub visit_rests : (crosses : Bool) (n : ℕ)
    → is_return (next_act (listed (drop n (visit crosses)))) ≡ true
    → is_between (after_answer (listed (drop n (visit crosses))) 0) ≡ true
visit_rests crosses n = rests_later (visit crosses) n (visit_return_last crosses)

over_later : (acts : List Act) (n : ℕ) → listed (drop n acts) ≡ stop → length acts ≤ n
over_later [] n e = omega arith
over_later (act ∷ acts) zero e = cc
over_later (act ∷ acts) (suc n) e = let low : length acts ≤ n = over_later acts n e in omega arith

pub visit_few : (n : ℕ) → ahead_after n ≤ most_ahead
visit_few zero = omega arith
visit_few (suc n) = omega arith

pub visit_done : (crosses : Bool) (n : ℕ) → listed (drop n (visit crosses)) ≡ stop
    → ahead_after n ≡ 0
visit_done crosses zero e = cc
visit_done crosses (suc n) e =
    let eight : length (rest_of_visit crosses) ≡ 8 = rest_has_8 crosses in
    let low : length (rest_of_visit crosses) ≤ n = over_later (rest_of_visit crosses) n e in
    omega arith

-- acts of which none is a call take no bounds
no_taken : (act : Act) → is_call act ≡ false → bound_taken visited act ≡ 0
no_taken (Mark (Call method args)) e = cc
no_taken (Mark (Return reply)) e = refl
no_taken (Mark (Write word value)) e = refl
no_taken (Mark Commit) e = refl
no_taken (Mark BlockOpen) e = refl
no_taken (Mark BlockClose) e = refl
no_taken (Mark BlockCommit) e = refl
no_taken (Load cell) e = refl
no_taken (Store cell value) e = refl
no_taken (Take lock) e = refl
no_taken (Give lock) e = refl
no_taken Done e = refl

listed_sums : (acts : List Act) → have_no_call acts ≡ true → SumsUp visited 0 (listed acts)
listed_sums [] none = refl
listed_sums (act ∷ acts) none =
    let taken : bound_taken visited act ≡ 0 = no_taken act
    (not-true (is_call act) (first_true (not (is_call act)) (have_no_call acts) none)) in
    let same : 0 ≡ 0 - bound_taken visited act = omega (arith, taken) in (
      omega (arith, taken),
      λ answer is. subst (λ n. SumsUp visited n (listed acts)) same
          (listed_sums acts (second_true (not (is_call act)) (have_no_call acts) none)),
    )

-- between its operations a visitor has made its visit, or none of it
abbrev pub goes_on : List Act → Bool
goes_on [] = true
goes_on (act ∷ acts) = not (is_call_or_done act) && goes_on acts

between_is_over : (acts : List Act) (n : ℕ) → goes_on acts ≡ true
    → is_between (listed (drop n acts)) ≡ true
    → listed (drop n acts) ≡ stop
between_is_over [] zero goes between = refl
between_is_over [] (suc n) goes between = refl
between_is_over (act ∷ acts) zero goes between = absurd (not_both (is_call_or_done act) between
    (first_true (not (is_call_or_done act)) (goes_on acts) goes))
  where
    not_both : (b : Bool) → b ≡ true → not b ≡ true → ⊥
    not_both true e f = cc
    not_both false e f = cc
between_is_over (act ∷ acts) (suc n) goes between =
    between_is_over acts n (second_true (not (is_call_or_done act)) (goes_on acts) goes) between

visit_goes : (crosses : Bool) → goes_on (rest_of_visit crosses) ≡ true
visit_goes false = refl
visit_goes true = refl

pub visit_sums : (crosses : Bool) (n : ℕ) → is_between (listed (drop n (visit crosses))) ≡ true
    → SumsUp visited (ahead_after n) (listed (drop n (visit crosses)))
visit_sums crosses zero between =
    (omega arith, λ answer is. listed_sums (rest_of_visit crosses) (rest_has_no_call crosses))
visit_sums crosses (suc n) between =
    let over = between_is_over (rest_of_visit crosses) n (visit_goes crosses) between in
    subst (λ left. SumsUp visited (ahead_after (suc n)) left) (sym over)
    (visit_done crosses (suc n) over)

listed_later : (acts : List Act) (n answer : ℕ)
    → listed (drop (suc n) acts) ≡ after_answer (listed (drop n acts)) answer
listed_later [] zero answer = refl
listed_later [] (suc n) answer = refl
listed_later (act ∷ acts) zero answer = refl
listed_later (act ∷ acts) (suc n) answer = listed_later acts n answer

pub visit_goes_on : (crosses : Bool) (n answer : ℕ)
    → listed (drop (n + 1) (visit crosses)) ≡ after_answer (listed (drop n (visit crosses))) answer
visit_goes_on crosses n answer =
    let e : n + 1 ≡ suc n = omega arith in
    ap (λ k. listed (drop k (visit crosses))) e ∙ listed_later (visit crosses) n answer

pub visit_is_ahead : (n : ℕ) → ahead_after n ≤ ahead_after n
visit_is_ahead n = omega arith
