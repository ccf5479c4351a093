-- Proofs of laws that an impl in src/ names: no contract says what is defined here.
-- What it says of a script that it is an operation under way.
use Rattle.std.proofs.Common.{◌≡◌, ℕ, ◌-◌, ◌≤◌, Bool, true, false, not, ◌&&◌, refl, ap, ◌∙◌, sym}
use Rattle.std.proofs.Common.{subst, arith, Option, Some, None}
use Rattle.std.specs.Prelude.{◌≢◌, nat_le, IfSome, is_some, is_none}
use Rattle.std.proofs.lemmas.Bool.Decides.{nat_tests}
use Rattle.std.proofs.Math.Logic.{∥∥₁_elim, ∥∥₁_map}
use Rattle.std.proofs.Math.Bool.{Bool-set}
use mathlib.Core.HLevel.{⊥_prop}
use Rattle.vyrd_base.specs.declared.header.Header.{Header}
use Rattle.vyrd_base.specs.declared.log.Kind.TheVariants.{Call, Return, Write, Commit, BlockOpen}
use Rattle.vyrd_base.specs.declared.log.Kind.TheVariants.{BlockClose, BlockCommit}
use Rattle.vyrd_base.specs.declared.subject.Method.{Method}
use Rattle.vyrd_base.specs.Subjects.{same_subject, subject_of, are_args}
use Rattle.vyrd_base.proofs.TestLaws.{first_true, second_true}
use Rattle.vyrd_memory.specs.declared.act.Act.{Act}
use Rattle.vyrd_memory.specs.declared.act.Act.TheVariants.{Load, Store, Take, Give, Mark, Done}
use Rattle.vyrd_memory.specs.Scripts.{Script, stop, step, next_act, after_answer, is_stop}
use Rattle.vyrd_memory.specs.Scripts.{is_call_or_done, is_between, IsAnswer}
use Rattle.vyrd_memory.specs.Soundness.{Situation, IsSoundSomewhere, after_act, may_act, is_at_rest}
use Rattle.vyrd_memory.specs.Soundness.{holds_none}
use Rattle.vyrd_memory.specs.Bounds.{is_return}
use Rattle.vyrd_memory.specs.Turns.{is_done}
use Rattle.vyrd_memory.specs.Underway.{IsUnderway}

abbrev pub Underway : Header → ℕ → Script → Type 0
Underway h n script = ∥ IsUnderway h n script ∥₁

-- what is said of an operation that is there
pub of_some : {P : Type 0} (Q : P → Type 0) (o : Option P) (p : P) → o ≡ Some p → ∥ IfSome o Q ∥₁
    → ∥ Q p ∥₁
of_some Q None p e if_some = cc
of_some Q (Some x) p e if_some = let same : x ≡ p = cc in subst (λ x. ∥ Q x ∥₁) same if_some

pub is_of_some : {P : Type 0} (Q : P → Type 0) (o : Option P) (p : P) → o ≡ Some p → IfSome o Q
    → Q p
is_of_some Q None p e if_some = cc
is_of_some Q (Some x) p e if_some = let same : x ≡ p = cc in subst Q same if_some

pub underway_sound : (h : Header) (n : ℕ) (script : Script) → Underway h n script
    → IsSoundSomewhere h script
underway_sound h n script underway = ∥∥₁_map underway (λ is. (is.situation, is.sound))

not_done : (h : Header) (n : ℕ) (script : Script) → IsUnderway h n script → next_act script ≢ Done
not_done h n stop is = absurd is.ends
not_done h n (step Done rest) is = absurd (cc_of is.sound.0)
  where
    cc_of : false ≡ true → ⊥
    cc_of e = cc
not_done h n (step (Load cell) rest) is = λ e. cc
not_done h n (step (Store cell value) rest) is = λ e. cc
not_done h n (step (Take lock) rest) is = λ e. cc
not_done h n (step (Give lock) rest) is = λ e. cc
not_done h n (step (Mark kind) rest) is = λ e. cc

pub underway_goes_on : (h : Header) (n : ℕ) (script : Script) → Underway h n script
    → next_act script ≢ Done
underway_goes_on h n script underway =
    λ e. ∥∥₁_elim underway ⊥_prop (λ is. not_done h n script is e)

some_left : (h : Header) (n : ℕ) (script : Script) → IsUnderway h n script → nat_le 1 n ≡ true
some_left h n stop is = absurd is.ends
some_left h n (step act rest) is = let low : 1 ≤ n = is.ends.0 in grind (arith, nat_tests)

pub underway_left : (h : Header) (n : ℕ) (script : Script) → Underway h n script → 1 ≤ n
underway_left h n script underway =
    let e : nat_le 1 n ≡ true = ∥∥₁_elim underway (Bool-set _ _) (some_left h n script) in
    grind (arith, nat_tests)

-- an act that is allowed in an open execution isn't a call
pub no_call : (h : Header) (s : Situation) (act : Act) → is_some s.called ≡ true
    → may_act h s act ≡ true
    → is_call_or_done act ≡ false
no_call h s (Load cell) called may = refl
no_call h s (Store cell value) called may = refl
no_call h s (Take lock) called may = refl
no_call h s (Give lock) called may = refl
no_call h s Done called may = may_isnt may
  where
    may_isnt : false ≡ true → true ≡ false
    may_isnt e = sym e
no_call h s (Mark (Call method args)) called may =
    absurd (not_both s.called called (idle_called s
    (second_true (same_subject (subject_of method) h.subject && are_args h.size method args)
    (is_at_rest s) may)))
  where
    not_both : (o : Option Method) → is_some o ≡ true → is_none o ≡ true → ⊥
    not_both None some none = cc
    not_both (Some x) some none = cc

    idle_called : (s : Situation) → is_at_rest s ≡ true → is_none s.called ≡ true
    idle_called s e =
        second_true (holds_none s) (is_none s.called)
        (first_true (holds_none s && is_none s.called) (not s.committed)
        (first_true (holds_none s && is_none s.called && not s.committed) (not s.in_block) e))
no_call h s (Mark (Return reply)) called may = refl
no_call h s (Mark (Write word value)) called may = refl
no_call h s (Mark Commit) called may = refl
no_call h s (Mark BlockOpen) called may = refl
no_call h s (Mark BlockClose) called may = refl
no_call h s (Mark BlockCommit) called may = refl

-- the execution stays open until its return
pub still_called : (s : Situation) (act : Act) → is_some s.called ≡ true → is_return act ≡ false
    → is_some (after_act s act).called ≡ true
still_called s (Load cell) called goes = called
still_called s (Store cell value) called goes = called
still_called s (Take lock) called goes = called
still_called s (Give lock) called goes = called
still_called s Done called goes = called
still_called s (Mark (Call method args)) called goes = refl
still_called s (Mark (Return reply)) called goes = cc
still_called s (Mark (Write word value)) called goes = called
still_called s (Mark Commit) called goes = called
still_called s (Mark BlockOpen) called goes = called
still_called s (Mark BlockClose) called goes = called
still_called s (Mark BlockCommit) called goes = called

next_underway : (h : Header) (n : ℕ) (script : Script) (answer : ℕ)
    → is_return (next_act script) ≡ false → IsAnswer (next_act script) answer
    → IsUnderway h n script
    → IsUnderway h (n - 1) (after_answer script answer)
next_underway h n stop answer goes is_answer is = absurd is.ends
next_underway h n (step act rest) answer goes is_answer is = record {
  situation = after_act is.situation act;
  called = still_called is.situation act is.called goes;
  sound = is.sound.1 answer is_answer;
  ends = is.ends.2 goes answer is_answer;
}

isnt_call : (h : Header) (n : ℕ) (script : Script) → IsUnderway h n script
    → is_between script ≡ false
isnt_call h n stop is = absurd is.ends
isnt_call h n (step act rest) is = no_call h is.situation act is.called is.sound.0

pub underway_isnt_between : (h : Header) (n : ℕ) (script : Script) → Underway h n script
    → is_between script ≡ false
underway_isnt_between h n script underway = ∥∥₁_elim underway (Bool-set _ _) (isnt_call h n script)

pub underway_next : (h : Header) (n : ℕ) (script : Script) (answer : ℕ) → Underway h n script
    → is_return (next_act script) ≡ false
    → IsAnswer (next_act script) answer
    → Underway h (n - 1) (after_answer script answer)
underway_next h n script answer underway goes is_answer =
    ∥∥₁_map underway (next_underway h n script answer goes is_answer)

pub stop_of : (script : Script) → is_stop script ≡ true → script ≡ stop
stop_of stop e = refl
stop_of (step act rest) e = cc

over : (h : Header) (n : ℕ) (script : Script) (answer : ℕ) → is_return (next_act script) ≡ true
    → IsAnswer (next_act script) answer → IsUnderway h n script
    → is_stop (after_answer script answer) ≡ true
over h n stop answer ends is_answer is = absurd is.ends
over h n (step act rest) answer ends is_answer is =
    let zero : answer ≡ 0 = zero_answer act answer ends is_answer in
    ap (λ a. is_stop (rest a)) zero ∙ is.ends.1 ends
  where
    zero_answer : (act : Act) (answer : ℕ) → is_return act ≡ true → IsAnswer act answer → answer ≡ 0
    zero_answer (Load cell) answer ends is_answer = cc
    zero_answer (Store cell value) answer ends is_answer = cc
    zero_answer (Take lock) answer ends is_answer = cc
    zero_answer (Give lock) answer ends is_answer = cc
    zero_answer Done answer ends is_answer = cc
    zero_answer (Mark kind) answer ends is_answer = is_answer

pub underway_over : (h : Header) (n : ℕ) (script : Script) (answer : ℕ) → Underway h n script
    → is_return (next_act script) ≡ true
    → IsAnswer (next_act script) answer
    → after_answer script answer ≡ stop
underway_over h n script answer underway ends is_answer =
    stop_of (after_answer script answer)
    (∥∥₁_elim underway (Bool-set _ _) (over h n script answer ends is_answer))

isnt_done : (act : Act) → act ≢ Done → is_done act ≡ false
isnt_done (Load cell) goes_on = refl
isnt_done (Store cell value) goes_on = refl
isnt_done (Take lock) goes_on = refl
isnt_done (Give lock) goes_on = refl
isnt_done (Mark kind) goes_on = refl
isnt_done Done goes_on = absurd (goes_on refl)

-- nothing is left after a return, and after no other act
pub underway_ends : (h : Header) (n : ℕ) (script next : Script) (answer : ℕ) → Underway h n script
    → IsAnswer (next_act script) answer
    → next ≡ after_answer script answer
    → is_done (next_act next) ≡ is_return (next_act script)
underway_ends h n script next answer underway is_answer same =
    ap (λ s. is_done (next_act s)) same ∙ by_act (is_return (next_act script)) refl
  where
    by_act : (b : Bool) → is_return (next_act script) ≡ b
        → is_done (next_act (after_answer script answer)) ≡ is_return (next_act script)
    by_act true e = ap (λ s. is_done (next_act s))
        (underway_over h n script answer underway e is_answer) ∙ sym e
    by_act false e = isnt_done (next_act (after_answer script answer))
        (underway_goes_on h (n - 1) (after_answer script answer)
        (underway_next h n script answer underway e is_answer)) ∙ sym e
