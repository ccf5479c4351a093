-- Proofs of laws that an impl in src/ names: no contract says what is defined here.
-- What a player's script is: the operation under way, followed by the operations to come.
use Rattle.std.proofs.Common.{◌≡◌, ℕ, ◌+◌, ◌-◌, ◌*◌, ◌≤◌, Bool, true, false, not, ◌&&◌}
use Rattle.std.proofs.Common.{List, [], ◌∷◌}
use Rattle.std.proofs.Common.{Option, Some, None, refl, ap, ◌∙◌, sym, subst, arith}
use Rattle.std.specs.Prelude.{◌≢◌, IfSome, is_some, is_none, if◌then◌else◌}
use Rattle.std.specs.Option.{option_map_or}
use Rattle.std.proofs.Math.Logic.{∥∥₁_map}
use Rattle.vyrd_base.specs.declared.header.Header.{Header}
use Rattle.vyrd_base.specs.declared.subject.Subject.{Subject}
use Rattle.vyrd_base.specs.declared.subject.Subject.TheVariants.{Multiset, Cache, Tree, Buffers}
use Rattle.vyrd_base.specs.declared.subject.Subject.TheVariants.{Own}
use Rattle.vyrd_base.specs.declared.subject.Method.{Method}
use Rattle.vyrd_base.specs.declared.subject.Method.TheVariants.{Multiset as OfMultiset}
use Rattle.vyrd_base.specs.declared.subject.Method.TheVariants.{Cache as OfCache, Tree as OfTree}
use Rattle.vyrd_base.specs.declared.subject.Method.TheVariants.{Buffers as OfBuffers}
use Rattle.vyrd_base.specs.declared.subject.Method.TheVariants.{OwnNever, OwnAtMostOnce, OwnOnce}
use Rattle.vyrd_base.specs.declared.tree.TreeMethod.TheVariants.{Insert, Delete, Lookup}
use Rattle.vyrd_base.specs.declared.subject.Args.{Args}
use Rattle.vyrd_base.specs.declared.log.Kind.TheVariants.{Call, Return, Write, Commit, BlockOpen}
use Rattle.vyrd_base.specs.declared.log.Kind.TheVariants.{BlockClose, BlockCommit}
use Rattle.vyrd_base.specs.Subjects.{same_subject, subject_of, are_args}
use Rattle.vyrd_base.proofs.TestLaws.{both_true, first_true, second_true}
use Rattle.vyrd_base.proofs.SubjectLaws.{same_subjects}
use Rattle.vyrd_memory.specs.declared.act.Act.{Act}
use Rattle.vyrd_memory.specs.declared.act.Act.TheVariants.{Load, Store, Take, Give, Mark, Done}
use Rattle.vyrd_memory.specs.declared.op.Op.{Op}
use Rattle.vyrd_memory.specs.Scripts.{Script, stop, step, next_act, after_answer, followed_by}
use Rattle.vyrd_memory.specs.Scripts.{operations, is_between, is_call_or_done, IsAnswer}
use Rattle.vyrd_memory.specs.Soundness.{Situation, IsSound, IsSoundSomewhere, at_rest, just_called}
use Rattle.vyrd_memory.specs.Soundness.{after_act}
use Rattle.vyrd_memory.specs.Bounds.{EndsByReturn, EndsWithin, SumsUp, bound_taken, is_return}
use Rattle.vyrd_memory.specs.Bounds.{bound_of, bound_in, bounds_of, most_ops, most_op_events}
use Rattle.vyrd_memory.specs.Bounds.{most_ahead}
use Rattle.vyrd_memory.specs.Underway.{IsUnderway}
use Rattle.vyrd_memory.specs.Laws.Underway.{no_call, still_called, stop_of, underway_goes_on}
use Rattle.vyrd_memory.specs.Laws.Underway.{underway_isnt_between, underway_over}
use Rattle.vyrd_memory.specs.Arguments.{are_small}
use Rattle.vyrd_memory.specs.Players.{is_callable, are_callable, first_bound}

-- each procedure is sound
abbrev pub AreSound : Header → (Op → Script) → Type 0
AreSound h body = (op : Op) → is_callable h op ≡ true → IsSound h (just_called op.method) (body op)

-- each procedure ends by its return, within its bound
abbrev pub AreBounded : Header → (Op → Script) → Type 0
AreBounded h body =
    (op : Op) → is_callable h op ≡ true → EndsByReturn (bound_of h op.method - 1) (body op)

followed-sound : (h : Header) (s : Situation) (a b : Script) → IsSound h s a → IsSound h at_rest b
    → IsSound h s (followed_by a b)
followed-sound h s stop b first then_ = subst (λ s. IsSound h s b) (sym first) then_
followed-sound h s (step act rest) b first then_ = (
  first.0,
  λ answer is. followed-sound h (after_act s act) (rest answer) b (first.1 answer is) then_,
)

-- the mark of its call may be left
callable_mark : (h : Header) (op : Op) → is_callable h op ≡ true
    → (same_subject (subject_of op.method) h.subject && are_args h.size op.method op.args) ≡ true
callable_mark h op e =
    first_true (same_subject (subject_of op.method) h.subject && are_args h.size op.method op.args)
    (are_small op.args) e

pub callable_method : (h : Header) (op : Op) → is_callable h op ≡ true
    → subject_of op.method ≡ h.subject
callable_method h op e =
    same_subjects (subject_of op.method) h.subject
    (first_true (same_subject (subject_of op.method) h.subject) (are_args h.size op.method op.args)
    (callable_mark h op e))

pub callable_args : (h : Header) (op : Op) → is_callable h op ≡ true
    → are_args h.size op.method op.args ≡ true
callable_args h op e = second_true (same_subject (subject_of op.method) h.subject)
    (are_args h.size op.method op.args) (callable_mark h op e)

pub callable_small : (h : Header) (op : Op) → is_callable h op ≡ true → are_small op.args ≡ true
callable_small h op e =
    second_true (same_subject (subject_of op.method) h.subject && are_args h.size op.method op.args)
    (are_small op.args) e

pub operations-sound : (h : Header) (body : Op → Script) (ops : List Op) → AreSound h body
    → are_callable h ops ≡ true
    → IsSound h at_rest (operations body ops)
operations-sound h body [] each callable = refl
operations-sound h body (op ∷ ops) each callable = (
  both_true (same_subject (subject_of op.method) h.subject && are_args h.size op.method op.args)
      true
      (callable_mark h op (first_true (is_callable h op) (are_callable h ops) callable)) refl,
  λ answer is. followed-sound h (just_called op.method) (body op) (operations body ops)
      (each op (first_true (is_callable h op) (are_callable h ops) callable))
      (operations-sound h body ops each
      (second_true (is_callable h op) (are_callable h ops) callable)),
)

pub followed-somewhere : (h : Header) (n : ℕ) (a b : Script) → ∥ IsUnderway h n a ∥₁
    → IsSound h at_rest b
    → IsSoundSomewhere h (followed_by a b)
followed-somewhere h n a b underway later =
    ∥∥₁_map underway (λ is. (is.situation, followed-sound h is.situation a b is.sound later))

followed-ends : (n : ℕ) (a b : Script) → EndsByReturn n a → EndsWithin n (followed_by a b)
followed-ends n stop b ends = absurd ends
followed-ends n (step act rest) b ends =
    (ends.0, λ goes answer is. followed-ends (n - 1) (rest answer) b (ends.2 goes answer is))

pub followed-in_time : (h : Header) (n : ℕ) (a b : Script) → ∥ IsUnderway h n a ∥₁
    → ∥ EndsWithin n (followed_by a b) ∥₁
followed-in_time h n a b underway = ∥∥₁_map underway (λ is. followed-ends n a b is.ends)

-- a bound leaves room for the marks of the call and the return
pub bound_is_some : (subject : Subject) (n : ℕ) (method : Method) → 1 ≤ bound_in subject n method
bound_is_some Multiset n method = omega arith
bound_is_some Cache n method = omega arith
bound_is_some Buffers n method = omega arith
bound_is_some Own n method = omega arith
bound_is_some Tree n (OfMultiset other) = omega arith
bound_is_some Tree n (OfCache other) = omega arith
bound_is_some Tree n (OfTree Insert) = omega arith
bound_is_some Tree n (OfTree Delete) = omega arith
bound_is_some Tree n (OfTree Lookup) = omega arith
bound_is_some Tree n (OfBuffers other) = omega arith
bound_is_some Tree n (OwnNever i) = omega arith
bound_is_some Tree n (OwnAtMostOnce i) = omega arith
bound_is_some Tree n (OwnOnce i) = omega arith

pub operations-in_time : (h : Header) (body : Op → Script) (ops : List Op) → AreBounded h body
    → are_callable h ops ≡ true
    → EndsWithin (first_bound h ops) (operations body ops)
operations-in_time h body [] each callable = tt
operations-in_time h body (op ∷ ops) each callable = (
  bound_is_some h.subject h.size op.method,
  λ goes answer is. followed-ends (bound_of h op.method - 1) (body op) (operations body ops)
      (each op (first_true (is_callable h op) (are_callable h ops) callable)),
)

-- an act that isn't a call takes no bound
no_bound : (h : Header) (act : Act) → is_call_or_done act ≡ false → bound_taken h act ≡ 0
no_bound h (Load cell) e = refl
no_bound h (Store cell value) e = refl
no_bound h (Take lock) e = refl
no_bound h (Give lock) e = refl
no_bound h Done e = refl
no_bound h (Mark (Call method args)) e = cc
no_bound h (Mark (Return reply)) e = refl
no_bound h (Mark (Write word value)) e = refl
no_bound h (Mark Commit) e = refl
no_bound h (Mark BlockOpen) e = refl
no_bound h (Mark BlockClose) e = refl
no_bound h (Mark BlockCommit) e = refl

-- a return is answered by 0
pub return_zero : (act : Act) (answer : ℕ) → is_return act ≡ true → IsAnswer act answer → answer ≡ 0
return_zero (Load cell) answer ends is = cc
return_zero (Store cell value) answer ends is = is
return_zero (Take lock) answer ends is = is
return_zero (Give lock) answer ends is = is
return_zero Done answer ends is = is
return_zero (Mark kind) answer ends is = is

-- a procedure calls nothing, so what follows it sums up as before
followed-sums : (h : Header) (s : Situation) (k n : ℕ) (a b : Script) → is_some s.called ≡ true
    → IsSound h s a → EndsByReturn k a → SumsUp h n b
    → SumsUp h n (followed_by a b)
followed-sums h s k n stop b called sound ends sums = absurd ends
followed-sums h s k n (step act rest) b called sound ends sums =
    let none : bound_taken h act ≡ 0 = no_bound h act (no_call h s act called sound.0) in
    let same : n ≡ n - bound_taken h act = omega (arith, none) in (
      omega (arith, none),
      λ answer is. subst (λ m. SumsUp h m (followed_by (rest answer) b)) same
          (by_return (is_return act) refl answer is (λ goes. followed-sums h (after_act s act)
          (k - 1) n (rest answer) b (still_called s act called goes) (sound.1 answer is)
          (ends.2 goes answer is) sums)),
    )
  where
    by_return : (r : Bool) → is_return act ≡ r → (answer : ℕ) → IsAnswer act answer
        → (r ≡ false → SumsUp h n (followed_by (rest answer) b))
        → SumsUp h n (followed_by (rest answer) b)
    by_return false e answer is on = on refl
    by_return true e answer is on =
        let over : rest answer ≡ stop =
        ap rest (return_zero act answer e is) ∙ stop_of (rest 0) (ends.1 e) in
        subst (λ left. SumsUp h n (followed_by left b)) (sym over) sums

pub operations-sums : (h : Header) (body : Op → Script) (ops : List Op) → AreSound h body
    → AreBounded h body
    → are_callable h ops ≡ true
    → SumsUp h (bounds_of h ops) (operations body ops)
operations-sums h body [] sound bounded callable = refl
operations-sums h body (op ∷ ops) sound bounded callable =
    let this = first_true (is_callable h op) (are_callable h ops) callable in
    let those = second_true (is_callable h op) (are_callable h ops) callable in
    let same : bounds_of h ops ≡ bound_of h op.method + bounds_of h ops - bound_of h op.method =
    omega arith in (
      omega arith,
      λ answer is. subst (λ n. SumsUp h n (followed_by (body op) (operations body ops))) same
          (followed-sums h (just_called op.method) (bound_of h op.method - 1) (bounds_of h ops)
          (body op) (operations body ops) refl (sound op this) (bounded op this)
          (operations-sums h body ops sound bounded those)),
    )

-- what comes next of the operation under way comes next of all
pub followed-next : (a b : Script) → next_act a ≢ Done → next_act (followed_by a b) ≡ next_act a
followed-next stop b goes = absurd (goes refl)
followed-next (step act rest) b goes = refl

pub followed-after : (a b : Script) (answer : ℕ) → next_act a ≢ Done
    → after_answer (followed_by a b) answer ≡ followed_by (after_answer a answer) b
followed-after stop b answer goes = absurd (goes refl)
followed-after (step act rest) b answer goes = refl

pub followed-goes_on : (a b : Script) → next_act a ≢ Done → followed_by a b ≢ stop
followed-goes_on stop b goes = absurd (goes refl)
followed-goes_on (step act rest) b goes = λ e. cc

-- the call of the next operation has its bound
pub operations-bound : (h : Header) (body : Op → Script) (ops : List Op) (method : Method)
    (args : Args)
    → next_act (operations body ops) ≡ Mark (Call method args)
    → first_bound h ops ≡ bound_of h method
operations-bound h body [] method args e = cc
operations-bound h body (op ∷ ops) method args e =
    let same : op.method ≡ method = cc in ap (bound_of h) same

pub first_bound-within : (h : Header) (ops : List Op) → first_bound h ops ≤ bounds_of h ops
first_bound-within h [] = omega arith
first_bound-within h (op ∷ ops) = omega arith

pub operations-done : (h : Header) (body : Op → Script) (ops : List Op) → operations body ops ≡ stop
    → bounds_of h ops ≡ 0
operations-done h body [] e = refl
operations-done h body (op ∷ ops) e = cc

pub operations-between : (body : Op → Script) (ops : List Op)
    → is_between (operations body ops) ≡ true
operations-between body [] = refl
operations-between body (op ∷ ops) = refl

-- the script of a player with this operation under way, if there is one
abbrev pub player_script : {P : Type 0} → (P → Script) → Option P → (Op → Script) → List Op → Script
player_script rest progress body ops =
    followed_by (option_map_or rest progress stop) (operations body ops)

-- what is known of the operation under way
abbrev pub IfUnderway : {P : Type 0} → Header → ℕ → (P → Script) → Option P → Type 0
IfUnderway h n rest progress = ∥ IfSome progress (λ p. IsUnderway h n (rest p)) ∥₁

pub player_sound : {P : Type 0} (h : Header) (n : ℕ) (rest : P → Script) (progress : Option P)
    (body : Op → Script) (ops : List Op)
    → AreSound h body → are_callable h ops ≡ true → IfUnderway h n rest progress
    → IsSoundSomewhere h (player_script rest progress body ops)
player_sound h n rest None body ops each callable underway =
    ∣ (at_rest, operations-sound h body ops each callable) ∣₁
player_sound h n rest (Some p) body ops each callable underway =
    followed-somewhere h n (rest p) (operations body ops) underway
    (operations-sound h body ops each callable)

pub player_in_time : {P : Type 0} (h : Header) (n : ℕ) (rest : P → Script) (progress : Option P)
    (body : Op → Script) (ops : List Op)
    → AreBounded h body → are_callable h ops ≡ true → IfUnderway h n rest progress
    → ∥ EndsWithin (if is_some progress then n else first_bound h ops)
    (player_script rest progress body ops) ∥₁
player_in_time h n rest None body ops each callable underway =
    ∣ operations-in_time h body ops each callable ∣₁
player_in_time h n rest (Some p) body ops each callable underway =
    followed-in_time h n (rest p) (operations body ops) underway

player_isnt_between : {P : Type 0} (h : Header) (n : ℕ) (rest : P → Script) (p : P)
    (body : Op → Script) (ops : List Op)
    → IfUnderway h n rest (Some p)
    → is_between (player_script rest (Some p) body ops) ≡ false
player_isnt_between h n rest p body ops underway =
    ap is_call_or_done
    (followed-next (rest p) (operations body ops) (underway_goes_on h n (rest p) underway))
    ∙ underway_isnt_between h n (rest p) underway

pub player_between : {P : Type 0} (h : Header) (n : ℕ) (rest : P → Script) (progress : Option P)
    (body : Op → Script) (ops : List Op)
    → IfUnderway h n rest progress
    → is_between (player_script rest progress body ops) ≡ not (is_some progress)
player_between h n rest None body ops underway = operations-between body ops
player_between h n rest (Some p) body ops underway =
    player_isnt_between h n rest p body ops underway

pub player_bound : {P : Type 0} (h : Header) (n : ℕ) (rest : P → Script) (progress : Option P)
    (body : Op → Script) (ops : List Op) (method : Method) (args : Args)
    → IfUnderway h n rest progress
    → next_act (player_script rest progress body ops) ≡ Mark (Call method args)
    → (if is_some progress then n else first_bound h ops) ≡ bound_of h method
player_bound h n rest None body ops method args underway e =
    operations-bound h body ops method args e
player_bound h n rest (Some p) body ops method args underway e =
    let no : true ≡ false =
    sym (ap is_call_or_done e) ∙ player_isnt_between h n rest p body ops underway in
    cc

-- between operations what is ahead is the sum of the bounds of those to come
pub player_sums : {P : Type 0} (h : Header) (n later : ℕ) (rest : P → Script) (progress : Option P)
    (body : Op → Script) (ops : List Op)
    → AreSound h body → AreBounded h body → are_callable h ops ≡ true → IfUnderway h n rest progress
    → later ≡ bounds_of h ops → (is_none progress ≡ true → n ≡ 0)
    → is_between (player_script rest progress body ops) ≡ true
    → SumsUp h (n + later) (player_script rest progress body ops)
player_sums h n later rest None body ops sound bounded callable underway sum idle between =
    let same : bounds_of h ops ≡ n + later = omega (arith, sum, idle refl) in
    subst (λ m. SumsUp h m (operations body ops)) same
    (operations-sums h body ops sound bounded callable)
player_sums h n later rest (Some p) body ops sound bounded callable underway sum idle between =
    absurd (differ (sym between ∙ player_isnt_between h n rest p body ops underway))
  where
    differ : true ≡ false → ⊥
    differ e = cc

pub player_within : {P : Type 0} (h : Header) (n later : ℕ) (progress : Option P) (ops : List Op)
    → later ≡ bounds_of h ops
    → (if is_some progress then n else first_bound h ops) ≤ n + later
player_within h n later None ops sum = omega (arith, sum, first_bound-within h ops)
player_within h n later (Some p) ops sum = omega arith

-- what is ahead is limited
pub player_few : (n later : ℕ) → n ≤ most_op_events → later ≤ most_ops * most_op_events
    → n + later ≤ most_ahead
player_few n later first others = omega (arith, first, others)

-- after the return of an operation the next one begins, or none is left
operations-rests : (body : Op → Script) (ops : List Op)
    → is_return (next_act (operations body ops)) ≡ true
    → is_between (after_answer (operations body ops) 0) ≡ true
operations-rests body [] ends = cc
operations-rests body (op ∷ ops) ends = cc

return_answered : (act : Act) → is_return act ≡ true → IsAnswer act 0
return_answered (Load cell) ends = cc
return_answered (Store cell value) ends = cc
return_answered (Take lock) ends = cc
return_answered (Give lock) ends = cc
return_answered Done ends = cc
return_answered (Mark kind) ends = refl

pub player_rests : {P : Type 0} (h : Header) (n : ℕ) (rest : P → Script) (progress : Option P)
    (body : Op → Script) (ops : List Op)
    → IfUnderway h n rest progress
    → is_return (next_act (player_script rest progress body ops)) ≡ true
    → is_between (after_answer (player_script rest progress body ops) 0) ≡ true
player_rests h n rest None body ops underway ends = operations-rests body ops ends
player_rests h n rest (Some p) body ops underway ends =
    let goes = underway_goes_on h n (rest p) underway in
    let ends' : is_return (next_act (rest p)) ≡ true =
    sym (ap is_return (followed-next (rest p) (operations body ops) goes)) ∙ ends in
    ap is_between (followed-after (rest p) (operations body ops) 0 goes
    ∙ ap (λ s. followed_by s (operations body ops))
    (underway_over h n (rest p) 0 underway ends' (return_answered (next_act (rest p)) ends')))
    ∙ operations-between body ops

pub player_done : {P : Type 0} (h : Header) (n later : ℕ) (rest : P → Script) (progress : Option P)
    (body : Op → Script) (ops : List Op)
    → later ≡ bounds_of h ops → IfUnderway h n rest progress → (is_none progress ≡ true → n ≡ 0)
    → player_script rest progress body ops ≡ stop → n + later ≡ 0
player_done h n later rest None body ops sum underway idle e =
    omega (arith, sum, operations-done h body ops e, idle refl)
player_done h n later rest (Some p) body ops sum underway idle e =
    absurd
    (followed-goes_on (rest p) (operations body ops) (underway_goes_on h n (rest p) underway) e)

pub player_wants : {P : Type 0} (h : Header) (n : ℕ) (rest : P → Script) (progress : Option P)
    (p : P) (body : Op → Script) (ops : List Op)
    → IfUnderway h n rest progress → progress ≡ Some p
    → next_act (player_script rest progress body ops) ≡ next_act (rest p)
player_wants h n rest None p body ops underway e = cc
player_wants h n rest (Some x) p body ops underway e =
    let same : x ≡ p = cc in
    followed-next (rest x) (operations body ops) (underway_goes_on h n (rest x) underway)
    ∙ ap (λ p. next_act (rest p)) same

pub player_goes_on : {P : Type 0} (h : Header) (n : ℕ) (rest : P → Script) (progress : Option P)
    (body : Op → Script) (ops : List Op) (answer : ℕ) (new : Script)
    → IfUnderway h n rest progress → is_some progress ≡ true
    → new ≡ after_answer (option_map_or rest progress stop) answer
    → followed_by new (operations body ops)
    ≡ after_answer (player_script rest progress body ops) answer
player_goes_on h n rest None body ops answer new underway some e = cc
player_goes_on h n rest (Some p) body ops answer new underway some e =
    ap (λ s. followed_by s (operations body ops)) e
    ∙ sym
    (followed-after (rest p) (operations body ops) answer (underway_goes_on h n (rest p) underway))
