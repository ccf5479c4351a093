-- What is written about a correct structure accepts it. `said` is the form of the words, and `own`
-- the status that was made ready.
use Rattle.vyrd_command.proofs.Prelude.{◌≡◌, ℕ, ◌≤◌, List, Option, Some, ◌∙◌, sym, subst, inr, ◌⊎◌}
use Rattle.vyrd_command.proofs.Prelude.{most_ops, Form, Show, IsAnswerStatus, IsAnswer, SaysCorrect}
use Rattle.vyrd_command.proofs.Prelude.{SaysFewEvents, IsStepStatus, IsRunStatus, IsGenStatus}
use Rattle.vyrd_command.specs.declared.form.Form.TheVariants as asked
use Rattle.vyrd_command.proofs.EveryLaws.{step_is_accepted, run_is_accepted, run_is_unspent}
use Rattle.vyrd_command.proofs.EveryLaws.{gen_is_accepted, step_given, run_given, gen_given}

same_form : (a b : Form) → ◌≡◌ {A = Option Form} (Some a) (Some b) → a ≡ b
same_form a b e = cc

-- the answer that was made ready, under a form that is known
known_answer : (said : Option Form) (form known : Form) (input : Option (List ℕ)) (own : ℕ)
    (text : List ℕ)
    → said ≡ Some form → said ≡ Some known
    → (IsAnswerStatus (Some form) own → IsAnswer (Some form) input own text)
    → IsAnswerStatus (Some known) own → IsAnswer (Some known) input own text
known_answer said form known input own text is known_is ready answered =
    let same = same_form form known (sym is ∙ known_is) in
    rw (← same) (ready (rw same answered))

pub step_written : (said : Option Form) (form : Form) (show : Show) (input : Option (List ℕ))
    (status own : ℕ) (text : List ℕ)
    → said ≡ Some form → said ≡ Some (asked.Step show)
    → (IsAnswerStatus (Some form) own → IsAnswer (Some form) input own text)
    → (status ≡ 5) ⊎ (status ≡ own) → SaysCorrect input → IsStepStatus status → status ≡ 0
step_written said form show input status own text is known_is ready given says answered =
    let same = step_given status own answered given in
    same ∙ step_is_accepted show input own text says
    (known_answer said form (asked.Step show) input own text is known_is ready
    (subst IsStepStatus same answered))

pub run_written : (said : Option Form) (form : Form) (show : Show) (input : Option (List ℕ))
    (status own : ℕ) (text : List ℕ)
    → said ≡ Some form → said ≡ Some (asked.Run show)
    → (IsAnswerStatus (Some form) own → IsAnswer (Some form) input own text)
    → (status ≡ 5) ⊎ (status ≡ own) → SaysCorrect input → IsRunStatus status → (status ≡ 0)
    ⊎ (status ≡ 9)
run_written said form show input status own text is known_is ready given says answered =
    let same = run_given status own answered given in
    subst (λ n. (n ≡ 0) ⊎ (n ≡ 9)) (sym same) (run_is_accepted show input own text says
    (known_answer said form (asked.Run show) input own text is known_is ready
    (subst IsRunStatus same answered)))

pub run_has_room : (said : Option Form) (form : Form) (show : Show) (input : Option (List ℕ))
    (status own : ℕ) (text : List ℕ)
    → said ≡ Some form → said ≡ Some (asked.Run show)
    → (IsAnswerStatus (Some form) own → IsAnswer (Some form) input own text)
    → (status ≡ 5) ⊎ (status ≡ own) → SaysFewEvents input → status ≡ 9 → ⊥
run_has_room said form show input status own text is known_is ready given says nine =
    let answered : IsRunStatus status = inr (inr nine) in
    let same = run_given status own answered given in
    run_is_unspent show input own text says
    (known_answer said form (asked.Run show) input own text is known_is ready
    (subst IsRunStatus same answered)) (sym same ∙ nine)

pub gen_written : (said : Option Form) (form : Form) (n : ℕ) (input : Option (List ℕ))
    (status own : ℕ) (text : List ℕ)
    → said ≡ Some form → said ≡ Some (asked.Gen n)
    → (IsAnswerStatus (Some form) own → IsAnswer (Some form) input own text)
    → (status ≡ 5) ⊎ (status ≡ own) → n ≤ most_ops → IsGenStatus status → status ≡ 0
gen_written said form n input status own text is known_is ready given few answered =
    let same = gen_given status own answered given in
    same ∙ gen_is_accepted n own text few
    (known_answer said form (asked.Gen n) input own text is known_is ready
    (subst IsGenStatus same answered))
