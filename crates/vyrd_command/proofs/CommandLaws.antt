-- From what is made ready for words of a form to what is written. `said` is the form of the words,
-- if they have one.
use Rattle.vyrd_command.proofs.Prelude
use Prelude.{◌≡◌, ℕ, ◌≤◌, List, [], length, true, false, Option, Some, None, refl, ap, ◌∙◌, sym}
use Prelude.{subst, arith, inl, inr, ◌≢◌, ◌⊎◌, SourceKnown, most_lines, Appends, AppendsFront}
use Prelude.{IsAnswered, IsAnsweredInPart, IsSettled, HasRoomForAnswer, Form, usage_line, IsStatus}
use Prelude.{IsAnswerStatus, IsAnswer, HasAnswered, HasAnsweredInPart, HasRoom, reads, IsEnough}
use Rattle.vyrd_command.specs.declared.form.Form.TheVariants as asked

no_answer : (form : Form) (n : ℕ) → 3 ≤ n → n ≤ 6 → IsAnswerStatus (Some form) n → ⊥
no_answer form n low high answered = grind arith

pub written_status : (said : Option Form) (form : Form) (status own : ℕ) → said ≡ Some form
    → (status ≡ 5) ⊎ (status ≡ own)
    → IsStatus (Some form) own → IsStatus said status
written_status said form status own is given ready = search arith

-- status 3 is that of no form
pub three_is_usage : (said : Option Form) → IsStatus said 3 → said ≡ None
three_is_usage said status = search (no_answer, arith)

pub written_answer : (said : Option Form) (form : Form) (input before after : Option (List ℕ))
    (status own : ℕ) (text : List ℕ) → said ≡ Some form
    → (status ≡ 5) ⊎ (status ≡ own)
    → (IsAnswerStatus (Some form) own → IsAnswer (Some form) input own text)
    → (status ≢ 5 → (status ≡ own) × Appends before after text)
    → IsAnswerStatus said status → HasAnswered said input status before after
written_answer said form input before after status own text is given ready written answered =
    grind arith

-- If a write failed, something was made ready to be written.
was_ready : (form : Form) (own : ℕ) (text : List ℕ) → IsStatus (Some form) own → own ≢ 5
    → ((own ≡ 4) ⊎ (own ≡ 6) → text ≡ [])
    → IsAnswerStatus (Some form) own ⊎ (text ≡ [])
was_ready form own text e3 unwritten silent = search arith

pub written_in_part : (said : Option Form) (form : Form) (input before after : Option (List ℕ))
    (status own : ℕ) (text : List ℕ) → said ≡ Some form
    → IsStatus (Some form) own → own ≢ 5 → ((own ≡ 4) ⊎ (own ≡ 6) → text ≡ [])
    → (IsAnswerStatus (Some form) own → IsAnswer (Some form) input own text)
    → (text ≡ [] → status ≡ own) → (status ≡ 5 → own ≢ 5 → AppendsFront before after text)
    → status ≡ 5 → HasAnsweredInPart said input before after
written_in_part said form input before after status own text is status_is unwritten silent ready
    nothing written five =
    elim (was_ready form own text status_is unwritten silent) [
      | inl answered ↦ subst (λ said. HasAnsweredInPart said input before after) (sym is) (record {
        status = own;
        text = text;
        answer = ready answered;
        written = written five unwritten;
      })
      | inr empty ↦ absurd (unwritten (sym (nothing empty) ∙ five))
    ]

pub text_fits : (said : Option Form) (form : Form) (input : Option (List ℕ)) (own room : ℕ)
    (text : List ℕ) → said ≡ Some form
    → IsStatus (Some form) own → own ≢ 5 → ((own ≡ 4) ⊎ (own ≡ 6) → text ≡ [])
    → (IsAnswerStatus (Some form) own → IsAnswer (Some form) input own text)
    → HasRoom said input room → length text ≤ room
text_fits said form input own room text is status_is unwritten silent ready fits =
    elim (was_ready form own text status_is unwritten silent) [
      | inl answered ↦ subst (λ said. HasRoom said input room) is fits own text (ready answered)
      | inr empty ↦ (let none : length text ≡ 0 = ap length empty in omega (arith, none))
    ]

pub enough_taken : (said : Option Form) (form : Form) (before after : SourceKnown) (status own : ℕ)
    → said ≡ Some form
    → (status ≡ 5) ⊎ (status ≡ own)
    → (IsAnswerStatus (Some form) own → IsEnough (Some form) own before after)
    → IsAnswerStatus said status → IsEnough said status before after
enough_taken said form before after status own is given enough answered = grind arith

-- What is true of a form that is known isn't false of the form.
differ : true ≡ false → ⊥
differ e = cc

pub reads_on : (form known : Form) → form ≡ known → reads (Some known) ≡ true → reads (Some form)
    ≡ false → ⊥
reads_on form known is does isnt = search (differ, arith)

-- the statuses of a form that reads, and of one that doesn't
pub read_status : (form : Form) (status : ℕ) → reads (Some form) ≡ true
    → IsAnswerStatus (Some form) status ⊎ (status ≡ 4) ⊎ (status ≡ 6)
    → IsStatus (Some form) status
read_status form status does e3 = search arith

pub made_status : (form : Form) (status : ℕ) → IsAnswerStatus (Some form) status ⊎ (status ≡ 6)
    → IsStatus (Some form) status
made_status form status e2 = search arith

-- `check`
pub checked_status : (said : Option Form) (status : ℕ) → said ≡ Some asked.Check → (status ≤ 2)
    ⊎ (status ≡ 4) ⊎ (status ≡ 5) ⊎ (status ≡ 6) → IsStatus said status
checked_status said status is why = search arith

pub checked_untouched : (said : Option Form) → said ≡ Some asked.Check → reads said ≡ false → ⊥
checked_untouched said is isnt = differ (sym (ap reads is) ∙ isnt)

pub checked_answer : (said : Option Form) (input before after : Option (List ℕ)) (status : ℕ)
    → said ≡ Some asked.Check
    → (status ≤ 2 → IsAnswered most_lines input status before after)
    → IsAnswerStatus said status → HasAnswered said input status before after
checked_answer said input before after status is answer answered = search arith

pub checked_in_part : (said : Option Form) (input before after : Option (List ℕ))
    → said ≡ Some asked.Check
    → IsAnsweredInPart most_lines input before after → HasAnsweredInPart said input before after
checked_in_part said input before after is part = search arith

pub checked_enough : (said : Option Form) (before after : SourceKnown) (status : ℕ)
    → said ≡ Some asked.Check
    → (status ≤ 2 → IsSettled most_lines before after) → IsAnswerStatus said status
    → IsEnough said status before after
checked_enough said before after status is enough answered = search arith

pub line_fits : (said : Option Form) (input : Option (List ℕ)) (room : ℕ) → said ≡ Some asked.Check
    → HasRoom said input room
    → HasRoomForAnswer most_lines input room
line_fits said input room is fits = λ status text judged. subst (λ said. HasRoom said input room) is
    fits status text judged

-- words that are none of the forms
pub usage_status : (said : Option Form) (status : ℕ) → said ≡ None → (status ≡ 3) ⊎ (status ≡ 5)
    → IsStatus said status
usage_status said status is why = search arith

pub usage_answer : (said : Option Form) (input before after : Option (List ℕ)) (status : ℕ)
    → said ≡ None
    → (status ≡ 3 → Appends before after usage_line) → IsAnswerStatus said status
    → HasAnswered said input status before after
usage_answer said input before after status is written answered = search arith

pub usage_in_part : (said : Option Form) (input before after : Option (List ℕ)) → said ≡ None
    → AppendsFront before after usage_line
    → HasAnsweredInPart said input before after
usage_in_part said input before after is written = search arith

pub usage_fits : (said : Option Form) (input : Option (List ℕ)) (room : ℕ) → said ≡ None
    → HasRoom said input room → length usage_line ≤ room
usage_fits said input room is fits = subst (λ said. HasRoom said input room) is fits 3 usage_line
    refl
