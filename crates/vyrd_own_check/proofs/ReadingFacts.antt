-- What is known of bytes, by what is wrong with what was read.
use Rattle.vyrd_own_check.proofs.Prelude
use Prelude.{◌≡◌, ℕ, true, false, cond, List, Option, Some, None, refl, ap, ◌∙◌, sym, unwrap_or}
use Prelude.{option_map, option_and_then, option_or, Charter, rules_by, Rule, Verdict, Malformed}
use Prelude.{verdict_so_far, end_verdict, accepted, verdict, OwnReading, told_in_text}
use Prelude.{own_entries_verdict, known_own_verdict, own_text_verdict, own_text_verdict_so_far}
use Prelude.{read_so_far, read_whole, charter_in, untold_by, untold_in}
use Rattle.vyrd_own_check.proofs.LastLaws.{told_is, known_is}

-- what is known of bytes is what is wrong with what was read, or otherwise their fault of text
pub known_so_far : (max : ℕ) (bytes numbers : List ℕ) (wrong fault : Option Verdict)
    → numbers ≡ (read_so_far max bytes).numbers
    → wrong ≡ untold_in (read_so_far max bytes)
    → fault ≡ option_map (λ fault. Malformed fault.line fault.rule) (read_so_far max bytes).fault
    → option_or (option_map (told_in_text numbers) wrong) fault ≡ own_text_verdict_so_far max bytes
unfolding own_text_verdict_so_far
known_so_far max bytes numbers wrong fault numbered wrong_is fault_is =
    cc (known_is (read_so_far max bytes))

pub first_none : {A : Type 0} (a b : Option A) → option_or a b ≡ None → a ≡ None
first_none None b e = refl
first_none (Some x) b e = cc

-- nothing that is told is nothing
pub none_told : (f : Verdict → Verdict) (o : Option Verdict) → option_map f o ≡ None → o ≡ None
none_told f None e = refl
none_told f (Some v) e = cc

module _ (max : ℕ) (bytes : List ℕ) (nothing : own_text_verdict_so_far max bytes ≡ None) where
  abbrev read : OwnReading
  read = read_so_far max bytes

  entries_right : option_and_then (own_entries_verdict (read_so_far max bytes))
      (read_so_far max bytes).header ≡ None
  unfolding own_text_verdict_so_far
  entries_right = first_none _ _ nothing

  pub untold_right : untold_in read ≡ None
  untold_right = none_told (told_in_text _) _ (sym (told_is read) ∙ entries_right)

  -- if `end` was read and nothing is wrong, the log is accepted
  ended_right : (l : Charter) → charter_in read ≡ Some l → read.ended ≡ true
      → verdict (rules_by l) read.starting read.entries ≡ accepted read.entries
  unfolding verdict
  ended_right l named done =
      let none : option_or (verdict_so_far (rules_by l) read.starting read.entries)
      (end_verdict (rules_by l) read.starting read.entries) ≡ None =
      ap (λ b. option_or (verdict_so_far (rules_by l) read.starting read.entries)
      (cond b (end_verdict (rules_by l) read.starting read.entries) None)) (sym done)
      ∙ ap (option_and_then (untold_by read)) (sym named) ∙ untold_right in
      ap (λ o. unwrap_or o (accepted read.entries)) none

  -- the whole input says what its bytes say so far, except for the fault
  module _ (alike : read_whole max bytes
      ≡ record (read_so_far max bytes) { fault = (read_whole max bytes).fault }) where
    -- The verdict about the bytes as the whole input is their fault of text, or otherwise
    -- acceptance.
    whole_right : own_text_verdict max bytes
        ≡ unwrap_or (option_map (λ fault. Malformed fault.line fault.rule)
        (read_whole max bytes).fault) (accepted read.entries)
    unfolding own_text_verdict
    whole_right =
        ap (λ (x : OwnReading). unwrap_or (known_own_verdict x) (accepted x.entries)) alike
        ∙ ap (λ o. unwrap_or
        (option_or o
        (option_map (λ fault. Malformed fault.line fault.rule) (read_whole max bytes).fault))
        (accepted read.entries))
        entries_right

    pub whole_faulty : (line : ℕ) (rule : Rule) → (read_whole max bytes).fault
        ≡ Some (record { line = line; rule = rule })
        → Malformed line rule ≡ own_text_verdict max bytes
    whole_faulty line rule fault = sym (whole_right
        ∙ ap (λ o. unwrap_or (option_map (λ fault. Malformed fault.line fault.rule) o)
        (accepted read.entries)) fault)

    pub whole_accepted : (l : Charter) → (read_whole max bytes).fault ≡ None
        → (read_whole max bytes).ended ≡ true → charter_in read ≡ Some l
        → verdict (rules_by l) read.starting read.entries ≡ own_text_verdict max bytes
    whole_accepted l fault done named =
        ended_right l named (sym (ap (λ (x : OwnReading). x.ended) alike) ∙ done)
        ∙ sym (whole_right
        ∙ ap (λ o. unwrap_or (option_map (λ fault. Malformed fault.line fault.rule) o)
        (accepted read.entries)) fault)

-- if `end` isn't read so far, it isn't in the whole input either
pub not_ended : (max : ℕ) (bytes : List ℕ) → read_whole max bytes
    ≡ record (read_so_far max bytes) { fault = (read_whole max bytes).fault }
    → (read_so_far max bytes).ended ≡ false → (read_whole max bytes).ended ≡ true → ⊥
not_ended max bytes alike none done = never (sym none ∙ sym (cc) ∙ done)
  where
    never : false ≡ true → ⊥
    never e = cc
