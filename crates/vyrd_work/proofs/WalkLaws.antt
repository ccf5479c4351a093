-- Lines are read one after the other.
use Rattle.vyrd_work.proofs.Prelude
use Prelude.{◌≡◌, ℕ, ◌+◌, Bool, true, false, cond, List, [], ◌∷◌, ◌++◌, Result, Ok, Err, refl, ap}
use Prelude.{sym, ◌∙◌, ◌==◌, onto_first, bytes_eq, bytes_eq-Decides, end_line, cut, lacks, split_at}
use Prelude.{split_whole, bytes_same, parts_of, WorkRule, AfterEnd, BadHeader, BadLine, WorkFault}
use Prelude.{Refused, Memory, Workload, IsRefusal, IsRefusedAt, Refusal, refused, line_read}
use Prelude.{first_read, unfinished_rule, ended, lines_read, text_read, work_reading}

-- what is read after a line
abbrev pub then_lines : ℕ → List (List ℕ) → Result Workload WorkRule → Result Workload Refusal
then_lines n lines read = elim read as (λ _. Result Workload Refusal) [
  | Ok more ↦ lines_read more
      (n + 1) lines
  | Err rule ↦ refused n rule
]

-- a later line, then the others
pub lines_step : (w : Workload) (n : ℕ) (line more : List ℕ) → lacks 10 line ≡ true
    → lines_read w n (cut (line ++ 10 ∷ more))
    ≡ cond (bytes_eq line end_line) (ended w (n + 1) (cut more))
    (then_lines n (cut more) (line_read w line))
lines_step w n line more lack = cc (split_at 10 line more lack, (parts_of more).2)

-- the line `end`, then the others
pub end_found : (w : Workload) (n : ℕ) (line more : List ℕ) → lacks 10 line ≡ true → line ≡ end_line
    → lines_read w n (cut (line ++ 10 ∷ more)) ≡ ended w (n + 1) (cut more)
end_found w n line more lack e = cc (lines_step w n line more lack, bytes_same end_line)

-- another line, then the others
pub line_found : (w : Workload) (n : ℕ) (line more : List ℕ) → lacks 10 line ≡ true
    → ¬ (line ≡ end_line)
    → lines_read w n (cut (line ++ 10 ∷ more)) ≡ then_lines n (cut more) (line_read w line)
line_found w n line more lack other =
    cc (lines_step w n line more lack, by_test (bytes_eq line end_line) refl)
  where
    by_test : (b : Bool) → bytes_eq line end_line ≡ b → b ≡ false
    by_test true e = absurd (other ((bytes_eq-Decides line end_line).0 e))
    by_test false e = refl

-- the refusal of a line is that of the lines from there on
pub refusal_at : (n : ℕ) (fault : WorkFault) (read : Result Workload WorkRule)
    (lines : List (List ℕ)) (whole : Result Workload Refusal)
    → whole ≡ then_lines n lines read → IsRefusedAt n fault read → IsRefusal fault whole
refusal_at n (Refused line rule) read lines whole e is = cc (is.1, is.0)
refusal_at n Memory read lines whole e is = tt

-- the last bytes
pub lines_last : (w : Workload) (n : ℕ) (rest : List ℕ) → lacks 10 rest ≡ true
    → lines_read w n (cut rest) ≡ refused n (unfinished_rule BadLine rest)
lines_last w n rest lack = ap (lines_read w n) (split_whole 10 rest lack)

-- the first line, then the others
pub first_step : (line more : List ℕ) → lacks 10 line ≡ true
    → work_reading (line ++ 10 ∷ more)
    ≡ elim (first_read line) as (λ _. Result Workload Refusal) [
      | Ok w ↦ lines_read w 2
          (cut more)
      | Err rule ↦ refused 1 rule
    ]
unfolding work_reading
first_step line more lack =
    let p = parts_of more in
    ap text_read (split_at 10 line more lack ∙ ap (λ ps. line ∷ ps) p.2)
    ∙ ap (λ ps. elim (first_read line) as (λ _. Result Workload Refusal) [
      | Ok w ↦ lines_read w 2
          ps
      | Err rule ↦ refused 1 rule
    ]) (sym p.2)

-- and so is that of the first line
pub refusal_first : (fault : WorkFault) (line more : List ℕ) → lacks 10 line ≡ true
    → IsRefusedAt 1 fault (first_read line)
    → IsRefusal fault (work_reading (line ++ 10 ∷ more))
refusal_first (Refused n rule) line more lack is = cc (first_step line more lack, is.1, is.0)
refusal_first Memory line more lack is = tt

pub first_last : (bytes : List ℕ) → lacks 10 bytes ≡ true → work_reading bytes
    ≡ refused 1 (unfinished_rule BadHeader bytes)
unfolding work_reading
first_last bytes lack = ap text_read (split_whole 10 bytes lack)

-- something after `end`
pub more_after : (w : Workload) (n : ℕ) (rest : List ℕ) → ¬ (rest ≡ []) → ended w n (cut rest)
    ≡ refused n AfterEnd
more_after w n [] some = absurd (some refl)
more_after w n (b ∷ rest) some = by_byte (b == 10)
  where
    onto : (ps : List (List ℕ)) → ended w n (onto_first b ps) ≡ refused n AfterEnd
    onto [] = refl
    onto (p ∷ ps) = refl

    by_byte : (t : Bool) → ended w n (cond t ([] ∷ cut rest) (onto_first b (cut rest)))
        ≡ refused n AfterEnd
    by_byte true = let p = parts_of rest in ap (λ ps. ended w n ([] ∷ ps)) p.2
    by_byte false = onto (cut rest)
