-- Lines are read one after the other.
use Rattle.vyrd_mover.proofs.Prelude
use Prelude.{◌≡◌, ℕ, ◌+◌, ◌<◌, ◌≤◌, Bool, true, false, cond, List, [], ◌∷◌, ◌++◌, Result, Ok, Err}
use Prelude.{refl, ap, ◌==◌, nat_lt, onto_first, bytes_eq, bytes_eq-Decides, end_line, cut, lacks}
use Prelude.{split_at, split_whole, bytes_same, is_below, isnt_below, parts_of, HistoryRule}
use Prelude.{TooManyLines, AfterEnd, BadHeader, BadLine, HistoryFault, Refused, Memory, Recorded}
use Prelude.{IsRefusal, IsRefusedAt, Refusal, refused, line_read, first_read, unfinished_rule}
use Prelude.{unless_too_many, ended, lines_read, text_read, history_reading}

-- what is read after a line
abbrev pub then_lines : ℕ → List (List ℕ) → Result Recorded HistoryRule → Result Recorded Refusal
then_lines n lines read = elim read as (λ _. Result Recorded Refusal) [
  | Ok more ↦ lines_read more
      (n + 1) lines
  | Err rule ↦ refused n rule
]

-- a later line, then the others
pub lines_step : (r : Recorded) (n : ℕ) (line more : List ℕ) → lacks 10 line ≡ true
    → lines_read r n (cut (line ++ 10 ∷ more))
    ≡ cond (nat_lt 4000000 n) (refused n TooManyLines)
    (cond (bytes_eq line end_line) (ended r (n + 1) (cut more))
    (then_lines n (cut more) (line_read r line)))
lines_step r n line more lack = cc (split_at 10 line more lack, (parts_of more).2)

-- a line too many
pub too_many : (r : Recorded) (n : ℕ) (line more : List ℕ) → lacks 10 line ≡ true → 4000000 < n
    → lines_read r n (cut (line ++ 10 ∷ more)) ≡ refused n TooManyLines
too_many r n line more lack high = cc (lines_step r n line more lack, is_below 4000000 n high)

-- a line within the limit, then the others
few_step : (r : Recorded) (n : ℕ) (line more : List ℕ) → lacks 10 line ≡ true → n ≤ 4000000
    → lines_read r n (cut (line ++ 10 ∷ more)) ≡ cond (bytes_eq line end_line)
    (ended r (n + 1) (cut more)) (then_lines n (cut more) (line_read r line))
few_step r n line more lack low = cc (lines_step r n line more lack, isnt_below 4000000 n low)

-- the line `end`, then the others
pub end_found : (r : Recorded) (n : ℕ) (line more : List ℕ) → lacks 10 line ≡ true → n ≤ 4000000
    → line ≡ end_line
    → lines_read r n (cut (line ++ 10 ∷ more)) ≡ ended r (n + 1) (cut more)
end_found r n line more lack low e = cc (few_step r n line more lack low, bytes_same end_line)

-- another line, then the others
pub line_found : (r : Recorded) (n : ℕ) (line more : List ℕ) → lacks 10 line ≡ true → n ≤ 4000000
    → ¬ (line ≡ end_line)
    → lines_read r n (cut (line ++ 10 ∷ more)) ≡ then_lines n (cut more) (line_read r line)
line_found r n line more lack low other =
    cc (few_step r n line more lack low, by_test (bytes_eq line end_line) refl)
  where
    by_test : (b : Bool) → bytes_eq line end_line ≡ b → b ≡ false
    by_test true e = absurd (other ((bytes_eq-Decides line end_line).0 e))
    by_test false e = refl

-- the refusal of a line is that of the lines from there on
pub refusal_at : (n : ℕ) (fault : HistoryFault) (read : Result Recorded HistoryRule)
    (lines : List (List ℕ)) (whole : Result Recorded Refusal)
    → whole ≡ then_lines n lines read → IsRefusedAt n fault read → IsRefusal fault whole
refusal_at n (Refused line rule) read lines whole e is = cc (is.1, is.0)
refusal_at n Memory read lines whole e is = tt

-- the last bytes
pub lines_last : (r : Recorded) (n : ℕ) (rest : List ℕ) → lacks 10 rest ≡ true
    → lines_read r n (cut rest) ≡ refused n (unfinished_rule n BadLine rest)
lines_last r n rest lack = ap (lines_read r n) (split_whole 10 rest lack)

-- what follows the first line
abbrev pub after_first : List (List ℕ) → Result Recorded HistoryRule → Result Recorded Refusal
after_first lines read =
    elim read as (λ _. Result Recorded Refusal) [
      | Ok r ↦ lines_read r 2 lines
      | Err rule ↦ refused 1
          rule
    ]

-- the first line, then the others
pub first_step : (line more : List ℕ) → lacks 10 line ≡ true → history_reading (line ++ 10 ∷ more)
    ≡ after_first (cut more) (first_read line)
unfolding history_reading
first_step line more lack =
    let p = parts_of more in
    cc (split_at 10 line more lack, p.2)

-- and so is that of the first line
pub refusal_first : (fault : HistoryFault) (line more : List ℕ) → lacks 10 line ≡ true
    → IsRefusedAt 1 fault (first_read line)
    → IsRefusal fault (history_reading (line ++ 10 ∷ more))
refusal_first (Refused n rule) line more lack is =
    cc (first_step line more lack, is.1, is.0)
refusal_first Memory line more lack is = tt

pub first_last : (bytes : List ℕ) → lacks 10 bytes ≡ true → history_reading bytes
    ≡ refused 1 (unfinished_rule 1 BadHeader bytes)
unfolding history_reading
first_last bytes lack = ap text_read (split_whole 10 bytes lack)

-- something after `end`
pub more_after : (r : Recorded) (n : ℕ) (rest : List ℕ) → ¬ (rest ≡ []) → ended r n (cut rest)
    ≡ refused n (unless_too_many n AfterEnd)
more_after r n [] some = absurd (some refl)
more_after r n (b ∷ rest) some = by_byte (b == 10)
  where
    onto : (ps : List (List ℕ)) → ended r n (onto_first b ps)
        ≡ refused n (unless_too_many n AfterEnd)
    onto [] = refl
    onto (p ∷ ps) = refl

    by_byte : (t : Bool) → ended r n (cond t ([] ∷ cut rest) (onto_first b (cut rest)))
        ≡ refused n (unless_too_many n AfterEnd)
    by_byte true = let p = parts_of rest in ap (λ ps. ended r n ([] ∷ ps)) p.2
    by_byte false = onto (cut rest)
