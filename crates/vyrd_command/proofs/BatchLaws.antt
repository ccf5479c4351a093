-- What was read of an input says the logs of the whole input, and what is judged of it while it is
-- read.
use Rattle.vyrd_command.proofs.Prelude
use Prelude.{◌≡◌, ℕ, ◌+◌, ◌*◌, ◌≤◌, List, ◌++◌, length, refl, sym, subst, arith, length-append}
use Prelude.{append_assoc, append-nil, IfSome, Result, Ok, Err, IfOk, SourceKnown, Verdict}
use Prelude.{batch_logs, batch_of, verdicts_of, batch_text, batch_status, longest_batch_input}
use Prelude.{logs_are_settled, read_batch_is_text, BatchView, IsJudged, IsSpent, round_cost}
use Prelude.{judged_longer, Answer, taken_more, IsInputRead, IsMoreRead, IsFewTaken, IsBatchAnswer}
use Prelude.{IsReading, round_bytes, IsSinceRound, IsReadFor, IsTakenFor, whole_input, long_refused}

pub logs_are_input : (before after : SourceKnown) (bytes : List ℕ)
    → IsInputRead longest_batch_input before after bytes
    → IfSome before.rest (λ input. batch_logs bytes ≡ batch_logs input)
logs_are_input before after bytes is = whole_input batch_logs longest_batch_input before after bytes
    (λ more long. logs_are_settled bytes more (omega (arith, long))) is

-- one more read
pub reading_more : (before between after : SourceKnown) (judge : BatchView) (old new : List ℕ)
    (count n most : ℕ)
    → IsReading before between judge old count → IsMoreRead most between after old new n
    → IsReading before after judge new (count + n)
reading_more before between after judge old new count n most r m = record {
  taken = r.taken ++ m.piece;
  told = taken_more before.rest between.rest after.rest r.taken m.piece r.told m.told;
  judged = subst (IsJudged (r.taken ++ m.piece) judge) (sym m.grown)
      (judged_longer judge.refused r.taken old m.piece judge.verdicts judge.place r.judged);
  many = omega (arith, length-append r.taken m.piece, r.many, m.many);
}

-- one more round
pub reading_judged : (before now : SourceKnown) (old new : BatchView) (bytes rest : List ℕ)
    (count : ℕ) → IsReading before now old bytes count
    → ((input : List ℕ) → IsJudged input old bytes → IsJudged input new rest)
    → IsReading before now new rest count
reading_judged before now old new bytes rest count r judged = search arith

pub few_read : (before now : SourceKnown) (judge : BatchView) (rest : List ℕ) (count : ℕ)
    → IsReading before now judge rest count
    → count ≤ longest_batch_input → IsFewTaken longest_batch_input before now
few_read before now judge rest count r few = (r.taken, r.told, omega (arith, r.many, few))

-- the answer tells the verdicts about the logs of the input
pub verdicts_told : {E : Type 0} (input : List ℕ) (verdicts : List Verdict) (r : Result Answer E)
    → (logs : List (List ℕ)) × (batch_logs input ≡ Ok logs) × (verdicts ≡ verdicts_of logs)
    → IfOk r (λ answer. answer.status ≡ batch_status verdicts)
    → IfOk r (λ answer. answer.text.items ≡ batch_text verdicts)
    → IfOk r (λ answer. IsBatchAnswer (batch_logs input) answer.status answer.text.items)
verdicts_told input verdicts r found status text = search arith

-- a batch as long as can be read is refused
pub batch_refused : (bytes : List ℕ) (status : ℕ) (text : List ℕ)
    → IsBatchAnswer (batch_logs bytes) status text
    → length bytes ≡ longest_batch_input → status ≡ 11
batch_refused bytes status text answer long = by_reading (batch_logs bytes) refl answer
  where
    by_reading : (r : Result (List (List ℕ)) ℕ) → batch_logs bytes ≡ r → IsBatchAnswer r status text
        → status ≡ 11
    by_reading (Err log) e answer = answer.0
    by_reading (Ok logs) e answer =
        absurd (long_refused batch_logs bytes batch_of read_batch_is_text
        (λ more. logs_are_settled bytes more (omega (arith, long))) logs e)

-- one more read
pub since_more : (between after : SourceKnown) (judge : BatchView) (old new : List ℕ)
    (next count n most : ℕ) → IsSinceRound judge old next count
    → IsMoreRead most between after old new n → IsSinceRound judge new next (count + n)
since_more between after judge old new next count n most s m = record {
  left = s.left;
  fresh = s.fresh ++ m.piece;
  bytes_are = cc (m.grown, s.bytes_are, append_assoc s.left s.fresh m.piece);
  spent = s.spent;
  many = omega (arith, length-append s.fresh m.piece, s.many, m.many);
  late = s.late;
}

-- a round is paid for by the bytes that came before it
pub round_paid : (judge : BatchView) (bytes : List ℕ) (next count old new : ℕ)
    (s : IsSinceRound judge bytes next count) → next ≤ length bytes
    → new ≤ old + round_cost (length s.fresh) → new ≤ old + 4 * count
round_paid judge bytes next count old new s long steps = grind (arith, count, long, length-append)

-- and nothing came since then
pub since_none : (judge : BatchView) (bytes : List ℕ) (next : ℕ) → IsSpent judge bytes
    → length bytes + round_bytes ≤ next
    → IsSinceRound judge bytes next 0
since_none judge bytes next spent late = grind (arith, append-nil bytes)

-- the steps of what was taken so far
pub steps_for : (before now : SourceKnown) (judge : BatchView) (rest : List ℕ) (count old new : ℕ)
    → IsReading before now judge rest count
    → count ≤ longest_batch_input → new ≤ old + 4 * count → IsTakenFor old new before now
steps_for before now judge rest count old new r few steps = grind (arith, r.taken, r.told, r.many)

-- and with those of the last round
pub taken_for : (before now : SourceKnown) (judge : BatchView) (rest : List ℕ) (old between new : ℕ)
    (r : IsReadFor before now judge rest old between)
    → new ≤ between + round_cost (length r.fresh) → IsTakenFor old new before now
taken_for before now judge rest old between new r steps = search arith
