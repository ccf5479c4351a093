-- What a piece that was read and judged makes of what is kept.
use Rattle.vyrd_own_check.proofs.Prelude
use Prelude.{◌≡◌, ℕ, ◌+◌, ◌≤◌, ◌^◌, true, false, ◌||◌, List, [], ◌++◌, length, length-append}
use Prelude.{Option, Some, None, refl, ap, subst, ◌∙◌, sym, arith, option_map, option_or, ∥∥₁_elim}
use Prelude.{Bool-set, Header, Subject, Own, Entry, Verdict, Malformed, do_follow, is_built_in}
use Prelude.{has_any, told_in_text, own_text_verdict_so_far, at_most_of, is_at_most, IsLimit}
use Prelude.{header_at, has_ended, ReaderState, HasRead, IsGrownBy, reading_grown, reading_formed}
use Prelude.{JudgeView, read_so_far, IsJudging, IsReady, IsBegun, HasRoom, OwnCheckerKept, limit_of}
use Prelude.{IsUndecided, IsSomewhere, untold_in, bytes_cost, judge_owes, following_cost, kept_debt}
use Rattle.vyrd_own_check.proofs.ReadingFacts.{known_so_far}
use Rattle.vyrd_own_check.proofs.PieceLaws.{judge_before, has_room}
use Rattle.vyrd_own_check.proofs.CostLaws.{piece_paid}

-- a piece was read, and the judge is there if it may be
pub record Fed (old : OwnCheckerKept) (reader : ReaderState) (begun : Option JudgeView)
    (piece : List ℕ)
    (entries : List Entry) (numbers : List ℕ)
    (fault : Option Verdict) : Type 0 where
  pub limit : reader.kept.lines.max_lines ≡ limit_of old
  pub read : (bytes : List ℕ) → HasRead old.reader bytes → HasRead reader (bytes ++ piece)
  pub grown : (bytes : List ℕ) → HasRead old.reader bytes
      → IsGrownBy [] (read_so_far (limit_of old) bytes).entries entries
      (read_so_far (limit_of old) (bytes ++ piece)).entries
  pub counted : (bytes : List ℕ) → HasRead old.reader bytes
      → IsGrownBy old.numbers (read_so_far (limit_of old) bytes).numbers numbers
      (read_so_far (limit_of old) (bytes ++ piece)).numbers
  pub faulty : (bytes : List ℕ) → HasRead old.reader bytes
      → fault ≡ option_map (λ fault. Malformed fault.line fault.rule)
      (read_so_far (limit_of old) (bytes ++ piece)).fault
  pub judge : IsBegun (has_any entries || has_ended reader.kept.lines.stage)
      (header_at reader.kept.lines.stage) reader.kept.specified
      reader.kept.start old.judge begun

-- what grew from nothing, behind what was there
pub grown_on : {A : Type 0} (old brought all : List A) {x y : List A} → all ≡ old ++ brought
    → IsGrownBy [] x brought y → IsGrownBy old x all y
grown_on old brought all is grown = grind (arith, grown.more, grown.one, grown.other)

-- there is room for the numbers of lines that the piece brings
pub numbers_room : (old : OwnCheckerKept) (piece brought : List ℕ) → IsLimit (limit_of old)
    → ((bytes : List ℕ) → HasRead old.reader bytes
    → IsGrownBy [] (read_so_far (limit_of old) bytes).numbers brought
    (read_so_far (limit_of old) (bytes ++ piece)).numbers)
    → IsSomewhere old → length old.numbers + length brought ≤ 2 ^ 62
numbers_room old piece brought limit grows somewhere = at_most_of _ _
    (∥∥₁_elim somewhere (Bool-set _ _) (λ s.
    is_at_most _ _ (few s.0 s.1)))
  where
    few : (bytes : List ℕ) → IsUndecided old bytes → length old.numbers + length brought ≤ 2 ^ 62
    few bytes u =
        let max = limit_of old in
        let formed = reading_formed max (bytes ++ piece) limit.low limit.high in
        let grown = grows bytes u.read in
        omega (
          arith,
          formed.few,
          ap length u.numbers,
          ap length grown.one,
          ap length grown.other,
          length-append (read_so_far max bytes).numbers grown.more,
          limit.high,
        )

own_of : (s : Subject) → is_built_in s ≡ false → s ≡ Own
own_of s e = grind arith

module _ (old : OwnCheckerKept) (reader : ReaderState) (piece : List ℕ)
    (limit : IsLimit (limit_of old))
    (within : reader.kept.lines.max_lines ≡ limit_of old)
    (reads : (bytes : List ℕ) → HasRead old.reader bytes → HasRead reader (bytes ++ piece))
    (somewhere : IsSomewhere old) where
  bounds : IsLimit reader.kept.lines.max_lines
  bounds = subst IsLimit (sym within) limit

  -- the header that the reader keeps is that of a subject of the user's own
  pub fed_own : (h : Header) → header_at reader.kept.lines.stage ≡ Some h → h.subject ≡ Own
  fed_own h has = own_of h.subject (∥∥₁_elim somewhere (Bool-set _ _) (λ s.
      ap is_built_in
      ((reading_formed reader.kept.lines.max_lines (s.0 ++ piece) bounds.low bounds.high).header h
      (sym (reads s.0 s.1.read).header ∙ has)).0))

  -- the starting words that the reader keeps are in the header's ranges, and rise
  pub fed_follows : (h : Header) → header_at reader.kept.lines.stage ≡ Some h
      → do_follow h None reader.kept.start ≡ true
  fed_follows h has = ∥∥₁_elim somewhere (Bool-set _ _) (λ s.
      let read = reads s.0 s.1.read in
      ap (do_follow h _) read.start
      ∙ ((reading_formed _ _ bounds.low bounds.high).header h (sym read.header ∙ has)).1)

-- what the reader keeps is what the bytes with the piece say, up to the old limit
record IsReadTo (reader : ReaderState) (bytes : List ℕ) (max : ℕ) : Type 0 where
  header : header_at reader.kept.lines.stage ≡ (read_so_far max bytes).header
  lines : reader.kept.specified ≡ (read_so_far max bytes).lines
  start : reader.kept.start ≡ (read_so_far max bytes).starting
  ended : has_ended reader.kept.lines.stage ≡ (read_so_far max bytes).ended

read_to : (reader : ReaderState) (bytes : List ℕ) (max : ℕ) → reader.kept.lines.max_lines ≡ max
    → HasRead reader bytes → IsReadTo reader bytes max
read_to reader bytes max limit read = grind (arith, read.header, read.lines, read.start, read.ended)

paid_then : (owes begun moves before was now n m later : ℕ) → later ≡ owes
    → begun + moves + was ≤ before + now → n + owes ≤ m + begun + moves
    → n + later + was ≤ m + before + now
paid_then owes begun moves before was now n m later same paid taken = grind arith

module _ (old : OwnCheckerKept) (reader : ReaderState) (begun : Option JudgeView) (piece : List ℕ)
    (entries : List Entry) (numbers : List ℕ)
    (fault : Option Verdict) (fed : Fed old reader begun piece entries numbers fault) where
  -- the judge is ready for the entries of the piece
  pub fed_ready : IsLimit (limit_of old) → (bytes : List ℕ) → IsUndecided old bytes
      → IsReady begun (read_so_far (limit_of old) (bytes ++ piece))
      (read_so_far (limit_of old) bytes).entries entries (has_ended reader.kept.lines.stage)
  fed_ready limit bytes u =
      let max = limit_of old in
      let was = read_so_far max bytes in
      let is = read_so_far max (bytes ++ piece) in
      let read = read_to reader (bytes ++ piece) max fed.limit (fed.read bytes u.read) in
      let grown = fed.grown bytes u.read in
      let all : is.entries ≡ was.entries ++ entries = cc (grown.other, grown.one) in
      let judge : IsBegun (has_any entries || is.ended) is.header is.lines is.starting old.judge
      begun = rw (← read.ended, ← read.header, ← read.lines, ← read.start) fed.judge in
      record {
        before = judge_before old.judge begun was is entries u.judging
            (reading_grown max false bytes piece limit.low limit.high)
            (reading_formed max (bytes ++ piece) limit.low limit.high).headless all judge;
        entries = all;
        ended = sym read.ended;
      }

  -- there is room for the entries of the piece
  pub fed_room : IsLimit (limit_of old) → IsSomewhere old → HasRoom begun entries
  fed_room limit somewhere = by_judge begun refl
    where
      max : ℕ
      max = limit_of old

      room : (bytes : List ℕ) → IsUndecided old bytes → HasRoom begun entries
      room bytes u =
          let ready = fed_ready limit bytes u in
          let formed = reading_formed max (bytes ++ piece) limit.low limit.high in
          let parted = ap length ready.entries in
          has_room begun (read_so_far max (bytes ++ piece)) (read_so_far max bytes).entries entries
          ready.before (omega (arith, formed.few, formed.numbered, parted, limit.high))

      by_judge : (o : Option JudgeView) → begun ≡ o → HasRoom o entries
      by_judge None is = tt
      by_judge (Some j) is = at_most_of _ _ (∥∥₁_elim somewhere (Bool-set _ _) (λ s.
          is_at_most _ _ (subst (λ o. HasRoom o entries) is (room s.0 s.1))))

  -- the numbers of lines are those of the bytes with the piece
  fed_numbers : (bytes : List ℕ) → IsUndecided old bytes
      → numbers ≡ (read_so_far (limit_of old) (bytes ++ piece)).numbers
  fed_numbers bytes u = search arith

  -- the answer is the verdict so far
  pub fed_answer : (wrong : Option Verdict) (bytes : List ℕ) → IsUndecided old bytes
      → wrong ≡ untold_in (read_so_far (limit_of old) (bytes ++ piece))
      → option_or (option_map (told_in_text numbers) wrong) fault ≡ own_text_verdict_so_far
      (limit_of old) (bytes ++ piece)
  fed_answer wrong bytes u wrong_is = search (known_so_far, fed_numbers, arith)

  -- without a verdict what is kept goes on
  pub fed_undecided : (after : Option JudgeView) (bytes : List ℕ) → IsUndecided old bytes
      → IsJudging after (read_so_far (limit_of old) (bytes ++ piece))
      → own_text_verdict_so_far (limit_of old) (bytes ++ piece) ≡ None
      → IsUndecided (record { reader = reader; judge = after; numbers = numbers }) (bytes ++ piece)
  fed_undecided after bytes u judging nothing = record {
    read = fed.read _ u.read;
    judging = rw fed.limit judging;
    numbers = cc (fed_numbers bytes u, fed.limit);
    nothing = cc fed.limit;
  }

  -- what a piece that was read and judged has cost is paid
  pub fed_paid : IsLimit (limit_of old) → has_ended old.reader.kept.lines.stage ≡ false
      → (after : Option JudgeView) (bytes : List ℕ) → IsUndecided old bytes → (m n : ℕ)
      → n + judge_owes after (read_so_far (limit_of old) (bytes ++ piece)).entries
      ≤ m + judge_owes begun (read_so_far (limit_of old) bytes).entries
      + following_cost begun entries (has_ended reader.kept.lines.stage)
      → n + kept_debt (record { reader = reader; judge = after; numbers = numbers })
      (bytes ++ piece)
      + bytes_cost (limit_of old) bytes
      ≤ m + kept_debt old bytes + bytes_cost (limit_of old) (bytes ++ piece)
  fed_paid limit going after bytes u m n taken =
      search (read_to, has_any, reading_grown, fed_ready, paid_then, piece_paid, arith)
