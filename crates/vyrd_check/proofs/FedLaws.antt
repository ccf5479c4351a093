-- What a piece that was read and judged makes of what is kept.
use Rattle.vyrd_check.proofs.Prelude
use Prelude.{◌≡◌, ℕ, ◌+◌, ◌≤◌, true, false, ◌||◌, List, [], ◌++◌, length, Option, Some, None, refl}
use Prelude.{ap, subst, ◌∙◌, sym, arith, option_map, option_or, ∥∥₁_elim, Header, Entry, Verdict}
use Prelude.{Malformed, is_built_in, Reading, has_any, text_verdict_so_far, TextGrown}
use Prelude.{reading_grows, input_of, IsLimit, ReaderState, HasRead, JudgeView, read_so_far}
use Prelude.{IsJudging, IsReady, IsBegun, HasRoom, CheckerKept, IsUndecided, IsSomewhere, wrong_in}
use Prelude.{has_begun, bytes_cost, judge_owes, following_cost, kept_debt}
use Rattle.std.proofs.lemmas.Bool.{or_right}
use Rattle.std.proofs.Math.Bool.{Bool-set}
use Rattle.vyrd_base.specs.Starts.{may_start}
use Rattle.vyrd_base.proofs.ReadingSound.{reading_writable}
use Rattle.vyrd_base.proofs.TestLaws.{at_most_of, is_at_most}
use Rattle.vyrd_text.specs.Answered.{IsGrownBy}
use Rattle.vyrd_check.proofs.ReadingFacts.{entries_few, headless_empty, text_right, known_so_far}
use Rattle.vyrd_check.proofs.ReadingFacts.{entries_right}
use Rattle.vyrd_check.proofs.PieceLaws.{judge_before, has_room}
use Rattle.vyrd_check.proofs.CostLaws.{piece_paid, bytes_more}
use Rattle.vyrd_check.proofs.BuiltInLaws.{reading_built_in}

-- a piece was read, and the judge is there if it may be
pub record Fed (old : CheckerKept) (reader : ReaderState) (begun : Option JudgeView)
    (piece : List ℕ)
    (entries : List Entry) (fault : Option Verdict) : Type 0 where
  pub limit : reader.max_lines ≡ old.reader.max_lines
  pub read : (bytes : List ℕ) → HasRead old.reader bytes → HasRead reader (bytes ++ piece)
  pub grown : (bytes : List ℕ) → HasRead old.reader bytes
      → IsGrownBy [] (read_so_far old.reader.max_lines bytes).entries entries
      (read_so_far old.reader.max_lines (bytes ++ piece)).entries
  pub faulty : (bytes : List ℕ) → HasRead old.reader bytes
      → fault ≡ option_map (λ fault. Malformed fault.line fault.rule)
      (read_so_far old.reader.max_lines (bytes ++ piece)).fault
  pub judge : IsBegun (has_any entries || reader.ended) reader.header reader.start old.judge begun

-- a log may begin with the starting words that the reader keeps
pub fed_start : (old : CheckerKept) (reader : ReaderState) (piece : List ℕ)
    → ((bytes : List ℕ) → HasRead old.reader bytes → HasRead reader (bytes ++ piece))
    → IsSomewhere old
    → (h : Header) → reader.header ≡ Some h → may_start h reader.start ≡ true
fed_start old reader piece reads somewhere h has = ∥∥₁_elim somewhere (Bool-set _ _) (λ s.
    let read = reads s.0 s.1.read in
    ap (may_start h) read.start ∙ (reading_writable _ _ h (sym read.header ∙ has)).may)

-- the header that the reader keeps is that of a built-in subject
pub fed_built_in : (old : CheckerKept) (reader : ReaderState) (piece : List ℕ)
    → ((bytes : List ℕ) → HasRead old.reader bytes → HasRead reader (bytes ++ piece))
    → IsSomewhere old
    → (h : Header) → reader.header ≡ Some h → is_built_in h.subject ≡ true
fed_built_in old reader piece reads somewhere h has = ∥∥₁_elim somewhere (Bool-set _ _)
    (λ s. reading_built_in (input_of _ _) (s.0 ++ piece) h (sym (reads _ s.1.read).header ∙ has))

-- what the reader keeps is what the bytes with the piece say, up to the old limit
record IsReadTo (reader : ReaderState) (bytes : List ℕ) (max : ℕ) : Type 0 where
  header : reader.header ≡ (read_so_far max bytes).header
  start : reader.start ≡ (read_so_far max bytes).starting
  ended : reader.ended ≡ (read_so_far max bytes).ended

read_to : (reader : ReaderState) (bytes : List ℕ) (max : ℕ) → reader.max_lines ≡ max
    → HasRead reader bytes → IsReadTo reader bytes max
read_to reader bytes max limit read = grind (arith, read.header, read.start, read.ended)

-- the judge is ready for the entries of the piece
pub fed_ready : (old : CheckerKept) (reader : ReaderState) (begun : Option JudgeView)
    (piece : List ℕ)
    (entries : List Entry) (fault : Option Verdict) → Fed old reader begun piece entries fault
    → IsLimit old.reader.max_lines → (bytes : List ℕ) → IsUndecided old bytes
    → IsReady begun (read_so_far old.reader.max_lines (bytes ++ piece))
    (read_so_far old.reader.max_lines bytes).entries entries reader.ended
fed_ready old reader begun piece entries fault fed limit bytes u =
    let max = old.reader.max_lines in
    let was = read_so_far max bytes in
    let is = read_so_far max (bytes ++ piece) in
    let read = read_to reader (bytes ++ piece) max fed.limit (fed.read bytes u.read) in
    let grown = fed.grown bytes u.read in
    let all : is.entries ≡ was.entries ++ entries = cc (grown.other, grown.one) in
    let more = reading_grows max false bytes piece limit.low in
    let judge : IsBegun (has_any entries || is.ended) is.header is.starting old.judge begun =
    rw (← read.ended, ← read.header, ← read.start) fed.judge in
    record {
      before = judge_before old.judge begun was is entries u.judging more
          (text_right max bytes u.nothing) (headless_empty max (bytes ++ piece)) all judge;
      entries = all;
      ended = sym read.ended;
    }

-- there is room for the entries of the piece
pub fed_room : (old : CheckerKept) (reader : ReaderState) (begun : Option JudgeView)
    (piece : List ℕ)
    (entries : List Entry) (fault : Option Verdict)
    → Fed old reader begun piece entries fault → IsLimit old.reader.max_lines → IsSomewhere old
    → HasRoom begun entries
fed_room old reader begun piece entries fault fed limit somewhere = by_judge begun refl
  where
    max : ℕ
    max = old.reader.max_lines

    room : (bytes : List ℕ) → IsUndecided old bytes → HasRoom begun entries
    room bytes u =
        let ready = fed_ready old reader begun piece entries fault fed limit bytes u in
        let few = entries_few max (bytes ++ piece) limit.low in
        let parted = ap length ready.entries in
        has_room begun (read_so_far max (bytes ++ piece)) (read_so_far max bytes).entries entries
        ready.before (omega (arith, few, parted, limit.high))

    by_judge : (o : Option JudgeView) → begun ≡ o → HasRoom o entries
    by_judge None is = tt
    by_judge (Some j) is = at_most_of _ _ (∥∥₁_elim somewhere (Bool-set _ _) (λ s.
        is_at_most _ _ (subst (λ o. HasRoom o entries) is (room s.0 s.1))))

-- the answer is the verdict so far
pub fed_answer : (old : CheckerKept) (reader : ReaderState) (begun : Option JudgeView)
    (piece : List ℕ)
    (entries : List Entry) (fault wrong : Option Verdict)
    → Fed old reader begun piece entries fault → (bytes : List ℕ) → HasRead old.reader bytes
    → wrong ≡ wrong_in (read_so_far old.reader.max_lines (bytes ++ piece))
    → option_or wrong fault ≡ text_verdict_so_far old.reader.max_lines (bytes ++ piece)
fed_answer old reader begun piece entries fault wrong fed bytes read wrong_is =
    known_so_far old.reader.max_lines (bytes ++ piece) wrong fault wrong_is (fed.faulty bytes read)

-- without a verdict what is kept goes on
pub fed_undecided : (old : CheckerKept) (reader : ReaderState) (begun after : Option JudgeView)
    (piece : List ℕ) (entries : List Entry) (fault : Option Verdict)
    → Fed old reader begun piece entries fault → (bytes : List ℕ) → HasRead old.reader bytes
    → IsJudging after (read_so_far old.reader.max_lines (bytes ++ piece))
    → text_verdict_so_far old.reader.max_lines (bytes ++ piece) ≡ None
    → IsUndecided (record { reader = reader; judge = after }) (bytes ++ piece)
fed_undecided old reader begun after piece entries fault fed bytes read judging nothing =
    grind (arith, fed.read bytes read, fed.limit)

paid_then : (owes begun moves before was now after n m later : ℕ) → later ≡ owes
    → begun + moves + was ≤ before + now → n + owes ≤ m + begun + moves
    → n + later + was ≤ m + before + now
paid_then owes begun moves before was now after n m later same paid taken = grind arith

-- what a piece that was read and judged has cost is paid
pub fed_paid : (old : CheckerKept) (reader : ReaderState) (begun after : Option JudgeView)
    (piece : List ℕ) (entries : List Entry) (fault : Option Verdict)
    → Fed old reader begun piece entries fault → IsLimit old.reader.max_lines
    → old.reader.ended ≡ false → (bytes : List ℕ) → IsUndecided old bytes → (m n : ℕ)
    → n + judge_owes after (read_so_far old.reader.max_lines (bytes ++ piece))
    (read_so_far old.reader.max_lines (bytes ++ piece)).entries
    ≤ m + judge_owes begun (read_so_far old.reader.max_lines (bytes ++ piece))
    (read_so_far old.reader.max_lines bytes).entries + following_cost begun entries reader.ended
    → n + kept_debt (record { reader = reader; judge = after }) (bytes ++ piece)
    + bytes_cost old.reader.max_lines bytes
    ≤ m + kept_debt old bytes + bytes_cost old.reader.max_lines (bytes ++ piece)
fed_paid old reader begun after piece entries fault fed limit going bytes u m n taken =
    let max = old.reader.max_lines in
    let was = read_so_far max bytes in
    let is = read_so_far max (bytes ++ piece) in
    let read = read_to reader (bytes ++ piece) max fed.limit (fed.read bytes u.read) in
    let judge : IsBegun (has_any entries || is.ended) is.header is.starting old.judge begun =
    rw (← read.ended, ← read.header, ← read.start) fed.judge in
    let more = reading_grows max false bytes piece limit.low in
    let ready = fed_ready old reader begun piece entries fault fed limit bytes u in
    paid_then (judge_owes after is is.entries) (judge_owes begun is was.entries)
    (following_cost begun entries reader.ended) (kept_debt old bytes) (bytes_cost max bytes)
    (bytes_cost max (bytes ++ piece)) n n m
    (kept_debt (record { reader = reader; judge = after }) (bytes ++ piece)) (cc fed.limit)
    (piece_paid old.judge begun was is entries reader.ended u.judging more
    (text_right max bytes u.nothing) (sym u.read.ended ∙ going) ready judge) taken

-- what was read is the same, except for a fault of text
pub record IsSameLog (old new : Reading) : Type 0 where
  pub header : new.header ≡ old.header
  pub starting : new.starting ≡ old.starting
  pub entries : new.entries ≡ old.entries
  pub ended : new.ended ≡ old.ended

never : {A : Type 0} → false ≡ true → A
never e = cc

-- after `end` nothing more is read
after_end : (old : CheckerKept) (bytes piece : List ℕ) → IsLimit old.reader.max_lines
    → IsUndecided old bytes → old.reader.ended ≡ true
    → IsSameLog (read_so_far old.reader.max_lines bytes)
    (read_so_far old.reader.max_lines (bytes ++ piece))
after_end old bytes piece limit u ended = record {
  header = by_header was.header refl;
  starting = g.grown.begun none begun;
  entries = (g.grown.ended none done).0;
  ended = (g.grown.ended none done).1 ∙ sym done;
}
  where
    was : Reading
    was = read_so_far old.reader.max_lines bytes

    is : Reading
    is = read_so_far old.reader.max_lines (bytes ++ piece)

    g : TextGrown was is
    g = reading_grows old.reader.max_lines false bytes piece limit.low

    none : was.fault ≡ None
    none = text_right old.reader.max_lines bytes u.nothing

    done : was.ended ≡ true
    done = sym u.read.ended ∙ ended

    begun : has_begun was ≡ true
    begun = or_right (has_any was.entries) was.ended done

    by_header : (o : Option Header) → was.header ≡ o → is.header ≡ was.header
    by_header None has = never (sym (headless_empty old.reader.max_lines bytes has) ∙ begun)
    by_header (Some h) has = g.header h has ∙ sym has

-- so its entries are as right as before
same_wrong : (old new : Reading) → IsSameLog old new → wrong_in new ≡ wrong_in old
same_wrong old new s = grind arith

-- and the judge has followed them
same_judging : (judge : Option JudgeView) (old new : Reading) → IsSameLog old new
    → IsJudging judge old → IsJudging judge new
same_judging judge old new s judging = search (has_any, arith)

same_owes : (judge : Option JudgeView) (old new : Reading) → IsSameLog old new
    → judge_owes judge new new.entries ≡ judge_owes judge old old.entries
same_owes judge old new s = search arith

-- the answer after `end` is the fault of text
pub ended_answer : (old : CheckerKept) (bytes piece : List ℕ) (fault : Option Verdict)
    → IsLimit old.reader.max_lines → IsUndecided old bytes → old.reader.ended ≡ true
    → fault ≡ option_map (λ fault. Malformed fault.line fault.rule)
    (read_so_far old.reader.max_lines (bytes ++ piece)).fault
    → fault ≡ text_verdict_so_far old.reader.max_lines (bytes ++ piece)
ended_answer old bytes piece fault limit u ended is =
    let max = old.reader.max_lines in
    known_so_far max (bytes ++ piece) None fault
    (sym (same_wrong (read_so_far max bytes) (read_so_far max (bytes ++ piece))
    (after_end old bytes piece limit u ended) ∙ entries_right max bytes u.nothing)) is

-- without a fault what is kept goes on
pub ended_undecided : (old : CheckerKept) (reader : ReaderState) (bytes piece : List ℕ)
    → IsLimit old.reader.max_lines → IsUndecided old bytes → old.reader.ended ≡ true
    → reader.max_lines ≡ old.reader.max_lines → HasRead reader (bytes ++ piece)
    → text_verdict_so_far old.reader.max_lines (bytes ++ piece) ≡ None
    → IsUndecided (record { reader = reader; judge = old.judge }) (bytes ++ piece)
ended_undecided old reader bytes piece limit u ended same read nothing =
    grind (arith, ended, read, nothing, same_judging, after_end)

still_paid : (n later owed was now : ℕ) → later ≡ owed → was ≤ now
    → n + later + was ≤ n + owed + now
still_paid n later owed was now same more = omega (arith, same, more)

-- and nothing was paid
pub ended_paid : (old : CheckerKept) (reader : ReaderState) (bytes piece : List ℕ) (n : ℕ)
    → IsLimit old.reader.max_lines → IsUndecided old bytes → old.reader.ended ≡ true
    → reader.max_lines ≡ old.reader.max_lines
    → n + kept_debt (record { reader = reader; judge = old.judge }) (bytes ++ piece)
    + bytes_cost old.reader.max_lines bytes
    ≤ n + kept_debt old bytes + bytes_cost old.reader.max_lines (bytes ++ piece)
ended_paid old reader bytes piece n limit u ended same =
    grind (arith, ended, still_paid, same_owes, after_end, bytes_more)
