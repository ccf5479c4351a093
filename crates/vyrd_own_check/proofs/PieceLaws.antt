-- How what is kept goes on with a piece of the text.
use Rattle.vyrd_own_check.proofs.Prelude
use Prelude.{◌≡◌, ℕ, ◌≤◌, Bool, true, false, cond, ◌||◌, List, [], ◌++◌, length, Option, Some, None}
use Prelude.{refl, ap, ◌∙◌, sym, arith, length-append, option_map, is_none, then_some, option_or}
use Prelude.{own, Rules, rules_by, Header, Entry, StartWord, StartState, Malformed, front}
use Prelude.{state_at_start, has_any, verdict_so_far, end_verdict, OwnReading, own_reading}
use Prelude.{own_text_verdict_so_far, most_lines, has_begun, IsGrown, ReaderState, HasRead}
use Prelude.{JudgeView, HasFollowed, faultless_of, untold_in, IsJudging, IsBefore, IsReady, HasRoom}
use Prelude.{IsMade, IsBegun, IsUndecided}
use Rattle.vyrd_own_check.proofs.PlaceLaws.{nothing_so_far}

-- a judge without a verdict has counted the entries that it has followed
counted : (j : JudgeView) (starting : List StartWord) (log : List Entry) → j.so_far ≡ None
    → HasFollowed j starting log
    → j.kept.entries ≡ length log
counted j starting log none f = (faultless_of none f).taken_in.entries

-- more entries after some
any_more : (xs more : List Entry) → has_any xs ≡ true → has_any (xs ++ more) ≡ true
any_more xs more e = search arith

-- what has begun goes on
pub begun_on : (old new : OwnReading) → IsGrown old new → has_begun old ≡ true → has_begun new
    ≡ true
begun_on old new g begun = grind (arith, begun, has_any, any_more)

-- Once an entry or `end` may have been read, the judge has followed the entries from before.
pub judge_before : (before after : Option JudgeView) (old new : OwnReading) (more : List Entry)
    → IsJudging before old → IsGrown old new → (new.header ≡ None → has_begun new ≡ false)
    → new.entries ≡ old.entries ++ more
    → IsBegun (has_any more || new.ended) new.header new.lines new.starting before after
    → IsBefore after new old.entries
judge_before (Some j) after old new more judging g headed all begun = grind arith
judge_before None after old new more judging g headed all begun = by_test (has_any _ || new.ended)
    refl begun
  where
    same : has_begun new ≡ (has_any more || new.ended)
    same = cc judging.0

    by_made : (h : Header) (o : Option JudgeView) → new.header ≡ Some h → has_begun new ≡ true
        → IsMade h new.lines new.starting o → IsBefore o new old.entries
    by_made h None has now made = (judging.0, λ f. (own h _, ap (option_map _) has, made))
    by_made h (Some j) has now made = grind (arith, made.0, judging.0, made.1, made.2)

    by_header : (o : Option Header) → new.header ≡ o → has_begun new ≡ true
        → IsBegun true o new.lines new.starting None after → IsBefore after new old.entries
    by_header None has now b = absurd (never (sym (headed has) ∙ now))
      where
        never : false ≡ true → ⊥
        never e = cc
    by_header (Some h) has now b = by_made h after has now b

    by_test : (b : Bool) → (has_any more || new.ended) ≡ b
        → IsBegun b new.header new.lines new.starting None after → IsBefore after new old.entries
    by_test false e b = grind (arith, judging.0)
    by_test true e b = by_header new.header refl (same ∙ e) b

-- there is room for the entries of a log that keeps the limit of lines
pub has_room : (judge : Option JudgeView) (read : OwnReading) (log entries : List Entry)
    → IsBefore judge read log
    → length (log ++ entries) ≤ most_lines → HasRoom judge entries
has_room None read log entries before few = tt
has_room (Some j) read log entries before few =
    let kept = counted j read.starting log before.so_far before.followed in
    omega (arith, kept, length-append log entries, few)

-- what is wrong with what was read, by the judge's charter
pub wrong_by : (j : JudgeView) (read : OwnReading) (log more : List Entry) (done : Bool)
    → IsReady (Some j) read log more done
    → untold_in read
    ≡ option_or (verdict_so_far (rules_by j.kept.charter) read.starting (log ++ more))
    (cond done (end_verdict (rules_by j.kept.charter) read.starting (log ++ more)) None)
wrong_by j read log more done ready = grind (arith, read, more)

-- a judge that has followed the last entries, with no verdict
pub judging_on : (old new : JudgeView) (read : OwnReading) (log more : List Entry) (done : Bool)
    → IsReady (Some old) read log more done
    → new.kept.charter ≡ old.kept.charter → HasFollowed new read.starting (log ++ more)
    → new.so_far ≡ None → IsJudging (Some new) read
judging_on old new read log more done ready same followed none = search arith

-- If the starting words stand for no state, that is what is wrong once an entry or `end` was read.
start_wrong : (r : Rules) (starting : List StartWord) (entries : List Entry) (done : Bool)
    → is_none (state_at_start r starting) ≡ true
    → (has_any entries || done) ≡ true
    → option_or (verdict_so_far r starting entries)
    (cond done (end_verdict r starting entries) None)
    ≡ Some (Malformed 2 StartState)
unfolding verdict_so_far end_verdict
start_wrong r starting entries done stands begun = search (nothing_so_far, front, arith)

-- nothing was read
unread : (entries : List Entry) (done : Bool) → (has_any entries || done) ≡ false
    → (entries ≡ []) × (done ≡ false)
unread entries done e = search arith

-- without a judge all that was read since is the last entries
only_last : (read : OwnReading) (log more : List Entry) (done : Bool)
    → IsReady None read log more done
    → has_begun read ≡ (has_any more || done)
only_last read log more done ready = search (has_any, more, arith)

-- where nothing was read nothing is wrong
nothing_wrong : (read : OwnReading) → has_begun read ≡ false → untold_in read ≡ None
nothing_wrong read e = grind (arith, read, unread, nothing_so_far)

-- what is wrong if there is no judge
pub wrong_without : (read : OwnReading) (log more : List Entry) (done : Bool)
    → IsReady None read log more done
    → then_some (has_any more || done) (Malformed 2 StartState) ≡ untold_in read
wrong_without read log more done ready = search
    (has_any, only_last, nothing_wrong, start_wrong, arith)

pub still_without : (read : OwnReading) (log more : List Entry) (done : Bool)
    → IsReady None read log more done
    → then_some (has_any more || done) (Malformed 2 StartState) ≡ None → IsJudging None read
still_without read log more done ready none = grind (arith, read, more, has_any, unread, only_last)

-- before the first byte
pub undecided_first : (reader : ReaderState) (numbers : List ℕ) → HasRead reader [] → numbers ≡ []
    → IsUndecided (record { reader = reader; judge = None; numbers = numbers }) []
unfolding own_reading own_text_verdict_so_far
undecided_first reader numbers read none = search arith
