-- How what is kept goes on with a piece of the text.
use Rattle.vyrd_check.proofs.Prelude
use Prelude.{◌≡◌, ◌≤◌, Bool, true, false, cond, ◌||◌, List, [], ◌++◌, length, Option, Some, None}
use Prelude.{refl, ◌∙◌, sym, arith, length-append, option_map, option_and_then, is_none, is_some}
use Prelude.{IfSome, then_some, option_or, Charter, built_in, rules_of, rules_by, Header, Entry}
use Prelude.{StartWord, StartState, Malformed, front, state_at_start, Reading, has_any, reading}
use Prelude.{verdict_so_far, end_verdict, text_verdict_so_far, TextGrown, nothing_so_far}
use Prelude.{most_lines, ReaderState, HasRead, price_by, by_rules, judge_debt, start_cost}
use Prelude.{JudgeView, HasFollowed, faultless_of, wrong_in, has_begun, IsJudging, IsBefore}
use Prelude.{IsReady, HasRoom, IsMade, IsBegun, IsUndecided}

-- a judge without a verdict has counted the entries that it has followed
pub counted : (j : JudgeView) (starting : List StartWord) (log : List Entry) → j.so_far ≡ None
    → HasFollowed j starting log
    → j.kept.entries ≡ length log
counted j starting log none f = (faultless_of none f).taken_in.entries

-- what is said of the rules of a header
of_charter : {B : Type 0} (f : Charter → Option B) (o : Option Header)
    → option_and_then f (option_map built_in o) ≡ option_and_then (λ h. f (built_in h)) o
of_charter f o = search arith

-- a header that was read stays
still_read : (old new : Option Header) (l : Charter) → ((h : Header) → old ≡ Some h → new ≡ Some h)
    → option_map built_in old ≡ Some l → option_map built_in new ≡ Some l
still_read old new l stays is = search arith

-- the header that was read, by the name of its rules
pub header_of_charter : (o : Option Header) (l : Charter) → option_map built_in o ≡ Some l
    → (h : Header) × (o ≡ Some h) × (built_in h ≡ l)
header_of_charter None l is = cc
header_of_charter (Some h) l is = (h, refl, cc)

-- the judge that was made, if one was
pub made_from : (h : Header) (starting : List StartWord) (made : Option JudgeView)
    → is_none made ≡ is_none (state_at_start (rules_of h) starting)
    → IfSome made (λ j. HasFollowed j starting [])
    → IfSome made (λ j. j.kept.charter ≡ built_in h)
    → IfSome made (λ j. j.so_far ≡ None)
    → IfSome made (λ j. j.kept.views.shows ≡ by_rules (built_in h))
    → IfSome made (λ j. judge_debt price_by (λ charter. 2) j []
    ≡ start_cost (price_by j.kept.views.shows) starting)
    → IsMade h starting made
made_from h starting None none followed charter so_far shows owed = sym none
made_from h starting (Some j) none followed charter so_far shows owed = search (starting, arith)

-- it is the judge from now on, since there was none
pub begun_by : (begun : Bool) (o : Option Header) (starting : List StartWord)
    (old made : Option JudgeView) (h : Header) → is_some old ≡ false → begun ≡ true → o ≡ Some h
    → IsMade h starting made → IsBegun begun o starting old made
begun_by begun o starting old made h none now has is = grind (arith, begun, starting, made)

-- Once an entry or `end` may have been read, the judge has followed the entries from before.
pub judge_before : (before after : Option JudgeView) (old new : Reading) (more : List Entry)
    → IsJudging before old → TextGrown old new
    → old.fault ≡ None → (new.header ≡ None → has_begun new ≡ false)
    → new.entries ≡ old.entries ++ more
    → IsBegun (has_any more || new.ended) new.header new.starting before after
    → IsBefore after new old.entries
judge_before (Some j) after old new more judging g none headed all begun = grind arith
judge_before None after old new more judging g none headed all begun = by_test
    (has_any _ || new.ended) refl begun
  where
    same : has_begun new ≡ (has_any more || new.ended)
    same = cc judging.0

    by_made : (h : Header) (o : Option JudgeView) → new.header ≡ Some h → has_begun new ≡ true
        → IsMade h new.starting o → IsBefore o new old.entries
    by_made h None has now made = (judging.0, λ f. (h, has, made))
    by_made h (Some j) has now made = grind (arith, made.0, made.3, judging.0, made.1, made.2)

    by_header : (o : Option Header) → new.header ≡ o → has_begun new ≡ true
        → IsBegun true o new.starting None after → IsBefore after new old.entries
    by_header None has now b = absurd (never (sym (headed has) ∙ now))
      where
        never : false ≡ true → ⊥
        never e = cc
    by_header (Some h) has now b = by_made h after has now b

    by_test : (b : Bool) → (has_any more || new.ended) ≡ b
        → IsBegun b new.header new.starting None after → IsBefore after new old.entries
    by_test false e b = rw b (judging.0, λ f. cc)
    by_test true e b = by_header new.header refl (same ∙ e) b

-- there is room for the entries of a log that keeps the limit of lines
pub has_room : (judge : Option JudgeView) (read : Reading) (log entries : List Entry)
    → IsBefore judge read log
    → length (log ++ entries) ≤ most_lines → HasRoom judge entries
has_room None read log entries before few = tt
has_room (Some j) read log entries before few =
    let kept = counted j read.starting log before.so_far before.followed in
    omega (arith, kept, length-append log entries, few)

-- what is wrong with what was read, by the judge's header
pub wrong_by : (j : JudgeView) (read : Reading) (log more : List Entry) (done : Bool)
    → IsReady (Some j) read log more done
    → wrong_in read
    ≡ option_or (verdict_so_far (rules_by j.kept.charter) read.starting (log ++ more))
    (cond done (end_verdict (rules_by j.kept.charter) read.starting (log ++ more)) None)
wrong_by j read log more done ready = grind (arith, read, more, of_charter)

-- a judge that has followed the last entries, with no verdict
pub judging_on : (old new : JudgeView) (read : Reading) (log more : List Entry) (done : Bool)
    → IsReady (Some old) read log more done
    → new.kept.charter ≡ old.kept.charter → new.kept.views.shows ≡ old.kept.views.shows
    → HasFollowed new read.starting (log ++ more)
    → new.so_far ≡ None → IsJudging (Some new) read
judging_on old new read log more done ready same shows followed none = search arith

-- If the starting words stand for no state, that is what is wrong once an entry or `end` was read.
start_wrong : (h : Header) (starting : List StartWord) (entries : List Entry) (done : Bool)
    → is_none (state_at_start (rules_of h) starting) ≡ true
    → (has_any entries || done) ≡ true
    → option_or (verdict_so_far (rules_of h) starting entries)
    (cond done (end_verdict (rules_of h) starting entries) None)
    ≡ Some (Malformed 2 StartState)
unfolding verdict_so_far end_verdict
start_wrong h starting entries done stands begun = search (nothing_so_far, front, arith)

-- nothing was read
unread : (entries : List Entry) (done : Bool) → (has_any entries || done) ≡ false
    → (entries ≡ []) × (done ≡ false)
unread entries done e = search arith

-- without a judge all that was read since is the last entries
only_last : (read : Reading) (log more : List Entry) (done : Bool) → IsReady None read log more done
    → has_begun read ≡ (has_any more || done)
only_last read log more done ready = search (has_any, more, arith)

-- where nothing was read nothing is wrong
nothing_wrong : (read : Reading) → has_begun read ≡ false → wrong_in read ≡ None
nothing_wrong read e = grind (arith, read, unread, nothing_so_far)

-- what is wrong if there is no judge
pub wrong_without : (read : Reading) (log more : List Entry) (done : Bool)
    → IsReady None read log more done
    → then_some (has_any more || done) (Malformed 2 StartState) ≡ wrong_in read
wrong_without read log more done ready = search
    (has_any, only_last, nothing_wrong, start_wrong, arith)

pub still_without : (read : Reading) (log more : List Entry) (done : Bool)
    → IsReady None read log more done
    → then_some (has_any more || done) (Malformed 2 StartState) ≡ None → IsJudging None read
still_without read log more done ready none = grind (arith, read, more, has_any, unread, only_last)

-- before the first byte
pub undecided_first : (reader : ReaderState) → HasRead reader []
    → IsUndecided (record { reader = reader; judge = None }) []
unfolding reading text_verdict_so_far
undecided_first reader read = record { read = read; judging = (refl, refl); nothing = refl }
