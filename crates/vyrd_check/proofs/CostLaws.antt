-- What a piece costs is paid by what was owed before it, and by what its bytes cost.
use Rattle.vyrd_check.proofs.Prelude
use Prelude.{◌≡◌, ℕ, ◌+◌, ◌≤◌, Bool, true, false, ◌||◌, List, [], ◌++◌, map, Option, Some, None}
use Prelude.{refl, ap, subst, ◌∙◌, sym, arith, length-append, append_assoc, append-nil, sum_by}
use Prelude.{map-append, sum_by-append, Header, Entry, StartWord, Verdict, Reading, has_any}
use Prelude.{reading, TextGrown, reading_grows, word_price, price_by, callers_of, judge_debt}
use Prelude.{log_cost, JudgeView, IsAt, IsJudging, IsReady, IsBegun, CheckerKept, CheckerState}
use Prelude.{entry_cost, starting_cost, entries_cost, end_cost, reading_cost, bytes_cost}
use Prelude.{judge_owes, following_cost, kept_debt, debt_after, checker_debt}
use Rattle.vyrd_check.proofs.PieceLaws.{header_of_charter}

no_end : (o : Option Header) → end_cost o false ≡ 0
no_end o = search arith

-- further starting words cost what they cost
starting_more : (o : Option Header) (ss more : List StartWord)
    → starting_cost o ss ≤ starting_cost o (ss ++ more)
starting_more None ss more = omega arith
starting_more (Some h) ss more = omega (
  arith,
  ap (sum_by (word_price h)) (map-append (λ (s : StartWord). s.word) ss more),
  sum_by-append (word_price h) (map (λ (s : StartWord). s.word) ss)
      (map (λ (s : StartWord). s.word) more),
  length-append ss more,
)

-- and so do further entries
entries_more : (o : Option Header) (es more : List Entry)
    → entries_cost o (es ++ more) ≡ entries_cost o es + entries_cost o more
entries_more None es more = refl
entries_more (Some h) es more = sum_by-append (entry_cost h) es more

end_more : (o : Option Header) (a b : Bool) → (a ≡ true → b ≡ true) → end_cost o a ≤ end_cost o b
end_more o a b stays = grind (arith, stays)

all_more : (a b c x y z : ℕ) → a ≤ x → b ≤ y → c ≤ z → a + b + c ≤ x + y + z
all_more a b c x y z first second third = omega (arith, first, second, third)

at_most_more : (a b c : ℕ) → c ≡ a + b → a ≤ c
at_most_more a b c is = omega (arith, is)

at_most_same : (a b : ℕ) → a ≡ b → a ≤ b
at_most_same a b is = omega (arith, is)

-- longer bytes cost no less
pub cost_grows : (old new : Reading) → TextGrown old new → reading_cost old ≤ reading_cost new
cost_grows old new g =
    grind (arith, all_more, starting_more, at_most_more, entries_more, end_more, at_most_same)

pub bytes_more : (max : ℕ) (bytes more : List ℕ) → 1 ≤ max
    → bytes_cost max bytes ≤ bytes_cost max (bytes ++ more)
bytes_more max bytes more low = search (cost_grows, more, reading_grows, arith)

-- what it costs the judge to go on is what the header that was read says
following_is : (j : JudgeView) (read : Reading) (log more : List Entry) (done : Bool)
    → IsAt j read log
    → following_cost (Some j) more done
    ≡ entries_cost read.header more + end_cost read.header done
following_is j read log more done at = search (read, more, header_of_charter, arith)

-- to look for an open call at `end` is what the header says
pub end_is : (j : JudgeView) (read : Reading) (log : List Entry) → IsAt j read log
    → read.ended ≡ true → callers_of j.kept ≡ end_cost read.header read.ended
end_is j read log at done = grind (arith, read, header_of_charter)

paid_on : (d f s e m n : ℕ) (before after : ℕ) → f ≡ m + n → before ≡ s + e + 0
    → after ≡ s + (e + m) + n → d + f + before ≤ d + after
paid_on d f s e m n before after costs was is = omega (arith, costs, was, is)

-- what is owed once the judge is there, and what it costs to go on, is paid by what was owed before
-- and what the bytes cost
pub piece_paid : (before after : Option JudgeView) (old new : Reading) (more : List Entry)
    (done : Bool)
    → IsJudging before old → TextGrown old new → old.fault ≡ None → old.ended ≡ false
    → IsReady after new old.entries more done
    → IsBegun (has_any more || new.ended) new.header new.starting before after
    → judge_owes after new old.entries + following_cost after more done + reading_cost old
    ≤ judge_owes before old old.entries + reading_cost new
piece_paid (Some j) after old new more done judging g none going ready begun =
    let here = subst (λ o. IsReady o new old.entries more done) begun ready in
    let h = header_of_charter old.header j.kept.charter judging.charter in
    let header : old.header ≡ new.header = h.1 ∙ sym (g.header h.0 h.1) in
    let starting : old.starting ≡ new.starting = sym (g.grown.begun none judging.begun) in
    let was : reading_cost old ≡ starting_cost new.header new.starting
    + entries_cost new.header old.entries + 0 = cc (no_end new.header) in
    let is : reading_cost new ≡ starting_cost new.header new.starting
    + (entries_cost new.header old.entries + entries_cost new.header more)
    + end_cost new.header done = cc (entries_more new.header old.entries more) in
    rw begun (paid_on (judge_debt price_by (λ charter. 2) j old.entries) _ _ _ _ _ _ _
    (following_is j new old.entries more done here.before) was is)
piece_paid None after old new more done judging g none going ready begun = search arith
  where
    was : reading_cost old ≡ starting_cost old.header old.starting + 0 + 0
    was = grind arith

-- what is owed once a verdict stands, or none
pub after_at_most : (o : Option Verdict) (k : CheckerKept) (bytes : List ℕ)
    → debt_after o k bytes ≤ kept_debt k bytes
after_at_most o k bytes = search arith

-- once a verdict stands nothing is owed
pub stands_owes : (c : CheckerState) (v : Verdict) (bytes : List ℕ) → c.so_far ≡ Some v
    → checker_debt c bytes ≡ 0
stands_owes c v bytes is = ap (λ o. debt_after o c.kept bytes) is

-- nothing was read of no bytes
pub unread : (max : ℕ) → bytes_cost max [] ≡ 0
unfolding reading
unread max = refl

pub nothing_owed : (k : CheckerKept) → k.judge ≡ None → kept_debt k [] ≡ 0
unfolding reading
nothing_owed k none = search arith

more_held : (a b c d : ℕ) → a ≤ b + c → a ≤ b + (c + d)
more_held a b c d paid = omega (arith, paid)

-- what following further entries has cost is paid
pub followed_paid : (j k : JudgeView) (read : Reading) (log more : List Entry) (done : Bool)
    (m n : ℕ) → IsReady (Some j) read log more done
    → n + judge_debt price_by (λ charter. 2) k (log ++ more)
    ≤ m + judge_debt price_by (λ charter. 2) j log + log_cost price_by (λ charter. 2) j.kept more
    → n + judge_owes (Some k) read read.entries
    ≤ m + judge_owes (Some j) read log + following_cost (Some j) more done
followed_paid j k read log more done m n ready paid = grind (arith, read, more, paid, more_held)

asked : (last n a b c callers : ℕ) → last ≤ n + callers → n + a ≤ b + c
    → last + a ≤ b + (c + callers)
asked last n a b c callers one paid = omega (arith, one, paid)

-- and so is what asking at `end` has cost
pub open_paid : (j k : JudgeView) (read : Reading) (log more : List Entry) (done : Bool)
    (m n last : ℕ) → IsReady (Some j) read log more done → done ≡ true
    → k.kept.charter ≡ j.kept.charter → last ≤ n + callers_of k.kept
    → n + judge_debt price_by (λ charter. 2) k (log ++ more)
    ≤ m + judge_debt price_by (λ charter. 2) j log + log_cost price_by (λ charter. 2) j.kept more
    → last + judge_owes (Some k) read read.entries
    ≤ m + judge_owes (Some j) read log + following_cost (Some j) more done
open_paid j k read log more done m n last ready is rules one paid = search (asked, arith)

-- without a judge nothing costs a step
pub still_none : (o : Option JudgeView) (read : Reading) (log more : List Entry) (done : Bool)
    (n : ℕ) → o ≡ None
    → n + judge_owes o read read.entries
    ≤ n + judge_owes o read log + following_cost o more done
still_none o read log more done n is = grind (arith, read, more)

grown_more : (a b c d e f : ℕ) → a + b + c ≤ d + e + f → (g : ℕ) → g ≤ b → a + g + c ≤ d + e + f
grown_more a b c d e f paid g less = omega (arith, paid, less)

-- what a part of a piece has cost is paid, whether a verdict stands or not
pub part_paid : (c : CheckerState) (k : CheckerKept) (v : Option Verdict) (bytes part : List ℕ)
    (m n : ℕ)
    → c.so_far ≡ None
    → n + kept_debt k (bytes ++ part) + bytes_cost c.kept.reader.max_lines bytes
    ≤ m + kept_debt c.kept bytes + bytes_cost c.kept.reader.max_lines (bytes ++ part)
    → n + debt_after v k (bytes ++ part) + bytes_cost c.kept.reader.max_lines bytes
    ≤ m + checker_debt c bytes + bytes_cost c.kept.reader.max_lines (bytes ++ part)
part_paid c k v bytes part m n none paid = grind (arith, paid, grown_more, after_at_most)

-- one part after others
pub parts_paid : (first before after : CheckerState) (bytes read part all : List ℕ) (l m n : ℕ)
    → before.kept.reader.max_lines ≡ first.kept.reader.max_lines
    → (bytes ++ read) ++ part ≡ bytes ++ all
    → m + checker_debt before (bytes ++ read) + bytes_cost first.kept.reader.max_lines bytes
    ≤ l + checker_debt first bytes + bytes_cost first.kept.reader.max_lines (bytes ++ read)
    → n + checker_debt after ((bytes ++ read) ++ part)
    + bytes_cost before.kept.reader.max_lines (bytes ++ read)
    ≤ m + checker_debt before (bytes ++ read)
    + bytes_cost before.kept.reader.max_lines ((bytes ++ read) ++ part)
    → n + checker_debt after (bytes ++ all) + bytes_cost first.kept.reader.max_lines bytes
    ≤ l + checker_debt first bytes + bytes_cost first.kept.reader.max_lines (bytes ++ all)
parts_paid first before after bytes read part all l m n limit parted one two = grind arith

settled : (l m a b c x y z : ℕ) → m + b + x ≤ l + a + y → y ≤ z → c ≡ 0 → m + c + x ≤ l + a + z
settled l m a b c x y z paid more none = omega (arith, paid, more, none)

-- once a verdict stands, nothing more is paid
pub stands_paid : (first now : CheckerState) (v : Verdict) (bytes read rest piece : List ℕ)
    (l m : ℕ) → 1 ≤ first.kept.reader.max_lines → now.so_far ≡ Some v → piece ≡ read ++ rest
    → m + checker_debt now (bytes ++ read) + bytes_cost first.kept.reader.max_lines bytes
    ≤ l + checker_debt first bytes + bytes_cost first.kept.reader.max_lines (bytes ++ read)
    → m + checker_debt now (bytes ++ piece) + bytes_cost first.kept.reader.max_lines bytes
    ≤ l + checker_debt first bytes + bytes_cost first.kept.reader.max_lines (bytes ++ piece)
stands_paid first now v bytes read rest piece l m low stands parted paid =
    search (settled, append_assoc, bytes_more, stands_owes, arith)

no_more : (n a b x y : ℕ) → a ≡ b → x ≡ y → n + a + x ≤ n + b + y
no_more n a b x y owed cost = omega (arith, owed, cost)

-- before the first part
pub first_part : (c : CheckerState) (bytes : List ℕ) (n : ℕ)
    → n + checker_debt c (bytes ++ []) + bytes_cost c.kept.reader.max_lines bytes
    ≤ n + checker_debt c bytes + bytes_cost c.kept.reader.max_lines (bytes ++ [])
first_part c bytes n = no_more n _ _ _ _ (ap (checker_debt c) (append-nil bytes))
    (ap (bytes_cost c.kept.reader.max_lines) (sym (append-nil bytes)))

-- after the last one
pub all_paid : (first now : CheckerState) (bytes read rest piece : List ℕ) (l m : ℕ)
    → piece ≡ read ++ rest → rest ≡ []
    → m + checker_debt now (bytes ++ read) + bytes_cost first.kept.reader.max_lines bytes
    ≤ l + checker_debt first bytes + bytes_cost first.kept.reader.max_lines (bytes ++ read)
    → m + checker_debt now (bytes ++ piece) + bytes_cost first.kept.reader.max_lines bytes
    ≤ l + checker_debt first bytes + bytes_cost first.kept.reader.max_lines (bytes ++ piece)
all_paid first now bytes read rest piece l m parted none paid = grind (arith, append-nil read)
