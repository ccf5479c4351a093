-- What a piece costs is paid by what was owed before it, and by what its bytes cost.
use Rattle.vyrd_own_check.proofs.Prelude
use Prelude.{◌≡◌, ℕ, ◌+◌, ◌≤◌, Bool, true, false, cond, ◌||◌, List, [], ◌++◌, Option, Some, None}
use Prelude.{refl, ap, subst, ◌∙◌, sym, arith, append_assoc, append-nil, option_map, Header, Entry}
use Prelude.{StartWord, Verdict, has_any, Charter, own, OwnReading, own_reading, IsLimit, has_begun}
use Prelude.{IsGrown, reading_grown, JudgeView, read_so_far, bytes_cost, IsJudging, IsReady}
use Prelude.{IsBegun, OwnCheckerKept, CheckerState, limit_of, judge_owes, following_cost, kept_debt}
use Prelude.{checker_debt}
use Rattle.std.specs.List.{sum_by}
use Rattle.std.specs.Option.{option_map_or}
use Rattle.std.proofs.lemmas.List.Sums.{sum_by-append}
use Rattle.vyrd_judge.specs.Costs.{callers_of, judge_debt, log_cost}
use Rattle.vyrd_own_spec.specs.Effects.{most_touched}
use Rattle.vyrd_own_check.specs.Costs.{entry_cost, starting_cost, headed_cost, reading_cost}
use Rattle.vyrd_own_check.specs.Costs.{end_cost}
use Rattle.vyrd_own_check.specs.Checking.{IsAt}
use Rattle.vyrd_own_check.specs.Owed.{price_by, debt_after}
use Rattle.vyrd_own_check.proofs.PieceLaws.{begun_on}

-- the costs of what was read, by its parts
abbrev cost_of : Header → List (List ℕ) → List StartWord → Bool → List Entry → Bool → ℕ
cost_of h lines starting begun entries ended = cond begun (starting_cost h lines starting) 0
    + sum_by (entry_cost h lines) entries + cond ended h.callers 0

never : {A : Type 0} → false ≡ true → A
never e = cc

-- before an entry or `end` was read nothing costs a step
cost_unbegun : (h : Header) (read : OwnReading) → has_begun read ≡ false → headed_cost h read ≡ 0
cost_unbegun h read none = search (has_any, never, arith)

pub unbegun_free : (read : OwnReading) → has_begun read ≡ false → reading_cost read ≡ 0
unbegun_free read none = grind (arith, read, cost_unbegun)

-- what was read after it had begun, with more entries
cost_begun : (h : Header) (old new : OwnReading) (more : List Entry) → has_begun old ≡ true
    → has_begun new ≡ true → new.lines ≡ old.lines → new.starting ≡ old.starting
    → new.entries ≡ old.entries ++ more
    → headed_cost h new ≡ starting_cost h new.lines new.starting
    + (sum_by (entry_cost h new.lines) old.entries + sum_by (entry_cost h new.lines) more)
    + cond new.ended h.callers 0
cost_begun h old new more was is lines starting entries =
    cc (sum_by-append (entry_cost h new.lines) old.entries more)

at_end : (h : Header) (a b : Bool) → (a ≡ true → b ≡ true)
    → cond a h.callers 0 ≤ cond b h.callers 0
at_end h a b stays = grind (arith, stays)

more_of : (s a m x y was is : ℕ) → was ≡ s + a + x → is ≡ s + (a + m) + y → x ≤ y → was ≤ is
more_of s a m x y was is before after ends = omega (arith, before, after, ends)

none_of : (was is : ℕ) → was ≡ 0 → was ≤ is
none_of was is e = omega (arith, e)

-- longer bytes cost no less
pub cost_grows : (old new : OwnReading) → IsGrown old new → reading_cost old ≤ reading_cost new
cost_grows old new g = by_begun (has_begun old) refl
  where
    by_header : (o : Option Header) → old.header ≡ o → has_begun old ≡ true
        → reading_cost old ≤ reading_cost new
    by_header None has begun = search (none_of, arith)
    by_header (Some h) has begun =
        let same = g.begun begun in
        let was : reading_cost old ≡ starting_cost h new.lines new.starting
        + sum_by (entry_cost h new.lines) old.entries + cond old.ended h.callers 0 =
        ap (λ o. option_map_or (λ k. headed_cost k old) o 0) has
        ∙ (λ i. cost_of h (sym same.0 i) (sym same.1 i) (begun i) old.entries old.ended) in
        let is : reading_cost new ≡ starting_cost h new.lines new.starting
        + (sum_by (entry_cost h new.lines) old.entries
        + sum_by (entry_cost h new.lines) g.entries.0) + cond new.ended h.callers 0 =
        ap (λ o. option_map_or (λ k. headed_cost k new) o 0) (g.header h has)
        ∙ cost_begun h old new g.entries.0 begun (begun_on old new g begun) same.0 same.1
        g.entries.1 in
        more_of _ _ _ _ _ (reading_cost old) (reading_cost new) was is
        (at_end h old.ended new.ended (λ e. (g.ended e).0))

    by_begun : (b : Bool) → has_begun old ≡ b → reading_cost old ≤ reading_cost new
    by_begun false e = none_of (reading_cost old) (reading_cost new) (unbegun_free old e)
    by_begun true e = by_header old.header refl e

pub bytes_more : (max : ℕ) (bytes more : List ℕ) → IsLimit max
    → bytes_cost max bytes ≤ bytes_cost max (bytes ++ more)
bytes_more max bytes more limit = grind (arith, more, cost_grows, reading_grown)

-- the header by which a charter goes
pub header_of_charter : (o : Option Header) (lines : List (List ℕ)) (l : Charter)
    → option_map (λ h. own h lines) o ≡ Some l → (h : Header) × (o ≡ Some h) × (own h lines ≡ l)
header_of_charter None lines l e = cc
header_of_charter (Some h) lines l e = (h, refl, cc)

-- what it costs the judge to go on is what the header and the specification that were read say
following_is : (j : JudgeView) (h : Header) (lines : List (List ℕ)) (more : List Entry)
    (done : Bool) → own h lines ≡ j.kept.charter
    → following_cost (Some j) more done
    ≡ sum_by (entry_cost h lines) more + cond done h.callers 0
following_is j h lines more done rules = search (more, arith)

-- to look for an open call at `end` is what the header says
pub end_is : (j : JudgeView) (read : OwnReading) (log : List Entry) → IsAt j read log
    → read.ended ≡ true → callers_of j.kept ≡ end_cost read
end_is j read log at done = grind (arith, read, header_of_charter)

paid_on : (d f s e m n was is : ℕ) → f ≡ m + n → was ≡ s + e + 0 → is ≡ s + (e + m) + n
    → d + f + was ≤ d + is
paid_on d f s e m n was is costs before after = omega (arith, costs, before, after)

paid_made : (d f s m n was is : ℕ) → d ≡ s → f ≡ m + n → was ≡ 0 → is ≡ s + m + n
    → d + f + was ≤ 0 + is
paid_made d f s m n was is owed costs before after = omega (arith, owed, costs, before, after)

still : (was is : ℕ) → was ≡ 0 → 0 + 0 + was ≤ 0 + is
still was is e = omega (arith, e)

-- what is owed once the judge is there, and what it costs to go on, is paid by what was owed before
-- and what the bytes cost
pub piece_paid : (before after : Option JudgeView) (old new : OwnReading) (more : List Entry)
    (done : Bool)
    → IsJudging before old → IsGrown old new → old.ended ≡ false
    → IsReady after new old.entries more done
    → IsBegun (has_any more || new.ended) new.header new.lines new.starting before after
    → judge_owes after old.entries + following_cost after more done + reading_cost old
    ≤ judge_owes before old.entries + reading_cost new
piece_paid (Some j) after old new more done judging g going ready begun =
    let here = subst (λ o. IsReady o new old.entries more done) begun ready in
    let h = header_of_charter old.header old.lines j.kept.charter judging.charter in
    let same = g.begun judging.begun in
    let was : reading_cost old ≡ starting_cost h.0 new.lines new.starting
    + sum_by (entry_cost h.0 new.lines) old.entries
    + 0 = ap (λ o. option_map_or (λ k. headed_cost k old) o 0) h.1
    ∙ (λ i. cost_of h.0 (sym same.0 i) (sym same.1 i) (judging.begun i) old.entries (going i)) in
    let is : reading_cost new ≡ starting_cost h.0 new.lines new.starting
    + (sum_by (entry_cost h.0 new.lines) old.entries + sum_by (entry_cost h.0 new.lines) more)
    + cond done h.0.callers 0 =
    cc (
      g.header h.0 h.1,
      cost_begun h.0 old new more judging.begun
          (begun_on old new g judging.begun) same.0 same.1 here.entries,
      here.ended,
    ) in
    rw begun (paid_on _ _ _ _ _ _ _ (reading_cost new)
    (following_is j h.0 new.lines more done (ap (own h.0) same.0 ∙ h.2)) was is)
piece_paid None after old new more done judging g going ready begun = by_judge after ready begun
  where
    was : reading_cost old ≡ 0
    was = unbegun_free old (λ i. has_any (judging.0 i) || judging.1 i)

    by_judge : (o : Option JudgeView) → IsReady o new old.entries more done
        → IsBegun (has_any more || new.ended) new.header new.lines new.starting None o
        → judge_owes o old.entries + following_cost o more done + reading_cost old
        ≤ judge_owes None old.entries + reading_cost new
    by_judge o r b = search (still, header_of_charter, paid_made, has_any, following_is, arith)

-- what is owed once a verdict stands, or none
pub after_at_most : (o : Option Verdict) (k : OwnCheckerKept) (bytes : List ℕ)
    → debt_after o k bytes ≤ kept_debt k bytes
after_at_most o k bytes = search arith

-- once a verdict stands nothing is owed
pub stands_owes : (c : CheckerState) (v : Verdict) (bytes : List ℕ) → c.so_far ≡ Some v
    → checker_debt c bytes ≡ 0
stands_owes c v bytes is = ap (λ o. debt_after o c.kept bytes) is

-- nothing was read of no bytes
pub unread : (max : ℕ) → bytes_cost max [] ≡ 0
unfolding own_reading
unread max = refl

pub nothing_owed : (k : OwnCheckerKept) (bytes : List ℕ) → k.judge ≡ None → kept_debt k bytes ≡ 0
nothing_owed k bytes none = ap (λ o. judge_owes o (read_so_far (limit_of k) bytes).entries) none

more_held : (a b c d : ℕ) → a ≤ b + c → a ≤ b + (c + d)
more_held a b c d paid = omega (arith, paid)

-- what following further entries has cost is paid
pub followed_paid : (j k : JudgeView) (read : OwnReading) (log more : List Entry) (done : Bool)
    (m n : ℕ) → IsReady (Some j) read log more done
    → n + judge_debt price_by most_touched k (log ++ more)
    ≤ m + judge_debt price_by most_touched j log + log_cost price_by most_touched j.kept more
    → n + judge_owes (Some k) read.entries
    ≤ m + judge_owes (Some j) log + following_cost (Some j) more done
followed_paid j k read log more done m n ready paid = grind (arith, read, more, paid, more_held)

asked : (last n a b c callers : ℕ) → last ≤ n + callers → n + a ≤ b + c
    → last + a ≤ b + (c + callers)
asked last n a b c callers one paid = omega (arith, one, paid)

-- and so is what asking at `end` has cost
pub open_paid : (j k : JudgeView) (read : OwnReading) (log more : List Entry) (done : Bool)
    (m n last : ℕ) → IsReady (Some j) read log more done → done ≡ true
    → k.kept.charter ≡ j.kept.charter → last ≤ n + callers_of k.kept
    → n + judge_debt price_by most_touched k (log ++ more)
    ≤ m + judge_debt price_by most_touched j log + log_cost price_by most_touched j.kept more
    → last + judge_owes (Some k) read.entries
    ≤ m + judge_owes (Some j) log + following_cost (Some j) more done
open_paid j k read log more done m n last ready is rules one paid = search (asked, arith)

-- without a judge nothing costs a step
pub still_none : (o : Option JudgeView) (read : OwnReading) (log more : List Entry) (done : Bool)
    (n : ℕ) → o ≡ None
    → n + judge_owes o read.entries ≤ n + judge_owes o log + following_cost o more done
still_none o read log more done n is = grind (arith, read, more)

grown_more : (a b c d e f : ℕ) → a + b + c ≤ d + e + f → (g : ℕ) → g ≤ b → a + g + c ≤ d + e + f
grown_more a b c d e f paid g less = omega (arith, paid, less)

-- what a part of a piece has cost is paid, whether a verdict stands or not
pub part_paid : (c : CheckerState) (k : OwnCheckerKept) (v : Option Verdict) (bytes part : List ℕ)
    (m n : ℕ)
    → c.so_far ≡ None
    → n + kept_debt k (bytes ++ part) + bytes_cost (limit_of c.kept) bytes
    ≤ m + kept_debt c.kept bytes + bytes_cost (limit_of c.kept) (bytes ++ part)
    → n + debt_after v k (bytes ++ part) + bytes_cost (limit_of c.kept) bytes
    ≤ m + checker_debt c bytes + bytes_cost (limit_of c.kept) (bytes ++ part)
part_paid c k v bytes part m n none paid = grind (arith, paid, grown_more, after_at_most)

-- one part after others
pub parts_paid : (first before after : CheckerState) (bytes read part all : List ℕ) (l m n : ℕ)
    → limit_of before.kept ≡ limit_of first.kept
    → (bytes ++ read) ++ part ≡ bytes ++ all
    → m + checker_debt before (bytes ++ read) + bytes_cost (limit_of first.kept) bytes
    ≤ l + checker_debt first bytes + bytes_cost (limit_of first.kept) (bytes ++ read)
    → n + checker_debt after ((bytes ++ read) ++ part)
    + bytes_cost (limit_of before.kept) (bytes ++ read)
    ≤ m + checker_debt before (bytes ++ read)
    + bytes_cost (limit_of before.kept) ((bytes ++ read) ++ part)
    → n + checker_debt after (bytes ++ all) + bytes_cost (limit_of first.kept) bytes
    ≤ l + checker_debt first bytes + bytes_cost (limit_of first.kept) (bytes ++ all)
parts_paid first before after bytes read part all l m n limit parted one two = grind arith

settled : (l m a b c x y z : ℕ) → m + b + x ≤ l + a + y → y ≤ z → c ≡ 0 → m + c + x ≤ l + a + z
settled l m a b c x y z paid more none = omega (arith, paid, more, none)

-- once a verdict stands, nothing more is paid
pub stands_paid : (first now : CheckerState) (v : Verdict) (bytes read rest piece : List ℕ)
    (l m : ℕ) → IsLimit (limit_of first.kept) → now.so_far ≡ Some v → piece ≡ read ++ rest
    → m + checker_debt now (bytes ++ read) + bytes_cost (limit_of first.kept) bytes
    ≤ l + checker_debt first bytes + bytes_cost (limit_of first.kept) (bytes ++ read)
    → m + checker_debt now (bytes ++ piece) + bytes_cost (limit_of first.kept) bytes
    ≤ l + checker_debt first bytes + bytes_cost (limit_of first.kept) (bytes ++ piece)
stands_paid first now v bytes read rest piece l m limit stands parted paid =
    search (settled, append_assoc, bytes_more, stands_owes, arith)

no_more : (n a b x y : ℕ) → a ≡ b → x ≡ y → n + a + x ≤ n + b + y
no_more n a b x y owed cost = omega (arith, owed, cost)

-- before the first part
pub first_part : (c : CheckerState) (bytes : List ℕ) (n : ℕ)
    → n + checker_debt c (bytes ++ []) + bytes_cost (limit_of c.kept) bytes
    ≤ n + checker_debt c bytes + bytes_cost (limit_of c.kept) (bytes ++ [])
first_part c bytes n = no_more n _ _ _ _ (ap (checker_debt c) (append-nil bytes))
    (ap (bytes_cost (limit_of c.kept)) (sym (append-nil bytes)))

-- after the last one
pub all_paid : (first now : CheckerState) (bytes read rest piece : List ℕ) (l m : ℕ)
    → piece ≡ read ++ rest → rest ≡ []
    → m + checker_debt now (bytes ++ read) + bytes_cost (limit_of first.kept) bytes
    ≤ l + checker_debt first bytes + bytes_cost (limit_of first.kept) (bytes ++ read)
    → m + checker_debt now (bytes ++ piece) + bytes_cost (limit_of first.kept) bytes
    ≤ l + checker_debt first bytes + bytes_cost (limit_of first.kept) (bytes ++ piece)
all_paid first now bytes read rest piece l m parted none paid = grind (arith, append-nil read)
