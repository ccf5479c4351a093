-- What each part of following an entry costs is paid by what was owed before, and a constant.
use Rattle.vyrd_judge.proofs.Prelude
use Prelude.{◌≡◌, ℕ, ◌+◌, ◌*◌, ◌<◌, ◌≤◌, ◌^◌, List, [], ◌∷◌, ◌++◌, map, length, Option, Some, None}
use Prelude.{ap, refl, subst, ◌∙◌, sym, arith, append-nil, append_assoc, Result, OnOk, sum_by}
use Prelude.{cons_option, Header, Entry, StartWord, place_of, commit_count, newest_first, Charter}
use Prelude.{rules_by, broken_rule, length-newest_first_onto, newest_first-push, HasWords, Keeps}
use Prelude.{answer_count, Waiting, replied, waiting_at, HasQueued, HasTakenUp, Verdict}
use Prelude.{FollowerKept, JudgeView, HasTakenIn, IsFaultless, IsCatchingUp, with_first, callers_of}
use Prelude.{debt, entry_cost, log_cost, debt_after, judge_debt}
use Rattle.std.proofs.lemmas.List.Sums.{sum_by-append, sum_by-cons}
use Rattle.vyrd_shape.specs.Following.{HasFollowed as ShapeFollows}
use Rattle.vyrd_shape.specs.Costs.{owed as shape_owed}
use Rattle.vyrd_shadow.specs.Costs.{owed as shadow_owed}
use Rattle.vyrd_view.specs.Known.{Shows}
use Rattle.vyrd_words.specs.Costs.{entry_price, price_kept, each_entry as words_entry}
use Rattle.vyrd_words.specs.Costs.{owed as words_owed}
use Rattle.vyrd_words.proofs.PriceLaws.{owed_none, price_none}
use Rattle.vyrd_judge.specs.Costs.{judging_cost, waiting_price, waiting_cost, each_entry}
use Rattle.vyrd_judge.specs.Costs.{start_cost}
use Rattle.vyrd_judge.proofs.FollowerLaws.{commits_same}

pub at_most_then : {a b c : ℕ} → a ≤ b → b ≤ c → a ≤ c
at_most_then first second = omega (arith, first, second)

-- an entry that waits has its price whatever it is
waiting_replied : (callers keys : ℕ) (e : Entry) (ws : List Waiting)
    → waiting_cost callers keys (map (replied e) ws) ≡ waiting_cost callers keys ws
waiting_replied callers keys e [] = refl
waiting_replied callers keys e (w ∷ ws) =
    let rest = waiting_replied callers keys e ws in
    omega (
      arith,
      rest,
      sum_by-cons (λ (x : Waiting). waiting_price callers keys) (replied e w) (map (replied e) ws),
      sum_by-cons (λ (x : Waiting). waiting_price callers keys) w ws,
    )

waiting_one : (callers keys : ℕ) (o : Option Waiting) → waiting_cost callers keys (cons_option o [])
    ≤ waiting_price callers keys
waiting_one callers keys o = grind arith

-- at most one more entry waits
waiting_more : (callers keys : ℕ) (e : Entry) (o : Option Waiting) (old new : List Waiting)
    → new ≡ map (replied e) old ++ cons_option o []
    → waiting_cost callers keys new ≤ waiting_cost callers keys old + waiting_price callers keys
waiting_more callers keys e o old new is = omega (
  arith,
  ap (waiting_cost callers keys) is,
  sum_by-append (λ (x : Waiting). waiting_price callers keys) (map (replied e) old)
      (cons_option o []),
  waiting_replied callers keys e old,
  waiting_one callers keys o,
)

-- an entry that was handed out is judged, and the next one is handed out if it can be judged
pub judged_paid : (price : Shows → ℕ → ℕ) (keys : Charter → ℕ) (k m n : FollowerKept) (x : Waiting)
    (next : Option Waiting) (starting : List StartWord) (log : List Entry)
    (before judged after : ℕ)
    → k ≡ m → IsCatchingUp next n starting log → n.charter ≡ k.charter → n.shape ≡ k.shape →
    n.shadow ≡ k.shadow
    → n.views.shows ≡ k.views.shows
    → judged + (answer_count n.watches + 2 * n.answers) + n.views.pending + 2 * n.owes
    ≤ before + (answer_count k.watches + 2 * k.answers) + k.views.pending + 2 * k.owes
    + judging_cost (callers_of k) (keys k.charter)
    → after ≤ judged + 1 → cons_option next n.waiting ≡ k.waiting
    → after + debt price keys (with_first next n) log
    ≤ before + debt price keys (with_first (Some x) m) log
judged_paid price keys k m n x next starting log before judged after same going charter shape shadow
    shows paid left waiting = rw (← same) (omega (
      arith,
      paid,
      left,
      ap shape_owed shape,
      ap shadow_owed shadow,
      ap (λ g. words_owed (rules_by g).header.callers (newest_first log)) charter,
      ap (λ g. price_kept (price n.views.shows) (rules_by g).header.callers
          (newest_first log)) charter,
      ap (λ s. price_kept (price s) (callers_of k) (newest_first log)) shows,
      ap (λ g. waiting_cost (rules_by g).header.callers (keys g)
          (cons_option next n.waiting)) charter,
      ap (waiting_cost (callers_of k) (keys k.charter)) waiting,
      sum_by-cons (λ (x : Waiting). waiting_price (callers_of k) (keys k.charter)) x k.waiting,
    ))

-- a log is short enough for the count of the rules of shape
short : {k : FollowerKept} {starting : List StartWord} {log : List Entry} → k.entries < 2 ^ 62
    → HasTakenIn k starting log → length (newest_first log) < 2 ^ 63
short {k} {starting} {log} few t = omega (arith, few, t.entries, length-newest_first_onto [] log)

-- an entry that breaks a rule of shape
pub broken_paid : (price : Shows → ℕ → ℕ) (keys : Charter → ℕ) (k m : FollowerKept) (e : Entry)
    (before after held : ℕ) → k ≡ m
    → ((earlier : List Entry) → ShapeFollows k.shape earlier → length earlier < 2 ^ 63
    → after + held ≤ before + shape_owed k.shape + 2)
    → k.entries < 2 ^ 62 → (starting : List StartWord) (log : List Entry)
    → IsFaultless k starting log
    → after + 0 ≤ before + debt price keys m log + entry_cost price keys m e
broken_paid price keys k m e before after held same shape_paid few starting log f =
    grind (arith, shape_paid (newest_first log) f.taken_in.shape (short few f.taken_in))

-- one more entry that keeps the rules, by what each part does
pub taken_paid : (price : Shows → ℕ → ℕ) (keys : Charter → ℕ) (k m n : FollowerKept)
    (first : Option Waiting) (e : Entry) (queue_header : Header)
    (before shaped worded queued_up : ℕ)
    → k ≡ m → k.shape.header ≡ (rules_by k.charter).header
    → k.shadow.header ≡ (rules_by k.charter).header → queue_header ≡ (rules_by k.charter).header
    → ((earlier : List Entry) → ShapeFollows k.shape earlier
    → (broken_rule k.shape.header earlier e ≡ None) × ShapeFollows n.shape (e ∷ earlier))
    → ((earlier : List Entry) → ShapeFollows k.shape earlier → length earlier < 2 ^ 63
    → shaped + shape_owed n.shape ≤ before + shape_owed k.shape + 2)
    → ((starting : List StartWord) (earlier : List Entry)
    → HasWords k.shadow k.inner starting earlier → Keeps k.shadow.header earlier e
    → k.commits ≡ commit_count earlier
    → worded + shadow_owed n.shadow + n.views.pending
    + words_owed k.shadow.header.callers (e ∷ earlier)
    + price_kept (price k.views.shows) k.shadow.header.callers (e ∷ earlier)
    ≤ shaped + shadow_owed k.shadow + k.views.pending
    + words_owed k.shadow.header.callers earlier
    + price_kept (price k.views.shows) k.shadow.header.callers earlier
    + (words_entry k.shadow.header.callers + entry_price (price k.views.shows) e.kind))
    → ((earlier : List Entry) → HasQueued queue_header k.waiting k.taken k.callers earlier
    → Keeps queue_header earlier e → k.entries ≡ length earlier
    → HasTakenUp queue_header k.waiting (cons_option first n.waiting) n.taken n.callers e earlier)
    → queued_up ≤ worded + 2
    → n.charter ≡ k.charter → n.views.shows ≡ k.views.shows → n.owes ≡ k.owes
    → n.watches ≡ k.watches → n.answers ≡ k.answers → k.entries < 2 ^ 62
    → (starting : List StartWord) (log : List Entry) → IsFaultless k starting log
    → IsCatchingUp first n starting (log ++ e ∷ [])
    → queued_up + debt price keys (with_first first n) (log ++ e ∷ [])
    ≤ before + debt price keys m log + entry_cost price keys m e
taken_paid price keys k m n first e queue_header before shaped worded queued_up same shape_is
    shadow_is queue_is shape shape_paid words queued queue_paid charter shows owes watches answers
    few starting log f going =
    let up = queued (newest_first log) queue (keeps_at queue_is) (reversed t.entries) in
    let callers_is = ap (λ (h : Header). h.callers) shadow_is in
    let words_paid = subst (λ callers. worded + shadow_owed n.shadow + n.views.pending
    + words_owed callers (e ∷ newest_first log)
    + price_kept (price k.views.shows) callers (e ∷ newest_first log)
    ≤ shaped + shadow_owed k.shadow + k.views.pending
    + words_owed callers (newest_first log)
    + price_kept (price k.views.shows) callers (newest_first log)
    + (words_entry callers + entry_price (price k.views.shows) e.kind)) callers_is
    (words starting (newest_first log) t.words (keeps_at shadow_is)
    (t.commits ∙ sym (commits_same log))) in
    rw (← same) (omega (
      arith,
      shape_paid (newest_first log) t.shape (short few t),
      words_paid,
      queue_paid,
      ap (λ g. words_owed (rules_by g).header.callers (newest_first (log ++ e ∷ []))) charter,
      ap (words_owed (callers_of k)) (newest_first-push log e),
      ap (λ g. price_kept (price n.views.shows) (rules_by g).header.callers
          (newest_first (log ++ e ∷ []))) charter,
      ap (λ s. price_kept (price s) (callers_of k) (newest_first (log ++ e ∷ []))) shows,
      ap (price_kept (price k.views.shows) (callers_of k)) (newest_first-push log e),
      ap (λ g. waiting_cost (rules_by g).header.callers (keys g)
          (cons_option first n.waiting)) charter,
      waiting_more (callers_of k) (keys k.charter) e
          (waiting_at (place_of e (newest_first log) [])) k.waiting
          (cons_option first n.waiting) up.waiting,
      ap answer_count watches,
      answers,
      owes,
    ))
  where
    t : HasTakenIn k starting log
    t = f.taken_in

    keeps : Keeps (rules_by k.charter).header (newest_first log) e
    keeps = grind (arith, (shape (newest_first log) t.shape).0)

    keeps_at : {h : Header} → h ≡ (rules_by k.charter).header → Keeps h (newest_first log) e
    keeps_at {h} is = rw is keeps

    queue : HasQueued queue_header k.waiting k.taken k.callers (newest_first log)
    queue = grind (arith, t.queued)

    reversed : k.entries ≡ length log → k.entries ≡ length (newest_first log)
    reversed is = omega (arith, is, length-newest_first_onto [] log)

-- a judge owes nothing once a verdict stands
some_owes : (price : Shows → ℕ → ℕ) (keys : Charter → ℕ) (j : JudgeView) {v : Verdict}
    (log : List Entry) → j.so_far ≡ Some v → judge_debt price keys j log ≡ 0
some_owes price keys j log is = ap (λ o. debt_after price keys o j.kept log) is

-- a verdict stands already
pub stands_paid : (price : Shows → ℕ → ℕ) (keys : Charter → ℕ) (j : JudgeView) {v : Verdict}
    (before cost : ℕ) (log more : List Entry) → j.so_far ≡ Some v
    → before + judge_debt price keys j more ≤ before + judge_debt price keys j log + cost
stands_paid price keys j before cost log more is = grind (arith, more, some_owes)

-- before the first of some entries
pub first_paid : (price : Shows → ℕ → ℕ) (keys : Charter → ℕ) (before : ℕ) (j : JudgeView)
    {log same : List Entry} → same ≡ log
    → before + judge_debt price keys j same ≤ before + judge_debt price keys j log + 0
first_paid price keys before j e4 = grind arith

-- what entries cost goes by the charter and by the name of what the words show
log_same : (price : Shows → ℕ → ℕ) (keys : Charter → ℕ) (k n : FollowerKept) (es : List Entry)
    → n.charter ≡ k.charter → n.views.shows ≡ k.views.shows
    → log_cost price keys n es ≡ log_cost price keys k es
log_same price keys k n es charter shows =
    ap (λ g. sum_by (λ (e : Entry). each_entry (rules_by g).header.callers (keys g)
    + entry_price (price n.views.shows) e.kind) es) charter
    ∙ ap (λ s. sum_by (λ (e : Entry). each_entry (callers_of k) (keys k.charter)
    + entry_price (price s) e.kind) es) shows

-- the cost of one entry, as that of a list
pub one_cost : (price : Shows → ℕ → ℕ) (keys : Charter → ℕ) (k : FollowerKept) (e : Entry) (a b : ℕ)
    → a ≤ b + entry_cost price keys k e → a ≤ b + log_cost price keys k (e ∷ [])
one_cost price keys k e a b paid = search (paid, arith)

-- one entry of a history, whose event was a step before it
pub event_paid : (price : Shows → ℕ → ℕ) (keys : Charter → ℕ) (k : FollowerKept)
    (e : Entry) {T E : Type 0}
    (r : Result T E) (a x b y c : ℕ) → b ≡ c + 1
    → OnOk r (a + x ≤ b + y + entry_cost price keys k e)
    → OnOk r (a + x ≤ c + y + log_cost price keys k (e ∷ []) + 1)
event_paid price keys k e r a x b y c is paid = search (paid, arith)

-- some more of some entries
pub more_paid : (price : Shows → ℕ → ℕ) (keys : Charter → ℕ) (k n : FollowerKept) (a b c : ℕ)
    (before more upto : List Entry) → n.charter ≡ k.charter → n.views.shows ≡ k.views.shows
    → upto ≡ before ++ more → a ≤ b + log_cost price keys n more
    → b ≤ c + log_cost price keys k before → a ≤ c + log_cost price keys k upto
more_paid price keys k n a b c before more upto charter shows is one paid =
    grind (
      arith,
      log_same price keys k n more charter shows,
      sum_by-append (entry_cost price keys
          k) before more,
    )

-- one more of some entries, by what the judge says of the log with it
pub entry_paid : (price : Shows → ℕ → ℕ) (keys : Charter → ℕ) (k : FollowerKept) (n m : JudgeView)
    (after between start : ℕ) (log before upto : List Entry) (e : Entry)
    → n.kept.charter ≡ k.charter → n.kept.views.shows ≡ k.views.shows → upto ≡ before ++ e ∷ []
    → after + judge_debt price keys m ((log ++ before) ++ e ∷ [])
    ≤ between + judge_debt price keys n (log ++ before) + entry_cost price keys n.kept e
    → between + judge_debt price keys n (log ++ before) ≤ start + log_cost price keys k before
    → after + judge_debt price keys m (log ++ upto) ≤ start + log_cost price keys k upto
entry_paid price keys k n m after between start log before upto e charter shows is one paid =
    more_paid price keys k n.kept _ _ _ before (e ∷ []) upto charter shows is
    (one_cost price keys n.kept e _ _ (rw (← append_assoc log before (e ∷ []) ∙ ap (λ xs. log ++ xs)
    (sym is)) one)) paid

-- a verdict comes to stand with one of some entries
pub verdict_paid : (price : Shows → ℕ → ℕ) (keys : Charter → ℕ) (k : FollowerKept) (j : JudgeView)
    {v : Verdict} (a c held : ℕ) (upto rest whole more : List Entry) → j.so_far ≡ Some v
    → upto ++ rest ≡ whole → a + held ≤ c + log_cost price keys k upto
    → a + judge_debt price keys j more ≤ c + log_cost price keys k whole
verdict_paid price keys k j a c held upto rest whole more stands is paid =
    plain (judge_debt price keys j more) (log_cost price keys k whole)
    (some_owes price keys j more stands)
    (ap (log_cost price keys k) (sym is) ∙ sum_by-append (entry_cost price keys k) upto rest)
  where
    plain : (owed all : ℕ) → owed ≡ 0
        → all ≡ log_cost price keys k upto + log_cost price keys k rest
        → a + owed ≤ c + all
    plain owed all none sum = omega (arith, none, sum, paid)

-- the same of the events of a history, each of which is a step
pub more_events : (price : Shows → ℕ → ℕ) (keys : Charter → ℕ) (k n : FollowerKept) (a b c i : ℕ)
    (before more upto : List Entry) → n.charter ≡ k.charter → n.views.shows ≡ k.views.shows
    → upto ≡ before ++ more → a ≤ b + log_cost price keys n more + 1
    → b ≤ c + log_cost price keys k before + i → a ≤ c + log_cost price keys k upto + (i + 1)
more_events price keys k n a b c i before more upto charter shows is one paid =
    grind (
      arith,
      log_same price keys k n more charter shows,
      sum_by-append (entry_cost price keys
          k) before more,
    )

pub first_events : (price : Shows → ℕ → ℕ) (keys : Charter → ℕ) (before : ℕ) (j : JudgeView)
    (log : List Entry) {none : List Entry} → none ≡ []
    → before + judge_debt price keys j (log ++ none)
    ≤ before + judge_debt price keys j log + log_cost price keys j.kept none + 0
first_events price keys before j log {none} is =
    subst (λ es. before + judge_debt price keys j (log ++ es)
    ≤ before + judge_debt price keys j log + log_cost price keys j.kept es + 0) (sym is)
    (plain (judge_debt price keys j (log ++ [])) (judge_debt price keys j log)
    (ap (judge_debt price keys j) (append-nil log)))
  where
    plain : (a b : ℕ) → a ≡ b → before + a ≤ before + b + 0 + 0
    plain a b same = omega (arith, same)

pub stands_events : (price : Shows → ℕ → ℕ) (keys : Charter → ℕ) (j : JudgeView) {v : Verdict}
    (before cost n : ℕ) (log more : List Entry) → j.so_far ≡ Some v
    → before + judge_debt price keys j more ≤ before + judge_debt price keys j log + cost + n
stands_events price keys j before cost n log more is = grind (arith, more, some_owes)

pub last_events : (a c i n : ℕ) → i ≤ n → a ≤ c + i → a ≤ c + n
last_events a c i n low paid = omega (arith, low, paid)

pub verdict_events : (price : Shows → ℕ → ℕ) (keys : Charter → ℕ) (k : FollowerKept) (j : JudgeView)
    {v : Verdict} (a c held i n : ℕ) (upto rest whole more : List Entry) → j.so_far ≡ Some v
    → upto ++ rest ≡ whole → i < n → a + held ≤ c + log_cost price keys k upto + (i + 1)
    → a + judge_debt price keys j more ≤ c + log_cost price keys k whole + n
verdict_events price keys k j a c held i n upto rest whole more stands is low paid =
    plain (judge_debt price keys j more) (log_cost price keys k whole)
    (some_owes price keys j more stands)
    (ap (log_cost price keys k) (sym is) ∙ sum_by-append (entry_cost price keys k) upto rest)
  where
    plain : (owed all : ℕ) → owed ≡ 0
        → all ≡ log_cost price keys k upto + log_cost price keys k rest
        → a + owed ≤ c + all + n
    plain owed all none sum = omega (arith, none, sum, low, paid)

-- what a judge owes before the first entry
pub owed_first : (price : Shows → ℕ → ℕ) (keys : Charter → ℕ) {k : FollowerKept}
    {starting : List StartWord} (owes : ℕ) → HasTakenIn k starting []
    → shape_owed k.shape ≡ 0
    → k.views.pending ≡ start_cost (price k.views.shows) starting
    → shadow_owed k.shadow ≡ 0
    → answer_count k.watches + 2 * k.answers ≡ 0 → k.waiting ≡ [] → k.owes ≡ owes
    → debt price keys k [] ≡ start_cost (price k.views.shows) starting + 2 * owes
owed_first price keys owes owes' t shape pending rebuilt watches waiting =
    grind (arith, watches, owed_none, price_none)
