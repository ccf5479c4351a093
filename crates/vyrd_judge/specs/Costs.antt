-- What judging a log costs, in steps.
use Rattle.std.specs.Prelude.{ℕ, ◌+◌, ◌*◌, List, length, map, Option, Some, None}
use Rattle.std.specs.List.{sum_by}
use Rattle.vyrd_base.specs.declared.log.Entry.{Entry}
use Rattle.vyrd_base.specs.declared.log.StartWord.{StartWord}
use Rattle.vyrd_base.specs.declared.verdict.Verdict.{Verdict}
use Rattle.vyrd_base.specs.Places.{newest_first}
use Rattle.vyrd_base.specs.Rules.{Charter, rules_by}
use Rattle.vyrd_shape.specs.Costs.{owed as shape_owed}
use Rattle.vyrd_shadow.specs.Costs.{owed as shadow_owed}
use Rattle.vyrd_view.specs.Known.{Shows}
use Rattle.vyrd_words.specs.Costs.{each_entry as words_entry, entry_price, price_kept}
use Rattle.vyrd_words.specs.Costs.{owed as words_owed}
use Rattle.vyrd_observers.specs.Watching.{answer_count}
use Rattle.vyrd_judge.specs.declared.outcome.Advance.{Advance}
use Rattle.vyrd_judge.specs.declared.outcome.Advance.TheVariants.{Goes, Stops}
use Rattle.vyrd_judge.specs.declared.waiting.Waiting.{Waiting}
use Rattle.vyrd_judge.specs.Following.{FollowerKept, JudgeView, with_first}

-- Two things are the specification's to say, and stand here as what is passed on: the price of each
-- word, by the name of what the words show (`price` of `Compare`), and how many keys a step pays
-- for, by the charter (`most_touched` of `Spec`).

-- What it costs to judge an entry, besides what was owed, by the number of callers and by how many
-- keys a step pays for. The specification makes a step or gives an answer, and what is known of
-- open observers goes on; and the words of a commit are compared: two steps for each key that the
-- step pays for, and three more.
abbrev pub judging_cost : ℕ → ℕ → ℕ
judging_cost callers keys = 9 * callers + 4 + (2 * keys + 3)

-- what is owed for an entry that waits: it is judged, and then the next one is handed out
abbrev pub waiting_price : ℕ → ℕ → ℕ
waiting_price callers keys = judging_cost callers keys + 1

-- what is owed for all entries that wait
abbrev pub waiting_cost : ℕ → ℕ → List Waiting → ℕ
waiting_cost callers keys waiting = sum_by (λ x. waiting_price callers keys) waiting

-- how many callers the log has
abbrev pub callers_of : FollowerKept → ℕ
callers_of k = (rules_by k.charter).header.callers

-- What is owed for the words: to rebuild them, for the changed words and the writes that wait, for
-- the ends of open blocks, and the prices of what these keep back.
abbrev pub words_debt : (ℕ → ℕ) → FollowerKept → List Entry → ℕ
words_debt price k log = shadow_owed k.shadow + k.views.pending
    + words_owed (callers_of k) (newest_first log)
    + price_kept price (callers_of k) (newest_first log)

-- What is owed for the entries so far: by the rules of shape, for the words, by what is known of
-- open observers, for the entries that wait, and for the keys that the specification's steps may
-- still touch beyond what each of them pays for.
abbrev pub debt : (Shows → ℕ → ℕ) → (Charter → ℕ) → FollowerKept → List Entry → ℕ
debt price keys k log = shape_owed k.shape + words_debt (price k.views.shows) k log
    + (answer_count k.watches + 2 * k.answers)
    + waiting_cost (callers_of k) (keys k.charter) k.waiting
    + 2 * k.owes

-- the same once this verdict stands, if there is one: then no entry is looked at any more
abbrev pub debt_after : (Shows → ℕ → ℕ) → (Charter → ℕ) → Option Verdict → FollowerKept → List Entry
    → ℕ
debt_after price keys None k log = debt price keys k log
debt_after price keys (Some v) k log = 0

-- the same for what an entry that was judged leads to
abbrev pub debt_by : (Shows → ℕ → ℕ) → (Charter → ℕ) → Advance → FollowerKept → List Entry → ℕ
debt_by price keys (Goes next) k log = debt price keys (with_first next k) log
debt_by price keys (Stops v) k log = 0

-- what is owed by a judge
abbrev pub judge_debt : (Shows → ℕ → ℕ) → (Charter → ℕ) → JudgeView → List Entry → ℕ
judge_debt price keys j log = debt_after price keys j.so_far j.kept log

-- What each entry costs, by the number of callers and by how many keys a step pays for: two steps
-- for the rules of shape, the work on the words, two steps to take it up among those that wait, and
-- what is owed for it if it waits.
abbrev pub each_entry : ℕ → ℕ → ℕ
each_entry callers keys = 2 + words_entry callers + 2 + waiting_price callers keys

-- what an entry costs in all: besides, a write costs the price of its word
abbrev pub entry_cost : (Shows → ℕ → ℕ) → (Charter → ℕ) → FollowerKept → Entry → ℕ
entry_cost price keys k e =
    each_entry (callers_of k) (keys k.charter) + entry_price (price k.views.shows) e.kind

-- what entries cost in all
abbrev pub log_cost : (Shows → ℕ → ℕ) → (Charter → ℕ) → FollowerKept → List Entry → ℕ
log_cost price keys k log = sum_by (entry_cost price keys k) log

-- what is owed at the start: each starting word is compared once, for its price and a step
abbrev pub start_cost : (ℕ → ℕ) → List StartWord → ℕ
start_cost price starting = sum_by price (map (λ s. s.word) starting) + length starting
