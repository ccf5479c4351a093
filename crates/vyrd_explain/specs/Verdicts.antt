-- What is said of a verdict about entries that were read, item by item: of a violation what has to
-- do with the execution that it names, and of a broken rule what is open there.
use Rattle.std.specs.Prelude.{ℕ, ◌==◌, Bool, true, false, List, [], ◌++◌, length}
use Rattle.std.specs.Prelude.{Option, slice_get, if◌then◌else◌}
use Rattle.std.specs.Bool.{then_some}
use Rattle.std.specs.Option.{option_map_or}
use Rattle.vyrd_base.specs.declared.header.Header.{Header}
use Rattle.vyrd_base.specs.declared.log.Entry.{Entry}
use Rattle.vyrd_base.specs.declared.log.StartWord.{StartWord}
use Rattle.vyrd_base.specs.declared.verdict.Rule.{Rule}
use Rattle.vyrd_base.specs.declared.verdict.Rule.TheVariants.{BlockRaced, StartState}
use Rattle.vyrd_base.specs.declared.verdict.Verdict.{Verdict}
use Rattle.vyrd_base.specs.declared.verdict.Verdict.TheVariants.{Accepted, Violation, Malformed}
use Rattle.vyrd_base.specs.declared.verdict.Why.{Why}
use Rattle.vyrd_base.specs.declared.verdict.Why.TheVariants.{Reply, View, Observer}
use Rattle.vyrd_base.specs.Front.{front}
use Rattle.vyrd_base.specs.Own.Reader.{written_in}
use Rattle.vyrd_base.specs.Rules.{Charter, built_in, own, rules_by, rules_of}
use Rattle.vyrd_base.specs.Places.{first_answer, numbers_below}
use Rattle.vyrd_witness.specs.declared.item.Item.{Item}
use Rattle.vyrd_witness.specs.Items.{called_items, view_items}
use Rattle.vyrd_witness.specs.Opens.{open_items}
use Rattle.vyrd_witness.specs.Races.{race_items}
use Rattle.vyrd_states.specs.Known.{after_items}
use Rattle.vyrd_states.specs.Replies.{reply_items}
use Rattle.vyrd_states.specs.Windows.{observer_items}
use Rattle.vyrd_own_states.specs.OwnReplies.{own_reply_items}
use Rattle.vyrd_follow.specs.LastSteps.{last_items}

-- what the words show, where a fault is that the views differ, and of any fault where the execution
-- was called and returns
abbrev pub shown_items : Charter → List StartWord → List Entry → ℕ → Why → List Item
shown_items c starting front at (Reply reply) = called_items front at
shown_items c starting front at (View key) = view_items c starting front at key
shown_items c starting front at (Observer reply) = called_items front at

-- what the specification's state before a commit says of a reply that it refuses
abbrev pub refused_items : Charter → List StartWord → List Entry → ℕ → ℕ → List Item
refused_items (built_in h) starting front at reply = reply_items (rules_of h) starting front at
refused_items (own h lines) starting front at reply =
    own_reply_items h (written_in lines) starting front at reply

-- what is told of that state, and behind it which step before was the last that set it
abbrev pub refused_with_last : Charter → List StartWord → List Entry → ℕ → List Item → List Item
refused_with_last c starting front at items = items ++ last_items c starting front at items

-- what the specification's state says of a fault
abbrev pub state_items : Charter → List StartWord → List Entry → ℕ → Why → List Item
state_items c starting front at (Reply reply) =
    refused_with_last c starting front at (refused_items c starting front at reply)
state_items c starting front at (View key) = after_items (rules_by c) starting front at key
state_items c starting front at (Observer reply) = observer_items (rules_by c) starting front at

-- what is said of a fault at a position of a front
abbrev pub fault_items : Charter → List StartWord → List Entry → ℕ → Why → List Item
fault_items c starting front at why =
    shown_items c starting front at why ++ state_items c starting front at why

-- the position of the entry of a front that stands on a line, if one does; `line` gives the line of
-- the entry at a position
abbrev pub position_on : (ℕ → ℕ) → List Entry → ℕ → Option ℕ
position_on line front named =
    first_answer (λ at. then_some (line at == named) at) (numbers_below (length front))

-- what is said of the fault on a line
abbrev pub violation_items
    : Charter → (ℕ → ℕ) → List StartWord → List Entry → ℕ → Why → List Item
violation_items c line starting front named why =
    option_map_or (λ at. fault_items c starting front at why) (position_on line front named) []

-- what the entry behind the front races with, if there is one
abbrev pub raced_items : Header → List Entry → List Entry → List Item
raced_items h front entries =
    option_map_or (race_items h front) (slice_get entries (length front)) []

-- whether a rule is broken by a write that races
abbrev pub is_race : Rule → Bool
is_race BlockRaced = true
is_race _ = false

-- whether a rule is broken by the starting words, before there is anything open
abbrev pub is_start : Rule → Bool
is_start StartState = true
is_start _ = false

-- what is said of a broken rule: of a race what it is with, and what is open where it is broken
abbrev pub malformed_items : Header → List Entry → List Entry → Rule → List Item
malformed_items h front entries rule =
    (if is_race rule then raced_items h front entries else [])
    ++ (if is_start rule then [] else open_items h front)

-- what is said of a verdict about the entries of a log, by the rules that a charter names
abbrev pub verdict_items
    : Charter → (ℕ → ℕ) → List StartWord → List Entry → Verdict → List Item
verdict_items c line starting entries (Accepted count commits observers) = []
verdict_items c line starting entries (Violation named why) =
    violation_items c line starting (front (rules_by c).header entries) named why
verdict_items c line starting entries (Malformed named rule) =
    malformed_items (rules_by c).header (front (rules_by c).header entries) entries rule
