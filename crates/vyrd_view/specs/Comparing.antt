-- What a comparison has taken in, and what it looks at.
use Rattle.std.specs.Prelude.{◌≡◌, ℕ, Bool, false, ◌+◌, ◌*◌, ◌%◌, ◌==◌, not, List, length, filter}
use Rattle.std.specs.Prelude.{slice_index, if◌then◌else◌}
use Rattle.std.specs.List.{list_any}
use Rattle.vyrd_base.specs.declared.header.Header.{Header}
use Rattle.vyrd_base.specs.declared.subject.Subject.{Subject}
use Rattle.vyrd_base.specs.declared.subject.Subject.TheVariants.{Multiset, Cache, Tree, Buffers}
use Rattle.vyrd_base.specs.declared.subject.Subject.TheVariants.{Own}
use Rattle.vyrd_base.specs.Amounts.{Amounts}
use Rattle.vyrd_base.specs.Layout.{plain_words}
use Rattle.vyrd_base.specs.Rules.{built_in, own}
use Rattle.vyrd_view.specs.Known.{Known, Shows, by_rules, of_subject, nothing}
use Rattle.vyrd_view.specs.Chains.{has_link}

-- the header, the words that are compared, the specification's amounts, and whether memory was
-- refused
pub record Comparison : Type 0 where
  pub header : Header
  pub words : List ℕ
  pub specified : Amounts
  pub refused : Bool

-- the same, as every comparison is seen: the words show what a built-in subject's do
abbrev pub known_of : Comparison → Known
known_of c = record {
  shows = by_rules (built_in c.header);
  count = plain_words c.header;
  words = c.words;
  specified = c.specified;
  refused = c.refused;
}

-- the words are the same except for those that have changed
abbrev pub AgreeElsewhere : List ℕ → List ℕ → List ℕ → Type 0
AgreeElsewhere before words changed =
    (w : ℕ) → list_any (λ x. x == w) changed ≡ false → slice_index words w ≡ slice_index before w

-- how many keys a part of the subject gives amounts to at most; the user's own has no part that is
-- known without its specification
abbrev pub keys_of_part : Subject → ℕ
keys_of_part Multiset = 1
keys_of_part Cache = 2
keys_of_part Tree = 4
keys_of_part Buffers = 1
keys_of_part Own = 0

-- the changed words that hold another value than before
abbrev pub differing : List ℕ → List ℕ → List ℕ → List ℕ
differing before words changed =
    filter (λ w. not (slice_index words w == slice_index before w)) changed

-- how many nodes of a tree are looked at at most, if these words hold other values than before: one
-- for each word, and all if one of them is a right link
abbrev pub nodes_looked_at : ℕ → List ℕ → ℕ
nodes_looked_at size words = length words + (if has_link words then size else 0)

-- how many parts are looked at at most: one for each changed word; the words of a tree count only
-- if
-- they hold another value than before
abbrev pub parts_looked_at : Subject → ℕ → List ℕ → List ℕ → List ℕ → ℕ
parts_looked_at Tree size before words changed =
    nodes_looked_at size (differing before words changed)
parts_looked_at _ size before words changed = length changed

-- how many nodes a changed word leads to beside its own: all of a tree's if it is a right link
abbrev pub nodes_led_to : Subject → ℕ → ℕ → ℕ
nodes_led_to Tree size word = if word % 12 == 3 then size else 0
nodes_led_to _ size word = 0

-- The price of a changed word: for its part, and for each node that it leads to, one step to look
-- at it, and two for each key that it gives an amount to.
abbrev pub word_price : Header → ℕ → ℕ
word_price h word = (1 + 2 * keys_of_part h.subject) * (1 + nodes_led_to h.subject h.size word)

-- the price by the name of what the words show, which is that of a built-in subject
abbrev pub price_by : Shows → ℕ → ℕ
price_by (by_rules (built_in h)) word = word_price h word
price_by (by_rules (own h lines)) word = 0
price_by (of_subject subject size) word = 0
price_by nothing word = 0
