-- What the work on the words costs, in steps.
use Rattle.std.specs.Prelude.{ℕ, ◌+◌, ◌*◌, List, [], ◌∷◌, length}
use Rattle.std.specs.Prelude.{if◌then◌else◌}
use Rattle.std.specs.List.{sum_by}
use Rattle.vyrd_base.specs.declared.log.Kind.{Kind}
use Rattle.vyrd_base.specs.declared.log.Kind.TheVariants.{Write, BlockClose, BlockCommit}
use Rattle.vyrd_base.specs.declared.log.Entry.{Entry}
use Rattle.vyrd_base.specs.Callers.{has_block}
use Rattle.vyrd_base.specs.Commits.{commit_count}
use Rattle.vyrd_base.specs.Places.{numbers_below}
use Rattle.vyrd_base.specs.Words.{block_writes}
use Rattle.vyrd_shadow.specs.Following.{ShadowKept, is_open, kept_writes, words_of}
use Rattle.vyrd_words.specs.Effects.{inner_number, parts_since}

-- What the changed words and the writes that wait will cost, by the price of each word: for a
-- changed word that price, and a step to drop it; and for a write that waits two steps, since it
-- takes effect in one of them, and its word is a changed one then.
abbrev pub pending_for : (ℕ → ℕ) → List ℕ → List (ℕ × ℕ) → ℕ
pending_for price changed writes = sum_by price changed + length changed
    + sum_by (λ write. price write.0) writes + 2 * length writes

-- What the end of the caller's open block would cost here, besides its writes: two steps for each
-- commit since the lone commit in the block, if there is one.
abbrev pub held : List Entry → ℕ → ℕ
held earlier c =
    if has_block c earlier
    then 2 * parts_since (commit_count earlier) (inner_number c earlier)
    else 0

-- what the ends of all open blocks would cost
abbrev pub work_held : ℕ → List Entry → ℕ
work_held callers earlier = sum_by (held earlier) (numbers_below callers)

-- the words that an entry's effects change
abbrev pub effect_words : ShadowKept → ℕ → Kind → List ℕ
effect_words kept c (Write word value) = if is_open kept c then [] else word ∷ []
effect_words kept c BlockClose = words_of (kept_writes kept c)
effect_words kept c BlockCommit = words_of (kept_writes kept c)
effect_words kept c _ = []

-- how many effects an entry has
abbrev pub effect_count : ShadowKept → ℕ → Kind → ℕ
effect_count kept c (Write word value) = if is_open kept c then 0 else 1
effect_count kept c BlockClose = length (kept_writes kept c)
effect_count kept c BlockCommit = length (kept_writes kept c)
effect_count kept c _ = 0

-- how many writes the caller's open block keeps back
abbrev pub kept_back : List Entry → ℕ → ℕ
kept_back earlier c = if has_block c earlier then length (block_writes c earlier) else 0

-- how many all open blocks keep back
abbrev pub all_kept_back : ℕ → List Entry → ℕ
all_kept_back callers earlier = sum_by (kept_back earlier) (numbers_below callers)

-- What is owed for the entries so far: what the ends of open blocks would cost, and four steps for
-- each write that is kept back.
abbrev pub owed : ℕ → List Entry → ℕ
owed callers earlier = work_held callers earlier + 4 * all_kept_back callers earlier

-- the price of the word that an entry writes
abbrev pub entry_price : (ℕ → ℕ) → Kind → ℕ
entry_price price (Write word value) = price word
entry_price price _ = 0

-- the prices of what the caller's open block keeps back
abbrev pub price_back : (ℕ → ℕ) → List Entry → ℕ → ℕ
price_back price earlier c =
    if has_block c earlier then sum_by (λ write. price write.0) (block_writes c earlier) else 0

-- the prices of what all open blocks keep back: each was paid by its write
abbrev pub price_kept : (ℕ → ℕ) → ℕ → List Entry → ℕ
price_kept price callers earlier = sum_by (price_back price earlier) (numbers_below callers)

-- What each entry costs at most, with what is owed after it and beside the price of what it writes:
-- five steps of the words that are rebuilt, four to pass an effect on, and for each caller the two
-- that its open block's end owes for a commit.
abbrev pub each_entry : ℕ → ℕ
each_entry callers = 9 + 2 * callers
