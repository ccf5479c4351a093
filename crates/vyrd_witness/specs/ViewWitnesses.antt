-- The witness of a view that differs at a key: what the words show of it, what they showed at the
-- commit before, and what changed it since.
use Rattle.std.specs.Prelude.{◌≡◌, ℕ, ◌+◌, List, [], ◌∷◌, length, take, drop, if◌then◌else◌}
use Rattle.std.specs.Prelude.{Option, Some, None}
use Rattle.vyrd_base.specs.declared.header.Header.{Header}
use Rattle.vyrd_base.specs.declared.log.Entry.{Entry}
use Rattle.vyrd_base.specs.declared.log.StartWord.{StartWord}
use Rattle.vyrd_base.specs.Places.{newest_first}
use Rattle.vyrd_base.specs.Commits.{is_commit}
use Rattle.vyrd_base.specs.Words.{effects, words_with}
use Rattle.vyrd_base.specs.Rules.{Rules, Charter, rules_by}
use Rattle.vyrd_witness.specs.declared.view.ViewWitness.{ViewWitness}
use Rattle.vyrd_witness.specs.declared.change.Change.{Change}
use Rattle.vyrd_witness.specs.Changes.{amount_shown, changes_in}
use Rattle.vyrd_witness.specs.Effects.{effects_along}
use Rattle.vyrd_witness.specs.Given.{given_parts, parts_by_number}

-- where the last commit stands among entries that are given the newest first
abbrev pub last_commit : List Entry → Option ℕ
last_commit [] = None
last_commit (e ∷ earlier) =
    if is_commit e.kind then Some (length earlier) else last_commit earlier

-- how many entries stand up to a position, and with it: none if there is no position
abbrev pub up_to : Option ℕ → ℕ
up_to None = 0
up_to (Some position) = position + 1

-- where the commit before a position of a front stands
abbrev pub commit_before : List Entry → ℕ → Option ℕ
commit_before front at = last_commit (newest_first (take at front))

-- the plain words after the first n entries of a front, by all effects up to there
abbrev pub words_then : Header → List StartWord → List Entry → ℕ → List ℕ
words_then h starting front n =
    words_with h starting (effects (newest_first (take n front)) (drop n front))

-- what they show of a key
abbrev pub amount_then : Rules → List StartWord → List Entry → ℕ → ℕ → ℕ
amount_then r starting front n key = amount_shown r (words_then r.header starting front n) key

-- the parts of the words that give something to a key, with how much
abbrev pub parts_then : Charter → List StartWord → List Entry → ℕ → ℕ → List (ℕ × ℕ)
parts_then c starting front n key =
    given_parts key (parts_by_number c (words_then (rules_by c).header starting front n))

-- the effects from one position on and before another that change what the words show of a key
abbrev pub changes_along : Rules → List StartWord → List Entry → ℕ → ℕ → ℕ → List Change
changes_along r starting front from to key =
    changes_in r key (words_then r.header starting front from) (effects_along front from to)

-- What is said of the key and of the entry at a position of a front: what the words show of the
-- key there, and which of their parts give that; where the commit before stands, if there is one;
-- what the words showed there, or at the start; and in order the effects since then that changed
-- it.
pub record IsViewWitness (c : Charter) (starting : List StartWord) (front : List Entry) (at key : ℕ)
    (w : ViewWitness) : Type 0 where
  pub key_is : w.key ≡ key
  pub shown : w.shown ≡ amount_then (rules_by c) starting front (at + 1) key
  pub parts : w.parts.items ≡ parts_then c starting front (at + 1) key
  pub since : w.since ≡ commit_before front at
  pub agreed : w.agreed
      ≡ amount_then (rules_by c) starting front (up_to (commit_before front at)) key
  pub changes : w.changes.items
      ≡ changes_along (rules_by c) starting front (up_to (commit_before front at)) (at + 1) key
