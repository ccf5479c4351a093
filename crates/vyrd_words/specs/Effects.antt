-- The effects from a place of a front on, in parts between the commits, and the writes that act as
-- they do.
use Rattle.std.specs.Prelude.{◌≡◌, ◌≤◌, ℕ, zero, suc, Bool, true, false, ◌-◌, ◌&&◌, ◌==◌, List, []}
use Rattle.std.specs.Prelude.{◌∷◌, ◌++◌, length, Option, None, if◌then◌else◌}
use Rattle.std.specs.Option.{option_or}
use Rattle.std.specs.List.{list_any}
use Rattle.vyrd_base.specs.declared.header.Header.{Header}
use Rattle.vyrd_base.specs.declared.log.Kind.{Kind}
use Rattle.vyrd_base.specs.declared.log.Kind.TheVariants.{Return, Commit, BlockOpen, BlockClose}
use Rattle.vyrd_base.specs.declared.log.Kind.TheVariants.{BlockCommit}
use Rattle.vyrd_base.specs.declared.log.Entry.{Entry}
use Rattle.vyrd_base.specs.declared.log.StartWord.{StartWord}
use Rattle.vyrd_base.specs.Places.{first_answer}
use Rattle.vyrd_base.specs.Words.{effects_at, given_to, words_with}
use Rattle.vyrd_base.specs.Commits.{is_commit, commit_count}

-- The effects at the entries from a place on, the last to take effect first, after some effects
-- before. They are parted after each commit, and so the last part are those after the last commit.
abbrev pub effect_parts : List (ℕ × ℕ) → List Entry → List Entry → List (List (ℕ × ℕ))
effect_parts before earlier [] = before ∷ []
effect_parts before earlier (e ∷ later) =
    if is_commit e.kind
    then (effects_at earlier e.caller e.kind later ++ before) ∷ effect_parts [] (e ∷ earlier) later
    else effect_parts (effects_at earlier e.caller e.kind later ++ before) (e ∷ earlier) later

-- further effects, in the part after which that many stand
abbrev pub with_effects : ℕ → List (ℕ × ℕ) → List (List (ℕ × ℕ)) → List (List (ℕ × ℕ))
with_effects behind effects [] = []
with_effects behind effects (part ∷ parts) =
    if length parts == behind
    then (effects ++ part) ∷ parts
    else part ∷ with_effects behind effects parts

-- after a commit a new part begins
abbrev pub cut_if : Bool → List (List (ℕ × ℕ)) → List (List (ℕ × ℕ))
cut_if true parts = parts ++ [] ∷ []
cut_if false parts = parts

-- the value that writes, in their order, give the word at last
abbrev pub given_last : ℕ → List (ℕ × ℕ) → Option ℕ
given_last w [] = None
given_last w (write ∷ writes) = option_or (given_last w writes) (given_to w write)

-- the writes, in their order, act on each word as the effects, the last to take effect first
abbrev pub ActAlike : List (ℕ × ℕ) → List (ℕ × ℕ) → Type 0
ActAlike writes effects = (w : ℕ) → given_last w writes ≡ first_answer (given_to w) effects

abbrev pub AllActAlike : List (List (ℕ × ℕ)) → List (List (ℕ × ℕ)) → Type 0
AllActAlike [] [] = Unit {0}
AllActAlike (writes ∷ since) (effects ∷ parts) = ActAlike writes effects × AllActAlike since parts
AllActAlike [] (effects ∷ parts) = ⊥
AllActAlike (writes ∷ since) [] = ⊥

-- The words are those of the first part, and the writes since act as the further parts.
abbrev pub HasParts : Header → List StartWord → List ℕ → List (List (ℕ × ℕ)) → List (List (ℕ × ℕ))
    → Type 0
HasParts h starting first since [] = ⊥
HasParts h starting first since (part ∷ parts) =
    (first ≡ words_with h starting part) × AllActAlike since parts

-- each list has no more writes than its part has effects
abbrev pub AllFew : List (List (ℕ × ℕ)) → List (List (ℕ × ℕ)) → Type 0
AllFew [] [] = Unit {0}
AllFew (writes ∷ since) (effects ∷ parts) = (length writes ≤ length effects) × AllFew since parts
AllFew [] (effects ∷ parts) = ⊥
AllFew (writes ∷ since) [] = ⊥

-- No more writes are kept than the last parts have effects. Those of the parts before are no longer
-- kept. For the first commit that waits no more are kept than one part has, and since then, list by
-- list, no more than each further part has.
pub record AreFew (begun : ℕ) (since parts : List (List (ℕ × ℕ))) : Type 0 where
  pub judged : List (List (ℕ × ℕ))
  pub part : List (ℕ × ℕ)
  pub further : List (List (ℕ × ℕ))
  pub whole : parts ≡ judged ++ part ∷ further
  pub first_few : begun ≤ length part
  pub since_few : AllFew since further

-- The number of the lone commit since the caller's last open, or if there is no open, of its last
-- one. The first commit of a log has the number 1, and 0 says that there is none.
abbrev pub number_at : Kind → ℕ → ℕ → ℕ
number_at Commit commits number = suc commits
number_at BlockOpen commits number = 0
number_at _ commits number = number

abbrev pub inner_number : ℕ → List Entry → ℕ
inner_number c [] = 0
inner_number c (e ∷ earlier) =
    if e.caller == c
    then number_at e.kind (commit_count earlier) (inner_number c earlier)
    else inner_number c earlier

-- how many parts stand after that of the commit with this number, if `commits` of them were made
abbrev pub parts_since : ℕ → ℕ → ℕ
parts_since commits zero = 0
parts_since commits (suc number) = commits - number

-- How many parts stand after the effects of an entry: none, but at the end of a block that a lone
-- commit stands in.
abbrev pub parts_behind : List Entry → ℕ → Kind → ℕ
parts_behind earlier c BlockClose = parts_since (commit_count earlier) (inner_number c earlier)
parts_behind earlier c _ = 0

-- whether an entry ends its caller's block, or comes after its end
abbrev pub ends_block : Kind → Bool
ends_block (Return reply) = true
ends_block BlockClose = true
ends_block BlockCommit = true
ends_block _ = false

-- whether the caller's open block ends in these entries
abbrev pub is_ended : ℕ → List Entry → Bool
is_ended c later = list_any (λ e. e.caller == c && ends_block e.kind) later
