-- Which parts of the words give the amount of a key: what each part gives, with its number, and
-- what of that is the key's. Parts are counted from 0.
use Rattle.std.specs.Prelude.{ℕ, zero, suc, ◌*◌, ◌/◌, ◌==◌, Bool, not, ◌&&◌, ◌||◌, nat_le, List, []}
use Rattle.std.specs.Prelude.{◌∷◌, ◌++◌, map, flat_map, length, if◌then◌else◌}
use Rattle.std.specs.List.{list_any}
use Rattle.vyrd_base.specs.declared.subject.Subject.{Subject}
use Rattle.vyrd_base.specs.declared.subject.Subject.TheVariants.{Multiset, Cache, Tree, Buffers}
use Rattle.vyrd_base.specs.declared.subject.Subject.TheVariants.{Own}
use Rattle.vyrd_base.specs.Amounts.{given}
use Rattle.vyrd_base.specs.Buffers.{buffer_at, buffer_parts}
use Rattle.vyrd_base.specs.Cache.{chunk_at, chunk_parts}
use Rattle.vyrd_base.specs.Multiset.{slot_parts}
use Rattle.vyrd_base.specs.Own.Programs.{Written}
use Rattle.vyrd_base.specs.Own.Reader.{written_in}
use Rattle.vyrd_base.specs.Own.Steps.{part_gives, part_words}
use Rattle.vyrd_base.specs.Places.{numbers_below}
use Rattle.vyrd_base.specs.Rules.{Charter, built_in, own}
use Rattle.vyrd_base.specs.Tree.{right_of, node_parts, damage}
use Rattle.vyrd_witness.specs.declared.item.Item.{Item}
use Rattle.vyrd_witness.specs.declared.item.Item.TheVariants.{Given}

-- what each of n parts gives
abbrev pub numbered : (ℕ → List (ℕ × ℕ)) → ℕ → List (ℕ × List (ℕ × ℕ))
numbered gives n = map (λ i. (i, gives i)) (numbers_below n)

-- Whether a node's right link leads past the nodes, or back to the chain: to the node itself or to
-- one that was seen before it.
abbrev pub leads_back : ℕ → List ℕ → List ℕ → ℕ → Bool
leads_back size words seen n =
    nat_le size (right_of words n) || list_any (λ m. m == right_of words n) (n ∷ seen)

-- whether the chain goes on behind a node
abbrev pub leads_on : ℕ → List ℕ → List ℕ → ℕ → Bool
leads_on size words seen n = not (right_of words n == 0) && not (leads_back size words seen n)

-- what a node's right link gives: damage, if it is one that may not be
abbrev pub link_parts : ℕ → List ℕ → List ℕ → ℕ → List (ℕ × ℕ)
link_parts size words seen n =
    if not (right_of words n == 0) && leads_back size words seen n then damage else []

-- What the nodes of the chain give from a node on, in the order of the chain. Before it stand the
-- nodes that are seen, and at most as many follow as are left.
abbrev pub chain_from : ℕ → List ℕ → ℕ → List ℕ → ℕ → List (ℕ × List (ℕ × ℕ))
chain_from size words zero seen n = []
chain_from size words (suc left) seen n =
    (n, node_parts words n ++ link_parts size words seen n)
    ∷ (if leads_on size words seen n
    then chain_from size words left (n ∷ seen) (right_of words n)
    else [])

-- What each part of a built-in subject of this size gives: a slot, a chunk, a node of the chain
-- from node 0 on, or a buffer.
abbrev pub parts_of_subject : Subject → ℕ → List ℕ → List (ℕ × List (ℕ × ℕ))
parts_of_subject Multiset size words = numbered (slot_parts words) (4 * size)
parts_of_subject Cache size words = numbered (λ n. chunk_parts size n (chunk_at words n)) size
parts_of_subject Tree size words = chain_from size words size [] 0
parts_of_subject Buffers size words = numbered (λ n. buffer_parts size n (buffer_at words n)) size
parts_of_subject Own size words = []

-- what each part gives by a specification of the user's own
abbrev pub parts_of_own : Written → List ℕ → List (ℕ × List (ℕ × ℕ))
parts_of_own w words = if w.words == 0
    then []
    else numbered (λ n. part_gives w n (part_words w words n)) (length words / w.words)

-- what each part of the words gives, with its number
abbrev pub parts_by_number : Charter → List ℕ → List (ℕ × List (ℕ × ℕ))
parts_by_number (built_in h) words = parts_of_subject h.subject h.size words
parts_by_number (own h lines) words = parts_of_own (written_in lines) words

-- a part with what it gives to a key, if that isn't 0
abbrev pub told : ℕ → ℕ → List (ℕ × ℕ)
told part amount = if amount == 0 then [] else (part, amount) ∷ []

-- the parts that give something to the key, with how much
abbrev pub given_parts : ℕ → List (ℕ × List (ℕ × ℕ)) → List (ℕ × ℕ)
given_parts key parts = flat_map (λ part. told part.0 (given key part.1)) parts

-- what is said of such parts
abbrev pub given_items : ℕ → ℕ → List (ℕ × ℕ) → List Item
given_items at key parts = map (λ part. Given at part.0 key part.1) parts
