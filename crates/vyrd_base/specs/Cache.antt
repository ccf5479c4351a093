-- The cache of chunks over a store of the same chunks, as many as its size. Each holds a pair of
-- numbers of 32 bits, lo and hi. The amount of a chunk is hi * 2^32 + lo, so that a chunk with the
-- pair (0, 0) isn't there.
use Rattle.std.specs.Prelude.{ℕ, Bool, not, ◌+◌, ◌*◌, ◌^◌, ◌==◌, ◌&&◌, ◌||◌, nat_lt, nat_le}
use Rattle.std.specs.Prelude.{List, [], ◌∷◌, slice_index, flat_map, codes, Option, Some, None}
use Rattle.std.specs.Prelude.{if◌then◌else◌}
use Rattle.std.specs.List.{list_all}
use Rattle.vyrd_base.specs.declared.cache.CacheMethod.{CacheMethod}
use Rattle.vyrd_base.specs.declared.cache.CacheMethod.TheVariants.{Write, Flush, Evict, Read}
use Rattle.vyrd_base.specs.declared.subject.Args.{Args}
use Rattle.vyrd_base.specs.declared.subject.Commits.{Commits}
use Rattle.vyrd_base.specs.declared.subject.Commits.TheVariants.{Never, Once}
use Rattle.vyrd_base.specs.Limits.{is_within}
use Rattle.vyrd_base.specs.Amounts.{Amounts, amount_of, with_amount}
use Rattle.vyrd_base.specs.Places.{numbers_below}
use Rattle.vyrd_base.specs.Structures.{Structure, by_reply}

abbrev pub called : CacheMethod → List ℕ
called Write = codes "write"
called Flush = codes "flush"
called Evict = codes "evict"
called Read = codes "read"

abbrev pub arity : CacheMethod → ℕ
arity Write = 3
arity Flush = 1
arity Evict = 1
arity Read = 1

-- The number of a chunk is below the size.
abbrev pub takes : ℕ → CacheMethod → Args → Bool
takes size Write args = nat_lt args.a size
takes size Flush args = nat_lt args.a size
takes size Evict args = nat_lt args.a size
takes size Read args = nat_lt args.a size

abbrev pub commits : CacheMethod → Commits
commits Write = Once
commits Flush = Once
commits Evict = Once
commits Read = Never

-- A write gives the chunk its pair. A flush and an evict change no pair.
abbrev pub next : CacheMethod → Args → ℕ → Amounts → Option Amounts
next Write args reply state =
    by_reply reply None (Some (with_amount state args.a (args.c * 2 ^ 32 + args.b))) None
next Flush args reply state = by_reply reply None (Some state) None
next Evict args reply state = by_reply reply None (Some state) None
next Read args reply state = None

-- A read answers the chunk's pair.
abbrev pub answer : Amounts → CacheMethod → Args → ℕ
answer state Write args = 0
answer state Flush args = 0
answer state Evict args = 0
answer state Read args = amount_of state args.a

-- two halves below 2^32 as one number
abbrev pub pair_amount : ℕ → ℕ → ℕ
pair_amount lo hi = hi * 2 ^ 32 + lo

-- the five words of a chunk: its state (0 absent, 1 clean, 2 dirty), and the cached and the stored
-- pair
pub record Chunk : Type 0 where
  pub state : ℕ
  pub cached_lo : ℕ
  pub cached_hi : ℕ
  pub stored_lo : ℕ
  pub stored_hi : ℕ

-- the chunk of that number
abbrev pub chunk_at : List ℕ → ℕ → Chunk
chunk_at words h = record {
  state = slice_index words (5 * h);
  cached_lo = slice_index words (5 * h + 1);
  cached_hi = slice_index words (5 * h + 2);
  stored_lo = slice_index words (5 * h + 3);
  stored_hi = slice_index words (5 * h + 4);
}

-- whether the state is one of the three, and the halves are below 2^32
abbrev pub is_chunk : Chunk → Bool
is_chunk c = nat_le c.state 2 && nat_lt c.cached_lo (2 ^ 32) && nat_lt c.cached_hi (2 ^ 32)
    && nat_lt c.stored_lo (2 ^ 32) && nat_lt c.stored_hi (2 ^ 32)

-- the pair in the cache
abbrev pub cached_pair : Chunk → ℕ
cached_pair c = pair_amount c.cached_lo c.cached_hi

-- the pair in the store
abbrev pub stored_pair : Chunk → ℕ
stored_pair c = pair_amount c.stored_lo c.stored_hi

-- Chunk h of a cache of this size gives the key h its pair: the stored one if it is absent, and
-- otherwise the cached one. The key size + h stands for damage: a clean chunk whose cached pair
-- isn't the stored one gives it 1 besides, and words that aren't a chunk give it 2 and nothing
-- else.
abbrev pub chunk_parts : ℕ → ℕ → Chunk → List (ℕ × ℕ)
chunk_parts size h c =
    if not (is_chunk c) then (size + h, 2) ∷ []
    else ((h, (if c.state == 0 then stored_pair c else cached_pair c))
    ∷ (if c.state == 1 && not (cached_pair c == stored_pair c) then (size + h, 1) ∷ [] else []))

-- A chunk's state is one of the three, its halves are below 2^32, and a clean chunk's cached pair
-- is its stored pair.
abbrev pub is_sound_chunk : Chunk → Bool
is_sound_chunk c = is_chunk c && (not (c.state == 1) || cached_pair c == stored_pair c)

-- A chunk has 5 words, and a lock.
abbrev pub cache : Structure CacheMethod
cache = record {
  name = codes "cache";
  limits = is_within;
  methods = Write ∷ Flush ∷ Evict ∷ Read ∷ [];
  called = called;
  arity = arity;
  takes = takes;
  commits = commits;
  next = next;
  answer = answer;
  plain_words = λ size. 5 * size;
  locks = λ size. size;
  parts = λ size words. flat_map (λ h. chunk_parts size h (chunk_at words h)) (numbers_below size);
  is_sound = λ size words.
      list_all (λ h. is_sound_chunk (chunk_at words h)) (numbers_below size);
}
