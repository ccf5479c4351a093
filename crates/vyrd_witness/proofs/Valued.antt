-- When a write takes effect doesn't depend on its value: where each value that is written is
-- another one by a function, so is that of each effect.
use Rattle.vyrd_witness.proofs.Prelude
use Prelude.{◌≡◌, ℕ, Bool, true, false, cond, List, [], ◌∷◌, ◌++◌, map, Option, Some, None, refl}
use Prelude.{ap, ◌∙◌, sym, ◌==◌, option_map, unwrap_or, option_or, option_map_or, map-append, Kind}
use Prelude.{Call, Return, Write, Commit, BlockOpen, BlockClose, BlockCommit, Entry, first_answer}
use Prelude.{by_caller, open_or_close, commit_or_open, has_block, has_inner_commit, with_write}
use Prelude.{block_writes, ahead_at, writes_ahead, effects_of_commit, effects_of_end, effects_at}

-- a kind, an entry and an effect, with the value that the function gives
abbrev pub valued_kind : (ℕ → ℕ) → Kind → Kind
valued_kind f (Write word value) = Write word (f value)
valued_kind f kind = kind

abbrev pub valued : (ℕ → ℕ) → Entry → Entry
valued f e = record { caller = e.caller; kind = valued_kind f e.kind }

abbrev pub valued_write : (ℕ → ℕ) → ℕ × ℕ → ℕ × ℕ
valued_write f write = (write.0, f write.1)

-- what doesn't look at values
answer_same : {A : Type 0} (f : ℕ → ℕ) (c : ℕ) (answer : Kind → Option A)
    → ((kind : Kind) → answer (valued_kind f kind) ≡ answer kind) → (es : List Entry)
    → first_answer (by_caller c answer) (map (valued f) es) ≡ first_answer (by_caller c answer) es
answer_same f c answer same [] = refl
answer_same f c answer same (e ∷ es) =
    λ i. option_or (cond (e.caller == c) (same e.kind i) None) (answer_same f c answer same es i)

edge_same : (f : ℕ → ℕ) (kind : Kind) → open_or_close (valued_kind f kind) ≡ open_or_close kind
edge_same f (Call method args) = refl
edge_same f (Return reply) = refl
edge_same f (Write word value) = refl
edge_same f Commit = refl
edge_same f BlockOpen = refl
edge_same f BlockClose = refl
edge_same f BlockCommit = refl

inner_same : (f : ℕ → ℕ) (kind : Kind)
    → commit_or_open (valued_kind f kind) ≡ commit_or_open kind
inner_same f (Call method args) = refl
inner_same f (Return reply) = refl
inner_same f (Write word value) = refl
inner_same f Commit = refl
inner_same f BlockOpen = refl
inner_same f BlockClose = refl
inner_same f BlockCommit = refl

pub block_same : (f : ℕ → ℕ) (c : ℕ) (es : List Entry)
    → has_block c (map (valued f) es) ≡ has_block c es
block_same f c es = ap (λ o. unwrap_or o false) (answer_same f c open_or_close (edge_same f) es)

pub inner_commit_same : (f : ℕ → ℕ) (c : ℕ) (es : List Entry)
    → has_inner_commit c (map (valued f) es) ≡ has_inner_commit c es
inner_commit_same f c es = simp (answer_same, inner_same, block_same)

-- the writes of a block, and those that it still makes
with_same : (f : ℕ → ℕ) (b : Bool) (kind : Kind) (ws : List (ℕ × ℕ))
    → with_write b (valued_kind f kind) (map (valued_write f) ws)
    ≡ map (valued_write f) (with_write b kind ws)
with_same f true (Call method args) ws = refl
with_same f true (Return reply) ws = refl
with_same f true (Write word value) ws = refl
with_same f true Commit ws = refl
with_same f true BlockOpen ws = refl
with_same f true BlockClose ws = refl
with_same f true BlockCommit ws = refl
with_same f false (Call method args) ws = refl
with_same f false (Return reply) ws = refl
with_same f false (Write word value) ws = refl
with_same f false Commit ws = refl
with_same f false BlockOpen ws = refl
with_same f false BlockClose ws = refl
with_same f false BlockCommit ws = refl

pub writes_same : (f : ℕ → ℕ) (c : ℕ) (es : List Entry)
    → block_writes c (map (valued f) es) ≡ map (valued_write f) (block_writes c es)
writes_same f c [] = refl
writes_same f c (e ∷ es) =
    cc (writes_same f c es, with_same f (e.caller == c) e.kind (block_writes c es))

ahead_more : (f : ℕ → ℕ) (word value : ℕ) (o : Option (List (ℕ × ℕ)))
    → option_map (λ ws. ws ++ (word, f value) ∷ []) (option_map (map (valued_write f)) o)
    ≡ option_map (map (valued_write f)) (option_map (λ ws. ws ++ (word, value) ∷ []) o)
ahead_more f word value None = refl
ahead_more f word value (Some ws) = cc (map-append (valued_write f) ws ((word, value) ∷ []))

ahead_step : (f : ℕ → ℕ) (kind : Kind) (o : Option (List (ℕ × ℕ)))
    → ahead_at (valued_kind f kind) (option_map (map (valued_write f)) o)
    ≡ option_map (map (valued_write f)) (ahead_at kind o)
ahead_step f (Call method args) o = refl
ahead_step f (Return reply) o = refl
ahead_step f (Write word value) o = ahead_more f word value o
ahead_step f Commit o = refl
ahead_step f BlockOpen o = refl
ahead_step f BlockClose o = refl
ahead_step f BlockCommit o = refl

pub ahead_same : (f : ℕ → ℕ) (c : ℕ) (es : List Entry)
    → writes_ahead c (map (valued f) es) ≡ option_map (map (valued_write f)) (writes_ahead c es)
ahead_same f c [] = refl
ahead_same f c (e ∷ es) =
    (λ i. cond (e.caller == c) (ahead_at (valued_kind f e.kind) (ahead_same f c es i))
    (ahead_same f c es i)) ∙ by_test (e.caller == c) (writes_ahead c _)
  where
    by_test : (b : Bool) (o : Option (List (ℕ × ℕ)))
        → cond b (ahead_at (valued_kind f e.kind) (option_map (map (valued_write f)) o))
        (option_map (map (valued_write f)) o)
        ≡ option_map (map (valued_write f)) (cond b (ahead_at e.kind o) o)
    by_test true o = ahead_step f _ o
    by_test false o = refl

-- the effects at an entry
commit_same : (f : ℕ → ℕ) (c : ℕ) (earlier later : List Entry)
    → effects_of_commit (map (valued f) earlier) c (map (valued f) later)
    ≡ map (valued_write f) (effects_of_commit earlier c later)
commit_same f c earlier later =
    (λ i. cond (block_same f c earlier i)
    (option_map_or (λ ahead. ahead ++ writes_same f c earlier i) (ahead_same f c later i) []) [])
    ∙ by_block (has_block c earlier) (writes_ahead c later)
  where
    by_block : (b : Bool) (o : Option (List (ℕ × ℕ)))
        → cond b (option_map_or (λ ahead. ahead
        ++ map (valued_write f) (block_writes c earlier)) (option_map (map (valued_write f)) o) [])
        []
        ≡ map (valued_write f)
        (cond b (option_map_or (λ ahead. ahead ++ block_writes c earlier) o []) [])
    by_block false o = refl
    by_block true None = refl
    by_block true (Some ahead) = sym (map-append (valued_write f) ahead (block_writes c earlier))

end_same : (f : ℕ → ℕ) (c : ℕ) (earlier : List Entry)
    → effects_of_end (map (valued f) earlier) c ≡ map (valued_write f) (effects_of_end earlier c)
end_same f c earlier = (λ i. cond (inner_commit_same f c earlier i) [] (writes_same f c earlier i))
    ∙ by_test (has_inner_commit c _)
  where
    by_test : (b : Bool) → cond b [] (map (valued_write f) (block_writes c earlier))
        ≡ map (valued_write f) (cond b [] (block_writes c earlier))
    by_test true = refl
    by_test false = refl

pub effects_same : (f : ℕ → ℕ) (c : ℕ) (kind : Kind) (earlier later : List Entry)
    → effects_at (map (valued f) earlier) c (valued_kind f kind) (map (valued f) later)
    ≡ map (valued_write f) (effects_at earlier c kind later)
effects_same f c (Call method args) earlier later = refl
effects_same f c (Return reply) earlier later = refl
effects_same f c (Write word value) earlier later =
    cc (block_same f c earlier, by_test (has_block c earlier))
  where
    by_test : (b : Bool) → cond b [] ((word, f value) ∷ [])
        ≡ map (valued_write f) (cond b [] ((word, value) ∷ []))
    by_test true = refl
    by_test false = refl
effects_same f c Commit earlier later = commit_same f c earlier later
effects_same f c BlockOpen earlier later = refl
effects_same f c BlockClose earlier later = end_same f c earlier
effects_same f c BlockCommit earlier later = end_same f c earlier
