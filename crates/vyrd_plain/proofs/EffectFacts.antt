-- How the writes of a block, and the words, are found entry by entry.
use Rattle.vyrd_plain.proofs.Prelude
use Prelude.{◌≡◌, ◌⊎◌, ℕ, zero, suc, ◌+◌, ◌<◌, ◌≤◌, Bool, true, false, cond, List, [], ◌∷◌, ◌++◌}
use Prelude.{length, take, drop, replicate, Option, Some, None, slice_get, refl, ap, subst, ◌∙◌}
use Prelude.{sym, arith, append-nil, append_assoc, drop-cons, ◌≢◌, ◌==◌, slice_set, option_map}
use Prelude.{drop-append-le, length-take, option_map_or, take-add, slice_get_within}
use Prelude.{get_or_from_slice_get, Header, Kind, Call, Return, Write, Commit, BlockOpen}
use Prelude.{BlockClose, BlockCommit, Entry, newest_first, broken_rule, first_break, has_block}
use Prelude.{plain_words, block_writes, ahead_at, writes_ahead, effects_at, words_with, same_of}
use Prelude.{is_same, isnt_same, entry, close_kept, block_commit_kept, Block, written_by, writes_in}
use Prelude.{IsOpenBlock, rules_at, write_kept, take_one_more, one_write, zeros_from}

-- the writes among two lists of entries, one after the other
pub writes_in-append : (c : ℕ) (xs ys : List Entry)
    → writes_in c (xs ++ ys) ≡ writes_in c ys ++ writes_in c xs
writes_in-append c [] ys = sym (append-nil (writes_in c ys))
writes_in-append c (x ∷ xs) ys =
    ap (λ ws. ws ++ written_by (x.caller == c) x.kind) (writes_in-append c xs ys)
    ∙ append_assoc (writes_in c ys) (writes_in c xs) (written_by (x.caller == c) x.kind)

-- those among one entry more, from a place on
pub writes_in-next : (c : ℕ) (front : List Entry) (from at : ℕ) (e : Entry) → from ≤ at
    → slice_get front at ≡ Some e
    → writes_in c (drop from (take (at + 1) front)) ≡ written_by (e.caller == c) e.kind
    ++ writes_in c (drop from (take at front))
writes_in-next c front from at e order here =
    let within = slice_get_within front at e here in
    let long : from ≤ length (take at front) = omega (arith, length-take at front) in
    ap (λ es. writes_in c (drop from es)) (take_one_more front at e here)
    ∙ ap (writes_in c) (drop-append-le from (take at front) (e ∷ []) long)
    ∙ writes_in-append c (drop from (take at front)) (e ∷ [])

-- one more effect changes its own word alone
pub one_effect : (h : Header) (w v : ℕ) (writes : List (ℕ × ℕ)) → w < plain_words h
    → words_with h [] ((w, v) ∷ writes) ≡ slice_set (words_with h [] writes) w v
one_effect h w v writes within = sym (one_write h [] writes w v)

pub words_without : (h : Header) → words_with h [] [] ≡ replicate (plain_words h) 0
words_without h = zeros_from 0 (plain_words h)

-- writes of a block that ends, after these ones
abbrev pub behind : List (ℕ × ℕ) → Option (List (ℕ × ℕ)) → Option (List (ℕ × ℕ))
behind writes ahead = option_map (λ more. more ++ writes) ahead

-- an entry at which the caller's block goes on
abbrev pub goes_on : Kind → Bool
goes_on BlockClose = false
goes_on BlockCommit = false
goes_on (Return reply) = false
goes_on _ = true

ahead_by : (b : Bool) (kind : Kind) (writes : List (ℕ × ℕ)) (ahead : Option (List (ℕ × ℕ)))
    → (b ≡ true → goes_on kind ≡ true)
    → behind writes (cond b (ahead_at kind ahead) ahead)
    ≡ behind (written_by b kind ++ writes) ahead
ahead_by b kind writes ahead on = search (append_assoc, arith)

-- the entries from a place on begin with the one there
pub drop_here : (es : List Entry) (at : ℕ) (e : Entry) → slice_get es at ≡ Some e
    → drop at es ≡ e ∷ drop (at + 1) es
drop_here es at e here =
    let more : suc at ≡ at + 1 = omega arith in
    cc (drop-cons es at e (slice_get_within es at e here), get_or_from_slice_get es at e e here)

-- what the caller's block still writes, once the entries up to a place have been looked at
abbrev pub LooksAhead : ℕ → List Entry → ℕ → Type 0
LooksAhead c later i = writes_ahead c later
    ≡ behind (writes_in c (take i later)) (writes_ahead c (drop i later))

-- how the entry there is looked at
pub ahead_here : (c : ℕ) (later : List Entry) (i : ℕ) (e : Entry) → slice_get later i ≡ Some e
    → LooksAhead c later i
    → writes_ahead c later ≡ behind (writes_in c (take i later))
    (cond (e.caller == c) (ahead_at e.kind (writes_ahead c (drop (i + 1) later)))
    (writes_ahead c (drop (i + 1) later)))
ahead_here c later i e here so = cc (drop_here later i e here)

pub ahead_next : (c : ℕ) (later : List Entry) (i : ℕ) (e : Entry) → slice_get later i ≡ Some e
    → (e.caller ≡ c → goes_on e.kind ≡ true)
    → LooksAhead c later i → LooksAhead c later (i + 1)
ahead_next c later i e here on so =
    let rest = writes_ahead c (drop (i + 1) later) in
    ahead_here c _ i e here so ∙ ahead_by (e.caller == c) e.kind (writes_in c (take i _)) rest
    (λ own. on (same_of _ c own)) ∙ ap (λ ws. behind ws rest)
    (sym (writes_in-next c later 0 i e (omega arith) here))

-- where the caller's block goes on, by what an entry isn't
pub goes_on_past : (kind : Kind) → ((reply : ℕ) → kind ≡ Return reply → ⊥) → (kind ≡ BlockClose → ⊥)
    → (kind ≡ BlockCommit → ⊥)
    → goes_on kind ≡ true
goes_on_past kind a b c = grind arith

no_write : (b : Bool) (kind : Kind) → ((word value : ℕ) → kind ≡ Write word value → ⊥)
    → written_by b kind ≡ []
no_write b kind isnt = grind (arith, isnt)

-- The writes of the caller up to a place have taken effect, and those of the entry there do so
-- next.
pub written_next : (h : Header) (c : ℕ) (front : List Entry) (from at : ℕ) (e : Entry)
    (word value : ℕ) (words : List ℕ) (before : List (ℕ × ℕ))
    → from ≤ at → slice_get front at ≡ Some e → e.caller ≡ c → e.kind ≡ Write word value
    → word < plain_words h
    → words ≡ words_with h [] (writes_in c (drop from (take at front)) ++ before)
    → slice_set words word value ≡ words_with h []
    (writes_in c (drop from (take (at + 1) front)) ++ before)
written_next h c front from at e word value words before order here own is within so =
    cc (
      one_effect h word value ((writes_in c (drop from (take at front))) ++ before) within,
      is_same e.caller c own,
      writes_in-next c front from at e order here,
    )

passed_next : (h : Header) (c : ℕ) (front : List Entry) (from at : ℕ) (e : Entry) (words : List ℕ)
    (before : List (ℕ × ℕ))
    → from ≤ at → slice_get front at ≡ Some e → written_by (e.caller == c) e.kind ≡ []
    → words ≡ words_with h [] (writes_in c (drop from (take at front)) ++ before)
    → words ≡ words_with h [] (writes_in c (drop from (take (at + 1) front)) ++ before)
passed_next h c front from at e words before order here none so =
    cc (writes_in-next c front from at e order here)

-- another caller's entry, and one that isn't a write
pub other_next : (h : Header) (c : ℕ) (front : List Entry) (from at : ℕ) (e : Entry)
    (words : List ℕ) (before : List (ℕ × ℕ))
    → from ≤ at → slice_get front at ≡ Some e → e.caller ≢ c
    → words ≡ words_with h [] (writes_in c (drop from (take at front)) ++ before)
    → words ≡ words_with h [] (writes_in c (drop from (take (at + 1) front)) ++ before)
other_next h c front from at e words before order here other so =
    search (here, passed_next, isnt_same, arith)

pub quiet_next : (h : Header) (c : ℕ) (front : List Entry) (from at : ℕ) (e : Entry)
    (words : List ℕ) (before : List (ℕ × ℕ))
    → from ≤ at → slice_get front at ≡ Some e → ((word value : ℕ) → e.kind ≡ Write word value → ⊥)
    → words ≡ words_with h [] (writes_in c (drop from (take at front)) ++ before)
    → words ≡ words_with h [] (writes_in c (drop from (take (at + 1) front)) ++ before)
quiet_next h c front from at e words before order here isnt so =
    search (here, isnt, passed_next, no_write, arith)

-- a word that is written is one of the header's
pub word_fits : (h : Header) (front : List Entry) (at : ℕ) (e : Entry) (word value : ℕ)
    → slice_get front at ≡ Some e
    → e.kind ≡ Write word value → first_break h front ≡ None → word < plain_words h
word_fits h front at e word value here is kept =
    (write_kept h e.caller word value (newest_first (take at front))
    (subst (λ kind. broken_rule h (newest_first (take at front)) (entry e.caller kind) ≡ None) is
    (rules_at h front at e here kept))).word_fits

-- two entries that were read at one place
pub one_read : {o : Option Entry} {r e : Entry} → o ≡ Some r → o ≡ Some e → r ≡ e
one_read is_r is_e = cc

-- The writes that take effect at an entry whose caller has an open block: at a lone commit those of
-- the whole block, if it ends.
pub commit_effects : (front : List Entry) (at len : ℕ) (e : Entry) (b : Block)
    → slice_get front at ≡ Some e → e.kind ≡ Commit
    → IsOpenBlock (take at front) e.caller b
    → writes_ahead e.caller (drop (at + 1) front)
    ≡ Some (writes_in e.caller (take len (drop (at + 1) front)))
    → writes_in e.caller (drop b.opened (take (at + 1 + len) front))
    ≡ effects_at (newest_first (take at front)) e.caller e.kind (drop (at + 1) front)
commit_effects front at len e b here is block ahead =
    let c = e.caller in
    let begun = take at front in
    let more = take len (drop (at + 1) front) in
    let parts : take (at + 1 + len) front ≡ begun ++ e ∷ more =
    take-add (at + 1) len front ∙ ap (λ es. es ++ more) (take_one_more front at e here)
    ∙ append_assoc begun (e ∷ []) more in
    let none : written_by (e.caller == c) e.kind ≡ [] = ap (written_by (e.caller == c)) is
    ∙ no_commit_write (e.caller == c) in
    ap (λ es. writes_in c (drop b.opened es)) parts
    ∙ ap (writes_in c) (drop-append-le b.opened begun (e ∷ more) (omega (arith, block.before)))
    ∙ writes_in-append c (drop b.opened begun) (e ∷ more)
    ∙ ap (λ ws. (writes_in c more ++ ws) ++ writes_in c (drop b.opened begun)) none
    ∙ ap (λ ws. ws ++ writes_in c (drop b.opened begun)) (append-nil (writes_in c more))
    ∙ ap (λ ws. writes_in c more ++ ws) (sym block.writes)
    ∙ ap (λ o. option_map_or (λ ws. ws ++ block_writes c (newest_first begun)) o []) (sym ahead)
    ∙ ap (λ inside. cond inside
    (option_map_or (λ ws. ws ++ block_writes c (newest_first begun))
    (writes_ahead c (drop (at + 1) front)) []) [])
    (sym block.inside)
    ∙ ap (λ kind. effects_at (newest_first begun) c kind (drop (at + 1) front)) (sym is)
  where
    no_commit_write : (b' : Bool) → written_by b' Commit ≡ []
    no_commit_write true = refl
    no_commit_write false = refl

-- The end of a block with a lone commit in it has no effects, and any other end those of the block.
pub end_effects : (front : List Entry) (at : ℕ) (e : Entry) (b : Block)
    → (e.kind ≡ BlockClose) ⊎ (e.kind ≡ BlockCommit)
    → IsOpenBlock (take at front) e.caller b
    → effects_at (newest_first (take at front)) e.caller e.kind (drop (at + 1) front)
    ≡ cond b.has_commit [] (writes_in e.caller (drop b.opened (take at front)))
end_effects front at e b ends block = grind (arith, ends)

-- an entry of an open block that is neither a commit nor an end has no effects
pub inner_effects : (front : List Entry) (at : ℕ) (e : Entry) (b : Block)
    → IsOpenBlock (take at front) e.caller b
    → (e.kind ≡ Commit → ⊥) → (e.kind ≡ BlockClose → ⊥) → (e.kind ≡ BlockCommit → ⊥)
    → effects_at (newest_first (take at front)) e.caller e.kind (drop (at + 1) front) ≡ []
inner_effects front at e b block e5 e6 e7 = search arith

-- outside a block a write has an effect, and nothing else
pub write_effects : (front : List Entry) (at : ℕ) (e : Entry) (word value : ℕ)
    → e.kind ≡ Write word value
    → has_block e.caller (newest_first (take at front)) ≡ false
    → effects_at (newest_first (take at front)) e.caller e.kind (drop (at + 1) front)
    ≡ (word, value) ∷ []
write_effects front at e word value is outside = grind arith

pub outer_effects : (h : Header) (front : List Entry) (at : ℕ) (e : Entry)
    → slice_get front at ≡ Some e → first_break h front ≡ None
    → has_block e.caller (newest_first (take at front)) ≡ false
    → ((word value : ℕ) → e.kind ≡ Write word value → ⊥)
    → effects_at (newest_first (take at front)) e.caller e.kind (drop (at + 1) front) ≡ []
outer_effects h front at e here kept outside = by_kind e.kind (rules_at h front at e here kept)
  where
    earlier : List Entry
    earlier = newest_first (take at front)

    by_kind : (kind : Kind) → broken_rule h earlier (entry e.caller kind) ≡ None
        → ((word value : ℕ) → kind ≡ Write word value → ⊥)
        → effects_at earlier e.caller kind (drop (at + 1) front) ≡ []
    by_kind (Call method args) rules isnt = refl
    by_kind (Return reply) rules isnt = refl
    by_kind (Write word value) rules isnt = absurd (isnt word value refl)
    by_kind Commit rules isnt = cc
    by_kind BlockOpen rules isnt = refl
    by_kind BlockClose rules isnt = let inside = close_kept h e.caller earlier rules in cc
    by_kind BlockCommit rules isnt = let inside = block_commit_kept h e.caller earlier rules in cc

-- one of as many that are all None
pub none_there : {A : Type 0} (n c : ℕ) → c < n
    → slice_get {X = Option A} (replicate n None) c ≡ Some None
none_there zero c within = absurd (omega arith)
none_there (suc n) zero within = refl
none_there (suc n) (suc c) within = none_there n c (omega arith)
