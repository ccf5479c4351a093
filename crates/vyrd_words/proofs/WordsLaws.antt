-- How the words that are kept go on with one more entry.
use Rattle.vyrd_words.proofs.Prelude
use Prelude.{◌≡◌, ℕ, zero, suc, ◌+◌, ◌<◌, ◌≤◌, ◌^◌, Bool, true, false, cond, List, [], ◌∷◌, ◌++◌}
use Prelude.{length, set, get_or, Some, None, Result, refl, ap, subst, ◌∙◌, sym, arith, slice_get}
use Prelude.{◌==◌, ◌≢◌, ◌||◌, ◌-◌, OnOk, All, replicate, option_or, list_any, commit_count-cons}
use Prelude.{Header, Kind, Write, Commit, BlockOpen, BlockClose, BlockCommit, Entry, StartWord}
use Prelude.{first_answer, has_block, plain_words, block_writes, given_to, is_commit, commit_count}
use Prelude.{entry, neither_true, same_number, same_of, apart_of, ShadowKept, HasFollowed, is_open}
use Prelude.{kept_writes, words_of, Cuts, first_with, with_part, begun_with, written, ActAlike}
use Prelude.{cut_if, number_at, inner_number, parts_behind, parts_since, WordsView, HasWords, Keeps}
use Rattle.std.proofs.Math.Logic.{∥∥₁_elim}
use Rattle.std.proofs.Math.Bool.{Bool-set}
use Rattle.std.proofs.lemmas.List.Elements.{All-tail}
use Rattle.std.proofs.lemmas.Option.{same_Some}
use Rattle.vyrd_base.specs.BlockEnds.{ended_effects_at, ended_effects}
use Rattle.vyrd_base.proofs.BlockLaws.{by_same}
use Rattle.vyrd_base.proofs.ShadowLaws.{caller_kept, open_kept, close_kept, block_commit_kept}
use Rattle.vyrd_base.proofs.TestLaws.{below_of, is_below, at_most_of, is_at_most}
use Rattle.vyrd_words.specs.HasWords.{HasTaken, MayFollow}
use Rattle.vyrd_words.proofs.ActLaws.{written_alike, word_is}
use Rattle.vyrd_words.proofs.CutLaws.{with_part_nothing, first_with_nothing, length-written}
use Rattle.vyrd_words.proofs.FewLaws.{begun_grows, first_few}
use Rattle.vyrd_base.proofs.KeptLaws.{write_kept}
use Rattle.vyrd_words.proofs.ShadowFacts.{words_old}
use Rattle.vyrd_base.proofs.ListLaws.{slice_get-set_same, slice_get-set_other}

-- what the rules say of an entry that may follow
pub may_caller : {k : ShadowKept} {inner : List ℕ} {e : Entry} {commits : ℕ}
    → MayFollow k inner e commits
    → e.caller < k.header.callers
may_caller {k} {inner} {e} may = below_of _ _
    (∥∥₁_elim may (Bool-set _ _) (λ s. is_below _ _ (caller_kept k.header s.1 e s.3.rules)))

-- an entry of this kind keeps the rules
pub keeps_as : {h : Header} {earlier : List Entry} {e : Entry} {kind : Kind} → e.kind ≡ kind
    → Keeps h earlier e → Keeps h earlier (entry e.caller kind)
keeps_as {h} {earlier} {e} is keeps = subst (λ k. Keeps h earlier (entry e.caller k)) is keeps

pub may_word : {k : ShadowKept} {inner : List ℕ} {e : Entry} {commits word value : ℕ}
    → e.kind ≡ Write word value → MayFollow k inner e commits → word < plain_words k.header
may_word {k} {inner} {e} {commits} {word} {value} is may = below_of _ _
    (∥∥₁_elim may (Bool-set _ _) (λ s.
    is_below _ _ ((write_kept k.header e.caller word value s.1 (keeps_as is s.3).rules).word_fits)))

pub may_value : {k : ShadowKept} {inner : List ℕ} {e : Entry} {commits word value : ℕ}
    → e.kind ≡ Write word value → MayFollow k inner e commits → value < 2 ^ 63
may_value {k} {inner} {e} {commits} {word} {value} is may = below_of _ _
    (∥∥₁_elim may (Bool-set _ _) (λ s.
    is_below value (2 ^ 63)
    ((write_kept k.header e.caller word value s.1 (keeps_as is s.3).rules).value_fits)))

pub may_open : {k : ShadowKept} {inner : List ℕ} {e : Entry} {commits : ℕ} → e.kind ≡ BlockOpen
    → MayFollow k inner e commits → is_open k e.caller ≡ false
may_open {k} {inner} {e} is may = ∥∥₁_elim may (Bool-set _ _) (λ s.
    s.2.followed.blocks e.caller (caller_kept k.header s.1 e s.3.rules)
    ∙ open_kept k.header e.caller s.1 (keeps_as is s.3).rules)

pub may_close : {k : ShadowKept} {inner : List ℕ} {e : Entry} {commits : ℕ} → e.kind ≡ BlockClose
    → MayFollow k inner e commits → is_open k e.caller ≡ true
may_close {k} {inner} {e} is may = ∥∥₁_elim may (Bool-set _ _) (λ s.
    s.2.followed.blocks e.caller (caller_kept k.header s.1 e s.3.rules)
    ∙ close_kept k.header e.caller s.1 (keeps_as is s.3).rules)

pub may_block_commit : {k : ShadowKept} {inner : List ℕ} {e : Entry} {commits : ℕ}
    → e.kind ≡ BlockCommit
    → MayFollow k inner e commits → is_open k e.caller ≡ true
may_block_commit {k} {inner} {e} is may = ∥∥₁_elim may (Bool-set _ _) (λ s.
    s.2.followed.blocks e.caller (caller_kept k.header s.1 e s.3.rules)
    ∙ block_commit_kept k.header e.caller s.1 (keeps_as is s.3).rules)

-- the numbers of lone commits
pub number_low : (c : ℕ) (earlier : List Entry) → inner_number c earlier ≤ commit_count earlier
number_low c [] = omega arith
number_low c (e ∷ earlier) =
    let rest = number_low c earlier in
    let count = commit_count-cons e earlier in
    by_test (e.caller == c) (by_kind e.kind rest) (omega (arith, rest, one (is_commit e.kind)))
    count
  where
    one : (b : Bool) → 0 ≤ cond b 1 0
    one b = omega arith

    by_kind : (kind : Kind) → inner_number c earlier ≤ commit_count earlier
        → number_at kind (commit_count earlier) (inner_number c earlier) ≤ cond (is_commit kind) 1 0
        + commit_count earlier
    by_kind kind rest = search arith

    by_test : (b : Bool) → number_at e.kind (commit_count earlier) (inner_number c earlier)
        ≤ cond (is_commit e.kind) 1 0 + commit_count earlier
        → inner_number c earlier ≤ cond (is_commit e.kind) 1 0 + commit_count earlier
        → commit_count (e ∷ earlier) ≡ cond (is_commit e.kind) 1 0 + commit_count earlier
        → cond b (number_at e.kind (commit_count earlier) (inner_number c earlier))
        (inner_number c earlier) ≤ commit_count (e ∷ earlier)
    by_test b own other count = search (count, arith)

pub may_number : {k : ShadowKept} {inner : List ℕ} {e : Entry} {commits : ℕ} (n : ℕ)
    → slice_get inner e.caller ≡ Some n → MayFollow k inner e commits → n ≤ commits
may_number {k} {inner} {e} {commits} n here may = at_most_of _ _ (∥∥₁_elim may (Bool-set _ _) (λ s.
    let is : n ≡ inner_number e.caller s.1 = same_Some _ _
    (sym here ∙ s.2.numbers e.caller (caller_kept k.header s.1 e s.3.rules)) in
    is_at_most n commits (omega (arith, is, number_low e.caller s.1, s.4))))

-- numbers that an entry leaves as they are
abbrev pub HasNumbers : ℕ → List ℕ → List Entry → Type 0
HasNumbers n inner earlier = (c : ℕ) → c < n → slice_get inner c ≡ Some (inner_number c earlier)

numbers_same : (n : ℕ) (inner : List ℕ) (c : ℕ) (kind : Kind) (earlier : List Entry)
    → ((commits number : ℕ) → number_at kind commits number ≡ number)
    → HasNumbers n inner earlier → HasNumbers n inner (entry c kind ∷ earlier)
numbers_same n inner c kind earlier same has = grind arith

-- the caller's own number is another one
pub numbers_set : (n : ℕ) (inner : List ℕ) (c : ℕ) (kind : Kind) (earlier : List Entry) (number : ℕ)
    → c < length inner
    → number ≡ number_at kind (commit_count earlier) (inner_number c earlier)
    → HasNumbers n inner earlier → HasNumbers n (set inner c number) (entry c kind ∷ earlier)
numbers_set n inner c kind earlier number low is has =
    search (by_same, slice_get-set_same, same_number, slice_get-set_other, apart_of, arith)

-- the same shadow, once no word has changed
unchanged_follows : (k : ShadowKept) (starting : List StartWord) (earlier : List Entry)
    → HasFollowed k starting earlier → HasFollowed (record k { changed = [] }) starting earlier
unchanged_follows k starting earlier f = search arith

-- whether some writes are to a word
no_given : (x : ℕ) (ws : List (ℕ × ℕ)) → list_any (λ y. y == x) (words_of ws) ≡ false
    → first_answer (given_to x) ws ≡ None
no_given x [] e = refl
no_given x ((w, v) ∷ ws) e =
    let parts = neither_true (w == x) (list_any (λ y. y == x) (words_of ws)) e in
    cc (parts.0, no_given x ws parts.1)

some_given : (x : ℕ) (ws : List (ℕ × ℕ)) → list_any (λ y. y == x) (words_of ws) ≡ true → (v : ℕ)
    × (first_answer (given_to x) ws ≡ Some v)
some_given x [] e = cc
some_given x ((w, v) ∷ ws) e = by_test (λ f. some_given x ws f) (w == x) e
  where
    by_test : (list_any (λ y. y == x) (words_of ws) ≡ true → (u : ℕ)
        × (first_answer (given_to x) ws ≡ Some u)) → (b : Bool)
        → (b || list_any (λ y. y == x) (words_of ws)) ≡ true → (u : ℕ)
        × (option_or (cond b (Some v) None) (first_answer (given_to x) ws) ≡ Some u)
    by_test rest true f = (v, refl)
    by_test rest false f = rest f

-- a changed word is one of the header's
changed_low : (n x : ℕ) (changed : List ℕ) → All (λ w. w < n) changed
    → list_any (λ y. y == x) changed ≡ true → x < n
changed_low n x [] within e = cc
changed_low n x (w ∷ changed) within e =
    by_test (λ f. changed_low n x changed (All-tail (λ y. y < n) w _ within) f) (w == x) refl e
  where
    by_test : (list_any (λ y. y == x) changed ≡ true → x < n) → (b : Bool) → (w == x) ≡ b
        → (b || list_any (λ y. y == x) changed) ≡ true → x < n
    by_test rest b same f = search (same_of, changed, within, arith)

-- The changed words, with their values, act as the effects of the entry, where exactly the words of
-- these effects have changed.
changed_alike : (l : ShadowKept) (starting : List StartWord) (earlier : List Entry) (c : ℕ)
    (kind : Kind)
    → HasFollowed l starting (entry c kind ∷ earlier)
    → All (λ w. w < plain_words l.header) l.changed
    → ((x : ℕ) → list_any (λ y. y == x) l.changed ≡ true → (v : ℕ)
    × (first_answer (given_to x) (ended_effects_at earlier c kind) ≡ Some v))
    → ((x : ℕ) → list_any (λ y. y == x) l.changed ≡ false → first_answer (given_to x)
    (ended_effects_at earlier c kind) ≡ None)
    → ActAlike (written l.words l.changed) (ended_effects_at earlier c kind)
changed_alike l starting earlier c kind f within there beside =
    written_alike l.words l.changed (ended_effects_at earlier c kind)
    (λ x changed. let given = there x changed in
    given.1 ∙ ap Some
    (sym (ap (λ ws. get_or ws x 0) (words_old l starting (entry c kind ∷ earlier) f)
    ∙ word_is l.header starting (ended_effects_at earlier c kind) (ended_effects earlier) x given.0
    (changed_low (plain_words l.header) x l.changed within changed) given.1)))
    beside

-- the effects of a block's end are those of the words that it kept back
block_there : (k l : ShadowKept) (starting : List StartWord) (earlier : List Entry) (c : ℕ)
    → HasFollowed k starting earlier → k.changed ≡ [] → c < k.header.callers
    → has_block c earlier ≡ true → l.changed ≡ k.changed ++ words_of (kept_writes k c) → (x : ℕ)
    → list_any (λ y. y == x) l.changed ≡ true
    → (v : ℕ) × (first_answer (given_to x) (block_writes c earlier) ≡ Some v)
block_there k l starting earlier c f unchanged low inside changed x some =
    search (some_given, words_of, arith)

block_beside : (k l : ShadowKept) (starting : List StartWord) (earlier : List Entry) (c : ℕ)
    → HasFollowed k starting earlier → k.changed ≡ [] → c < k.header.callers
    → has_block c earlier ≡ true → l.changed ≡ k.changed ++ words_of (kept_writes k c) → (x : ℕ)
    → list_any (λ y. y == x) l.changed ≡ false
    → first_answer (given_to x) (block_writes c earlier) ≡ None
block_beside k l starting earlier c f unchanged low inside changed x none =
    grind (arith, starting, unchanged, changed, no_given, words_of)

-- a block's end changes no more words than the block has written
block_few : (k l : ShadowKept) (starting : List StartWord) (earlier : List Entry) (c : ℕ)
    → HasFollowed k starting earlier → k.changed ≡ [] → c < k.header.callers
    → has_block c earlier ≡ true → l.changed ≡ k.changed ++ words_of (kept_writes k c)
    → length l.changed ≤ length (block_writes c earlier)
block_few k l starting earlier c f unchanged low inside changed = search (first_few, arith)

-- an entry at which nothing takes effect
nothing_taken : (k : ShadowKept) (inner : List ℕ) (v w : Cuts) (starting : List StartWord)
    (earlier : List Entry) (c : ℕ) (kind : Kind)
    → ended_effects_at earlier c kind ≡ [] → HasWords k inner starting (entry c kind ∷ earlier)
    → w.first ≡ v.first → w.since ≡ cut_if (is_commit kind) v.since → w.begun ≡ v.begun
    → HasTaken k inner v w starting (entry c kind) earlier
nothing_taken k inner v w starting earlier c kind nothing has first since begun =
    grind (arith, starting, nothing, begun, first_with_nothing, with_part_nothing, begun_grows)

-- a call or a return
pub quiet_taken : (k : ShadowKept) (inner : List ℕ) (v : Cuts) (starting : List StartWord)
    (earlier : List Entry) (c : ℕ) (kind : Kind)
    → is_commit kind ≡ false → ended_effects_at earlier c kind ≡ []
    → ((commits number : ℕ) → number_at kind commits number ≡ number)
    → HasWords k inner starting earlier → HasFollowed k starting (entry c kind ∷ earlier)
    → HasTaken k inner v v starting (entry c kind) earlier
quiet_taken k inner v starting earlier c kind isnt nothing same has f =
    search (nothing_taken, numbers_same, arith)

-- a block is opened
pub open_taken : (k l : ShadowKept) (inner : List ℕ) (v : Cuts) (starting : List StartWord)
    (earlier : List Entry) (c : ℕ) → HasWords k inner starting earlier
    → HasFollowed l starting (entry c BlockOpen ∷ earlier) → l.header ≡ k.header → l.changed
    ≡ k.changed → c < length inner
    → HasTaken l (set inner c 0) v v starting (entry c BlockOpen) earlier
open_taken k l inner v starting earlier c has f header changed low = nothing_taken l _ v v _ _ c _
    refl (record {
      followed = f;
      unchanged = changed ∙ has.unchanged;
      numbers = rw header
          (numbers_set k.header.callers inner c BlockOpen earlier 0 low refl has.numbers);
    }) refl refl refl

-- a lone commit
pub commit_taken : (k : ShadowKept) (inner : List ℕ) (v w : Cuts) (starting : List StartWord)
    (earlier : List Entry) (c number : ℕ) → HasWords k inner starting earlier
    → HasFollowed k starting (entry c Commit ∷ earlier) → c < length inner
    → number ≡ suc (commit_count earlier)
    → w.first ≡ v.first → w.since ≡ v.since ++ [] ∷ [] → w.begun ≡ v.begun
    → HasTaken k (set inner c number) v w starting (entry c Commit) earlier
commit_taken k inner v w starting earlier c number has f low is first since begun =
    search (nothing_taken, numbers_set, arith)

-- an entry whose effects the views were told
acts_taken : (l m : ShadowKept) (inner : List ℕ) (v w : Cuts) (starting : List StartWord)
    (earlier : List Entry) (c : ℕ) (kind : Kind)
    → HasFollowed l starting (entry c kind ∷ earlier) → m ≡ record l { changed = [] }
    → HasNumbers l.header.callers inner (entry c kind ∷ earlier)
    → ActAlike (written l.words l.changed) (ended_effects_at earlier c kind)
    → w.first ≡ first_with (parts_behind earlier c kind) (written l.words l.changed) v.first v.since
    → w.since ≡ cut_if (is_commit kind)
    (with_part (parts_behind earlier c kind) (written l.words l.changed) v.since)
    → length l.changed ≤ length (ended_effects_at earlier c kind)
    → w.begun ≤ begun_with (parts_behind earlier c kind) (written l.words l.changed) v.begun v.since
    → HasTaken m inner v w starting (entry c kind) earlier
acts_taken l m inner v w starting earlier c kind f is numbers alike first since few begun =
    grind (arith, starting, alike, few, begun, unchanged_follows, written, length-written)

-- an entry that leaves all numbers as they are
numbers_kept : (k l : ShadowKept) (inner : List ℕ) (starting : List StartWord)
    (earlier : List Entry)
    (c : ℕ) (kind : Kind)
    → ((commits number : ℕ) → number_at kind commits number ≡ number) → l.header ≡ k.header
    → HasWords k inner starting earlier
    → HasNumbers l.header.callers inner (entry c kind ∷ earlier)
numbers_kept k l inner starting earlier c kind same header has = grind arith

-- a write
pub write_taken : (k l m : ShadowKept) (inner : List ℕ) (v w : Cuts) (starting : List StartWord)
    (earlier : List Entry) (c word value : ℕ)
    → HasWords k inner starting earlier → c < k.header.callers
    → HasFollowed l starting (entry c (Write word value) ∷ earlier) → l.header ≡ k.header
    → All (λ x. x < plain_words l.header) l.changed
    → l.changed ≡ cond (is_open k c) k.changed (k.changed ++ word ∷ [])
    → m ≡ record l { changed = [] }
    → w.first ≡ first_with 0 (written l.words l.changed) v.first v.since → w.since
    ≡ with_part 0 (written l.words l.changed) v.since
    → w.begun ≤ begun_with 0 (written l.words l.changed) v.begun v.since
    → HasTaken m inner v w starting (entry c (Write word value)) earlier
write_taken k l m inner v w starting earlier c word value has low f header within changed is first
    since begun =
    acts_taken l m inner v w starting earlier c (Write word value) f is
    (numbers_kept k l inner starting earlier c (Write word value) (λ commits number. refl) header
    has)
    (by_block (has_block c earlier) refl) first since (few (has_block c earlier) here) begun
  where
    here : l.changed ≡ cond (has_block c earlier) [] (word ∷ [])
    here = grind arith

    few : (b : Bool) → l.changed ≡ cond b [] (word ∷ []) → length l.changed ≤ length {A = ℕ × ℕ}
        (cond b [] ((word, value) ∷ []))
    few b none = search arith

    by_block : (b : Bool) → has_block c earlier ≡ b → ActAlike (written l.words l.changed)
        (ended_effects_at earlier c (Write word value))
    by_block true inside = search (changed_alike, starting, within, apart, here, arith)
      where
        apart : false ≡ true → ⊥
        apart e = cc
    by_block false outside =
        let one : l.changed ≡ word ∷ [] = here ∙ ap (λ b. cond b [] (word ∷ [])) outside in
        let effects : ended_effects_at earlier c (Write word value) ≡ (word, value) ∷ [] =
        cc in
        changed_alike l starting earlier c (Write word value) f within
        (λ x some. let given = some_given x ((word, value) ∷ [])
        (ap (list_any (λ y. y == x)) (sym one) ∙ some) in
        (given.0, ap (first_answer (given_to x)) effects ∙ given.1))
        (λ x none. ap (first_answer (given_to x)) effects ∙ no_given x ((word, value) ∷ [])
        (ap (list_any (λ y. y == x)) (sym one) ∙ none))

-- the end of a block
pub close_taken : (k l m : ShadowKept) (inner : List ℕ) (v w : Cuts) (starting : List StartWord)
    (earlier : List Entry) (c behind : ℕ)
    → HasWords k inner starting earlier → c < k.header.callers → has_block c earlier ≡ true
    → HasFollowed l starting (entry c BlockClose ∷ earlier)
    → l.header ≡ k.header → All (λ x. x < plain_words l.header) l.changed
    → l.changed ≡ k.changed ++ words_of (kept_writes k c) → m ≡ record l { changed = [] }
    → behind ≡ parts_since (commit_count earlier) (inner_number c earlier)
    → w.first ≡ first_with behind (written l.words l.changed) v.first v.since
    → w.since ≡ with_part behind (written l.words l.changed) v.since
    → w.begun ≤ begun_with behind (written l.words l.changed) v.begun v.since
    → HasTaken m inner v w starting (entry c BlockClose) earlier
close_taken k l m inner v w starting earlier c behind has low inside f header within changed is
    parts first since begun = acts_taken l m inner v w starting earlier c BlockClose f is
    (numbers_kept k l inner starting earlier c BlockClose (λ commits number. refl) header has)
    (changed_alike l starting earlier c BlockClose f within
    (block_there k l starting earlier c has.followed has.unchanged low inside changed)
    (block_beside k l starting earlier c has.followed has.unchanged low inside changed)) (cc) (cc)
    (block_few k l starting earlier c has.followed has.unchanged low inside changed)
    (rw (← parts) begun)

pub block_commit_taken : (k l m : ShadowKept) (inner : List ℕ) (v w u : Cuts)
    (starting : List StartWord)
    (earlier : List Entry) (c : ℕ)
    → HasWords k inner starting earlier → c < k.header.callers → has_block c earlier ≡ true
    → HasFollowed l starting (entry c BlockCommit ∷ earlier)
    → l.header ≡ k.header → All (λ x. x < plain_words l.header) l.changed
    → l.changed ≡ k.changed ++ words_of (kept_writes k c) → m ≡ record l { changed = [] }
    → w.first ≡ first_with 0 (written l.words l.changed) v.first v.since → w.since
    ≡ with_part 0 (written l.words l.changed) v.since
    → w.begun ≤ begun_with 0 (written l.words l.changed) v.begun v.since
    → u.first ≡ w.first → u.since ≡ w.since ++ [] ∷ [] → u.begun ≡ w.begun
    → HasTaken m inner v u starting (entry c BlockCommit) earlier
block_commit_taken k l m inner v w u starting earlier c has low inside f header within changed is
    first since begun same cut begun_same = acts_taken l m inner v u starting earlier c BlockCommit
    f is (numbers_kept k l inner starting earlier c BlockCommit (λ commits number. refl) header has)
    (changed_alike l starting earlier c BlockCommit f within
    (block_there k l starting earlier c has.followed has.unchanged low inside changed)
    (block_beside k l starting earlier c has.followed has.unchanged low inside changed))
    (same ∙ first) (cc)
    (block_few k l starting earlier c has.followed has.unchanged low inside changed)
    (omega (arith, begun, begun_same))

-- how many lists of writes stand after those of the commit with this number
pub parts_since_none : (inner : List ℕ) (c number : ℕ) (earlier : List Entry) → slice_get inner c
    ≡ Some number → slice_get inner c ≡ Some (inner_number c earlier)
    → number ≡ 0 → 0 ≡ parts_since (commit_count earlier) (inner_number c earlier)
parts_since_none inner c number earlier here has none = cc (same_Some _ _ (sym here ∙ has))

pub parts_since_some : (inner : List ℕ) (c number commits : ℕ) (earlier : List Entry)
    → slice_get inner c ≡ Some number
    → slice_get inner c ≡ Some (inner_number c earlier) → number ≢ 0
    → commits ≡ commit_count earlier
    → (commits - number) + 1 ≡ parts_since (commit_count earlier) (inner_number c earlier)
parts_since_some inner c number commits earlier here has some counted = search (number_low, arith)

-- what is seen of the words, by what is kept
pub may_opened : {v w : WordsView} {e : Entry} {commits : ℕ} → w ≡ v
    → MayFollow v.shadow v.inner e commits → MayFollow w.shadow w.inner e commits
may_opened {e = e} {commits = commits} is may = rw is may

pub has_opened : {v w : WordsView} {starting : List StartWord} {earlier : List Entry} → w ≡ v
    → HasWords v.shadow v.inner starting earlier
    → HasWords w.shadow w.inner starting earlier
has_opened {starting = starting} {earlier = earlier} is has = grind arith

pub keeps_opened : {v w : WordsView} {earlier : List Entry} {e : Entry} → w ≡ v
    → Keeps v.shadow.header earlier e → Keeps w.shadow.header earlier e
keeps_opened {earlier = earlier} {e = e} is keeps = grind arith

pub taken_closed : {v w : WordsView} {k : ShadowKept} {inner : List ℕ} {n : Cuts}
    {starting : List StartWord} {e : Entry} {earlier : List Entry} → w ≡ v
    → HasTaken k inner w.views n starting e earlier → HasTaken k inner v.views n starting e earlier
taken_closed {k = k} {inner} {n} {starting} {e} {earlier} is taken = grind arith

-- answers put together
pub ok_two : {T E P Q S : Type 0} (r : Result T E) → OnOk r P → OnOk r Q → (P → Q → S) → OnOk r S
ok_two r p q f = search arith

pub ok_three : {T E P Q R S : Type 0} (r : Result T E) → OnOk r P → OnOk r Q → OnOk r R
    → (P → Q → R → S) → OnOk r S
ok_three r p q u f = search arith

pub ok_four : {T E P Q R S U : Type 0} (r : Result T E) → OnOk r P → OnOk r Q → OnOk r R → OnOk r S
    → (P → Q → R → S → U) → OnOk r U
ok_four r p q u v f = search arith

-- what was taken in, for the entry by its kind
pub taken_as : {k : ShadowKept} {inner : List ℕ} {v w : Cuts} {starting : List StartWord}
    {earlier : List Entry} (e : Entry) {kind : Kind} → e.kind ≡ kind
    → HasTaken k inner v w starting (entry e.caller kind) earlier
    → HasTaken k inner v w starting e earlier
taken_as e e1 e2 = search arith

pub low_caller : {h : Header} {earlier : List Entry} {e : Entry} → Keeps h earlier e
    → e.caller < h.callers
low_caller {h} {earlier} {e} keeps = caller_kept h earlier e keeps.rules

pub closes_block : {h : Header} {earlier : List Entry} {e : Entry} → e.kind ≡ BlockClose
    → Keeps h earlier e → has_block e.caller earlier ≡ true
closes_block {h} {earlier} {e} is keeps = close_kept h e.caller earlier (keeps_as is keeps).rules

pub commits_block : {h : Header} {earlier : List Entry} {e : Entry} → e.kind ≡ BlockCommit
    → Keeps h earlier e → has_block e.caller earlier ≡ true
commits_block {h} {earlier} {e} is keeps = search (block_commit_kept, keeps_as, arith)

-- before the first entry no caller has a number
pub numbers_first : (n m : ℕ) → n ≤ m → HasNumbers n (replicate m 0) []
numbers_first n m within = λ c low. there m c (omega (arith, low, within))
  where
    there : (k c : ℕ) → c < k → slice_get {X = ℕ} (replicate k 0) c ≡ Some 0
    there zero c low = absurd (omega (arith, low))
    there (suc k) zero low = refl
    there (suc k) (suc c) low = there k c (omega (arith, low))
