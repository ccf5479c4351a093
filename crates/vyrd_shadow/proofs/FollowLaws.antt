-- How what is kept goes on with one more entry.
use Rattle.vyrd_shadow.proofs.Prelude
use Prelude.{◌≡◌, ℕ, suc, zero, ◌+◌, ◌<◌, Bool, true, false, List, [], ◌∷◌, length, Option, Some}
use Prelude.{None, refl, ap, ◌∙◌, sym, subst, arith, get_or, set, get_or-set_other, get_or-set_same}
use Prelude.{◌==◌, unwrap_or, is_some, replicate, Header, Write, BlockOpen, BlockClose, BlockCommit}
use Prelude.{Entry, StartWord, plain_words, has_block, broken_rule, block_writes, given_to, entry}
use Prelude.{by_same, with_writes, with_kept, first_written, ShadowKept, HasFollowed, is_open}
use Rattle.std.proofs.Common.{map}
use Rattle.std.proofs.lemmas.List.{length-replicate}
use Rattle.vyrd_base.specs.declared.subject.Method.{Method}
use Rattle.vyrd_base.specs.declared.subject.Args.{Args}
use Rattle.vyrd_base.specs.declared.log.Kind.{Kind}
use Rattle.vyrd_base.specs.declared.log.Kind.TheVariants.{Call, Return, Commit}
use Rattle.vyrd_base.specs.Places.{numbers_from, first_answer}
use Rattle.vyrd_base.specs.Callers.{open_or_close}
use Rattle.vyrd_base.specs.Starts.{words_at_start}
use Rattle.vyrd_base.specs.Words.{with_write, effects_at, words_after}
use Rattle.vyrd_base.specs.BlockEnds.{ended_effects_at}
use Rattle.vyrd_base.specs.Front.{WellFormed}
use Rattle.vyrd_base.proofs.EffectLaws.{ends_block}
use Rattle.vyrd_base.proofs.SettledWords.{settled_value, words_settled, same_here}
use Rattle.vyrd_base.proofs.PlaceLaws.{first_answer-append, at_map}
use Rattle.vyrd_base.proofs.WordLaws.{words_after-write, words_after-quiet}
use Rattle.vyrd_base.proofs.BlockLaws.{other_answer, no_answer, other_writes, own_block, own_writes}
use Rattle.vyrd_base.proofs.ListLaws.{zeros}
use Rattle.vyrd_shadow.specs.Following.{kept_writes, words_of}
use Rattle.vyrd_shadow.proofs.KeptWrites.{value_kept, words_kept, AllOnce, once_written}
use Rattle.vyrd_shadow.proofs.KeptWrites.{length-with_writes, value_with, differs}

-- what a block keeps stands for the caller's entries
pub record Own (c : ℕ) (block : Option (List (ℕ × ℕ))) (entries : List Entry) : Type 0 where
  pub opened : is_some block ≡ has_block c entries
  pub order : has_block c entries ≡ true → words_of (unwrap_or block [])
      ≡ first_written (block_writes c entries)
  pub values : (w : ℕ) → has_block c entries ≡ true
      → first_answer (given_to w) (unwrap_or block []) ≡ first_answer (given_to w)
      (block_writes c entries)

own_of : (kept : ShadowKept) (starting : List StartWord) (earlier : List Entry)
    → HasFollowed kept starting earlier → (c : ℕ) → c < kept.header.callers
    → Own c (get_or kept.blocks c None) earlier
own_of kept starting earlier followed c low = search arith

-- words and blocks make what is kept
followed_from : (kept : ShadowKept) (starting : List StartWord) (earlier : List Entry)
    → WellFormed kept.header earlier
    → kept.words ≡ words_after kept.header starting earlier
    → ((c : ℕ) → c < kept.header.callers → Own c (get_or kept.blocks c None) earlier)
    → HasFollowed kept starting earlier
followed_from kept starting earlier rules words own = grind arith

-- a block whose caller's notions are the same
own_same : (c : ℕ) (block : Option (List (ℕ × ℕ))) (earlier later : List Entry) → has_block c later
    ≡ has_block c earlier
    → block_writes c later ≡ block_writes c earlier
    → Own c block earlier → Own c block later
own_same c block earlier later inside writes own = grind (arith, own.opened)

-- another caller's entry
own_other : (d c : ℕ) (kind : Kind) (block : Option (List (ℕ × ℕ))) (earlier : List Entry)
    → (c == d) ≡ false
    → Own d block earlier → Own d block (entry c kind ∷ earlier)
own_other d c kind block earlier other own = grind (arith, own_same, other_answer, other_writes)

-- the caller's own block is replaced
own_next : (n : ℕ) (blocks : List (Option (List (ℕ × ℕ)))) (earlier : List Entry) (c : ℕ)
    (kind : Kind)
    (block : Option (List (ℕ × ℕ))) → c < length blocks
    → Own c block (entry c kind ∷ earlier)
    → ((d : ℕ) → d < n → Own d (get_or blocks d None) earlier)
    → (d : ℕ) → d < n → Own d (get_or (set blocks c block) d None) (entry c kind ∷ earlier)
own_next n blocks earlier c kind block low own all = λ d low_d. by_same c d
    (λ same. rw (← same) (rw (get_or-set_same blocks c block None low) own))
    (λ other. rw (get_or-set_other blocks c d block None (differs c d other))
    (own_other d c kind _ earlier other (all d low_d)))

-- a closed block
own_closed : (c : ℕ) (block : Option (List (ℕ × ℕ))) (entries : List Entry) → is_some block ≡ false
    → has_block c entries ≡ false
    → Own c block entries
own_closed c block entries none out = grind arith

-- a write leaves blocks open or closed
block_write : (d c word value : ℕ) (earlier : List Entry)
    → has_block d (entry c (Write word value) ∷ earlier) ≡ has_block d earlier
block_write d c word value earlier = search (no_answer, arith)

-- a write outside a block
pub followed_through : (kept : ShadowKept) (starting : List StartWord) (earlier : List Entry)
    (c word value : ℕ) (changed : List ℕ) → c < kept.header.callers
    → word < plain_words kept.header → is_open kept c ≡ false
    → HasFollowed kept starting earlier → broken_rule kept.header earlier
    (entry c (Write word value)) ≡ None → HasFollowed (record {
      header = kept.header;
      words = set kept.words word value;
      blocks = kept.blocks;
      changed = changed;
    }) starting (entry c (Write word value) ∷ earlier)
followed_through kept starting earlier c word value changed low low_w closed followed keeps = search
    (followed_from, words_after-write, by_same, own_closed, block_write, own_other, own_of, arith)

-- a write in a block doesn't count yet
words_held : (h : Header) (starting : List StartWord) (earlier : List Entry) (c word value : ℕ)
    → has_block c earlier ≡ true
    → words_after h starting (entry c (Write word value) ∷ earlier) ≡ words_after h starting earlier
words_held h starting earlier c word value inside = grind (arith, starting, words_after-quiet)

own_kept : (c word value : ℕ) (block : Option (List (ℕ × ℕ))) (earlier : List Entry)
    → has_block c earlier ≡ true → Own c block earlier
    → Own c (Some (with_kept (unwrap_or block []) word value))
    (entry c (Write word value) ∷ earlier)
own_kept c word value block earlier inside own = search
    (block_write, words_kept, own_writes, value_kept, arith)

pub followed_kept : (kept : ShadowKept) (starting : List StartWord) (earlier : List Entry)
    (c word value : ℕ) → c < kept.header.callers → c < length kept.blocks → is_open kept c ≡ true
    → HasFollowed kept starting earlier → broken_rule kept.header earlier
    (entry c (Write word value)) ≡ None
    → HasFollowed (record {
      header = kept.header;
      words = kept.words;
      blocks = set kept.blocks c (Some (with_kept (kept_writes kept c) word value));
      changed = kept.changed;
    })
    starting (entry c (Write word value) ∷ earlier)
followed_kept kept starting earlier c word value low low' opened followed keeps =
    let inside : has_block c earlier ≡ true = sym (followed.blocks c low) ∙ opened in
    followed_from _ _ _ (keeps, followed.rules)
    (followed.words ∙ sym (words_held kept.header starting earlier c word value inside))
    (own_next kept.header.callers kept.blocks earlier c (Write word value) _ low'
    (own_kept c word value (get_or kept.blocks c None) earlier inside
    (own_of kept starting earlier followed c low)) (own_of kept starting earlier followed))

-- a block is opened
own_open : (c : ℕ) (earlier : List Entry) → Own c (Some []) (entry c BlockOpen ∷ earlier)
own_open c earlier = grind (arith, own_block c BlockOpen earlier)

pub followed_open : (kept : ShadowKept) (starting : List StartWord) (earlier : List Entry) (c : ℕ)
    → c < length kept.blocks → HasFollowed kept starting earlier
    → broken_rule kept.header earlier (entry c BlockOpen) ≡ None
    → HasFollowed (record {
      header = kept.header;
      words = kept.words;
      blocks = set kept.blocks c (Some []);
      changed = kept.changed;
    }) starting (entry c BlockOpen ∷ earlier)
followed_open kept starting earlier c low followed keeps =
    search (followed_from, words_after-quiet, own_next, own_open, own_of, arith)

-- lists of numbers by their places
is_map : (words : List ℕ) (f : ℕ → ℕ) (k n : ℕ) → length words ≡ n
    → ((i : ℕ) → i < n → get_or words i 0 ≡ f (k + i))
    → words ≡ map f (numbers_from k n)
is_map [] f k zero size all = refl
is_map [] f k (suc n) size all = absurd (omega arith)
is_map (x ∷ words) f k zero size all = absurd (omega arith)
is_map (x ∷ words) f k (suc n) size all =
    let first : x ≡ f k = all 0 (omega arith) ∙ ap f (omega arith) in
    let rest = is_map words f (k + 1) n (omega arith) (λ i low. all (suc i) (omega arith)
    ∙ ap f (omega arith)) in
    λ i. first i ∷ rest i

-- a value among a block's writes and older ones
settled_append : (starting : List StartWord) (earlier : List Entry) (e : Entry)
    (writes : List (ℕ × ℕ)) (w : ℕ)
    → ended_effects_at earlier e.caller e.kind ≡ writes
    → settled_value starting (e ∷ earlier) w ≡ unwrap_or (first_answer (given_to w) writes)
    (settled_value starting earlier w)
settled_append starting earlier e writes w ends = grind (arith, starting, ends, first_answer-append)

-- a block's writes take effect
words_close : (h : Header) (starting : List StartWord) (earlier : List Entry) (e : Entry)
    (words : List ℕ) (writes : List (ℕ × ℕ))
    → ended_effects_at earlier e.caller e.kind ≡ block_writes e.caller earlier
    → WellFormed h (e ∷ earlier)
    → length words ≡ plain_words h → words ≡ words_after h starting earlier
    → AllOnce (words_of writes)
    → ((w : ℕ) → first_answer (given_to w) writes ≡ first_answer (given_to w)
    (block_writes e.caller earlier))
    → with_writes words writes ≡ words_after h starting (e ∷ earlier)
words_close h starting earlier e words writes ends rules size is once values =
    is_map _ _ 0 _ (length-with_writes _ writes ∙ size) (λ i low.
    let place : 0 + i ≡ i = omega arith in
    let was : get_or words i 0 ≡ settled_value starting earlier i =
    cc (
      words_settled h starting earlier rules.1,
      at_map (settled_value starting earlier) 0
          (plain_words h) i 0 low,
    ) in
    value_with words writes i (omega arith) once ∙ (λ j. unwrap_or (values i j) (was j))
    ∙ sym (settled_append starting earlier e (block_writes e.caller earlier) i ends)
    ∙ ap (settled_value starting (e ∷ earlier)) (sym place)) ∙ sym (words_settled h _ _ rules)

-- a block ends, with a commit or without
followed_end : (kept : ShadowKept) (starting : List StartWord) (earlier : List Entry) (c : ℕ)
    (kind : Kind) (changed : List ℕ)
    → ended_effects_at earlier c kind ≡ block_writes c earlier → open_or_close kind ≡ Some false
    → c < kept.header.callers → c < length kept.blocks → length kept.words ≡ plain_words kept.header
    → is_open kept c ≡ true
    → HasFollowed kept starting earlier → broken_rule kept.header earlier (entry c kind) ≡ None
    → HasFollowed (record {
      header = kept.header;
      words = with_writes kept.words (kept_writes kept c);
      blocks = set kept.blocks c None;
      changed = changed;
    }) starting (entry c kind ∷ earlier)
followed_end kept starting earlier c kind changed ends edge low low' size opened followed keeps =
    let inside : has_block c earlier ≡ true = sym (followed.blocks c low) ∙ opened in
    let once : AllOnce (words_of (kept_writes kept c)) = subst AllOnce
    (sym (followed.order c low inside)) (once_written (block_writes c _)) in
    let out : has_block c (entry c kind ∷ earlier) ≡ false = cc (own_block c kind earlier) in
    followed_from _ _ _ (keeps, followed.rules)
    (words_close _ _ _ _ kept.words (kept_writes kept c) ends (keeps, followed.rules) size
    followed.words once (λ w. followed.values c w low inside))
    (own_next _ _ _ c _ _ low' (own_closed c _ _ refl out) (own_of kept starting _ followed))

pub followed_close : (kept : ShadowKept) (starting : List StartWord) (earlier : List Entry) (c : ℕ)
    (changed : List ℕ)
    → c < kept.header.callers → c < length kept.blocks → length kept.words ≡ plain_words kept.header
    → is_open kept c ≡ true
    → HasFollowed kept starting earlier → broken_rule kept.header earlier (entry c BlockClose)
    ≡ None
    → HasFollowed (record {
      header = kept.header;
      words = with_writes kept.words (kept_writes kept c);
      blocks = set kept.blocks c None;
      changed = changed;
    }) starting (entry c BlockClose ∷ earlier)
followed_close kept starting earlier c changed = search (followed_end, arith)

pub followed_commit : (kept : ShadowKept) (starting : List StartWord) (earlier : List Entry) (c : ℕ)
    (changed : List ℕ)
    → c < kept.header.callers → c < length kept.blocks → length kept.words ≡ plain_words kept.header
    → is_open kept c ≡ true
    → HasFollowed kept starting earlier → broken_rule kept.header earlier (entry c BlockCommit)
    ≡ None
    → HasFollowed (record {
      header = kept.header;
      words = with_writes kept.words (kept_writes kept c);
      blocks = set kept.blocks c None;
      changed = changed;
    }) starting (entry c BlockCommit ∷ earlier)
followed_commit kept starting earlier c changed = search (followed_end, arith)

-- an entry that isn't a write and touches no block
followed_quiet : (kept : ShadowKept) (starting : List StartWord) (earlier : List Entry) (c : ℕ)
    (kind : Kind) → ends_block kind ≡ false
    → effects_at earlier c kind [] ≡ [] → open_or_close kind ≡ None
    → ((b : Bool) (writes : List (ℕ × ℕ)) → with_write b kind writes ≡ writes)
    → HasFollowed kept starting earlier
    → broken_rule kept.header earlier (entry c kind) ≡ None → HasFollowed kept starting
    (entry c kind ∷ earlier)
followed_quiet kept starting earlier c kind goes_on none edge writes followed keeps =
    search (followed_from, words_after-quiet, own_same, no_answer, own_of, arith)

pub followed_call : (kept : ShadowKept) (starting : List StartWord) (earlier : List Entry) (c : ℕ)
    (method : Method) (args : Args)
    → HasFollowed kept starting earlier → broken_rule kept.header earlier
    (entry c (Call method args)) ≡ None
    → HasFollowed kept starting (entry c (Call method args) ∷ earlier)
followed_call kept starting earlier c method args e6 e7 = search (followed_quiet, arith)

pub followed_return : (kept : ShadowKept) (starting : List StartWord) (earlier : List Entry)
    (c reply : ℕ)
    → HasFollowed kept starting earlier → broken_rule kept.header earlier (entry c (Return reply))
    ≡ None
    → HasFollowed kept starting (entry c (Return reply) ∷ earlier)
followed_return kept starting earlier c reply e5 e6 = grind (arith, kept, starting, followed_quiet)

-- a lone commit, in a block too: the writes of the block that take effect there aren't known before
-- its end
pub followed_lone_commit : (kept : ShadowKept) (starting : List StartWord) (earlier : List Entry)
    (c : ℕ)
    → HasFollowed kept starting earlier → broken_rule kept.header earlier (entry c Commit) ≡ None
    → HasFollowed kept starting (entry c Commit ∷ earlier)
followed_lone_commit kept starting earlier c e4 e5 = search (followed_quiet, same_here, arith)

alike : (n c : ℕ) (block : Option (List (ℕ × ℕ))) → get_or (replicate n block) c block ≡ block
alike zero c block = refl
alike (suc n) zero block = refl
alike (suc n) (suc c) block = alike n c block

-- no block of a new shadow is open
pub none_open : (h : Header) (words changed : List ℕ) (c : ℕ)
    → is_open (record {
      header = h;
      words = words;
      blocks = replicate h.callers None;
      changed = changed;
    }) c ≡ false
none_open h words changed c = ap is_some (alike h.callers c None)

pub followed_start : (h : Header) (starting : List StartWord) (words changed : List ℕ)
    → words ≡ words_at_start h starting
    → HasFollowed
    (record { header = h; words = words; blocks = replicate h.callers None; changed = changed })
    starting []
unfolding words_after
followed_start h starting words changed is = search (followed_from, own_closed, none_open, arith)

pub zeros_at_start : (h : Header) → replicate (plain_words h) 0 ≡ words_at_start h []
zeros_at_start h = search (is_map, length-replicate, zeros, arith)
