-- How the open blocks, and the effects before a place, change with one more entry.
use Rattle.vyrd_plain.proofs.Prelude
use Prelude.{◌≡◌, ℕ, ◌+◌, ◌<◌, true, false, ◌&&◌, List, [], ◌∷◌, ◌++◌, length, take, drop}
use Prelude.{replicate, set, Option, Some, None, slice_get, refl, ap, ◌∙◌, sym, arith, ◌==◌}
use Prelude.{drop-append-le, length-take, slice_get_within, Header, Kind, Commit, BlockOpen, Entry}
use Prelude.{newest_first, has_block, plain_words, entry, by_same, own_answer, same_number}
use Prelude.{apart_of, Block, written_by, writes_in, IsOpenBlock, IsBlockOf, HasEffects, place_of}
use Prelude.{take_one_more, slice_get-set_same, slice_get-set_other}
use Rattle.std.proofs.Common.{length-append}
use Rattle.std.specs.Prelude.{unwrap_or}
use Rattle.std.proofs.Math.Seq.{drop-append_seam}
use Rattle.vyrd_base.specs.Callers.{open_or_close, commit_or_open, has_inner_commit}
use Rattle.vyrd_base.specs.Words.{with_write, effects, block_writes, effects_at, words_at}
use Rattle.vyrd_base.proofs.PlaceLaws.{newest_first-push}
use Rattle.vyrd_base.proofs.BlockLaws.{other_answer, no_answer, own_writes, other_writes, own_block}
use Rattle.vyrd_plain.specs.OpenBlocks.{committed, block_after}
use Rattle.vyrd_plain.proofs.StepLaws.{next_is}
use Rattle.vyrd_plain.proofs.EffectFacts.{writes_in-append, drop_here, words_without, none_there}

-- a block that stays open
block_stays : (seen : List Entry) (d : ℕ) (e : Entry) (b b' : Block) → b'.opened ≡ b.opened
    → has_block d (e ∷ newest_first seen) ≡ true
    → has_inner_commit d (e ∷ newest_first seen) ≡ b'.has_commit
    → block_writes d (e ∷ newest_first seen) ≡ written_by (e.caller == d) e.kind
    ++ block_writes d (newest_first seen)
    → IsOpenBlock seen d b → IsOpenBlock (seen ++ e ∷ []) d b'
block_stays seen d e b b' same inside has_commit writes is =
    let next = newest_first-push seen e in
    record {
      before = omega (arith, length-append seen (e ∷ []), is.before, same);
      inside = ap (has_block d) next ∙ inside;
      has_commit = ap (has_inner_commit d) next ∙ has_commit;
      writes = ap (block_writes d) next ∙ writes
          ∙ ap (λ ws. written_by (e.caller == d) e.kind ++ ws) is.writes
          ∙ sym (ap (λ n. writes_in d (drop n (seen ++ e ∷ []))) same
          ∙ ap (writes_in d) (drop-append-le b.opened seen (e ∷ []) (omega (arith, is.before)))
          ∙ writes_in-append d (drop b.opened seen) (e ∷ []));
    }

-- another caller's entry
other_next : (seen : List Entry) (c d : ℕ) (kind : Kind) (o : Option Block) → (c == d) ≡ false
    → IsBlockOf seen d o
    → IsBlockOf (seen ++ entry c kind ∷ []) d o
other_next seen c d kind o other is =
    grind (arith, newest_first-push, other_answer, block_stays, other_writes)

-- the caller's own entry that doesn't touch its block
own_quiet : (seen : List Entry) (c : ℕ) (kind : Kind) (o : Option Block) → open_or_close kind ≡ None
    → commit_or_open kind ≡ None
    → ((writes : List (ℕ × ℕ)) → with_write true kind writes ≡ written_by true kind ++ writes)
    → IsBlockOf seen c o
    → IsBlockOf (seen ++ entry c kind ∷ []) c o
own_quiet seen c kind o edge inner writes is =
    grind (arith, newest_first-push, no_answer, block_stays, own_writes, same_number)

own_commit : (seen : List Entry) (c : ℕ) (b : Block) → IsOpenBlock seen c b
    → IsOpenBlock (seen ++ entry c Commit ∷ []) c (committed b)
own_commit seen c b is =
    let block = ap (λ o. unwrap_or o false)
    (no_answer c c open_or_close Commit (newest_first seen) refl) ∙ is.inside in
    let commit = ap (λ o. unwrap_or o false)
    (own_answer c commit_or_open Commit (newest_first seen)) in
    block_stays _ c _ b _ refl block (λ i. block i && commit i)
    (cc (own_writes c Commit (newest_first seen), same_number c)) is

own_open : (seen : List Entry) (c : ℕ)
    → IsOpenBlock (seen ++ entry c BlockOpen ∷ []) c
    (record { opened = length seen; has_commit = false })
own_open seen c =
    let e = entry c BlockOpen in
    let next = newest_first-push seen e in
    let block = own_block c BlockOpen (newest_first seen) in
    let commit = ap (λ o. unwrap_or o false)
    (own_answer c commit_or_open BlockOpen (newest_first seen)) in
    record {
      before = omega (arith, length-append seen (e ∷ []));
      inside = ap (has_block c) next ∙ block;
      has_commit = ap (has_inner_commit c) next ∙ (λ i. block i && commit i);
      writes = ap (block_writes c) next ∙ own_writes c BlockOpen (newest_first seen)
          ∙ sym (cc (drop-append_seam seen (e ∷ []), same_number c));
    }

own_end : (seen : List Entry) (c : ℕ) (kind : Kind) → open_or_close kind ≡ Some false
    → has_block c (newest_first (seen ++ entry c kind ∷ [])) ≡ false
own_end seen c kind ends = grind (arith, ends, newest_first-push, own_block)

own_next : (seen : List Entry) (c : ℕ) (kind : Kind) (o : Option Block) → IsBlockOf seen c o
    → IsBlockOf (seen ++ entry c kind ∷ []) c (block_after (length seen) kind o)
own_next seen c kind o is =
    grind (arith, own_quiet, newest_first-push, no_answer, own_commit, own_open, own_end)

-- each caller's block is kept
abbrev pub AreBlocks : Header → List Entry → List (Option Block) → Type 0
AreBlocks h seen blocks = (c : ℕ) → c < h.callers
    → (o : Option Block) × (slice_get blocks c ≡ Some o) × IsBlockOf seen c o

pub block_there : (h : Header) (seen : List Entry) (blocks : List (Option Block)) (c : ℕ)
    (o : Option Block) → AreBlocks h seen blocks
    → c < h.callers → slice_get blocks c ≡ Some o → IsBlockOf seen c o
block_there h seen blocks c o are within there = grind (arith, (are c within).2)

-- one more entry changes its caller's block alone
pub blocks_next : (h : Header) (seen : List Entry) (e : Entry) (blocks : List (Option Block))
    (o : Option Block) → AreBlocks h seen blocks
    → e.caller < h.callers → slice_get blocks e.caller ≡ Some o
    → AreBlocks h (seen ++ e ∷ []) (set blocks e.caller (block_after (length seen) e.kind o))
blocks_next h seen e blocks o are low there d within = by_same e.caller d
    (λ same. rw (← same) (
      block_after (length _) e.kind o,
      slice_get-set_same blocks e.caller _ (slice_get_within _ _ o there),
      own_next seen e.caller e.kind o (block_there h seen blocks e.caller o are low there),
    ))
    (λ other. let kept = are d within in (
      kept.0,
      slice_get-set_other _ _ d _ (apart_of _ d other) ∙ kept.1,
      other_next seen e.caller d e.kind _ other kept.2,
    ))

-- the same from one place of a front to the next
pub blocks_at : (h : Header) (front : List Entry) (at : ℕ) (e : Entry)
    (blocks : List (Option Block)) (o n : Option Block)
    → slice_get front at ≡ Some e → AreBlocks h (take at front) blocks → e.caller < h.callers
    → slice_get blocks e.caller ≡ Some o
    → n ≡ block_after at e.kind o → AreBlocks h (take (at + 1) front) (set blocks e.caller n)
blocks_at h front at e blocks o n here are low there is =
    let within = slice_get_within _ at e here in
    let long : length (take at front) ≡ at = omega (arith, length-take at front) in
    rw (take_one_more front at e here)
    (rw (← ap (λ k. block_after k e.kind o) long ∙ sym is)
    (blocks_next h (take at front) e blocks o are low there))

-- the effects before the next place
pub effects_next : (front : List Entry) (at : ℕ) (e : Entry) → slice_get front at ≡ Some e
    → effects_at (newest_first (take at front)) e.caller e.kind (drop (at + 1) front)
    ++ effects (newest_first (take at front)) (drop at front)
    ≡ effects (newest_first (take (at + 1) front)) (drop (at + 1) front)
effects_next front at e here = search (here, drop_here, next_is, arith)

-- before the first entry all words are 0, and no block is open
pub effects_first : (h : Header) (front : List Entry) (words : List ℕ)
    (blocks : List (Option Block)) → words ≡ replicate (plain_words h) 0
    → blocks ≡ replicate h.callers None → HasEffects h words blocks [] front
effects_first h front words blocks zeroed closed = search (words_without, none_there, arith)

-- once the effects of an entry have taken place, the words are those at its place
pub words_here : (h : Header) (front : List Entry) (at : ℕ) (e : Entry) (words : List ℕ)
    (blocks : List (Option Block))
    → slice_get front at ≡ Some e
    → HasEffects h words blocks (take (at + 1) front) (drop (at + 1) front)
    → words ≡ words_at h [] (place_of e (newest_first (take at front)) (drop (at + 1) front))
unfolding words_at
words_here h front at e words blocks here are = search (next_is, arith)
