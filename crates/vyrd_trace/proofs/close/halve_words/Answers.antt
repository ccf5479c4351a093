use Rattle.vyrd_trace.proofs.Prelude.{◌≡◌, ℕ, zero, suc, ◌+◌, ◌/◌, ◌<◌, List, [], ◌∷◌, ◌++◌, length}
use Rattle.vyrd_trace.proofs.Prelude.{sym, ap, ◌∙◌, arith, subst, slice_index, slots_items}
use Rattle.std.proofs.lemmas.List.{get_or_append_left, get_or_push}
use mathlib.Core.Logic.{dite}
use mathlib.Core.Option.{some, some-injective, some-ne-none}
use native.Mathlib.Decide.{dec_lt}
use lib.ListN.{get_elem?}
use Rattle.vyrd_trace.proofs.close.halve_words.Goals as goal

read : (l : List ℕ) (i a : ℕ) → get_elem? l i ≡ some a → slice_index l i ≡ a
read [] i a e = absurd (some-ne-none a (sym e))
read (x ∷ xs) zero a e = some-injective x a e
read (x ∷ xs) (suc i) a e = read xs i a e

more : (ws all : List ℕ) (k x : ℕ) → length ws ≡ k → x ≡ slice_index all (k + 1) / 2
    → ((j : ℕ) → j < k → slice_index ws j ≡ slice_index all (j + 1) / 2)
    → (j : ℕ) → j < k + 1 → slice_index (ws ++ x ∷ []) j ≡ slice_index all (j + 1) / 2
more ws all k x len is so_far j l = dite (dec_lt j k)
    (λ below. get_or_append_left ws (x ∷ []) 0 j (omega arith) ∙ so_far j below)
    (λ no. let same : k ≡ j = omega arith in get_or_push ws x 0 j (len ∙ same) ∙ is
    ∙ ap (λ (q : ℕ). slice_index all (q + 1) / 2) same)

pub loop-k-preserved : goal.loop-k-preserved
loop-k-preserved c =
    let inv = c.loop-k.invariant in
    let all = slots_items c.args.closed.now.words in
    let p = c.push_reserved.ensures in
    let x = ap (λ (q : ℕ). q / 2) (sym (read all (c.loop-k.k + 1) c.word.result c.word.ensures)) in
    record {
      count = p.len ∙ ap (λ (q : ℕ). q + 1) inv.count;
      room = p.capacity ∙ inv.room;
      halves = subst (λ (ws : List ℕ). (j : ℕ) → j < c.loop-k.k + 1 → slice_index ws j
          ≡ slice_index all (j + 1) / 2) (sym p.items)
          (more c.loop-k.words.items all c.loop-k.k (c.word.result / 2)
          (sym c.loop-k.words.ok.0 ∙ inv.count) x inv.halves);
    }
