use Rattle.vyrd_view.proofs.Prelude.{◌≡◌, ℕ, List, ap, sym, ◌∙◌, get_or, set, ComparedKept}
use Rattle.std.proofs.lemmas.List.{set-get_or}
use Rattle.vyrd_view.proofs.parts.Parts.replace.Goals as goal

both_same : (x y : ℕ × ℕ) → x.0 ≡ y.0 → x.1 ≡ y.1 → x ≡ y
both_same x y key amount = λ i. (key i, amount i)

-- the same pair again
same_pair : (kept : ComparedKept) (pairs : List (ℕ × ℕ)) (place : ℕ) (before pair : ℕ × ℕ)
    → pairs ≡ kept.pairs → before ≡ get_or pairs place before
    → before.0 ≡ pair.0 → before.1 ≡ pair.1
    → kept ≡ record {
      pairs = set kept.pairs place pair;
      specified = kept.specified;
      refused = kept.refused;
    }
same_pair kept pairs place before pair are is key amount =
    let same : before ≡ pair = both_same before pair key amount in
    let stays : kept.pairs ≡ set kept.pairs place pair =
    sym (set-get_or kept.pairs place before)
    ∙ ap (set kept.pairs place) (ap (λ s. get_or s place before) (sym are) ∙ sym is ∙ same) in
    ap (λ s. record { pairs = s; specified = kept.specified; refused = kept.refused }) stays

pub returns-then-before-pair-2-clause-ok : goal.returns-then-before-pair-2-clause-ok
returns-then-before-pair-2-clause-ok g c =
    same_pair c.args.self.now c.self.inside.pairs.items c.args.place c.index-before.result.now
    c.args.pair
    (ap (λ k. k.pairs) c.self.view_is) c.index-before.ensures c.if-before-pair.true
    c.if-before-pair-2.true
