use Rattle.vyrd_view.proofs.Prelude.{◌≡◌, ℕ, ◌+◌, ◌*◌, false, true, length, length-set, replicate}
use Rattle.vyrd_view.proofs.Prelude.{set, ap, sym, ◌∙◌, arith, length-replicate, given}
use Rattle.vyrd_view.proofs.CurrentLaws.{given_copies}
use Rattle.vyrd_view.proofs.ReadyLaws.{first_walked}
use Rattle.vyrd_view.proofs.leaves.Leaves.new.Goals as goal

pub new-requires : goal.new-requires
new-requires = grind (arith, given, given_copies)

pub invariant_of-result : goal.invariant_of-result
invariant_of-result c =
    let size = c.args.size in
    let marks : set c.in_ok-marks.marks.items 0 true ≡ set (replicate size false) 0 true =
    cc (c.in_ok-marks.ensures.items_if_clones_equal (λ y e. e)) in
    let words : c.in_ok-vec.field-0.items ≡ replicate (12 * size + 2) 0 =
    c.in_ok-vec.ensures.items_if_clones_equal (λ y e. e) in
    let pairs : c.in_ok-new.field-0.pairs ≡ replicate (4 * size + 1) (0, 0) =
    ap (λ k. k.pairs) c.in_ok-new.ensures
    ∙ c.in_ok-pairs.ensures.items_if_clones_equal (λ y e. λ i. (e.0 i, e.1 i)) in
    let next : c.in_ok-vec-2.field-0.items ≡ replicate size false =
    c.in_ok-vec-2.ensures.items_if_clones_equal (λ y e. e) in
    let count : length (set c.in_ok-marks.marks.items 0 true) ≡ size =
    ap length marks ∙ length-set (replicate size false) 0 true ∙ length-replicate size false in (
      record {
        some = omega (arith, count, c.requires.some);
        few = omega (arith, count, c.requires.small);
        count = omega (arith, ap length words, length-replicate {A = ℕ} (12 * size + 2) 0, count);
        room = ap length next ∙ length-replicate size false ∙ sym count;
      },
      λ sound. rw words
          (rw pairs
          (rw marks (first_walked size (12 * size + 2) c.requires.some))),
    )
