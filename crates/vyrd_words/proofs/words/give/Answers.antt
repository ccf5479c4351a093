use Rattle.vyrd_words.proofs.Prelude.{◌≡◌, ℕ, List, ◌+◌, ◌∷◌, ◌++◌, [], ◌≤◌, length, take, get_or}
use Rattle.vyrd_words.proofs.Prelude.{arith, ap, subst, sym, ◌∙◌, take_more, take_all, sum_by}
use Rattle.vyrd_words.proofs.Prelude.{sum_by_push, first_with, with_part, begun_with, written}
use Rattle.std.proofs.lemmas.List.Sums.{sum_by-take-le}
use Rattle.vyrd_words.proofs.CutLaws.{first_with_nothing, with_part_nothing, first_with_twice}
use Rattle.vyrd_words.proofs.CutLaws.{with_part_twice, length-with_part, written_more}
use Rattle.vyrd_words.proofs.FewLaws.{begun_grows, begun_twice}
use Rattle.vyrd_words.proofs.words.give.Goals as goal

pub loop-word-init : goal.loop-word-init
loop-word-init g c =
    grind (
      arith,
      first_with_nothing 0 c.args.views.now.first c.args.views.now.since,
      with_part_nothing 0 c.args.views.now.since,
      begun_grows 0 [] c.args.views.now.begun
          c.args.views.now.since,
      c.requires.sound,
    )

pub loop-word-preserved : goal.loop-word-preserved
loop-word-preserved g c =
    let i = c.loop-word.word-index in
    let all = c.args.changed.now in
    let words = c.args.words.now in
    let before = c.args.views.now in
    let w : ℕ = get_or all i 0 in
    let one : List (ℕ × ℕ) = (w, get_or words w 0) ∷ [] in
    let sofar = written words (take i all) in
    let more : sofar ++ one ≡ written words (take (i + 1) all) =
    sym (written_more words (take i all) w)
    ∙ ap (written words) (sym (take_more all i 0 c.loop-word-test.true)) in
    record {
      first = c.in_ok-effect.ensures.first
          ∙ (λ j. first_with 0 one (c.loop-word.invariant.first j) (c.loop-word.invariant.since j))
          ∙ sym (first_with_twice 0 sofar one before.first before.since)
          ∙ ap (λ ws. first_with 0 ws before.first before.since) more;
      since = c.in_ok-effect.ensures.since
          ∙ ap (with_part 0 one) c.loop-word.invariant.since
          ∙ sym (with_part_twice 0 sofar one before.since)
          ∙ ap (λ ws. with_part 0 ws before.since) more;
      begun = subst (λ ws. c.effect.new.self.begun ≤ begun_with 0 ws before.begun before.since) more
          (begun_twice 0 sofar one before.begun c.loop-word.views.begun c.effect.new.self.begun
          before.since c.loop-word.views.since
          c.loop-word.invariant.begun (ap length c.loop-word.invariant.since
          ∙ length-with_part 0 sofar before.since)
          c.in_ok-effect.ensures.begun);
      specified = c.in_ok-effect.ensures.specified ∙ c.loop-word.invariant.specified;
      sound = c.in_ok-effect.ensures.sound;
      header = c.effect.ensures.header ∙ c.loop-word.invariant.header;
      shows = c.effect.ensures.shows ∙ c.loop-word.invariant.shows;
      steps = omega (
        arith,
        c.tick.ensures,
        c.loop-word.invariant.steps,
        c.in_ok-effect.ensures.steps,
        ap (λ shows. g.C.Compare.price shows w) c.loop-word.invariant.shows,
        ap (sum_by (g.C.Compare.price before.shows)) (take_more all i 0 c.loop-word-test.true),
        sum_by_push (g.C.Compare.price before.shows) (take i all) w,
      );
    }

pub returns-clause-first : goal.returns-clause-first
returns-clause-first = grind (arith, written, take_all)

pub returns-clause-since : goal.returns-clause-since
returns-clause-since = grind (arith, written, take_all)

pub returns-clause-begun : goal.returns-clause-begun
returns-clause-begun = grind (arith, written, take_all)

pub returns-clause-steps : goal.returns-clause-steps
returns-clause-steps = grind (arith, take_all)

pub returns-clause-most : goal.returns-clause-most
returns-clause-most = grind (arith, take_all)

pub returns-in_err-effect-clause-most : goal.returns-in_err-effect-clause-most
returns-in_err-effect-clause-most g c =
    let i = c.loop-word.word-index in
    let all = c.args.changed.now in
    let w : ℕ = get_or all i 0 in
    let p : ℕ → ℕ = g.C.Compare.price c.args.views.now.shows in
    omega (
      arith,
      c.tick.ensures,
      c.loop-word.invariant.steps,
      c.effect.ensures.most,
      c.loop-word-test.true,
      ap (λ shows. g.C.Compare.price shows w) c.loop-word.invariant.shows,
      ap (sum_by p) (take_more all i 0 c.loop-word-test.true),
      sum_by_push p (take i all) w,
      sum_by-take-le p all (i + 1),
    )
