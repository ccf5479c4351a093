use Rattle.vyrd_view.proofs.Prelude.{◌≡◌, ap, sym, ◌∙◌, length, Some, false, ◌==◌, ◌&&◌, option_or}
use Rattle.std.proofs.lemmas.Slice.Zip.{zip_turn, zip_end}
use Rattle.vyrd_view.proofs.ApartLaws.{first_apart_of, apart_here, apart_end, keys_apart}
use Rattle.vyrd_view.proofs.ApartLaws.{amounts_apart}
use Rattle.vyrd_view.proofs.difference.first_difference.Goals as goal
use Rattle.vyrd_view.proofs.difference.first_difference.Goals.{then-x-y-via-then-x-y}
use Rattle.vyrd_view.proofs.difference.first_difference.Goals.{then-x-y-via-else-x-y+then-x-y-2}

pub returns-then-x-y : goal.returns-then-x-y
returns-then-x-y c =
    let ours = c.pairs-ours.result.now in
    let theirs = c.pairs-theirs.result.now in
    let x = c.in-Some.x.now in
    let y = c.in-Some.y.now in
    let first : c.into_iter-x-iterator.result.a.rest.now ≡ ours = cc in
    let second : c.into_iter-x-iterator.result.b.rest.now ≡ theirs = cc in
    let turn = zip_turn ours theirs c.loop-x.yielded c.into_iter-x-iterator.result
    c.loop-x.x-iterator c.next.new.self c.next.result first second
    c.loop-x.yielded_by (c.in-Some.x, c.in-Some.y) c.in-Some.is c.next.ensures.steps in
    let apart : (x.0 == y.0 && x.1 == y.1) ≡ false = elim c.then-x-y.branch [
      | then-x-y-via-then-x-y w ↦ keys_apart x y w.if-x-y.true
      | then-x-y-via-else-x-y+then-x-y-2 w ↦ amounts_apart x y w.if-x-y-2.true
    ] in
    ap Some c.min.ensures
    ∙ sym (apart_here ours theirs (length c.loop-x.yielded) x y turn.0 turn.1 (turn.2 x)
    (turn.3 y) apart)
    ∙ c.loop-x.invariant.2
    ∙ first_apart_of c.args.a.now c.args.b.now ours theirs c.pairs-ours.ensures.amounts
    c.pairs-theirs.ensures.amounts c.pairs-ours.ensures.pairs c.pairs-theirs.ensures.pairs

pub returns : goal.returns
returns c =
    let ours = c.pairs-ours.result.now in
    let theirs = c.pairs-theirs.result.now in
    let first : c.into_iter-x-iterator.result.a.rest.now ≡ ours = cc in
    let second : c.into_iter-x-iterator.result.b.rest.now ≡ theirs = cc in
    let all = zip_end ours theirs c.loop-x.yielded c.into_iter-x-iterator.result c.loop-x.x-iterator
    c.next.new.self c.next.result first second
    c.loop-x.yielded_by c.in-None.is c.next.ensures.steps in
    c.or.ensures ∙ ap (λ o. option_or o c.key_at-2.result) c.key_at.ensures
    ∙ ap (option_or _) c.key_at-2.ensures
    ∙ sym (apart_end ours theirs (length c.loop-x.yielded) all) ∙ c.loop-x.invariant.2
    ∙ first_apart_of c.args.a.now c.args.b.now ours theirs c.pairs-ours.ensures.amounts
    c.pairs-theirs.ensures.amounts c.pairs-ours.ensures.pairs c.pairs-theirs.ensures.pairs
