use Rattle.std.proofs.Common.{◌≡◌, ℕ, ◌+◌, ◌*◌, ◌/◌, ◌<◌, ◌≤◌, get_or, ap, arith}
use Rattle.std.proofs.lemmas.List.Elements.{All-get_or, All-from_get_or}
use Rattle.std.proofs.Math.Nat.{mul-le-mul_right}
use Rattle.vyrd_view.proofs.DecodedLaws.{part_of_within}
use Rattle.vyrd_view.proofs.RoomLaws.{in_its_part, one_more_within}
use Rattle.vyrd_view.proofs.room.needed_parts.Goals as goal

pub loop-word-preserved : goal.loop-word-preserved
loop-word-preserved g c =
    let d = g.D.Decode in
    let decoder = c.args.decoder.now in
    let width : ℕ = d.width decoder in
    let index = c.loop-word.word-index in
    let before = c.loop-word.needed in
    let now = c.up_to-needed.result in
    let word : ℕ = get_or c.args.changed.now index 0 in
    let same : word / c.width.result ≡ word / width = ap (λ n. word / n) c.width.ensures in
    let low : word < d.parts decoder * width =
    All-get_or (λ w. w < d.parts decoder * width) c.args.changed.now index 0 c.loop-word-test.true
    c.requires.within in
    let part : word / width < d.parts decoder = part_of_within word (d.parts decoder) width low in
    let up : before * width ≤ now * width = mul-le-mul_right width c.up_to-needed.ensures.more in
    let here : (word / width + 1) * width ≤ now * width =
    mul-le-mul_right width (omega (arith, c.up_to-needed.ensures.among, same)) in
    record {
      few = c.up_to-needed.ensures.least (d.parts decoder) c.loop-word.invariant.few
          (omega (arith, part, same));
      room = one_more_within c.args.changed.now index before now width c.loop-word.invariant.room up
          (omega (arith, here, in_its_part word width ((g.met.D.Decode.narrow decoder).0)));
    }

pub returns-clause-room : goal.returns-clause-room
returns-clause-room g c =
    let d = g.D.Decode in
    let decoder = c.args.decoder.now in
    All-from_get_or (λ w. w < c.loop-word.needed * d.width decoder) c.args.changed.now 0
    (λ i low. c.loop-word.invariant.room i (omega (arith, low)))
