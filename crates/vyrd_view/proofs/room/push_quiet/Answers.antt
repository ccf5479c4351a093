use Rattle.std.proofs.Common.{◌≡◌, ℕ, ◌<◌, take, replicate, get_or, ap, ◌∙◌, arith}
use Rattle.std.proofs.lemmas.List.{take-replicate}
use Rattle.vyrd_view.proofs.RoomLaws.{quiet_more}
use Rattle.vyrd_view.proofs.room.push_quiet.Goals as goal

pub push-requires-clause-nothing : goal.push-requires-clause-nothing
push-requires-clause-nothing g c =
    let d = g.D.Decode in
    let decoder = c.args.decoder.now in
    let j = c.loop-place.place in
    let low : j < d.places decoder =
    omega (arith, c.loop-place-test.true, c.places-place-end.ensures) in
    let own : get_or c.decode-pairs.result j (0, 0)
    ≡ d.gives decoder c.args.part (take c.width.result (replicate 64 0)) j =
    c.decode-pairs.ensures j low in
    let zeroes : take c.width.result (replicate 64 0) ≡ replicate (d.width decoder) 0 =
    ap (λ n. take n (replicate 64 0)) c.width.ensures
    ∙ take-replicate (d.width decoder) 64 0 (g.met.D.Decode.narrow decoder).1 in
    ap (λ (p : ℕ × ℕ). p.1) (own ∙ ap (λ ws. d.gives decoder c.args.part ws j) zeroes)
    ∙ g.met.D.Decode.quiet decoder c.args.part j

pub loop-place-preserved : goal.loop-place-preserved
loop-place-preserved g c =
    let d = g.D.Decode in
    let decoder = c.args.decoder.now in
    let j = c.loop-place.place in
    let low : j < d.places decoder =
    omega (arith, c.loop-place-test.true, c.places-place-end.ensures) in
    let own : get_or c.decode-pairs.result j (0, 0)
    ≡ d.gives decoder c.args.part (take c.width.result (replicate 64 0)) j =
    c.decode-pairs.ensures j low in
    let zeroes : take c.width.result (replicate 64 0) ≡ replicate (d.width decoder) 0 =
    ap (λ n. take n (replicate 64 0)) c.width.ensures
    ∙ take-replicate (d.width decoder) 64 0 (g.met.D.Decode.narrow decoder).1 in
    let ok = c.in_ok-push.ensures in
    record {
      sound = ap (λ k. k.refused) ok ∙ c.loop-place.invariant.sound;
      specified = ap (λ k. k.specified) ok ∙ c.loop-place.invariant.specified;
      pairs = quiet_more (d.gives decoder c.args.part (replicate (d.width decoder) 0))
          c.args.parts.now.pairs c.loop-place.parts.pairs c.push.new.self.pairs j
          (get_or c.decode-pairs.result j (0, 0)) c.loop-place.invariant.pairs
          (ap (λ k. k.pairs) ok) (own ∙ ap (λ ws. d.gives decoder c.args.part ws j) zeroes);
    }
