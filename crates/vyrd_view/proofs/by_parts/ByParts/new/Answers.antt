use Rattle.std.proofs.Common.{◌≡◌, ℕ, ◌*◌, [], replicate, ap, sym, ◌∙◌, subst, arith}
use Rattle.vyrd_view.specs.Decoded.{HaveRoom, padded}
use Rattle.vyrd_view.proofs.RoomLaws.{no_room, more_room, padded_nothing}
use Rattle.vyrd_view.proofs.by_parts.ByParts.new.Given as given
use Rattle.vyrd_view.proofs.by_parts.ByParts.new.Goals as goal

module _ (g : given.Over) (c : goal.In_ok-grow g) where
  bare : c.in_ok-words.words.items ≡ []
  bare = c.in_ok-words.ensures.items

  first : HaveRoom (g.D.Decode.width c.args.decoder) (g.D.Decode.places c.args.decoder)
      (g.D.Decode.parts c.args.decoder) 0 (g.D.Decode.gives c.args.decoder)
      c.in_ok-words.words.items c.in_ok-parts.parts.pairs
  first =
      let d = g.D.Decode in
      let decoder = c.args.decoder in
      subst (λ ws. HaveRoom (d.width decoder) (d.places decoder) (d.parts decoder) 0
      (d.gives decoder) ws c.in_ok-parts.parts.pairs) (sym bare)
      (subst (HaveRoom (d.width decoder) (d.places decoder) (d.parts decoder) 0 (d.gives decoder)
      [])
      (sym (ap (λ k. k.pairs) c.in_ok-parts.ensures ∙ c.in_ok-pairs.ensures.items))
      (no_room (d.width decoder) (d.places decoder) (d.parts decoder) (d.gives decoder)
      ((g.met.D.Decode.narrow decoder).2)))

  grown : (padded (g.D.Decode.parts c.args.decoder * g.D.Decode.width c.args.decoder)
      c.grow.new.words.items
      ≡ padded (g.D.Decode.parts c.args.decoder * g.D.Decode.width c.args.decoder)
      c.in_ok-words.words.items)
      × HaveRoom (g.D.Decode.width c.args.decoder) (g.D.Decode.places c.args.decoder)
      (g.D.Decode.parts c.args.decoder) c.first_parts-held.result
      (g.D.Decode.gives c.args.decoder) c.grow.new.words.items c.grow.new.parts.pairs
  grown =
      let d = g.D.Decode in
      let decoder = c.args.decoder in
      let ok = c.in_ok-grow.ensures in
      more_room (d.width decoder) (d.places decoder) (d.parts decoder) (d.gives decoder)
      ((g.met.D.Decode.narrow decoder).2) 0 c.first_parts-held.result c.in_ok-words.words.items
      c.grow.new.words.items c.in_ok-parts.parts.pairs c.grow.new.parts.pairs first (omega arith)
      (omega (arith, c.first_parts-held.ensures, c.parts.ensures)) ok.words ok.places ok.old ok.new

pub invariant_of-result : goal.invariant_of-result
invariant_of-result g c = λ sound. (grown g c).1

pub returns : goal.returns
returns g c =
    let d = g.D.Decode in
    let decoder = c.args.decoder in
    let count : ℕ = d.parts decoder * d.width decoder in
    let words : padded count c.grow.new.words.items ≡ replicate count 0 =
    (grown g c).0 ∙ ap (padded count) (bare g c) ∙ padded_nothing count in
    λ i. record {
      shows = d.shows decoder;
      count = count;
      words = words i;
      specified = (c.in_ok-grow.ensures.specified
          ∙ ap (λ k. k.specified) c.in_ok-parts.ensures) i;
      refused = c.in_ok-grow.ensures.sound i;
    }
