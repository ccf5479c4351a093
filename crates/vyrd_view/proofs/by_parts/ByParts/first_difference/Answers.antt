use Rattle.vyrd_view.proofs.Prelude.{◌≡◌, ◌*◌, false, ap, ◌∙◌, first_difference, HaveRoom, padded}
use Rattle.vyrd_view.proofs.Prelude.{view_by}
use Rattle.vyrd_view.proofs.RoomLaws.{room_shows, room_length}
use Rattle.vyrd_view.proofs.by_parts.ByParts.first_difference.Goals as goal

pub returns : goal.returns
returns g c =
    let d = g.D.Decode in
    let kept = c.self.inside in
    let decoder = kept.decoder in
    let sound : kept.parts.refused ≡ false = ap (λ k. k.refused) c.self.view_is ∙ c.requires in
    let room : HaveRoom (d.width decoder) (d.places decoder) (d.parts decoder) kept.held
    (d.gives decoder) kept.words.items kept.parts.pairs = c.self.invariant sound in
    c.first_difference.ensures
    ∙ ap (λ a. first_difference a kept.parts.specified)
    (room_shows (d.width decoder) (d.places decoder) (d.parts decoder) kept.held (d.gives decoder)
    kept.words.items kept.parts.pairs room ((g.met.D.Decode.narrow decoder).2)
    (g.met.D.Decode.quiet decoder)
    ∙ g.met.D.Decode.shown decoder (padded (d.parts decoder * d.width decoder) kept.words.items)
    (room_length (d.width decoder) (d.places decoder) (d.parts decoder) kept.held (d.gives decoder)
    kept.words.items kept.parts.pairs room))
    ∙ ap (λ k. first_difference (view_by k.shows k.words) k.specified) c.self.view_is
