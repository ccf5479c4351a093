use Rattle.vyrd_view.proofs.Prelude.{◌≡◌, ℕ, ◌+◌, ◌*◌, ◌≤◌, false, length, take, ap, sym, ◌∙◌}
use Rattle.vyrd_view.proofs.Prelude.{subst, ◌++◌, drop, arith, mul-le-mul_left, mul-le-mul_right}
use Rattle.vyrd_view.proofs.Prelude.{on_ok_weaker, length_below, AgreeElsewhere, HaveRoom, padded}
use Rattle.vyrd_view.proofs.Prelude.{pair_at, pairs_by, ComparedKept}
use Rattle.vyrd_view.proofs.OutcomeLaws.{of_sound}
use Rattle.vyrd_view.proofs.RoomLaws.{more_room, room_agrees, room_others, room_whole, room_stays}
use Rattle.vyrd_view.proofs.RoomLaws.{front_length, written_back}
use Rattle.vyrd_view.proofs.by_parts.ByParts.words_changed.Goals as goal

pub make_room-requires-clause-places : goal.make_room-requires-clause-places
make_room-requires-clause-places g c =
    let d = g.D.Decode in
    let kept = c.self.inside in
    let decoder = kept.decoder in
    let sound : kept.parts.refused ≡ false =
    ap (λ k. k.refused) c.self.view_is ∙ c.requires.sound in
    let room : HaveRoom (d.width decoder) (d.places decoder) (d.parts decoder) kept.held
    (d.gives decoder) kept.words.items kept.parts.pairs = c.self.invariant sound in
    ap length room.given
    ∙ length_below (pair_at (d.width decoder) (d.places decoder) (d.gives decoder)
    (padded (d.parts decoder * d.width decoder) kept.words.items)) (kept.held * d.places decoder)

pub copy_changed-requires-clause-elsewhere : goal.copy_changed-requires-clause-elsewhere
copy_changed-requires-clause-elsewhere g c =
    let d = g.D.Decode in
    let kept = c.self.inside in
    let decoder = kept.decoder in
    let width : ℕ = d.width decoder in
    let places : ℕ = d.places decoder in
    let parts : ℕ = d.parts decoder in
    let held : ℕ = c.in_ok-self-inside.field-0 in
    let words = c.make_room.new.words.items in
    let pairs = c.make_room.new.parts.pairs in
    let sound : kept.parts.refused ≡ false =
    ap (λ k. k.refused) c.self.view_is ∙ c.requires.sound in
    let ok = c.in_ok-self-inside.ensures in
    let grown : (padded (parts * width) words ≡ padded (parts * width) kept.words.items)
    × HaveRoom width places parts held (d.gives decoder) words pairs =
    more_room width places parts (d.gives decoder) ((g.met.D.Decode.narrow decoder).2) kept.held
    held kept.words.items words kept.parts.pairs pairs (c.self.invariant sound) ok.more ok.held
    ok.words ok.places ok.old ok.new in
    let all : length c.args.words.now ≡ parts * width =
    c.requires.count ∙ sym (ap (λ k. k.count) c.self.view_is) in
    let elsewhere : AgreeElsewhere (padded (parts * width) words) c.args.words.now
    c.args.changed.now =
    rw (grown.0 ∙ ap (λ k. k.words) c.self.view_is) c.requires.elsewhere in
    let count : c.len-front.result ≡ length words =
    omega (arith, c.len-front.ensures, c.make_room.new.words.ok.0) in
    rw c.deref_mut.ensures.value
    (rw count
    (room_agrees width places parts held (d.gives decoder) words c.args.words.now c.args.changed.now
    pairs grown.1 all elsewhere ok.room))

pub parts_changed-requires-clause-others : goal.parts_changed-requires-clause-others
parts_changed-requires-clause-others g c =
    let d = g.D.Decode in
    let kept = c.self.inside in
    let decoder = kept.decoder in
    let width : ℕ = d.width decoder in
    let places : ℕ = d.places decoder in
    let parts : ℕ = d.parts decoder in
    let held : ℕ = c.in_ok-self-inside.field-0 in
    let words = c.make_room.new.words.items in
    let pairs = c.make_room.new.parts.pairs in
    let sound : kept.parts.refused ≡ false =
    ap (λ k. k.refused) c.self.view_is ∙ c.requires.sound in
    let ok = c.in_ok-self-inside.ensures in
    let grown : (padded (parts * width) words ≡ padded (parts * width) kept.words.items)
    × HaveRoom width places parts held (d.gives decoder) words pairs =
    more_room width places parts (d.gives decoder) ((g.met.D.Decode.narrow decoder).2) kept.held
    held kept.words.items words kept.parts.pairs pairs (c.self.invariant sound) ok.more ok.held
    ok.words ok.places ok.old ok.new in
    let all : length c.args.words.now ≡ parts * width =
    c.requires.count ∙ sym (ap (λ k. k.count) c.self.view_is) in
    let elsewhere : AgreeElsewhere (padded (parts * width) words) c.args.words.now
    c.args.changed.now =
    rw (grown.0 ∙ ap (λ k. k.words) c.self.view_is) c.requires.elsewhere in
    room_others width places parts held (d.gives decoder) words c.args.words.now c.args.changed.now
    pairs grown.1 all elsewhere ok.room

pub invariant_of-self-2 : goal.invariant_of-self-2
invariant_of-self-2 g c =
    let d = g.D.Decode in
    let kept = c.self.inside in
    let decoder = kept.decoder in
    let width : ℕ = d.width decoder in
    let places : ℕ = d.places decoder in
    let parts : ℕ = d.parts decoder in
    let held : ℕ = c.in_ok-self-inside.field-0 in
    let words = c.make_room.new.words.items in
    let pairs = c.make_room.new.parts.pairs in
    let sound : kept.parts.refused ≡ false =
    ap (λ k. k.refused) c.self.view_is ∙ c.requires.sound in
    let ok = c.in_ok-self-inside.ensures in
    let grown : (padded (parts * width) words ≡ padded (parts * width) kept.words.items)
    × HaveRoom width places parts held (d.gives decoder) words pairs =
    more_room width places parts (d.gives decoder) ((g.met.D.Decode.narrow decoder).2) kept.held
    held kept.words.items words kept.parts.pairs pairs (c.self.invariant sound) ok.more ok.held
    ok.words ok.places ok.old ok.new in
    let all : length c.args.words.now ≡ parts * width =
    c.requires.count ∙ sym (cc (c.self.view_is)) in
    let elsewhere : AgreeElsewhere (padded (parts * width) words) c.args.words.now
    c.args.changed.now =
    rw (grown.0 ∙ ap (λ k. k.words) c.self.view_is) c.requires.elsewhere in
    let count : c.len-front.result ≡ length words =
    omega (arith, c.len-front.ensures, c.make_room.new.words.ok.0) in
    let front : c.copy_changed.new.before ≡ take (length words) c.args.words.now =
    cc (c.copy_changed.ensures) in
    let back : take c.make_room.new.words.len (c.copy_changed.new.before
    ++ drop (length c.copy_changed.new.before) words) ≡ take (length words) c.args.words.now =
    written_back c.make_room.new.words.len c.copy_changed.new.before words
    (omega (arith, c.make_room.new.words.ok.0)) (ap length front
    ∙ front_length (parts * width) words c.args.words.now c.args.changed.now all
    (omega (arith, grown.1.count, mul-le-mul_right width grown.1.few)) elsewhere) ∙ front in
    let after : ComparedKept = record c.make_room.new.parts {
      pairs = pairs_by width places held
          (d.gives decoder) c.args.words.now;
    } in
    λ fine.
    let now : c.parts_changed.new.parts ≡ after =
    of_sound c.parts_changed.result (c.parts_changed.new.parts ≡ after)
    c.parts_changed.new.parts.refused c.parts_changed.ensures.ok c.parts_changed.ensures.refused
    fine in
    rw back
    (room_stays width places parts held (d.gives decoder) words c.args.words.now c.args.changed.now
    pairs grown.1 all elsewhere ok.room
    c.parts_changed.new.parts.pairs (cc))

pub returns-clause-ok : goal.returns-clause-ok
returns-clause-ok g c =
    let d = g.D.Decode in
    let kept = c.self.inside in
    let decoder = kept.decoder in
    let width : ℕ = d.width decoder in
    let places : ℕ = d.places decoder in
    let parts : ℕ = d.parts decoder in
    let held : ℕ = c.in_ok-self-inside.field-0 in
    let words = c.make_room.new.words.items in
    let pairs = c.make_room.new.parts.pairs in
    let sound : kept.parts.refused ≡ false =
    ap (λ k. k.refused) c.self.view_is ∙ c.requires.sound in
    let ok = c.in_ok-self-inside.ensures in
    let grown : (padded (parts * width) words ≡ padded (parts * width) kept.words.items)
    × HaveRoom width places parts held (d.gives decoder) words pairs =
    more_room width places parts (d.gives decoder) ((g.met.D.Decode.narrow decoder).2) kept.held
    held kept.words.items words kept.parts.pairs pairs (c.self.invariant sound) ok.more ok.held
    ok.words ok.places ok.old ok.new in
    let all : length c.args.words.now ≡ parts * width =
    c.requires.count ∙ sym (cc (c.self.view_is)) in
    let elsewhere : AgreeElsewhere (padded (parts * width) words) c.args.words.now
    c.args.changed.now =
    rw (grown.0 ∙ ap (λ k. k.words) c.self.view_is) c.requires.elsewhere in
    let count : c.len-front.result ≡ length words =
    omega (arith, c.len-front.ensures, c.make_room.new.words.ok.0) in
    let front : c.copy_changed.new.before ≡ take (length words) c.args.words.now =
    cc (c.copy_changed.ensures) in
    let back : take c.make_room.new.words.len (c.copy_changed.new.before
    ++ drop (length c.copy_changed.new.before) words) ≡ take (length words) c.args.words.now =
    written_back c.make_room.new.words.len c.copy_changed.new.before words
    (omega (arith, c.make_room.new.words.ok.0)) (ap length front
    ∙ front_length (parts * width) words c.args.words.now c.args.changed.now all
    (omega (arith, grown.1.count, mul-le-mul_right width grown.1.few)) elsewhere) ∙ front in
    let after : ComparedKept = record c.make_room.new.parts {
      pairs = pairs_by width places held
          (d.gives decoder) c.args.words.now;
    } in
    let whole : padded (parts * width) (take c.make_room.new.words.len (c.copy_changed.new.before
    ++ drop (length c.copy_changed.new.before) words)) ≡ c.args.words.now =
    ap (padded (parts * width)) back ∙ room_whole width places parts held (d.gives decoder) words
    c.args.words.now c.args.changed.now
    pairs grown.1 all elsewhere ok.room in
    on_ok_weaker {P = c.parts_changed.new.parts ≡ after} c.parts_changed.result
    (λ now i. record {
      shows = ap (λ k. k.shows) c.self.view_is i;
      count = ap (λ k. k.count) c.self.view_is i;
      words = whole i;
      specified = (ap (λ k. k.specified) now ∙ ok.specified
          ∙ ap (λ k. k.specified) c.self.view_is) i;
      refused = (ap (λ k. k.refused) now ∙ ok.sound ∙ sym c.requires.sound) i;
    })
    c.parts_changed.ensures.ok

pub returns-clause-steps : goal.returns-clause-steps
returns-clause-steps g c =
    let d = g.D.Decode in
    let kept = c.self.inside in
    let count : ℕ = length c.args.changed.now in
    let most : d.places kept.decoder ≤ d.most_places c.args.self.now.shows =
    subst (λ s. d.places kept.decoder ≤ d.most_places s) (ap (λ k. k.shows) c.self.view_is)
    (g.met.D.Decode.bounded kept.decoder) in
    let each : count * (1 + 2 * d.places kept.decoder)
    ≤ count * (1 + 2 * d.most_places c.args.self.now.shows) =
    mul-le-mul_left count (omega (arith, most)) in
    omega (arith, c.parts_changed.ensures.steps, each)
