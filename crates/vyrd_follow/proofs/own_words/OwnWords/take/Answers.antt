use Rattle.vyrd_follow.proofs.Prelude.{arc_value, slice_index, own_view, written_in, rules_by}
use Rattle.std.proofs.Common.{◌≡◌, ◌≤◌, ◌*◌, ◌++◌, length, length-set, set, ap, ◌∙◌, sym, arith}
use Rattle.vyrd_follow.specs.NextKeys.{key_items}
use Rattle.vyrd_follow.proofs.OwnWordLaws.{past_whole, whole_shows, behind_shows, same_items}
use Rattle.vyrd_follow.proofs.OwnWordLaws.{no_items}
use Rattle.vyrd_follow.proofs.own_words.OwnWords.take.Goals as goal

pub write_word-requires-clause-shown : goal.write_word-requires-clause-shown
write_word-requires-clause-shown c =
    let parts = c.self.inside.parts in
    let known = c.self.invariant in
    known.3 c.if-self.false
    ∙ sym (whole_shows parts.header (arc_value parts.specification) parts.width parts.parts known.0
    parts.width_is known.1 c.self.inside.words.items known.2)

pub invariant_of-self-then-word-parts : goal.invariant_of-self-then-word-parts
invariant_of-self-then-word-parts c =
    let parts = c.self.inside.parts in
    let known = c.self.invariant in
    let written = c.in_ok-write_word.ensures in
    let count : length c.write_word.new.words.items ≡ parts.header.size =
    ap length written.words
    ∙ length-set c.self.inside.words.items c.args.effect.word c.args.effect.value ∙ known.2 in (
      known.0,
      known.1,
      count,
      λ sound. written.shown
          ∙ whole_shows parts.header (arc_value parts.specification) parts.width parts.parts known.0
          parts.width_is known.1 c.write_word.new.words.items count,
    )

pub invariant_of-self-else-word-parts : goal.invariant_of-self-else-word-parts
invariant_of-self-else-word-parts c =
    let parts = c.self.inside.parts in
    let known = c.self.invariant in
    let words = c.self.inside.words.items in
    let w = c.args.effect.word in
    let v = c.args.effect.value in
    let past : parts.parts * parts.width ≤ w =
    past_whole c.parts.result c.width.result parts.parts parts.width c.args.effect.word
    c.parts.ensures
    c.width.ensures (omega (arith, c.if-word-parts.false)) in (
      known.0,
      known.1,
      length-set words w v ∙ known.2,
      λ sound. known.3 sound
          ∙ behind_shows parts.header (arc_value parts.specification) parts.width parts.parts
          known.0 parts.width_is known.1 words w v known.2 past,
    )

pub returns-in_ok-write_word-clause-items : goal.returns-in_ok-write_word-clause-items
returns-in_ok-write_word-clause-items c =
    let parts = c.self.inside.parts in
    let known = c.self.invariant in
    let words = c.self.inside.words.items in
    let e = c.args.effect in
    let written = c.in_ok-write_word.ensures in
    let count : length c.write_word.new.words.items ≡ parts.header.size =
    ap length written.words ∙ length-set words e.word e.value ∙ known.2 in
    written.items
    ∙ ap (λ more. c.args.items.now.items ++ more)
    (same_items e (slice_index words e.word) (known.3 c.if-self.false)
    (whole_shows parts.header (arc_value parts.specification) parts.width parts.parts known.0
    parts.width_is known.1 c.write_word.new.words.items count
    ∙ ap (own_view (written_in (arc_value parts.specification))) written.words))
    ∙ ap (λ s. c.args.items.now.items ++ key_items (rules_by s.charter) s.words e) c.self.view_is

pub returns-else-word-parts-clause-items : goal.returns-else-word-parts-clause-items
returns-else-word-parts-clause-items c =
    let parts = c.self.inside.parts in
    let known = c.self.invariant in
    let words = c.self.inside.words.items in
    let e = c.args.effect in
    let w = written_in (arc_value parts.specification) in
    let past : parts.parts * parts.width ≤ e.word =
    past_whole c.parts.result c.width.result parts.parts parts.width c.args.effect.word
    c.parts.ensures
    c.width.ensures (omega (arith, c.if-word-parts.false)) in
    no_items e (slice_index words e.word) (own_view w words)
    (own_view w (set words e.word e.value)) c.args.items.now.items
    (behind_shows parts.header (arc_value parts.specification) parts.width parts.parts known.0
    parts.width_is known.1 words e.word e.value known.2 past)
    ∙ ap (λ s. c.args.items.now.items ++ key_items (rules_by s.charter) s.words e) c.self.view_is
