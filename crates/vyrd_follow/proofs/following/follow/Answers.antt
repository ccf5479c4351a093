use Rattle.vyrd_follow.proofs.Prelude.{◌≡◌, [], ◌++◌, length, map, refl, ap, ◌∙◌, sym, append-nil}
use Rattle.vyrd_follow.proofs.Prelude.{option_map_or, Rules, rules_by, items_text, Stepped}
use Rattle.vyrd_follow.proofs.Prelude.{words_through, effects_there, words_then, agreed_items}
use Rattle.vyrd_follow.proofs.Prelude.{start_items, writes_items, entry_items}
use Rattle.vyrd_witness.proofs.WrittenLaws.{there_fit}
use Rattle.vyrd_follow.proofs.FollowLaws.{words_on, length_then, known_start, start_is, text_next}
use Rattle.vyrd_follow.proofs.following.follow.Goals as goal

pub loop-at-init : goal.loop-at-init
loop-at-init g c =
    let of = g.S.Spec in
    let charter = g.F.Follows.charter c.args.words in
    let starting = c.args.starting.now in
    let spec = c.args.spec in
    record {
      charter = refl;
      words = c.requires.words;
      phases = c.in_ok-walk.ensures.phases;
      known = known_start of.charter of.state of.made charter starting c.args.front.now spec
          c.requires.state c.requires.charter c.requires.made;
      text = c.in_ok-put_items.ensures
          ∙ ap (λ xs. c.args.text.now.items ++ items_text (g.L.Lines.line c.args.lines.now) xs)
          (c.deref.ensures.value ∙ c.in_ok-put_start.ensures
          ∙ ap (λ xs. xs ++ option_map_or
          (λ s. agreed_items ((rules_by (of.charter s)).shown (of.state s))) spec [])
          c.new-items.ensures.items
          ∙ start_is of.charter of.state charter starting spec c.requires.state c.requires.charter
          ∙ sym (append-nil (start_items (rules_by charter) starting)));
    }

pub put_writes-requires : goal.put_writes-requires
put_writes-requires g c = record {
  within = there_fit c.args.header c.args.front.now c.loop-at.at
      (length (g.F.Follows.words c.loop-at.words)) c.deref-in-loop-at.result.now c.requires.kept
      (ap length c.loop-at.invariant.words
      ∙ length_then c.args.header c.args.starting.now c.args.front.now c.loop-at.at)
      (c.deref-in-loop-at.ensures.value ∙ c.in_ok-effects.ensures.effects);
}

pub loop-at-preserved : goal.loop-at-preserved
loop-at-preserved g c =
    let charter = g.F.Follows.charter c.args.words in
    let r : Rules = rules_by charter in
    let starting = c.args.starting.now in
    let front = c.args.front.now in
    let at = c.loop-at.at in
    let here = c.loop-at.invariant in
    let effects = c.deref-in-loop-at.ensures.value ∙ c.in_ok-effects.ensures.effects in
    let words = here.words ∙ ap (λ h. words_then h starting front at) c.requires.header in
    let written : c.put_writes.new.items.items
    ≡ writes_items r (words_then r.header starting front at) (effects_there front at) =
    c.in_ok-put_writes.ensures.items
    ∙ (λ i. c.clear.ensures.items i
    ++ writes_items (rules_by (here.charter i)) (words i) (effects i)) in
    let done = c.deref-in-loop-at-2.ensures.value
    ∙ c.in_ok-spec.ensures.done charter starting here.known in
    record {
      charter = c.in_ok-put_writes.ensures.charter ∙ here.charter;
      words = c.in_ok-put_writes.ensures.words
          ∙ (λ i. words_through (here.words i) (effects i))
          ∙ words_on c.args.header starting front at c.loop-at-test.true;
      phases = c.in_ok-effects.ensures.next;
      known = c.in_ok-spec.ensures.next charter starting here.known;
      text = text_next (g.L.Lines.line c.args.lines.now) c.args.text.now.items
          (start_items r starting) (entry_items charter starting front) at
          c.loop-at.text.items c.put_items-in-loop-at.new.text.items
          c.deref-in-loop-at-3.result.now here.text
          (c.deref-in-loop-at-3.ensures.value ∙ c.in_ok-put_steps.ensures
          ∙ (λ i. written i ++ map (Stepped at) (done i))) c.in_ok-put_items-2.ensures;
    }
