use Rattle.vyrd_follow.proofs.Prelude.{◌≡◌, ◌+◌, ◌≤◌, ◌++◌, [], ◌∷◌, Some, map, ap, ◌∙◌, sym, subst}
use Rattle.vyrd_follow.proofs.Prelude.{arith, IfSome, IsAmounts, amount_of, with_amount}
use Rattle.vyrd_follow.proofs.Prelude.{IsAmounts-with_amount, IsAmounts-collected, pairs_in}
use Rattle.vyrd_follow.proofs.Prelude.{pairs_by, view_by, Changed, differences, changed_item}
use Rattle.vyrd_base.proofs.AmountLaws.{same_amount}
use Rattle.vyrd_follow.proofs.NextKeyLaws.{AreUpTo, AgreeFrom, agree_where_none, amount_kept}
use Rattle.vyrd_follow.proofs.NextKeyLaws.{up_to_next, items_put, up_to_date, items_all, at_end}
use Rattle.vyrd_follow.proofs.part_change.PartChange.put_items.Goals as goal
use Rattle.vyrd_follow.proofs.part_change.PartChange.put_items.Goals.{else-before-after}
use Rattle.vyrd_follow.proofs.part_change.PartChange.put_items.Goals.{then-before-after+in_ok-push+in_ok-set}

pub loop-next-preserved : goal.loop-next-preserved
loop-next-preserved g c =
    let a = c.args.shown.now in
    let b = view_by (g.D.Decode.shows c.args.decoder.now) c.args.words.now in
    let key = c.in-Some.key in
    let shown = c.loop-next.shown in
    let self = c.args.self.now in
    let next = c.next-next-in-Some.result in
    let item = changed_item c.args.effect c.args.was a b in
    let here : AreUpTo a b (Some key) shown =
    subst (λ n. AreUpTo a b n shown) c.in-Some.is c.loop-next.invariant.known in
    let low : IfSome next (λ k. key + 1 ≤ k) =
    subst (λ n. IfSome next (λ k. n + 1 ≤ k)) c.from.ensures c.next-next-in-Some.ensures.from in
    let agree : AgreeFrom a b (key + 1) next =
    agree_where_none a b (pairs_in self.places self.old) (pairs_in self.places self.new) (key + 1)
    next c.requires.turned
    (λ q from. c.next-next-in-Some.ensures.none q (omega (arith, from, c.from.ensures))) in
    let was : c.amount-before.result ≡ amount_of a key =
    c.amount-before.ensures.amount ∙ amount_kept a b shown key here in
    let after : c.amount_after-after.result ≡ amount_of b key = c.amount_after-after.ensures in
    elim c.if-before-after.branch [
      | then-before-after+in_ok-push+in_ok-set w ↦
          let now : c.if-before-after.shown ≡ with_amount shown key (amount_of b key) =
          w.shown-is ∙ w.in_ok-set.ensures ∙ ap (with_amount shown key) after in
          let put : c.if-before-after.items.items ≡ c.loop-next.items.items ++ item key ∷ [] =
          ap (λ v. v.items) w.items-is ∙ w.in_ok-push.ensures.items
          ∙ (λ i. c.loop-next.items.items ++ Changed key (record {
            effect = c.args.effect;
            was = c.args.was;
            before = was i;
            after = after i;
          }) ∷ []) in record {
            formed = subst IsAmounts (sym now)
                (IsAmounts-with_amount shown key (amount_of b key) c.loop-next.invariant.formed);
            known = up_to_next a b shown c.if-before-after.shown key next here now low agree;
            rest = items_put item a b shown c.if-before-after.shown key here c.loop-next.items.items
                c.if-before-after.items.items _
                (λ same. w.if-before-after.true
                (c.amount-before.ensures.amount ∙ same ∙ sym after)) now put
                c.loop-next.invariant.rest;
          }
      | else-before-after w ↦
          let same : amount_of shown key ≡ amount_of b key =
          sym c.amount-before.ensures.amount ∙ w.if-before-after.false ∙ after in
          let now : c.if-before-after.shown ≡ with_amount shown key (amount_of b key) =
          w.shown-is ∙ sym (same_amount shown key c.loop-next.invariant.formed)
          ∙ ap (with_amount shown key) same in record {
            formed = subst IsAmounts (sym w.shown-is) c.loop-next.invariant.formed;
            known = up_to_next a b shown c.if-before-after.shown key next here now low agree;
            rest = ap (λ v. v.items ++ map item (differences c.if-before-after.shown b)) w.items-is
                ∙ ap (λ s. c.loop-next.items.items ++ map item (differences s b)) w.shown-is
                ∙ c.loop-next.invariant.rest;
          }
    ]

pub returns-clause-shown : goal.returns-clause-shown
returns-clause-shown g c =
    let d = g.D.Decode in
    let decoder = c.args.decoder.now in
    let words = c.args.words.now in
    let b = view_by (d.shows decoder) words in
    let it = subst IsAmounts (g.met.D.Decode.shown decoder words c.requires.count)
    (IsAmounts-collected
    (pairs_by (d.width decoder) (d.places decoder) (d.parts decoder) (d.gives decoder) words)) in
    up_to_date c.args.shown.now b c.loop-next.shown c.loop-next.invariant.formed it
    (subst (λ n. AreUpTo c.args.shown.now b n c.loop-next.shown)
    (at_end c.loop-next.next c.in_default.not-Some) c.loop-next.invariant.known)

pub returns-clause-items : goal.returns-clause-items
returns-clause-items g c =
    let b = view_by (g.D.Decode.shows c.args.decoder.now) c.args.words.now in
    items_all (changed_item c.args.effect c.args.was c.args.shown.now b) b c.loop-next.shown
    c.loop-next.items.items _ (returns-clause-shown g c) c.loop-next.invariant.rest
