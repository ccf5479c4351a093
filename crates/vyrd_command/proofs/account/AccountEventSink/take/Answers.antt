use Rattle.vyrd_command.proofs.Prelude.{◌∙◌, sym, subst, ap, ◌++◌, [], ◌∷◌, ◌+◌, length-append}
use Rattle.vyrd_command.proofs.Prelude.{arith, on_ok_weaker, rules_by, log_of, HasFollowed}
use Rattle.vyrd_command.proofs.Prelude.{HasTaken, text_so_far, log_with, log_without}
use Rattle.vyrd_command.proofs.account.AccountEventSink.take.Goals as goal
use Rattle.vyrd_command.proofs.account.AccountEventSink.take.Goals.{in-Some+in_ok-feed, in_default}

pub invariant_of-self : goal.invariant_of-self
invariant_of-self c = omega (arith, c.feed.ensures.counted, c.self.invariant)

pub returns-clause-taken : goal.returns-clause-taken
returns-clause-taken c = λ history taken.
    let e = c.args.event in
    let before = subst (λ a. HasTaken a history) (sym c.self.view_is) taken in
    on_ok_weaker c.show_event.result (λ text. record {
      followed = elim c.match-entry_of.branch [
        | in-Some+in_ok-feed w ↦
            subst (λ j. HasFollowed j [] (log_of (history ++ e ∷ [])))
            (sym (ap (λ i. i.judge) w.self-inside-is))
            (subst (HasFollowed w.feed.new.self [])
            (sym (log_with history e w.in-Some.entry (sym c.entry_of.ensures ∙ w.in-Some.is)))
            (w.in_ok-feed.ensures.followed [] (log_of history) before.followed))
        | in_default w ↦
            subst (λ j. HasFollowed j [] (log_of (history ++ e ∷ [])))
            (sym (ap (λ i. i.judge) w.self-inside-is))
            (subst (HasFollowed c.self.inside.judge [])
            (sym (log_without history e (sym c.entry_of.ensures ∙ w.in_default.is)))
            before.followed)
      ];
      counted = elim c.match-entry_of.branch [
        | in-Some+in_ok-feed w ↦ ap (λ i. i.count) w.self-inside-is ∙ ap (λ n. n + 1) before.counted
            ∙ sym (length-append history (e ∷ []))
        | in_default w ↦ ap (λ i. i.count) w.self-inside-is ∙ ap (λ n. n + 1) before.counted
            ∙ sym (length-append history (e ∷ []))
      ];
      text_is = text;
    }) (c.show_event.ensures (rules_by c.match-entry_of.self-inside.judge.kept.charter).header
    history (elim c.match-entry_of.branch [
      | in-Some+in_ok-feed w ↦
          ap (λ i. i.text.items) w.self-inside-is ∙ before.text_is
          ∙ ap (λ k. text_so_far c.self.inside.show (rules_by k).header history)
          (sym (ap (λ i. i.judge.kept.charter) w.self-inside-is ∙ w.feed.ensures.charter))
          ∙ ap (λ show. text_so_far show
          (rules_by c.match-entry_of.self-inside.judge.kept.charter).header history)
          (sym (ap (λ i. i.show) w.self-inside-is))
      | in_default w ↦
          ap (λ i. i.text.items) w.self-inside-is ∙ before.text_is
          ∙ ap (λ k. text_so_far c.self.inside.show (rules_by k).header history)
          (sym (ap (λ i. i.judge.kept.charter) w.self-inside-is))
          ∙ ap (λ show. text_so_far show
          (rules_by c.match-entry_of.self-inside.judge.kept.charter).header history)
          (sym (ap (λ i. i.show) w.self-inside-is))
    ]))
