use Rattle.vyrd_judge.proofs.Prelude.{◌++◌, [], ◌∷◌, take, filter_map, ap, ◌∙◌, sym, append-nil}
use Rattle.vyrd_judge.proofs.Prelude.{get_or, cons_option, take_all, logged, log_of}
use Rattle.vyrd_judge.proofs.Prelude.{filter_map_more}
use Rattle.vyrd_judge.proofs.HistoryLaws.{past}
use Rattle.vyrd_judge.proofs.logged.log_of.Goals as goal
use Rattle.vyrd_judge.proofs.logged.log_of.Goals.{in-Some+in_ok-push, in_default}

pub loop-event-preserved : goal.loop-event-preserved
loop-event-preserved c =
    let here = get_or c.args.history.now c.loop-event.event-index past in
    let before = filter_map (λ e. logged e.caller e.did)
    (take c.loop-event.event-index c.args.history.now) in
    let more = filter_map_more (λ e. logged e.caller e.did) c.args.history.now
    c.loop-event.event-index past c.loop-event-test.true in
    elim c.match-entry_of.branch [
      | in-Some+in_ok-push w ↦ ap (λ log. log.items) w.log-is ∙ w.in_ok-push.ensures.items
          ∙ ap (λ xs. xs ++ w.in-Some.entry ∷ []) c.loop-event.invariant
          ∙ ap (λ o. before ++ cons_option o []) (sym w.in-Some.is ∙ c.entry_of.ensures) ∙ sym more
      | in_default w ↦ ap (λ log. log.items) w.log-is ∙ c.loop-event.invariant
          ∙ sym (append-nil before)
          ∙ ap (λ o. before ++ cons_option o []) (sym w.in_default.is ∙ c.entry_of.ensures)
          ∙ sym more
    ]

pub returns : goal.returns
unfolding log_of
returns c = c.loop-event.invariant
    ∙ ap (filter_map (λ e. logged e.caller e.did))
    (take_all c.loop-event.event-index c.args.history.now c.loop-event-test.false)
