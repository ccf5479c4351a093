use Rattle.vyrd_judge.proofs.Prelude.{◌≡◌, false, ◌≤◌, ◌+◌, ◌++◌, List, None, take, Entry}
use Rattle.vyrd_judge.proofs.Prelude.{StartWord, log_of, judge_debt, log_cost, HasFollowed}
use Rattle.vyrd_judge.proofs.online.Judge.follow_history_counted.Given as goal

abbrev pub invariant-loop-event : goal.invariant-loop-event
invariant-loop-event g l = record {
  followed : (starting : List StartWord) (log : List Entry)
      → HasFollowed l.initial.self starting log → HasFollowed l.self starting (log ++ log_of
      (take l.event-index l.fn.history));
  shows : l.self.kept.views.shows ≡ l.initial.self.kept.views.shows;
  header : l.self.kept.charter ≡ l.initial.self.kept.charter;
  counted : l.self.kept.entries ≤ l.initial.self.kept.entries + l.event-index;
  works : l.self.has_failed ≡ false;
  undecided : l.self.so_far ≡ None;
  paid : (starting : List StartWord) (log : List Entry) → HasFollowed l.initial.self starting log
      → l.steps + judge_debt g.S.Compared.Compare.price g.S.Spec.most_touched l.self
      (log ++ log_of (take l.event-index l.fn.history))
      ≤ l.initial.steps + judge_debt g.S.Compared.Compare.price g.S.Spec.most_touched l.initial.self
      log
      + log_cost g.S.Compared.Compare.price g.S.Spec.most_touched l.initial.self.kept
      (log_of (take l.event-index l.fn.history))
      + l.event-index;
}
