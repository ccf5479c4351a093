use Rattle.vyrd_judge.proofs.Prelude.{◌≡◌, false, ◌≤◌, ◌+◌, ◌++◌, List, None, take, Entry}
use Rattle.vyrd_judge.proofs.Prelude.{StartWord, judge_debt, log_cost, HasFollowed}
use Rattle.vyrd_judge.proofs.online.Judge.follow_counted.Given as goal

abbrev pub invariant-loop-entry : goal.invariant-loop-entry
invariant-loop-entry g l = record {
  followed : (starting : List StartWord) (log : List Entry)
      → HasFollowed l.initial.self starting log → HasFollowed l.self starting
      (log ++ take l.entry-index l.fn.entries);
  shows : l.self.kept.views.shows ≡ l.initial.self.kept.views.shows;
  header : l.self.kept.charter ≡ l.initial.self.kept.charter;
  counted : l.self.kept.entries ≤ l.initial.self.kept.entries + l.entry-index;
  works : l.self.has_failed ≡ false;
  undecided : l.self.so_far ≡ None;
  paid : (starting : List StartWord) (log : List Entry) → HasFollowed l.initial.self starting log
      → l.steps + judge_debt g.S.Compared.Compare.price g.S.Spec.most_touched l.self
      (log ++ take l.entry-index l.fn.entries)
      ≤ l.initial.steps + judge_debt g.S.Compared.Compare.price g.S.Spec.most_touched l.initial.self
      log
      + log_cost g.S.Compared.Compare.price g.S.Spec.most_touched l.initial.self.kept
      (take l.entry-index l.fn.entries);
}
