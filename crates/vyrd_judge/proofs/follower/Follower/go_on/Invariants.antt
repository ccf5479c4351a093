use Rattle.vyrd_judge.proofs.Prelude.{◌≡◌, ◌+◌, ◌≤◌, List, length, cons_option, Entry, StartWord}
use Rattle.vyrd_judge.proofs.Prelude.{CanLeave, debt, IsCatchingUp, MayCatchUp, with_first}
use Rattle.std.specs.Prelude.{IfSome}
use Rattle.vyrd_judge.proofs.follower.Follower.go_on.Given as goal

abbrev pub invariant-loop-next : goal.invariant-loop-next
invariant-loop-next g l = record {
  header : l.self.charter ≡ l.initial.self.charter;
  shows : l.self.views.shows ≡ l.initial.self.views.shows;
  entries : l.self.entries ≡ l.initial.self.entries;
  going : (starting : List StartWord) (log : List Entry)
      → IsCatchingUp l.fn.first l.initial.self starting log
      → IsCatchingUp l.next l.self starting log;
  may : MayCatchUp l.next l.self;
  can_leave : IfSome l.next CanLeave;
  paid : (starting : List StartWord) (log : List Entry)
      → IsCatchingUp l.fn.first l.initial.self starting log
      → l.steps + debt g.S.Compared.Compare.price g.S.Spec.most_touched (with_first l.next l.self)
      log ≤ l.initial.steps + debt g.S.Compared.Compare.price g.S.Spec.most_touched
      (with_first l.fn.first l.initial.self) log;
}

abbrev pub decreases-loop-next : goal.decreases-loop-next
decreases-loop-next g l = length (cons_option l.next l.self.waiting)
