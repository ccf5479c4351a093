use Rattle.vyrd_batch.proofs.Prelude.{◌≡◌, length, subst, sym, arith, AreJudgedTo, IsNothingEver}
use Rattle.vyrd_batch.proofs.RoundLaws.{judged_never}
use Rattle.vyrd_batch.proofs.rounds.BatchJudge.refuse.Goals as goal

pub returns-clause-judged : goal.returns-clause-judged
returns-clause-judged g c = λ input j.
    let s = c.self.inside in
    let verdicts = s.verdicts.items in
    let bytes = c.args.bytes.now.items in
    let judged : AreJudgedTo s.place input verdicts bytes =
    subst (λ b. AreJudgedTo b.place input b.verdicts bytes) (sym c.self.view_is) j in
    let count : c.len.result ≡ length verdicts = omega (arith, c.len.ensures) in
    let never : IsNothingEver s.place c.len.result c.deref.result.now =
    c.may_go_on.ensures.never c.if-may_go_on.false in
    judged_never s.place input bytes verdicts judged
    (subst (λ log. IsNothingEver s.place log bytes) count
    (subst (IsNothingEver s.place c.len.result) c.deref.ensures.value never))
