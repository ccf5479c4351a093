-- What the online judge answers, by what it keeps.
use Rattle.vyrd_judge.proofs.Prelude.{◌≡◌, List, [], ◌++◌, Some, None, Result, subst, arith}
use Rattle.vyrd_judge.proofs.Prelude.{append_assoc, OnErr, rules_by, Entry, StartWord, Verdict, End}
use Rattle.vyrd_judge.proofs.Prelude.{verdict_so_far, verdict_at, verdict, verdict_lasts}
use Rattle.vyrd_judge.proofs.Prelude.{FollowerKept, JudgeView, FollowsBy, HasFollowed, IsFaultless}
use Rattle.vyrd_judge.proofs.Prelude.{HasTakenIn, no_first_fault, so_far_kept, verdict_standing}

pub standing : {j : JudgeView} {starting : List StartWord} {log : List Entry} {v : Verdict}
    → j.so_far ≡ Some v → HasFollowed j starting log
    → verdict_so_far (rules_by j.kept.charter) starting log ≡ Some v
standing {j} {starting} {log} is f = subst (FollowsBy j.kept starting log) is f.follows

pub faultless_of : {j : JudgeView} {starting : List StartWord} {log : List Entry}
    → j.so_far ≡ None → HasFollowed j starting log → IsFaultless j.kept starting log
faultless_of {j} {starting} {log} is f = subst (FollowsBy j.kept starting log) is f.follows

-- a verdict that stands is answered again, and is that of the whole log
pub stands_on : {j : JudgeView} {starting : List StartWord} {log : List Entry} {v : Verdict}
    (more : List Entry) → j.so_far ≡ Some v → HasFollowed j starting log
    → Some v ≡ verdict_so_far (rules_by j.kept.charter) starting (log ++ more)
stands_on more e1 e2 = search (verdict_lasts, standing, arith)

pub followed_on : {j : JudgeView} {starting : List StartWord} {log : List Entry} {v : Verdict}
    (more : List Entry) → j.so_far ≡ Some v → HasFollowed j starting log
    → HasFollowed j starting (log ++ more)
followed_on more e1 e2 = search (verdict_lasts, standing, arith)

pub stands_whole : {j : JudgeView} {starting : List StartWord} {log : List Entry} {v : Verdict}
    → j.so_far ≡ Some v → HasFollowed j starting log
    → v ≡ verdict (rules_by j.kept.charter) starting log
unfolding verdict_at
stands_whole {j} {starting} {log} {v} is f =
    verdict_standing (rules_by j.kept.charter) starting log End v (standing is f)

-- where nothing stands
pub none_stands : {j : JudgeView} {starting : List StartWord} {log : List Entry}
    → j.so_far ≡ None → HasFollowed j starting log
    → verdict_so_far (rules_by j.kept.charter) starting log ≡ None
none_stands {j} {starting} {log} is f = search (faultless_of, so_far_kept, starting, arith)

-- before the first entry
pub faultless_first : {k : FollowerKept} {starting : List StartWord}
    → HasTakenIn k starting [] → IsFaultless k starting []
faultless_first e0 = search (no_first_fault, arith)

-- what stands is known
pub so_far_is_known : {j : JudgeView} {starting : List StartWord} {log : List Entry}
    → HasFollowed j starting log → j.so_far ≡ verdict_so_far (rules_by j.kept.charter) starting log
so_far_is_known e0 = search (none_stands, standing, arith)

-- a verdict that stands after some entries stands with those after them
pub decided : {j : JudgeView} {starting : List StartWord} {whole : List Entry} {v : Verdict}
    (log part rest : List Entry)
    → part ++ rest ≡ whole → j.so_far ≡ Some v → HasFollowed j starting (log ++ part)
    → HasFollowed j starting (log ++ whole)
decided {j} {starting} log part rest same is f =
    grind (arith, append_assoc log part rest, followed_on rest is f)

-- what holds anyway holds on an error
pub on_error : {A E : Type 0} {P : Type 0} (r : Result A E) → P → OnErr r P
on_error r p = search arith
