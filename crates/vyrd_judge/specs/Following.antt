-- What the online judge keeps stands for a log.
use Rattle.std.specs.Prelude.{◌≡◌, ◌≤◌, ◌*◌, ◌^◌, ℕ, Bool, false, List, [], length}
use Rattle.std.specs.Prelude.{Option, Some, None}
use Rattle.std.specs.List.{cons_option}
use Rattle.vyrd_base.specs.declared.log.Entry.{Entry}
use Rattle.vyrd_base.specs.declared.log.StartWord.{StartWord}
use Rattle.vyrd_base.specs.declared.verdict.Verdict.{Verdict}
use Rattle.vyrd_base.specs.States.{State}
use Rattle.vyrd_base.specs.Places.{newest_first}
use Rattle.vyrd_base.specs.Front.{first_break}
use Rattle.vyrd_base.specs.Commits.{commit_count}
use Rattle.vyrd_base.specs.Verdicts.{first_fault, start_verdict, verdict_so_far, observer_count}
use Rattle.vyrd_shape.specs.Following.{ShapeKept, HasFollowed as ShapeFollows}
use Rattle.vyrd_shadow.specs.Following.{ShadowKept}
use Rattle.vyrd_judge.specs.declared.caller.Caller.{Caller}
use Rattle.vyrd_judge.specs.declared.outcome.Advance.{Advance}
use Rattle.vyrd_judge.specs.declared.outcome.Advance.TheVariants.{Goes, Stops}
use Rattle.vyrd_judge.specs.declared.waiting.Waiting.{Waiting}
use Rattle.vyrd_words.specs.Cuts.{Cuts}
use Rattle.vyrd_words.specs.Effects.{effect_parts, AreFew}
use Rattle.vyrd_words.specs.HasWords.{HasWords}
use Rattle.vyrd_observers.specs.Watching.{Seen, answer_count}
use Rattle.vyrd_judge.specs.Queued.{HasQueued, AwaitsReturn}
use Rattle.vyrd_judge.specs.Judged.{Judged}
use Rattle.vyrd_base.specs.Rules.{Rules, Charter, rules_by}

-- What is kept while nothing is wrong. The number of starting words is kept in place of these. The
-- specification owes for so many keys. What open observers may answer is kept once for all that ask
-- the same: so many answers.
pub record FollowerKept : Type 0 where
  pub charter : Charter
  pub started : ℕ
  pub shape : ShapeKept
  pub shadow : ShadowKept
  pub inner : List ℕ
  pub views : Cuts
  pub waiting : List Waiting
  pub taken : ℕ
  pub callers : List Caller
  pub state : State
  pub made : ℕ
  pub owes : ℕ
  pub watches : List Seen
  pub answers : ℕ
  pub entries : ℕ
  pub commits : ℕ
  pub observers : ℕ

-- The starting words stand for a state, the log keeps all rules, and what is kept stands for both.
-- Its entries may still have to be judged. Little is kept: at most twice the answers that the open
-- observers have, and for the commits that wait no more writes than the log has effects behind the
-- commits that are judged.
pub record HasTakenIn (k : FollowerKept) (starting : List StartWord) (log : List Entry) : Type 0
  where
    pub started : k.started ≡ length starting
    pub begun : start_verdict (rules_by k.charter) starting ≡ None
    pub shape : ShapeFollows k.shape (newest_first log)
    pub shape_header : k.shape.header ≡ (rules_by k.charter).header
    pub words : HasWords k.shadow k.inner starting (newest_first log)
    pub shadow_header : k.shadow.header ≡ (rules_by k.charter).header
    pub views_header : k.views.header ≡ (rules_by k.charter).header
    pub queued : HasQueued (rules_by k.charter).header k.waiting k.taken k.callers
        (newest_first log)
    pub judged : Judged
        (rules_by k.charter) starting log k.state k.made k.watches k.waiting k.views.first
        k.views.since
    pub kept : first_break (rules_by k.charter).header log ≡ None
    pub specified : k.views.specified ≡ (rules_by k.charter).shown k.state
    pub sound : k.views.refused ≡ false
    pub entries : k.entries ≡ length log
    pub commits : k.commits ≡ commit_count log
    pub observers : k.observers ≡ observer_count log
    pub watched : length k.watches ≡ (rules_by k.charter).header.callers
    pub few_answers : k.answers ≤ 2 * answer_count k.watches
    pub few_writes : AreFew k.views.begun k.views.since (effect_parts [] [] log)

-- the same, nothing is wrong with the log so far, and all that can be judged is
pub record IsFaultless (k : FollowerKept) (starting : List StartWord) (log : List Entry) : Type 0
  where
    pub taken_in : HasTakenIn k starting log
    pub faultless : first_fault (rules_by k.charter) starting log ≡ None
    pub awaits : AwaitsReturn k.waiting

-- what is kept stands for some log
abbrev pub IsSomewhere : FollowerKept → Type 0
IsSomewhere k = ∥ ((starting : List StartWord) × (log : List Entry) × IsFaultless k starting log) ∥₁

-- what is kept if this entry, which was handed out, waits before all others
abbrev pub with_first : Option Waiting → FollowerKept → FollowerKept
with_first first k = record k { waiting = cons_option first k.waiting }

-- What is kept stands for the log, where this entry was handed out to be judged. If none was,
-- nothing can be judged.
pub record IsCatchingUp (first : Option Waiting) (k : FollowerKept) (starting : List StartWord)
    (log : List Entry) : Type 0 where
  pub taken_in : HasTakenIn (with_first first k) starting log
  pub awaits : first ≡ None → AwaitsReturn k.waiting

-- so it is for some log
abbrev pub MayCatchUp : Option Waiting → FollowerKept → Type 0
MayCatchUp first k = ∥ ((starting : List StartWord) × (log : List Entry)
    × IsCatchingUp first k starting log × (length log ≤ 2 ^ 62)) ∥₁

-- what is kept, the verdict that stands, and whether memory was refused
pub record JudgeView : Type 0 where
  pub kept : FollowerKept
  pub so_far : Option Verdict
  pub has_failed : Bool

-- what is kept stands for the log, or a verdict stands
abbrev pub FollowsBy : FollowerKept → List StartWord → List Entry → Option Verdict → Type 0
FollowsBy k starting log None = IsFaultless k starting log
FollowsBy k starting log (Some v) = verdict_so_far (rules_by k.charter) starting log ≡ Some v

-- The judge has followed the log, which begins with these words. They stand for a state, since
-- there is no judge if they don't.
pub record HasFollowed (j : JudgeView) (starting : List StartWord) (log : List Entry) : Type 0 where
  pub follows : FollowsBy j.kept starting log j.so_far

-- what the entry that was handed out leads to
abbrev pub AdvanceGives : Rules → List StartWord → List Entry → FollowerKept → Advance → Type 0
AdvanceGives r starting log k (Goes next) = IsCatchingUp next k starting log
AdvanceGives r starting log k (Stops v) = first_fault r starting log ≡ Some v
