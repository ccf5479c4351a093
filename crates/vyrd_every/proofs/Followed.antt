-- Scripts one after the other do right, and so do operations, if the procedure of each does.
use Rattle.vyrd_every.proofs.Prelude
use Prelude.{◌≡◌, ℕ, true, List, [], ◌∷◌, Some, None, refl, Call, Return, Write, Commit, BlockOpen}
use Prelude.{BlockClose, BlockCommit, Amounts, first_true, second_true, Act, Load, Store, Take}
use Prelude.{Give, Mark, Done, Op, is_callable, are_callable, Memory, Script, stop, step}
use Prelude.{followed_by, operations, Situation, at_rest, just_called, after_act, Structure, Locals}
use Prelude.{shown_after, Rests, WillReturn, Commits, Leads, ActsRight, DoesRight, IsRight, quiet}

-- what returns before something else follows
pub follows_return : (reply : ℕ) (script later : Script) → WillReturn reply script
    → WillReturn reply (followed_by script later)
follows_return reply stop later returns_ = absurd returns_
follows_return reply (step (Load cell) rest) later returns_ = λ answer is. follows_return reply
    (rest answer) later (returns_ answer is)
follows_return reply (step (Store cell value) rest) later returns_ = λ answer is. follows_return
    reply (rest answer) later (returns_ answer is)
follows_return reply (step (Take lock) rest) later returns_ = λ answer is. follows_return reply
    (rest answer) later (returns_ answer is)
follows_return reply (step (Give lock) rest) later returns_ = λ answer is. follows_return reply
    (rest answer) later (returns_ answer is)
follows_return reply (step Done rest) later returns_ = λ answer is. follows_return reply
    (rest answer) later (returns_ answer is)
follows_return reply (step (Mark (Call method args)) rest) later returns_ =
    λ answer is. follows_return reply (rest answer) later (returns_ answer is)
follows_return reply (step (Mark (Return other)) rest) later returns_ = returns_
follows_return reply (step (Mark (Write word value)) rest) later returns_ =
    λ answer is. follows_return reply (rest answer) later (returns_ answer is)
follows_return reply (step (Mark Commit) rest) later returns_ = λ answer is. follows_return reply
    (rest answer) later (returns_ answer is)
follows_return reply (step (Mark BlockOpen) rest) later returns_ = λ answer is. follows_return reply
    (rest answer) later (returns_ answer is)
follows_return reply (step (Mark BlockClose) rest) later returns_ = λ answer is. follows_return
    reply (rest answer) later (returns_ answer is)
follows_return reply (step (Mark BlockCommit) rest) later returns_ = λ answer is. follows_return
    reply (rest answer) later (returns_ answer is)

follows_commit : (S : Structure) (k : Locals) (rest later : Script) (now : Memory) (state : Amounts)
    → Commits k S rest now state
    → Commits k S (followed_by rest later) now state
follows_commit S k rest later now state c = record {
  called = c.called;
  is_called = c.is_called;
  reply = c.reply;
  returns = follows_return c.reply rest later c.returns;
  next = c.next;
  allowed = c.allowed;
  means = c.means;
}

follows_leads : (S : Structure) (k : Locals) (act : Act) (rest later : Script) (now : Memory)
    (state : Amounts) → Leads S k act rest now state
    → Leads S k act (followed_by rest later) now state
follows_leads S k (Load cell) rest later now state leads = leads
follows_leads S k (Store cell value) rest later now state leads = leads
follows_leads S k (Take lock) rest later now state leads = leads
follows_leads S k (Give lock) rest later now state leads = leads
follows_leads S k Done rest later now state leads = leads
follows_leads S k (Mark (Call method args)) rest later now state leads = leads
follows_leads S k (Mark (Return reply)) rest later now state leads = leads
follows_leads S k (Mark (Write word value)) rest later now state leads = leads
follows_leads S k (Mark Commit) rest later now state leads = follows_commit S k rest later _ _ leads
follows_leads S k (Mark BlockOpen) rest later now state leads = leads
follows_leads S k (Mark BlockClose) rest later now state leads = leads
follows_leads S k (Mark BlockCommit) rest later now state leads = follows_commit S k rest later _ _
    leads

follows_does : (S : Structure) (s : Situation) (k : Locals) (shown : Memory) (act : Act)
    (rest later : Script) (next : Locals)
    → ActsRight S s k shown act rest next → ActsRight S s k shown act (followed_by rest later) next
follows_does S s k shown act rest later next does = record {
  reaches = does.reaches;
  guarantee = does.guarantee;
  kept = does.kept;
  fresh = does.fresh;
  leads = λ state m. follows_leads S k act rest later (shown_after s k shown act) state
      (does.leads state m);
  pending = does.pending;
  called = does.called;
  answers = does.answers;
}

-- one script after the other
followed_right : (S : Structure) (s : Situation) (k : Locals) (shown : Memory)
    (script later : Script)
    → ((k' : Locals) (now : Memory) → Rests at_rest k' → DoesRight S at_rest k' now later)
    → DoesRight S s k shown script → DoesRight S s k shown (followed_by script later)
followed_right S s k shown stop later then_ right = rw right.rests
    (then_ k shown (record { rests = refl; owned = right.owned; called = right.called }))
followed_right S s k shown (step act rest) later then_ right = (
  right.0,
  follows_does S s k _ _ (rest 0) later _ right.1,
  λ now rely. followed_right S
      (after_act s _) right.0 now (rest _) later then_ (right.2 _ rely),
)

-- operations one after the other do right, where the caller is at rest
pub operations_right : (S : Structure) (procedure : Op → Script) (ops : List Op) (k : Locals)
    (shown : Memory)
    → ((op : Op) → is_callable S.header op ≡ true → IsRight S procedure op)
    → are_callable S.header ops ≡ true → Rests at_rest k → DoesRight S at_rest k shown
    (operations procedure ops)
operations_right S procedure [] k shown each callable rests = rests
operations_right S procedure (op ∷ ops) k shown each callable rests = (
  begun,
  quiet S _ k _ _ _ _ refl refl _ (λ state m. m) refl refl refl,
  λ now rely.
      followed_right S (just_called _) begun now (procedure _) (operations _ _)
      (λ k' then_ rests'. operations_right S procedure ops k' then_ each
      (second_true (is_callable S.header op) _ callable) rests')
      (each _ (first_true _ (are_callable S.header ops) callable) _ _ rests.owned refl),
)
  where
    begun : Locals
    begun = record k {
      called = Some (record { method = op.method; args = op.args });
      answered = None;
    }
