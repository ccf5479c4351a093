-- Single acts do right, if what follows them does.
use Rattle.std.proofs.Common.{◌≡◌, ℕ, ◌<◌, inl, inr, Bool, true, false, List, [], ◌∷◌, Some, None}
use Rattle.std.proofs.Common.{refl, ap, ◌∙◌, sym, subst}
use Rattle.vyrd_base.specs.declared.log.Kind.TheVariants.{Return, Commit, BlockOpen, BlockClose}
use Rattle.vyrd_base.specs.declared.log.Kind.TheVariants.{BlockCommit}
use Rattle.vyrd_base.specs.Callers.{Called}
use Rattle.vyrd_base.specs.Subjects.{is_observer}
use Rattle.vyrd_base.specs.Amounts.{Amounts}
use Rattle.vyrd_base.specs.Specification.{answer_in}
use Rattle.vyrd_base.proofs.TestLaws.{same_number}
use Rattle.vyrd_memory.specs.declared.act.Act.{Act}
use Rattle.vyrd_memory.specs.declared.act.Act.TheVariants.{Load, Store, Take, Give, Mark}
use Rattle.vyrd_memory.specs.Alone.{Memory}
use Rattle.vyrd_memory.specs.Scripts.{Script, stop, step, perform, returns}
use Rattle.vyrd_memory.specs.Soundness.{Situation, holds, after_act}
use Rattle.vyrd_memory.proofs.SoundActs.{gone}
use Rattle.vyrd_every.specs.Structures.{Structure}
use Rattle.vyrd_every.specs.Locals.{Locals, Access, written, shown_after, pending_after}
use Rattle.vyrd_every.specs.Locals.{called_after}
use Rattle.vyrd_every.specs.Others.{Rely, Guarantee}
use Rattle.vyrd_every.specs.RightScripts.{Commits, Leads, Answers, Reaches, ActsRight, DoesRight}

-- a truth isn't a falsehood
pub never : {b : Bool} → b ≡ false → b ≡ true → ⊥
never e f = cc

-- an act that changes nothing that the log shows, nor what is reserved
pub quiet : (S : Structure) (s : Situation) (k : Locals) (shown : Memory) (act : Act)
    (rest : Script) (next : Locals) → shown_after s k shown act ≡ shown
    → next.owned ≡ k.owned → Reaches S s act
    → ((state : Amounts) → S.Represents shown state → Leads S k act rest (shown_after s k shown act)
    state)
    → next.pending ≡ pending_after act k.pending → next.called ≡ called_after act k.called
    → Answers S k shown act next
    → ActsRight S s k shown act rest next
quiet S s k shown act rest next same own reaches leads pending called answers = record {
  reaches = reaches;
  guarantee = record {
    others = λ cell low free. ap (λ memory. memory cell) same;
    reserved = λ slot one other. subst (λ memory. S.Same shown memory slot) (sym same)
        (S.same shown slot);
  };
  kept = λ slot mine was one. subst (λ memory. S.Reserved memory slot) (sym same) one;
  fresh = λ slot mine wasnt. absurd (never wasnt (sym (ap (λ o. o slot) own) ∙ mine));
  leads = leads;
  pending = pending;
  called = called;
  answers = answers;
}

pub load_right : (S : Structure) (s : Situation) (k : Locals) (shown : Memory) (cell : ℕ)
    (rest : ℕ → Script) → Access S s cell → s.in_block ≡ false
    → ((now : Memory) → Rely S s k shown now → DoesRight S s k now (rest (shown cell)))
    → DoesRight S s k shown (step (Load cell) rest)
load_right S s k shown cell rest access out later =
    (k, quiet S s k _ _ _ k refl refl (access, out) (λ state m. m) refl refl refl, later)

pub take_right : (S : Structure) (s : Situation) (k : Locals) (shown : Memory) (lock : ℕ)
    (later : Script)
    → ((held : ℕ) → holds s held ≡ true → held < lock)
    → ((now : Memory) → Rely S (after_act s (Take lock)) k shown now
    → DoesRight S (after_act s (Take lock)) k now later)
    → DoesRight S s k shown (perform (Take lock) later)
take_right S s k shown lock later above rest =
    (k, quiet S s k shown (Take lock) later k refl refl above (λ state m. m) refl refl refl, rest)

pub give_right : (S : Structure) (s : Situation) (k : Locals) (shown : Memory) (lock : ℕ)
    (later : Script) → s.in_block ≡ false
    → ((now : Memory) → Rely S (after_act s (Give lock)) k shown now
    → DoesRight S (after_act s (Give lock)) k now later)
    → DoesRight S s k shown (perform (Give lock) later)
give_right S s k shown lock later out rest =
    (k, quiet S s k _ _ _ k refl refl out (λ state m. m) refl refl (inl refl), rest)

-- what a caller is in the middle of
abbrev pub at : List ℕ → Bool → Bool → Called → Situation
at locks committed in_block called =
    record {
      locks = locks;
      called = Some called.method;
      committed = committed;
      in_block = in_block;
    }

pub holds_first : (lock : ℕ) (locks : List ℕ) (committed in_block : Bool) (called : Called)
    → holds (at (lock ∷ locks) committed in_block called) lock ≡ true
holds_first lock locks committed in_block called = cc (same_number lock)

-- the locals with no slot reserved
abbrev pub without_slots : Locals → List (ℕ × ℕ) → Locals
without_slots k pending =
    record { owned = λ slot. false; pending = pending; called = k.called; answered = k.answered }

-- the caller's locals in a block
abbrev pub writing : Locals → List (ℕ × ℕ) → Locals
writing k pending = record {
  owned = k.owned;
  pending = pending;
  called = k.called;
  answered = k.answered;
}

-- the return, where nothing is reserved
pub returns_right : (S : Structure) (k : Locals) (shown : Memory) (committed : Bool)
    (called : Called) (reply : ℕ) → ((i : ℕ) → k.owned i ≡ false)
    → ((c : Called) → k.called ≡ Some c → is_observer c.method ≡ true → k.answered ≡ Some reply)
    → DoesRight S (at [] committed false called) k shown (returns reply)
returns_right S k shown committed called reply none answer = (
  over,
  quiet S (at [] committed false called) k shown (Mark (Return reply)) stop over refl refl tt
      (λ state m. m) refl refl (refl, answer),
  λ now rely. record { rests = refl; owned = none; called = refl },
)
  where
    over : Locals
    over = record { owned = k.owned; pending = k.pending; called = None; answered = None }

-- the call's method isn't an observer's
pub mutates : (k : Locals) (called : Called) (reply : ℕ) → k.called ≡ Some called
    → is_observer called.method ≡ false
    → (c : Called) → k.called ≡ Some c → is_observer c.method ≡ true → k.answered ≡ Some reply
mutates k called reply is mutator c is' observes = cc

-- a commit outside a block
pub lone_commit_right : (S : Structure) (locks : List ℕ) (k : Locals) (shown : Memory)
    (called : Called) (later : Script)
    → ((state : Amounts) → S.Represents shown state → Commits k S later shown state)
    → ((now : Memory) → Rely S (at locks true false called) k shown now
    → DoesRight S (at locks true false called) k now later)
    → DoesRight S (at locks false false called) k shown (perform (Mark Commit) later)
lone_commit_right S locks k shown called later leads rest =
    (k, quiet S _ k _ _ _ k refl refl _ leads refl refl refl, rest)

-- a block is opened
pub open_right : (S : Structure) (locks : List ℕ) (k : Locals) (shown : Memory) (called : Called)
    (later : Script)
    → ((now : Memory) → Rely S (at locks false true called)
    (record { owned = k.owned; pending = []; called = k.called; answered = k.answered }) shown now
    → DoesRight S (at locks false true called)
    (record { owned = k.owned; pending = []; called = k.called; answered = k.answered }) now later)
    → DoesRight S (at locks false false called) k shown (perform (Mark BlockOpen) later)
open_right S locks k shown called later rest = (
  record k { pending = [] },
  quiet S _ k _ _ _ (record k { pending = [] }) refl refl _
      (λ state m. m) refl refl refl,
  rest,
)

-- a store in a block
pub block_store_right : (S : Structure) (locks : List ℕ) (k : Locals) (shown : Memory)
    (called : Called) (cell value : ℕ) (later : Script)
    → Access S (at locks false true called) cell
    → ((now : Memory)
    → Rely S (at locks false true called)
    (record {
      owned = k.owned;
      pending = (cell, value) ∷ k.pending;
      called = k.called;
      answered = k.answered;
    }) shown now
    → DoesRight S (at locks false true called)
    (record {
      owned = k.owned;
      pending = (cell, value) ∷ k.pending;
      called = k.called;
      answered = k.answered;
    }) now later)
    → DoesRight S (at locks false true called) k shown (perform (Store cell value) later)
block_store_right S locks k shown called cell value later access rest = (
  record k { pending = (cell, value) ∷ k.pending },
  quiet S _ k _ _ _ _ refl refl access
      (λ state m. m) refl refl refl,
  rest,
)

-- a block commits, and its slots are reserved no more
pub commit_right : (S : Structure) (locks : List ℕ) (k : Locals) (shown : Memory) (called : Called)
    (later : Script)
    → Guarantee S (at locks false true called) k shown (written k.pending shown)
    → ((state : Amounts) → S.Represents shown state
    → Commits k S later (written k.pending shown) state)
    → ((now : Memory) → Rely S (at locks true false called) (without_slots k k.pending)
    (written k.pending shown) now
    → DoesRight S (at locks true false called) (without_slots k k.pending) now later)
    → DoesRight S (at locks false true called) k shown (perform (Mark BlockCommit) later)
commit_right S locks k shown called later guarantee leads rest = (
  without_slots k k.pending,
  record {
    reaches = tt;
    guarantee = guarantee;
    kept = λ slot mine was one. cc;
    fresh = λ slot mine wasnt. cc;
    leads = leads;
    pending = refl;
    called = refl;
    answers = refl;
  },
  rest,
)

-- a block is closed without a commit, and what it wrote shows the same state
pub close_right : (S : Structure) (locks : List ℕ) (k : Locals) (shown : Memory) (called : Called)
    (later : Script)
    → Guarantee S (at locks false true called) k shown (written k.pending shown)
    → ((state : Amounts) → S.Represents shown state → S.Represents (written k.pending shown) state)
    → ((now : Memory) → Rely S (at locks false false called) (without_slots k k.pending)
    (written k.pending shown) now
    → DoesRight S (at locks false false called) (without_slots k k.pending) now later)
    → DoesRight S (at locks false true called) k shown (perform (Mark BlockClose) later)
close_right S locks k shown called later guarantee leads rest = (
  without_slots k k.pending,
  record {
    reaches = tt;
    guarantee = guarantee;
    kept = λ slot mine was one. cc;
    fresh = λ slot mine wasnt. cc;
    leads = leads;
    pending = refl;
    called = refl;
    answers = refl;
  },
  rest,
)

-- an observer has its answer when it gives its last lock back
pub answer_right : (S : Structure) (k : Locals) (shown : Memory) (lock : ℕ) (called : Called)
    (reply : ℕ) → ((i : ℕ) → k.owned i ≡ false)
    → k.called ≡ Some called
    → ((state : Amounts) → S.Represents shown state → answer_in state called.method called.args
    ≡ reply)
    → DoesRight S (at (lock ∷ []) false false called) k shown (perform (Give lock) (returns reply))
answer_right S k shown lock called reply none is seen = (
  answered,
  quiet S _ k _ _ _ _ refl refl refl (λ state m. m) refl refl
      (inr (record { called = called; is_called = is; reply = reply; answer = refl; seen = seen })),
  λ then_ rely. rw (gone lock [])
      (returns_right S answered then_ false called reply none (λ c is' observes. refl)),
)
  where
    answered : Locals
    answered = record k { answered = Some reply }
