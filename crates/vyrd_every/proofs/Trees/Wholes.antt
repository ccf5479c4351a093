-- The whole script of a caller of the tree does right, whatever the others do.
use Rattle.vyrd_every.proofs.Prelude
use Prelude.{◌≡◌, ℕ, ◌+◌, ◌<◌, ◌^◌, Bool, true, false, List, [], ◌∷◌, Option, Some, None, refl, ap}
use Prelude.{◌∙◌, sym, subst, arith, ◌||◌, ◌&&◌, nat_lt, Header, Tree, Method, OwnNever}
use Prelude.{OwnAtMostOnce, OwnOnce, Insert, Delete, Lookup, Args, Call, Return, Write, Commit}
use Prelude.{BlockOpen, BlockClose, BlockCommit, subject_of, Amounts, Act, Load, Store, Take, Give}
use Prelude.{Mark, Done, Op, Correct, Memory, Script, stop, step, followed_by, operations}
use Prelude.{Situation, at_rest, just_called, after_act, is_callable, are_callable, callable_method}
use Prelude.{script_of, first_true, second_true, below_of, Workload, KeepsLimits, procedure_in}
use Prelude.{ops_of, work_script, work_scripts, ops_are_callable, script_at, answer_at, never}
use Prelude.{Shape, IsLinked, IsCorrectTree, seen_after, TreeCommits, TreeDoes, TreeRight}
use Rattle.vyrd_base.specs.declared.subject.Method.TheVariants.{Multiset as OfMultiset}
use Rattle.vyrd_base.specs.declared.subject.Method.TheVariants.{Cache as OfCache, Tree as OfTree}
use Rattle.vyrd_base.specs.declared.subject.Method.TheVariants.{Buffers as OfBuffers}
use Rattle.vyrd_memory.specs.Laws.Player.{callable_small}
use Rattle.vyrd_tree.specs.Procedures.{procedure_of, tree_procedure}
use Rattle.vyrd_every.proofs.Followed.{follows_return}
use Rattle.vyrd_every.specs.Trees.Locals.{TreeRests, TreeLocals, empty_tree_locals}
use Rattle.vyrd_every.specs.Trees.RightScripts.{TreeLeads}
use Rattle.vyrd_every.proofs.Trees.Parts.{OwnsUnseen, unseen_stays, Changeless, changeless}
use Rattle.vyrd_every.proofs.Trees.Leafs.{IsBare, lookup_right, delete_right}
use Rattle.vyrd_every.proofs.Trees.Returns.{every_insert}

procedure_right : (h : Header) (k : TreeLocals) (g : Shape) (m : Memory) (method : Method)
    (args : Args) → subject_of method ≡ Tree
    → args.a < 2 ^ 32 → args.b < 2 ^ 32 → IsLinked h.size g m → OwnsUnseen h k g m
    → IsBare k (record { method = method; args = args })
    → TreeRight h (just_called method) k g m (procedure_of h Correct method args)
procedure_right h k g m (OfTree Insert) args of small_key small tree unseen bare =
    every_insert h args k g m small_key small tree unseen bare
procedure_right h k g m (OfTree Delete) args of small_key small tree unseen bare =
    delete_right h args k g m tree unseen bare
procedure_right h k g m (OfTree Lookup) args of small_key small tree unseen bare =
    lookup_right h args k g m tree unseen bare
procedure_right h k g m (OfMultiset other) args of small_key small tree unseen bare = cc
procedure_right h k g m (OfCache other) args of small_key small tree unseen bare = cc
procedure_right h k g m (OfBuffers other) args of small_key small tree unseen bare = cc
procedure_right h k g m (OwnNever i) args of small_key small tree unseen bare = cc
procedure_right h k g m (OwnAtMostOnce i) args of small_key small tree unseen bare = cc
procedure_right h k g m (OwnOnce i) args of small_key small tree unseen bare = cc

follows_commit : (k : TreeLocals) (rest later : Script) (g : Shape) (m : Memory) (state : Amounts)
    → TreeCommits k rest g m state
    → TreeCommits k (followed_by rest later) g m state
follows_commit k rest later g m state c = record {
  called = c.called;
  is_called = c.is_called;
  reply = c.reply;
  returns = follows_return c.reply rest later c.returns;
  next = c.next;
  allowed = c.allowed;
  means = c.means;
}

follows_leads : (k : TreeLocals) (act : Act) (rest later : Script) (g : Shape) (m : Memory)
    (state : Amounts) → TreeLeads k act rest g m state
    → TreeLeads k act (followed_by rest later) g m state
follows_leads k (Load cell) rest later g m state leads = leads
follows_leads k (Store cell value) rest later g m state leads = leads
follows_leads k (Take lock) rest later g m state leads = leads
follows_leads k (Give lock) rest later g m state leads = leads
follows_leads k Done rest later g m state leads = leads
follows_leads k (Mark (Call method args)) rest later g m state leads = leads
follows_leads k (Mark (Return reply)) rest later g m state leads = leads
follows_leads k (Mark (Write word value)) rest later g m state leads = leads
follows_leads k (Mark Commit) rest later g m state leads = follows_commit k rest later g m state
    leads
follows_leads k (Mark BlockOpen) rest later g m state leads = leads
follows_leads k (Mark BlockClose) rest later g m state leads = leads
follows_leads k (Mark BlockCommit) rest later g m state leads = follows_commit k rest later g m
    state leads

follows_does : (h : Header) (s : Situation) (k : TreeLocals) (g : Shape) (m : Memory) (act : Act)
    (rest later : Script) (next : TreeLocals) (g' : Shape)
    → TreeDoes h s k g m act rest next g' → TreeDoes h s k g m act (followed_by rest later) next g'
follows_does h s k g m act rest later next g' does = record {
  reaches = does.reaches;
  grows = does.grows;
  leaves = does.leaves;
  tree = does.tree;
  top = does.top;
  closed = does.closed;
  alone = does.alone;
  ahead = does.ahead;
  wrote = does.wrote;
  within = does.within;
  taken = does.taken;
  hung = does.hung;
  leads = λ state shows. follows_leads k act rest later g' (seen_after h s k m act) state
      (does.leads state shows);
  pending = does.pending;
  out = does.out;
  called = does.called;
  answers = does.answers;
}

-- one script after the other
followed_right : (h : Header) (s : Situation) (k : TreeLocals) (g : Shape) (m : Memory)
    (script later : Script)
    → ((k' : TreeLocals) (g' : Shape) (now : Memory) → IsLinked h.size g' now → TreeRests at_rest k'
    → TreeRight h at_rest k' g' now later)
    → IsLinked h.size g m → TreeRight h s k g m script
    → TreeRight h s k g m (followed_by script later)
followed_right h s k g m stop later then_ tree right =
    subst (λ s. TreeRight h s k g m later) (sym right.rests)
    (then_ k g m tree
    (record {
      rests = refl;
      fresh = right.fresh;
      hanging = right.hanging;
      called = right.called;
      quiet = right.quiet;
    }))
followed_right h s k g m (step act rest) later then_ tree right = (
  right.0,
  right.1,
  follows_does h s k g m act (rest 0) later right.0 right.1 right.2,
  λ g' now rely. followed_right h (after_act s act) right.0 g' now (rest (answer_at m act)) later
      then_ rely.tree (right.3 g' now rely),
)

-- operations one after the other do right, where the caller is at rest
tree_operations_right : (h : Header) (ops : List Op) (k : TreeLocals) (g : Shape) (m : Memory)
    → h.subject ≡ Tree → are_callable h ops ≡ true
    → IsLinked h.size g m → TreeRests at_rest k → TreeRight h at_rest k g m
    (operations (tree_procedure h Correct) ops)
tree_operations_right h [] k g m is callable tree rests = rests
tree_operations_right h (op ∷ ops) k g m is callable tree rests = (
  begun,
  g,
  record {
    reaches = tt;
    grows = c.grows;
    leaves = c.leaves;
    tree = tree;
    top = c.top;
    closed = c.closed;
    alone = c.alone;
    ahead = λ quiet out. absurd (never quiet out);
    wrote = λ quiet out. absurd (never quiet out);
    within = λ inside goes same. (refl, refl);
    taken = c.taken;
    hung = c.hung;
    leads = λ state shows. shows;
    pending = refl;
    out = or_false k.out;
    called = refl;
    answers = refl;
  },
  λ g' now rely.
      followed_right h (just_called op.method) begun g' now (tree_procedure h Correct op)
      (operations (tree_procedure h Correct) ops)
      (λ k' g'' then_ tree' rests'. tree_operations_right h ops k' g'' then_ is
      (second_true (is_callable h op) (are_callable h ops) callable) tree' rests') rely.tree
      (procedure_right h begun g' now op.method op.args (callable_method h op this ∙ is)
      (below_of op.args.a (2 ^ 32) small.0)
      (below_of op.args.b (2 ^ 32) small.1) rely.tree
      (unseen_stays h (just_called op.method) begun g m g' now
      (record { fresh = unseen.fresh; hanging = unseen.hanging; quiet = unseen.quiet }) rely)
      (record { fresh = rests.fresh; hanging = rests.hanging; called_is = refl })),
)
  where
    this : is_callable h op ≡ true
    this = first_true (is_callable h op) (are_callable h ops) callable

    small : (nat_lt op.args.a (2 ^ 32) ≡ true) × (nat_lt op.args.b (2 ^ 32) ≡ true)
    small =
        let two = first_true (nat_lt op.args.a (2 ^ 32) && nat_lt op.args.b (2 ^ 32))
        (nat_lt op.args.c (2 ^ 32)) (callable_small h op this) in (
          first_true (nat_lt op.args.a (2 ^ 32)) (nat_lt op.args.b (2 ^ 32)) two,
          second_true
              (nat_lt op.args.a (2 ^ 32)) (nat_lt op.args.b (2 ^ 32)) two,
        )

    begun : TreeLocals
    begun = record k {
      called = Some (record { method = op.method; args = op.args });
      answered =
          None;
    }

    none_isnt : (v : ℕ) → ◌≡◌ {A = Option ℕ} None (Some v) → ⊥
    none_isnt v e = cc

    unseen : OwnsUnseen h k g m
    unseen = record {
      fresh = λ v mine. absurd (none_isnt v (sym rests.fresh ∙ mine));
      hanging = λ v mine. absurd (none_isnt v (sym rests.hanging ∙ mine));
      quiet = rests.quiet;
    }

    c : Changeless h at_rest k g m
    c = changeless h at_rest k g m unseen

    or_false : (b : Bool) → b ≡ (b || false)
    or_false true = refl
    or_false false = refl

-- the whole script of a caller does right
pub tree_script_right : (w : Workload) (c : ℕ) (g : Shape) (m : Memory) → KeepsLimits w
    → IsCorrectTree w → c < w.header.callers
    → IsLinked w.header.size g m → TreeRight w.header at_rest empty_tree_locals g m
    (script_of (work_scripts w) c)
tree_script_right w c g m limits is low tree =
    subst (TreeRight w.header at_rest empty_tree_locals g m) (sym its)
    (tree_operations_right w.header (ops_of c w.ops) empty_tree_locals g m is.subject
    (ops_are_callable w c limits) tree
    (record { rests = refl; fresh = refl; hanging = refl; called = refl; quiet = refl }))
  where
    its : script_of (work_scripts w) c ≡ operations (tree_procedure w.header Correct)
        (ops_of c w.ops)
    its =
        let e : 0 + c ≡ c = omega arith in
        script_at (work_script w) 0 w.header.callers c low ∙ ap (work_script w) e
        ∙ ap (λ p. operations p (ops_of c w.ops))
        (λ i. procedure_in (is.subject i) w.header (is.variant i))
