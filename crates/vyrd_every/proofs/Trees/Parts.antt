-- Single acts of a script of the tree that change nothing, and what a caller knows still, whatever
-- the others do.
use Rattle.vyrd_every.proofs.Prelude.{◌≡◌, ℕ, ◌<◌, ◌≤◌, ◌⊎◌, inl, Bool, true, false, List, [], ◌∷◌}
use Rattle.vyrd_every.proofs.Prelude.{Some, refl, ◌∙◌, sym, subst, arith, ◌||◌, Header, Method}
use Rattle.vyrd_every.proofs.Prelude.{Load, Take, Give, Memory, Script, step, perform, Situation}
use Rattle.vyrd_every.proofs.Prelude.{holds, after_act, gone, lock_of, root_lock, level_at, last_in}
use Rattle.vyrd_every.proofs.Prelude.{root_in, holding, never, Shape, IsLinked, Hangs, Grows}
use Rattle.vyrd_every.proofs.Prelude.{TreeLocals, MayLoad, TreeRely, TreeLeaves, TreeRight}

-- What a caller's locals say between two of its acts, but while a new root is seen before its block
-- is closed: they own what
-- they name, and no write of an open block is seen.
pub record OwnsUnseen (h : Header) (k : TreeLocals) (g : Shape) (m : Memory) : Type 0 where
  pub fresh : (n : ℕ) → k.fresh ≡ Some n → (g.linked n ≡ false) × (n ≤ last_in h.size m)
  pub hanging : (n : ℕ) → k.hanging ≡ Some n → (g.linked n ≡ true) × Hangs g m n
  pub quiet : k.out ≡ false

pub unseen_stays : (h : Header) (s : Situation) (k : TreeLocals) (g : Shape) (m : Memory)
    (g' : Shape) (m' : Memory) → OwnsUnseen h k g m
    → TreeRely h s k g m g' m' → OwnsUnseen h k g' m'
unseen_stays h s k g m g' m' unseen rely = record {
  fresh = λ n mine. let was = unseen.fresh n mine in
      (rely.fresh n mine ∙ was.0, rely.used n mine was.1);
  hanging = λ n mine. let was = unseen.hanging n mine in
      (rely.grows.linked n was.0, rely.hanging n mine was.1);
  quiet = unseen.quiet;
}

pub grows_same : (g : Shape) (m : Memory) → Grows g m g m
grows_same g m = grind arith

pub grows_more : (a b c : Shape) (x y z : Memory) → Grows a x b y → Grows b y c z → Grows a x c z
grows_more a b c x y z one two = grind arith

-- the others do one thing after the other
pub tree_rely_more : (h : Header) (s : Situation) (k : TreeLocals) (a b c : Shape) (x y z : Memory)
    → TreeRely h s k a x b y → TreeRely h s k b y c z
    → TreeRely h s k a x c z
tree_rely_more h s k a b c x y z one two = record {
  grows = grows_more a b c x y z one.grows two.grows;
  held = λ n place linked held low. two.held n place (one.grows.linked n linked) held low
      ∙ one.held n place linked held low;
  fresh = λ n mine. two.fresh n mine ∙ one.fresh n mine;
  used = λ n mine le. two.used n mine (one.used n mine le);
  hanging = λ n mine hangs. two.hanging n mine (one.hanging n mine hangs);
  root = λ held. ((two.root held).0 ∙ (one.root held).0, (two.root held).1 ∙ (one.root held).1);
  count = λ held. two.count held ∙ one.count held;
  tree = two.tree;
  calm = two.calm;
}

-- with fewer locks held, less is relied upon
pub tree_rely_less : (h : Header) (s s' : Situation) (k : TreeLocals) (a b : Shape) (x y : Memory)
    → ((lock : ℕ) → holds s' lock ≡ true → holds s lock ≡ true)
    → TreeRely h s k a x b y → TreeRely h s' k a x b y
tree_rely_less h s s' k a b x y fewer r = search (lock_of, arith)

leaves_same : (h : Header) (s : Situation) (k : TreeLocals) (g : Shape) (m : Memory)
    → TreeLeaves h s k g m g m
leaves_same h s k g m = grind arith

-- what an act does that changes nothing
pub record Changeless (h : Header) (s : Situation) (k : TreeLocals) (g : Shape)
    (m : Memory) : Type 0 where
  pub grows : Grows g m g m
  pub leaves : TreeLeaves h s k g m g m
  pub taken : (n : ℕ) → k.fresh ≡ Some n → (g.linked n ≡ false) × (n ≤ last_in h.size m)
      × ((k.fresh ≡ Some n) ⊎ (last_in h.size m < n))
  pub hung : (n : ℕ) → k.hanging ≡ Some n → (g.linked n ≡ true) × Hangs g m n
      × ((k.hanging ≡ Some n) ⊎ (g.linked n ≡ false))
  pub alone : k.out ≡ true → (holds s (root_lock h) ≡ true) × (s.in_block ≡ true)
  pub closed : k.out ≡ true → k.out ≡ false → g.top ≡ level_at m (root_in h.size m)
  pub top : k.out ≡ false → g.top ≡ level_at m (root_in h.size m) → k.out ≡ false
      → g.top ≡ level_at m (root_in h.size m)

pub changeless : (h : Header) (s : Situation) (k : TreeLocals) (g : Shape) (m : Memory)
    → OwnsUnseen h k g m → Changeless h s k g m
changeless h s k g m unseen = record {
  grows = grows_same g m;
  leaves = leaves_same h s k g m;
  taken = λ n mine. let has = unseen.fresh n mine in (has.0, has.1, inl mine);
  hung = λ n mine. let has = unseen.hanging n mine in (has.0, has.1, inl mine);
  alone = λ out. absurd (never unseen.quiet out);
  closed = λ out quiet. absurd (never quiet out);
  top = λ out is quiet. is;
}

pub tree_load : (h : Header) (s : Situation) (k : TreeLocals) (g : Shape) (m : Memory) (cell : ℕ)
    (rest : ℕ → Script) → IsLinked h.size g m → OwnsUnseen h k g m
    → MayLoad h s g cell → s.in_block ≡ false
    → ((g' : Shape) → (now : Memory) → TreeRely h s k g m g' now
    → TreeRight h s k g' now (rest (m cell)))
    → TreeRight h s k g m (step (Load cell) rest)
tree_load h s k g m cell rest tree unseen may out later =
    let c : Changeless h s k g m = changeless h s k g m unseen in (
      k,
      g,
      record {
        reaches = (may, out);
        grows = c.grows;
        leaves = c.leaves;
        tree = tree;
        top = c.top;
        closed = c.closed;
        alone = c.alone;
        ahead = λ quiet out. absurd (never quiet out);
        wrote = λ quiet out. absurd (never quiet out);
        within = λ inside goes same. (refl, refl);
        taken = c.taken;
        hung = c.hung;
        leads = λ state shows. shows;
        pending = refl;
        out = or_false k.out;
        called = refl;
        answers = refl;
      },
      later,
    )
  where
    or_false : (b : Bool) → b ≡ (b || false)
    or_false b = search arith

pub tree_take : (h : Header) (s : Situation) (k : TreeLocals) (g : Shape) (m : Memory) (lock : ℕ)
    (rest : Script) → IsLinked h.size g m → OwnsUnseen h k g m
    → ((held : ℕ) → holds s held ≡ true → held < lock)
    → ((g' : Shape) → (now : Memory) → TreeRely h (after_act s (Take lock)) k g m g' now
    → TreeRight h (after_act s (Take lock)) k g' now rest)
    → TreeRight h s k g m (perform (Take lock) rest)
tree_take h s k g m lock rest tree unseen above later =
    let c : Changeless h s k g m = changeless h s k g m unseen in (
      k,
      g,
      record {
        reaches = above;
        grows = c.grows;
        leaves = c.leaves;
        tree = tree;
        top = c.top;
        closed = c.closed;
        alone = c.alone;
        ahead = λ quiet out. absurd (never quiet out);
        wrote = λ quiet out. absurd (never quiet out);
        within = λ inside goes same. (refl, refl);
        taken = c.taken;
        hung = c.hung;
        leads = λ state shows. shows;
        pending = refl;
        out = or_false k.out;
        called = refl;
        answers = refl;
      },
      later,
    )
  where
    or_false : (b : Bool) → b ≡ (b || false)
    or_false b = search arith

pub tree_give : (h : Header) (s : Situation) (k : TreeLocals) (g : Shape) (m : Memory) (lock : ℕ)
    (rest : Script) → IsLinked h.size g m → OwnsUnseen h k g m
    → s.in_block ≡ false
    → ((g' : Shape) → (now : Memory) → TreeRely h (after_act s (Give lock)) k g m g' now
    → TreeRight h (after_act s (Give lock)) k g' now rest)
    → TreeRight h s k g m (perform (Give lock) rest)
tree_give h s k g m lock rest tree unseen out later =
    let c : Changeless h s k g m = changeless h s k g m unseen in (
      k,
      g,
      record {
        reaches = out;
        grows = c.grows;
        leaves = c.leaves;
        tree = tree;
        top = c.top;
        closed = c.closed;
        alone = c.alone;
        ahead = λ quiet out. absurd (never quiet out);
        wrote = λ quiet out. absurd (never quiet out);
        within = λ inside goes same. (refl, refl);
        taken = c.taken;
        hung = c.hung;
        leads = λ state shows. shows;
        pending = refl;
        out = or_false k.out;
        called = refl;
        answers = inl refl;
      },
      later,
    )
  where
    or_false : (b : Bool) → b ≡ (b || false)
    or_false b = search arith

-- the only lock is given back
pub tree_give_last : (h : Header) (method : Method) (committed : Bool) (k : TreeLocals) (g : Shape)
    (m : Memory) (lock : ℕ) (rest : Script) → IsLinked h.size g m
    → OwnsUnseen h k g m
    → ((g' : Shape) → (now : Memory) → TreeRely h (holding [] method committed false) k g m g' now
    → TreeRight h (holding [] method committed false) k g' now rest)
    → TreeRight h (holding (lock ∷ []) method committed false) k g m (perform (Give lock) rest)
tree_give_last h method committed k g m lock rest tree unseen later =
    tree_give h _ k g m _ _ tree unseen refl (subst Later (sym (gone _ [])) later)
  where
    Later : List ℕ → Type 0
    Later locks = (g' : Shape) → (now : Memory) → TreeRely h (holding locks method committed false)
        k g m g' now → TreeRight h (holding locks method committed false) k g' now rest
