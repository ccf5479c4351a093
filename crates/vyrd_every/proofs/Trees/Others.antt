-- What one caller's act leaves alone is what the others rely on.
use Rattle.vyrd_every.proofs.Prelude.{◌≡◌, ℕ, ◌<◌, ◌⊎◌, inl, inr, true, false, Some, ap, ◌∙◌, sym}
use Rattle.vyrd_every.proofs.Prelude.{arith, Header, Act, Memory, Script, Situation, holds, lock_of}
use Rattle.vyrd_every.proofs.Prelude.{root_lock, used_lock, level_at, last_in, root_in, never}
use Rattle.vyrd_every.proofs.Prelude.{Shape, IsLinked, TreeLocals, Owns, AreApart, seen_after}
use Rattle.vyrd_every.proofs.Prelude.{TreeRely, TreeDoes}

-- The act of one caller, for another one. No lock is held by both.
pub others_rely : (h : Header) (s its : Situation) (k other : TreeLocals) (g : Shape) (m : Memory)
    (act : Act) (rest : Script) (next : TreeLocals) (g' : Shape)
    → IsLinked h.size g m → TreeDoes h s k g m act rest next g' → Owns h other g m
    → AreApart k other
    → ((lock : ℕ) → holds its lock ≡ true → holds s lock ≡ false)
    → (holds its (root_lock h) ≡ true → other.out ≡ false → g.top ≡ level_at m (root_in h.size m))
    → TreeRely h its other g m g' (seen_after h s k m act)
others_rely h s its k other g m act rest next g' tree does owns apart alone calm = record {
  grows = does.grows;
  held = λ n place linked held low. does.leaves.others n place linked (alone (lock_of h n) held)
      low;
  fresh = λ n mine. does.leaves.unlinked n (owns.fresh n mine).0 (apart.fresh n mine)
      ∙ sym (owns.fresh n mine).0;
  used = λ n mine le. (let more = does.leaves.used in omega (arith, le));
  hanging = λ n mine hangs. does.leaves.hanging n (owns.hanging n mine).0 (apart.hanging n mine)
      hangs;
  root = λ held. does.leaves.root (alone (root_lock h) held);
  count = λ held. does.leaves.count (alone (used_lock h) held);
  tree = does.tree;
  calm = λ held quiet. let same = does.leaves.root (alone (root_lock h) held) in
      same.1 ∙ calm held quiet
      ∙ sym (ap (level_at (seen_after h s k m act)) same.0
      ∙ does.grows.level (root_in h.size m) tree.root_linked);
}

-- after it the locals are apart still
pub still_apart_from : (h : Header) (s : Situation) (k other : TreeLocals) (g : Shape) (m : Memory)
    (act : Act) (rest : Script) (next : TreeLocals) (g' : Shape)
    → TreeDoes h s k g m act rest next g' → Owns h other g m → AreApart k other
    → AreApart next other
still_apart_from h s k other g m act rest next g' does owns apart = record {
  fresh = λ n mine its. by_taken n mine (does.taken n its).2;
  hanging = λ n mine its. by_hung n mine (does.hung n its).2;
}
  where
    by_taken : (n : ℕ) → other.fresh ≡ Some n → (k.fresh ≡ Some n) ⊎ (last_in h.size m < n) → ⊥
    by_taken n mine (inl was) = apart.fresh n mine was
    by_taken n mine (inr new) = (let le = (owns.fresh n mine).1 in omega (arith, new))

    by_hung : (n : ℕ) → other.hanging ≡ Some n → (k.hanging ≡ Some n) ⊎ (g.linked n ≡ false) → ⊥
    by_hung n mine (inl was) = apart.hanging n mine was
    by_hung n mine (inr new) = never new (owns.hanging n mine).0

-- after it the other's locals say the same
pub still_owns : (h : Header) (its : Situation) (other : TreeLocals) (g : Shape) (m : Memory)
    (g' : Shape) (m' : Memory) → Owns h other g m → TreeRely h its other g m g' m'
    → Owns h other g' m'
still_owns h its other g m g' m' owns rely = record {
  fresh = λ n mine. (
    rely.fresh n mine ∙ (owns.fresh n mine).0,
    rely.used n mine
        (owns.fresh n mine).1,
  );
  hanging = λ n mine. (
    rely.grows.linked n (owns.hanging n mine).0,
    rely.hanging n mine
        (owns.hanging n mine).1,
  );
}

-- and the caller's own locals say what they should
pub owns_after : (h : Header) (s : Situation) (k : TreeLocals) (g : Shape) (m : Memory) (act : Act)
    (rest : Script) (next : TreeLocals) (g' : Shape)
    → TreeDoes h s k g m act rest next g' → Owns h next g' (seen_after h s k m act)
owns_after h s k g m act rest next g' does = record {
  fresh = λ n mine. let t = does.taken n mine in (t.0, t.1);
  hanging = λ n mine. let t = does.hung n mine in (t.0, t.1);
}
