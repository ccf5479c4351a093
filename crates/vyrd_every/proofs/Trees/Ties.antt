-- Callers see what the log shows, or one block's writes besides: how one more event keeps that.
use Rattle.vyrd_every.proofs.Prelude
use Prelude.{◌≡◌, ℕ, ◌<◌, ◌⊎◌, inl, inr, Bool, true, false, cond, not, List, [], ◌∷◌, Some, None}
use Prelude.{refl, ap, ◌∙◌, sym, subst, ◌==◌, is_some, option_or, not-true, Header, Call, Return}
use Prelude.{Write, Commit, BlockOpen, BlockClose, BlockCommit, by_same, second_true, same_of}
use Prelude.{same_number, Act, Load, Store, Take, Give, Mark, Done, Memory, Script, Situation}
use Prelude.{holds, observes, may_act, after_act, four_true, root_lock, written, pending_after}
use Prelude.{Shape, TreeLocals, MayStore, seen_after, out_after, TreeReaches, TreeDoes, NoneOut}
use Prelude.{OneOut, never}
use Rattle.vyrd_every.proofs.Trees.Written.{given_by, either_order, takes_effect, seen_more}
use Rattle.vyrd_every.proofs.Trees.Written.{ComesOut, when_out}
use Rattle.vyrd_every.proofs.Trees.Ones.{still_out, alone_after}

-- in a block that goes on, nothing takes effect
no_effect : (s : Situation) (pending : List (ℕ × ℕ)) (act : Act) → s.in_block ≡ true
    → (after_act s act).in_block ≡ true
    → takes_effect s.in_block pending act ≡ []
no_effect s pending (Load cell) inside goes = refl
no_effect s pending (Store cell value) inside goes = ap (λ b. cond b [] ((cell, value) ∷ [])) inside
no_effect s pending (Take lock) inside goes = refl
no_effect s pending (Give lock) inside goes = refl
no_effect s pending Done inside goes = refl
no_effect s pending (Mark (Call method args)) inside goes = refl
no_effect s pending (Mark (Return reply)) inside goes = refl
no_effect s pending (Mark (Write word value)) inside goes = refl
no_effect s pending (Mark Commit) inside goes = refl
no_effect s pending (Mark BlockOpen) inside goes = refl
no_effect s pending (Mark BlockClose) inside goes = cc
no_effect s pending (Mark BlockCommit) inside goes = cc

-- while its writes are seen, a block writes nothing more
same_pending : (h : Header) (s : Situation) (k : TreeLocals) (g : Shape) (m : Memory) (act : Act)
    → k.out ≡ true → s.in_block ≡ true
    → TreeReaches h s k g m act → out_after h s act k.out ≡ true → pending_after act k.pending
    ≡ k.pending
same_pending h s k g m (Load cell) out inside reaches still = refl
same_pending h s k g m (Store cell value) out inside (inl within) still = absurd
    (never within.1 out)
same_pending h s k g m (Store cell value) out inside (inr outside) still = absurd
    (never outside.0 inside)
same_pending h s k g m (Take lock) out inside reaches still = refl
same_pending h s k g m (Give lock) out inside reaches still = refl
same_pending h s k g m Done out inside reaches still = refl
same_pending h s k g m (Mark (Call method args)) out inside reaches still = refl
same_pending h s k g m (Mark (Return reply)) out inside reaches still = refl
same_pending h s k g m (Mark (Write word value)) out inside reaches still = absurd reaches
same_pending h s k g m (Mark Commit) out inside reaches still = refl
same_pending h s k g m (Mark BlockOpen) out inside reaches still = cc
same_pending h s k g m (Mark BlockClose) out inside reaches still = refl
same_pending h s k g m (Mark BlockCommit) out inside reaches still = refl

-- when such a block ends, its writes take effect
ends : (h : Header) (s : Situation) (k : TreeLocals) (act : Act) → k.out ≡ true → s.in_block ≡ true
    → may_act h s act ≡ true
    → out_after h s act k.out ≡ false → takes_effect s.in_block k.pending act ≡ k.pending
ends h s k (Load cell) out inside may over = absurd (never over (cc))
ends h s k (Store cell value) out inside may over = cc
ends h s k (Take lock) out inside may over = absurd (never over (cc))
ends h s k (Give lock) out inside may over = absurd (never over (cc))
ends h s k Done out inside may over = absurd (never over (cc))
ends h s k (Mark (Call method args)) out inside may over = cc
ends h s k (Mark (Return reply)) out inside may over = cc
ends h s k (Mark (Write word value)) out inside may over = cc
ends h s k (Mark Commit) out inside may over = absurd (never over (cc))
ends h s k (Mark BlockOpen) out inside may over = absurd
    (never (not-true s.in_block (second_true (is_some s.called) (not s.in_block) may)) inside)
ends h s k (Mark BlockClose) out inside may over = refl
ends h s k (Mark BlockCommit) out inside may over = refl

-- what takes effect at an act is what its caller might store
pub may_store : (h : Header) (s : Situation) (k : TreeLocals) (g : Shape) (m : Memory) (act : Act)
    (w : ℕ) → TreeReaches h s k g m act → may_act h s act ≡ true
    → (s.in_block ≡ true → is_some (given_by w k.pending) ≡ true → MayStore h s k g m w)
    → is_some (given_by w (takes_effect s.in_block k.pending act)) ≡ true → MayStore h s k g m w
may_store h s k g m (Load cell) w reaches may pends given = cc
may_store h s k g m (Store cell value) w reaches may pends given = subst (MayStore h s k g m)
    (same_of cell w (by_block s.in_block given)) reaches
  where
    by_place : (r : Bool) → is_some (option_or (cond r (Some value) None) None) ≡ true → r ≡ true
    by_place true e = refl
    by_place false e = cc

    by_block : (b : Bool) → is_some (given_by w (cond b [] ((cell, value) ∷ []))) ≡ true
        → (cell == w) ≡ true
    by_block true e = cc
    by_block false e = by_place (cell == w) e
may_store h s k g m (Take lock) w reaches may pends given = cc
may_store h s k g m (Give lock) w reaches may pends given = cc
may_store h s k g m Done w reaches may pends given = cc
may_store h s k g m (Mark (Call method args)) w reaches may pends given = cc
may_store h s k g m (Mark (Return reply)) w reaches may pends given = cc
may_store h s k g m (Mark (Write word value)) w reaches may pends given = cc
may_store h s k g m (Mark Commit) w reaches may pends given = cc
may_store h s k g m (Mark BlockOpen) w reaches may pends given = cc
may_store h s k g m (Mark BlockClose) w reaches may pends given =
    pends (second_true (is_some s.called) s.in_block may) given
may_store h s k g m (Mark BlockCommit) w reaches may pends given =
    pends (four_true (is_some s.called) s.in_block (not (observes s)) (not s.committed) may).1 given

-- the locals after an act of caller c
abbrev pub with_locals : (ℕ → TreeLocals) → ℕ → TreeLocals → ℕ → TreeLocals
with_locals locals c next d = cond (c == d) next (locals d)

pub unseen_own : (locals : ℕ → TreeLocals) (c : ℕ) (next : TreeLocals) → with_locals locals c next c
    ≡ next
unseen_own locals c next = ap (λ b. cond b next (locals c)) (same_number c)

pub unseen_other : (locals : ℕ → TreeLocals) (c d : ℕ) (next : TreeLocals) → (c == d) ≡ false
    → with_locals locals c next d ≡ locals d
unseen_other locals c d next other = ap (λ b. cond b next (locals d)) other

-- what callers see after one more event
pub ties_step : (h : Header) (c : ℕ) (s : Situation) (locals : ℕ → TreeLocals) (g : Shape)
    (m : Memory) (act : Act) (rest : Script) (next : TreeLocals) (g' : Shape)
    (shown shown' : Memory) → c < h.callers → TreeDoes h s (locals c) g m act rest next g'
    → may_act h s act ≡ true
    → shown' ≡ written (takes_effect s.in_block (locals c).pending act) shown
    → ((locals c).out ≡ true → s.in_block ≡ true)
    → ((d : ℕ) → d < h.callers → (d == c) ≡ false → (locals d).out ≡ true → holds s (root_lock h)
    ≡ false)
    → ((d w : ℕ) → d < h.callers → (d == c) ≡ false → (locals d).out ≡ true → (locals c).out ≡ false
    → is_some (given_by w (takes_effect s.in_block (locals c).pending act)) ≡ true
    → is_some (given_by w (locals d).pending) ≡ true → ⊥)
    → NoneOut h locals g m shown ⊎ OneOut h locals m shown
    → NoneOut h (with_locals locals c next) g' (seen_after h s (locals c) m act) shown'
    ⊎ OneOut h (with_locals locals c next) (seen_after h s (locals c) m act) shown'
ties_step h c s locals g m act rest next g' shown shown' low does may shows within free apart ties =
    by_ties ties
  where
    m' : Memory
    m' = seen_after h s (locals c) m act

    T : List (ℕ × ℕ)
    T = takes_effect s.in_block (locals c).pending act

    After : Type 0
    After = NoneOut h (with_locals locals c next) g' m' shown'
        ⊎ OneOut h (with_locals locals c next) m' shown'

    -- which locals have no writes that are seen
    quiet_now : next.out ≡ false
        → ((d : ℕ) → d < h.callers → (c == d) ≡ false → (locals d).out ≡ false) → (d : ℕ)
        → d < h.callers
        → (with_locals locals c next d).out ≡ false
    quiet_now f others d low_d = by_same c d
        (λ same. rw (← same)
        (cc (unseen_own locals c next)))
        (λ other. cc (unseen_other locals c d next other, others d low_d other))

    none_before : NoneOut h locals g m shown → (b : Bool) → next.out ≡ b → After
    none_before n false f = inl (record {
      quiet = quiet_now f (λ d low_d other. n.quiet d low_d);
      same = seen_more h s (locals c) m act (n.quiet c low) (sym does.out ∙ f)
          ∙ ap (written T) n.same ∙ sym shows;
      calm = does.top (n.quiet c low) n.calm f;
    })
    none_before n true f =
        let o : ComesOut h s (locals c) m act = when_out h s (locals c) m act (n.quiet c low)
        (sym does.out ∙ f) in
        inr (record {
          who = c;
          low = low;
          out = cc (unseen_own locals c next);
          others = λ d low_d other. cc (unseen_other locals c d next other, n.quiet d low_d);
          same = cc (o.seen, n.same, o.none, unseen_own locals c next, does.pending);
        })

    -- the caller's own block was seen
    own_before : OneOut h locals m shown → ((locals c).out ≡ true)
        → m ≡ written (locals c).pending shown
        → ((d : ℕ) → d < h.callers → (c == d) ≡ false → (locals d).out ≡ false) → (b : Bool)
        → next.out ≡ b → After
    own_before o out same others true f =
        let inside = within out in
        let goes = (alone_after h s (locals c) g m act rest next g' does may f).1 in
        inr (record {
          who = c;
          low = low;
          out = cc (unseen_own locals c next);
          others = λ d low_d other. cc (unseen_other locals c d next other, others d low_d other);
          same = cc (
            still_out h s (locals c) g m act out inside does.reaches,
            no_effect s (locals
                c).pending act inside goes,
            unseen_own locals c next,
            does.pending,
            same_pending h s
                (locals c) g m act out inside does.reaches (sym does.out ∙ f),
          );
        })
    own_before o out same others false f =
        let inside = within out in
        inl (record {
          quiet = quiet_now f others;
          same = still_out h s (locals c) g m act out inside does.reaches ∙ same
              ∙ sym (cc (ends h s (locals c) act out inside may (sym does.out ∙ f)));
          calm = does.closed out f;
        })

    other_before : (o : OneOut h locals m shown) → (o.who == c) ≡ false → (b : Bool) → next.out ≡ b
        → After
    other_before o other true f = absurd (never (free o.who o.low other o.out) (does.alone f).0)
    other_before o other false f =
        let still : with_locals locals c next o.who ≡ locals o.who = unseen_other locals c o.who
        next (apart_too o.who c other) in
        inr (record {
          who = o.who;
          low = o.low;
          out = ap (λ (k : TreeLocals). k.out) still ∙ o.out;
          others = λ d low_d others. by_same c d
              (λ same. subst (λ x. (with_locals locals c next x).out ≡ false) same
              (ap (λ (k : TreeLocals). k.out) (unseen_own locals c next) ∙ f))
              (λ apart_d. ap (λ (k : TreeLocals). k.out) (unseen_other locals c d next apart_d)
              ∙ o.others d low_d others);
          same = seen_more h s (locals c) m act (o.others c low other) (sym does.out ∙ f)
              ∙ ap (written T) o.same
              ∙ either_order T (locals o.who).pending shown
              (λ w. apart o.who w o.low other o.out (o.others c low other))
              ∙ ap (written (locals o.who).pending) (sym shows)
              ∙ ap (λ ws. written ws shown') (sym (ap (λ (k : TreeLocals). k.pending) still));
        })
      where
        apart_too : (a b : ℕ) → (a == b) ≡ false → (b == a) ≡ false
        apart_too a b e = by_test (b == a) refl
          where
            by_test : (t : Bool) → (b == a) ≡ t → t ≡ false
            by_test false f = refl
            by_test true f = absurd
                (never e (cc (same_of b a f, same_number b)))

    by_who : (o : OneOut h locals m shown) → (b : Bool) → (o.who == c) ≡ b → After
    by_who o true e =
        let is : o.who ≡ c = same_of o.who c e in
        own_before o (rw (← is) o.out)
        (rw (← is) o.same)
        (λ d low_d other. o.others d low_d (cc)) next.out refl
    by_who o false e = other_before o e next.out refl

    by_ties : NoneOut h locals g m shown ⊎ OneOut h locals m shown → After
    by_ties (inl n) = none_before n next.out refl
    by_ties (inr o) = by_who o (o.who == c) refl
