-- What holds of one caller of the tree between any two events, and how one more event keeps it: its
-- own, or another caller's.
use Rattle.vyrd_every.proofs.Prelude
use Prelude.{◌≡◌, ◌≢◌, ℕ, ◌<◌, ◌≤◌, ◌⊎◌, inl, inr, Bool, true, false, cond, List, ◌∷◌, Some, None}
use Prelude.{refl, ap, ◌∙◌, sym, subst, arith, ◌==◌, ◌&&◌, is_some, unwrap_or, option_or}
use Prelude.{cons_option, or_right, Header, Call, Return, Write, Commit, BlockOpen, BlockClose}
use Prelude.{BlockCommit, Entry, Did, Read, Wrote, Took, Gave, Marked, first_answer, by_caller}
use Prelude.{write_or_open, has_block, holds_word, block_writes, logged, entry, wrote, wrote_is}
use Prelude.{own_block, own_wrote, second_true, same_of, same_number, both_of, Act, Store, Take}
use Prelude.{Memory, Script, stop, step, next_act, after_answer, event_of, answer_of, left_after}
use Prelude.{Situation, holds, may_act, after_act, act_of_event, situation_after, event_act, Agrees}
use Prelude.{four_true, root_cell, lock_of, root_lock, level_at, root_in, written, pending_after}
use Prelude.{called_after, answer_at, Shape, IsLinked, TreeLocals, IsWordOf, InNode, MayStore}
use Prelude.{seen_after, TreeRely, TreeReaches, TreeDoes, TreeRight, MayHold, OfTreeCaller, never}
use Rattle.vyrd_every.proofs.Logs.{pending_step, pending_other, called_step, called_other}
use Rattle.vyrd_every.proofs.Logs.{word_other}
use Rattle.vyrd_every.proofs.Trees.Parts.{grows_same, tree_rely_more}
use Rattle.vyrd_every.proofs.Trees.Others.{still_owns, owns_after}
use Rattle.vyrd_every.proofs.Trees.Written.{given_by, all_given, when_out}

-- nothing was done by others
pub rely_none : (h : Header) (s : Situation) (k : TreeLocals) (g : Shape) (m : Memory)
    → IsLinked h.size g m
    → (holds s (root_lock h) ≡ true → k.out ≡ false → g.top ≡ level_at m (root_in h.size m))
    → TreeRely h s k g m g m
rely_none h s k g m tree calm = grind (arith, grows_same g m)

-- what an event of a script that does right does
pub record TreeStepped (h : Header) (s : Situation) (k : TreeLocals) (g : Shape) (m : Memory)
    (did : Did) (script : Script) : Type 0 where
  pub next : TreeLocals
  pub grown : Shape
  pub does : TreeDoes h s k g m (act_of_event did) (after_answer script 0) next grown
  pub later : (g' : Shape) (now : Memory) → TreeRely h (after_act s (act_of_event did)) next grown
      (seen_after h s k m (act_of_event did)) g' now
      → TreeRight h (after_act s (act_of_event did)) next g' now
      (after_answer script (answer_at m (act_of_event did)))

pub tree_stepped : (h : Header) (s : Situation) (k : TreeLocals) (g : Shape) (m : Memory)
    (did : Did) (script : Script) → TreeRight h s k g m script
    → event_of (next_act script) (answer_of did) ≡ Some did → TreeStepped h s k g m did script
tree_stepped h s k g m did stop right e = cc
tree_stepped h s k g m did (step act rest) right e =
    let end : Of (act_of_event did) = subst Of (event_act act did e) right in
    record { next = end.0; grown = end.1; does = end.2; later = end.3 }
  where
    Of : Act → Type 0
    Of a = (next : TreeLocals) × (grown : Shape) × TreeDoes h s k g m a (rest 0) next grown
        × ((g' : Shape) → (now : Memory) → TreeRely h (after_act s a) next grown
        (seen_after h s k m a) g' now
        → TreeRight h (after_act s a) next g' now (rest (answer_at m a)))

-- a word that was held may be held still, where neither the shape nor the memory changes
holds_on : (h : Header) (s s' : Situation) (k next : TreeLocals) (g g' : Shape) (m : Memory) (w : ℕ)
    → ((lock : ℕ) → holds s lock ≡ true → holds s' lock ≡ true) → g' ≡ g → next.fresh ≡ k.fresh
    → next.out ≡ k.out
    → MayHold h s k g m w → MayHold h s' next g' m w
holds_on h s s' k next g g' m w more same fresh out hold = search arith

-- where a block's writes are seen and it goes on, its caller changes nothing
pub still_out : (h : Header) (s : Situation) (k : TreeLocals) (g : Shape) (m : Memory) (act : Act)
    → k.out ≡ true → s.in_block ≡ true
    → TreeReaches h s k g m act → seen_after h s k m act ≡ m
still_out h s k g m act out inside reaches = search (never, arith)

-- where its writes are seen after the act, the caller is in the block still, with the root's lock
pub alone_after : (h : Header) (s : Situation) (k : TreeLocals) (g : Shape) (m : Memory) (act : Act)
    (rest : Script) (next : TreeLocals) (g' : Shape)
    → TreeDoes h s k g m act rest next g' → may_act h s act ≡ true → next.out ≡ true
    → (holds (after_act s act) (root_lock h) ≡ true) × ((after_act s act).in_block ≡ true)
alone_after h s k g m act rest next g' does may out = search
    (never, second_true, four_true, is_some, arith)

-- and the root is above the one that the log shows
pub ahead_after : (h : Header) (s : Situation) (k : TreeLocals) (g : Shape) (m : Memory) (act : Act)
    (rest : Script) (next : TreeLocals) (g' : Shape)
    → TreeDoes h s k g m act rest next g' → may_act h s act ≡ true
    → (k.out ≡ true → g.top < level_at m (root_in h.size m)) → next.out ≡ true
    → g'.top < level_at (seen_after h s k m act) (root_in h.size (seen_after h s k m act))
ahead_after h s k g m act rest next g' does may ahead out = search (alone_after, still_out, arith)

-- the caller's own store in its block
store_holds : (h : Header) (s : Situation) (k : TreeLocals) (g : Shape) (m : Memory)
    (cell value : ℕ) (rest : Script) (next : TreeLocals) (g' : Shape)
    → TreeDoes h s k g m (Store cell value) rest next g' → IsLinked h.size g m → s.in_block ≡ true
    → MayHold h s next g' (seen_after h s k m (Store cell value)) cell
store_holds h s k g m cell value rest next g' does tree inside = by_out next.out refl
  where
    by_out : (b : Bool) → next.out ≡ b → MayHold h s next g' (seen_after h s k m (Store cell value))
        cell
    by_out true e = inr (e, inl (is_root (k.out) does.reaches e))
      where
        is_root : (b : Bool) → MayStore h s k g m cell → next.out ≡ true → cell ≡ root_cell h
        is_root b (inl within) out =
            let o = when_out h s k m (Store cell value) within.1 (sym does.out ∙ out) in
            same_cell (Store cell value) cell value refl o.stores
          where
            cell_in : Act → ℕ
            cell_in (Store cell value) = cell
            cell_in _ = 0

            same_cell : (act : Act) (cell value : ℕ) → act ≡ Store cell value → {v : ℕ}
                → act ≡ Store (root_cell h) v → cell ≡ root_cell h
            same_cell act cell value f g = sym (ap cell_in f) ∙ ap cell_in g
        is_root b (inr outside) out = absurd (never outside.0 inside)
    by_out false e = by_reach does.reaches
      where
        by_reach : MayStore h s k g m cell
            → MayHold h s next g' (seen_after h s k m (Store cell value)) cell
        by_reach (inr outside) = absurd (never outside.0 inside)
        by_reach (inl within) = by_word within.2
          where
            by_word : InNode h s k g m cell
                ⊎ ((cell ≡ root_cell h) × (holds s (root_lock h) ≡ true))
                → MayHold h s next g' (seen_after h s k m (Store cell value)) cell
            by_word (inl i) = search (holds_on, arith)
            by_word (inr root) = search (never, same_number, arith)

-- a word that the caller's block has written before its own act
earlier_holds : (h : Header) (c : ℕ) (s : Situation) (k : TreeLocals) (g : Shape) (m : Memory)
    (act : Act) (rest : Script) (next : TreeLocals) (g' : Shape)
    (log : List Entry) (w : ℕ)
    → TreeDoes h s k g m act rest next g' → may_act h s act ≡ true → k.pending ≡ block_writes c log
    → has_block c log ≡ s.in_block → s.in_block ≡ true
    → (after_act s act).in_block ≡ true
    → ((lock : ℕ) → holds s lock ≡ true → holds (after_act s act) lock ≡ true)
    → ((o : Bool) → k.out ≡ o → next.out ≡ o → seen_after h s k m act ≡ m)
    → (k.out ≡ true → next.out ≡ true)
    → holds_word c w log ≡ true → MayHold h s k g m w → MayHold h (after_act s act) next g'
    (seen_after h s k m act) w
earlier_holds h c s k g m act rest next g' log w does may pending agree inside goes more same stays
    wrote_it hold =
    by_out k.out refl next.out refl
  where
    on : (o : Bool) → k.out ≡ o → next.out ≡ o → MayHold h (after_act s act) next g'
        (seen_after h s k m act) w
    on o e f =
        let within = does.within inside goes (f ∙ sym e) in
        subst (λ x. MayHold h (after_act s act) next g' x w) (sym (same o e f))
        (holds_on h s (after_act s act) k next g g' m w more within.0 within.1 (f ∙ sym e) hold)

    given : is_some (given_by w k.pending) ≡ true
    given = ap (λ ws. is_some (given_by w ws)) pending ∙ sym (wrote_is c w log (agree ∙ inside))
        ∙ (both_of (has_block c log) (wrote c w log) wrote_it).1

    by_out : (a : Bool) → k.out ≡ a → (b : Bool) → next.out ≡ b
        → MayHold h (after_act s act) next g' (seen_after h s k m act) w
    by_out false e false f = on false e f
    by_out true e true f = on true e f
    by_out true e false f = absurd (never f (stays e))
    by_out false e true f =
        inr (
          f,
          inr (all_given (IsWordOf (root_in h.size (seen_after h s k m act))) k.pending w
              (does.wrote e f) given),
        )

tree_covers : (h : Header) (c : ℕ) (did : Did) (s : Situation) (k : TreeLocals) (g : Shape)
    (m : Memory) (rest : Script) (next : TreeLocals) (g' : Shape)
    (log : List Entry) → Agrees c s log → Agrees c (after_act s (act_of_event did))
    (cons_option (logged c did) log)
    → may_act h s (act_of_event did) ≡ true → TreeDoes h s k g m (act_of_event did) rest next g'
    → IsLinked h.size g m → k.pending ≡ block_writes c log
    → ((w : ℕ) → holds_word c w log ≡ true → MayHold h s k g m w)
    → (w : ℕ) → holds_word c w (cons_option (logged c did) log) ≡ true
    → MayHold h (after_act s (act_of_event did)) next g' (seen_after h s k m (act_of_event did)) w
tree_covers h c (Read cell value) s k g m rest next g' log a b may does tree pending covers w e =
    absurd (never (a.in_block ∙ does.reaches.1) (both_of (has_block c log) (wrote c w log) e).0)
tree_covers h c (Took lock) s k g m rest next g' log a b may does tree pending covers w e =
    let inside = sym a.in_block ∙ (both_of (has_block c log) (wrote c w log) e).0 in
    earlier_holds h c s k g m (Take lock) rest next g' log w does may pending a.in_block inside
    inside
    (λ other held. or_right (lock == other) (holds s other) held) (λ o e f. refl)
    (λ out. cc (does.out)) e (covers w e)
tree_covers h c (Gave lock) s k g m rest next g' log a b may does tree pending covers w e =
    absurd (never (a.in_block ∙ does.reaches) (both_of (has_block c log) (wrote c w log) e).0)
tree_covers h c (Wrote cell value) s k g m rest next g' log a b may does tree pending covers w e =
    let parts = both_of (has_block c (entry c (Write cell value) ∷ log))
    (wrote c w (entry c (Write cell value) ∷ log)) e in
    by_place (sym (own_block c (Write cell value) log) ∙ parts.0) (cell == w) refl
    (sym (own_wrote c w (Write cell value) log) ∙ parts.1)
  where
    quiet_of : s.in_block ≡ true → MayStore h s k g m cell → k.out ≡ false
    quiet_of inside (inl within) = within.1
    quiet_of inside (inr outside) = absurd (never outside.0 inside)

    same : s.in_block ≡ true → (o : Bool) → k.out ≡ o → next.out ≡ o
        → seen_after h s k m (Store cell value) ≡ m
    same inside o f g = search (never, written, arith)

    by_place : has_block c log ≡ true → (t : Bool) → (cell == w) ≡ t
        → unwrap_or (option_or (cond t (Some true) None)
        (first_answer (by_caller c (write_or_open w)) log)) false ≡ true
        → MayHold h s next g' (seen_after h s k m (Store cell value)) w
    by_place inside true f last = search (same_of, store_holds, does, arith)
    by_place inside false f last =
        let within = sym a.in_block ∙ inside in
        let before : holds_word c w log ≡ true = (λ i. inside i && wrote c w log) ∙ last in
        earlier_holds h c s k g m (Store cell value) rest next g' log w does may pending a.in_block
        within within (λ lock held. held) (same within)
        (λ out. absurd (never (quiet_of within does.reaches) out)) before (covers w before)
tree_covers h c (Marked (Call method args)) s k g m rest next g' log a b may does tree pending
    covers w e = search (never, both_of, arith)
tree_covers h c (Marked (Return reply)) s k g m rest next g' log a b may does tree pending covers w
    e = search (never, both_of, arith)
tree_covers h c (Marked (Write word value)) s k g m rest next g' log a b may does tree pending
    covers w e = absurd does.reaches
tree_covers h c (Marked Commit) s k g m rest next g' log a b may does tree pending covers w e =
    search (never, four_true, is_some, both_of, arith)
tree_covers h c (Marked BlockOpen) s k g m rest next g' log a b may does tree pending covers w e =
    search (never, own_wrote, both_of, arith)
tree_covers h c (Marked BlockClose) s k g m rest next g' log a b may does tree pending covers w e =
    search (never, both_of, arith)
tree_covers h c (Marked BlockCommit) s k g m rest next g' log a b may does tree pending covers w e =
    search (never, both_of, arith)

-- the caller's own event
pub record TreeOwnStep (h : Header) (script : Script) (part : List Did) (log : List Entry) (c : ℕ)
    (did : Did) (k : TreeLocals) (g : Shape) (m : Memory)
    : Type 0 where
  pub next : TreeLocals
  pub grown : Shape
  pub does : TreeDoes h (situation_after part) k g m (act_of_event did)
      (after_answer (left_after script part) 0) next grown
  pub one : OfTreeCaller h script (did ∷ part) (cons_option (logged c did) log) c next grown
      (seen_after h (situation_after part) k m (act_of_event did))

pub tree_own_step : (h : Header) (script : Script) (part : List Did) (log : List Entry) (c : ℕ)
    (did : Did) (k : TreeLocals) (g : Shape) (m : Memory)
    → OfTreeCaller h script part log c k g m → IsLinked h.size g m
    → (holds (situation_after part) (root_lock h) ≡ true → k.out ≡ false
    → g.top ≡ level_at m (root_in h.size m))
    → Agrees c (situation_after part) log
    → Agrees c (after_act (situation_after part) (act_of_event did))
    (cons_option (logged c did) log)
    → may_act h (situation_after part) (act_of_event did) ≡ true
    → event_of (next_act (left_after script part)) (answer_of did) ≡ Some did
    → (TreeReaches h (situation_after part) k g m (act_of_event did) → answer_of did
    ≡ answer_at m (act_of_event did))
    → TreeOwnStep h script part log c did k g m
tree_own_step h script part log c did k g m one tree calm agrees agrees' may plays found = record {
  next = end.next;
  grown = end.grown;
  does = end.does;
  one = record {
    right = λ g' now rely.
        subst (λ answer. TreeRight h (after_act s (act_of_event did)) end.next g' now
        (after_answer (left_after script part) answer))
        (sym (found end.does.reaches)) (end.later g' now rely);
    pending = end.does.pending ∙ ap (λ ws. pending_after (act_of_event did) ws) one.pending
        ∙ sym (pending_step c did log);
    called = end.does.called ∙ ap (λ o. called_after (act_of_event did) o) one.called
        ∙ sym (called_step c did log);
    covers = tree_covers h c did s k g m (after_answer (left_after script part) 0) end.next
        end.grown log agrees agrees' may end.does tree one.pending one.covers;
    owns = owns_after h s k g m (act_of_event did) (after_answer (left_after script part) 0)
        end.next end.grown end.does;
    alone = alone_after h s k g m (act_of_event did) (after_answer (left_after script part) 0)
        end.next end.grown end.does may;
    ahead = ahead_after h s k g m (act_of_event did) (after_answer (left_after script part) 0)
        end.next end.grown end.does may one.ahead;
  };
}
  where
    s : Situation
    s = situation_after part

    end : TreeStepped h s k g m did (left_after script part)
    end = search (tree_stepped, rely_none, arith)

-- another caller's event
pub tree_other_step : (h : Header) (script : Script) (part : List Did) (log : List Entry) (c d : ℕ)
    (did : Did) (k : TreeLocals) (g : Shape) (m : Memory)
    (g' : Shape) (m' : Memory) → OfTreeCaller h script part log d k g m → IsLinked h.size g m
    → (c == d) ≡ false
    → TreeRely h (situation_after part) k g m g' m'
    → OfTreeCaller h script part (cons_option (logged c did) log) d k g' m'
tree_other_step h script part log c d did k g m g' m' one tree apart rely = record {
  right = λ g'' now more. one.right g'' now (tree_rely_more h s k g g' g'' m m' now rely more);
  pending = one.pending ∙ sym (pending_other d c did log apart);
  called = one.called ∙ sym (called_other d c did log apart);
  covers = λ w e. still_held w (one.covers w (sym (word_other d c w did log apart) ∙ e));
  owns = still_owns h s k g m g' m' one.owns rely;
  alone = one.alone;
  ahead = λ out. (let held = (one.alone out).0 in let above = one.ahead out in let top =
      (rely.root held).1 in let level = same_level held in
      omega (arith, above, top, level));
}
  where
    s : Situation
    s = situation_after part

    same_level : holds s (root_lock h) ≡ true → level_at m' (root_in h.size m')
        ≡ level_at m (root_in h.size m)
    same_level held = search (held, arith)

    still_held : (w : ℕ) → MayHold h s k g m w → MayHold h s k g' m' w
    still_held w (inl quiet) = inl (
      quiet.0,
      record {
        node = quiet.1.node;
        place = quiet.1.place;
        is = quiet.1.is;
        low = quiet.1.low;
        may = by_may quiet.1.node quiet.1.place quiet.1.may;
      },
    )
      where
        by_may : (node place : ℕ)
            → (k.fresh ≡ Some node) ⊎ ((g.linked node ≡ true) × (holds s (lock_of h node) ≡ true)
            × (place ≢ 0) × (level_at m node ≤ g.top))
            → (k.fresh ≡ Some node) ⊎ ((g'.linked node ≡ true) × (holds s (lock_of h node) ≡ true)
            × (place ≢ 0) × (level_at m' node ≤ g'.top))
        by_may node place e2 = search arith
    still_held w (inr seen) = inr (seen.0, by_word seen.1)
      where
        by_word : (w ≡ root_cell h) ⊎ IsWordOf (root_in h.size m) w → (w ≡ root_cell h)
            ⊎ IsWordOf (root_in h.size m') w
        by_word e0 = search arith
