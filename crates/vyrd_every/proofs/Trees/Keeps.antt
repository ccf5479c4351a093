-- The invariant of the tree, as what the rest of the proof asks for.
use Rattle.vyrd_every.proofs.Prelude
use Prelude.{◌≡◌, ℕ, ◌<◌, inl, true, false, List, [], refl, ap, subst, Header, Tree, Stamped}
use Prelude.{Amounts, start, Act, Load, Store, Take, Give, Mark, Done, Memory, Script, stop, step}
use Prelude.{next_act, left_after, Situation, holds, at_rest, AreSoundScripts, part_of, script_of}
use Prelude.{is_done, situation_after, IsRun, shown_by, Shape, IsLinked, TreeLocals}
use Prelude.{empty_tree_locals, TreeReaches, TreeRight, TreeInvariant, first_shape}
use Rattle.vyrd_every.proofs.Keeping.{Keeping}
use Rattle.vyrd_every.proofs.Trees.Starts.{starts_linked, starts_state}
use Rattle.vyrd_every.proofs.Trees.NextEvent.{tree_next_event, tree_calm}
use Rattle.vyrd_every.proofs.Trees.Ones.{rely_none}
use Rattle.vyrd_every.proofs.Trees.Shown.{view_between}

-- the scripts of all callers are sound and do right from any linked tree on
pub record AreTreesRight (h : Header) (scripts : List Script) : Type 0 where
  pub version : h.version ≡ 1
  pub subject : h.subject ≡ Tree
  pub some : 0 < h.size
  pub sound : AreSoundScripts h scripts
  pub right : (c : ℕ) → c < h.callers → (g : Shape) (m : Memory) → IsLinked h.size g m
      → TreeRight h at_rest empty_tree_locals g m (script_of scripts c)

-- nothing was done yet
tree_begins : (h : Header) (scripts : List Script) → AreTreesRight h scripts
    → TreeInvariant h scripts [] (λ c. empty_tree_locals) first_shape (shown_by []) [] start.shown
tree_begins h scripts are = record {
  kept = tt;
  tree = starts_linked h.size are.some;
  each = λ c low. record {
    right = λ g' now rely. are.right c low g' now rely.tree;
    pending = refl;
    called = refl;
    covers = λ w e. cc;
    owns = record { fresh = λ n mine. cc; hanging = λ n mine. cc };
    alone = λ out. cc;
    ahead = λ out. cc;
  };
  apart = λ c d low_c low_d other. record { fresh = λ n its mine. cc; hanging = λ n its mine. cc };
  ties = inl (record { quiet = λ c low. refl; same = refl; calm = refl });
  shows = starts_state;
  count = refl;
  seen = λ c low called is reply answer. cc;
}

takes_higher : (h : Header) (s : Situation) (k : TreeLocals) (g : Shape) (m : Memory)
    (script : Script) (lock : ℕ) → TreeRight h s k g m script
    → next_act script ≡ Take lock → (held : ℕ) → holds s held ≡ true → held < lock
takes_higher h s k g m stop lock right e = cc
takes_higher h s k g m (step act rest) lock right e = subst (TreeReaches h s k g m) e
    right.2.reaches

done_holds : (h : Header) (s : Situation) (k : TreeLocals) (g : Shape) (m : Memory)
    (script : Script) (lock : ℕ) → TreeRight h s k g m script
    → is_done (next_act script) ≡ true → holds s lock ≡ false
done_holds h s k g m stop lock right e = ap (λ s. holds s lock) right.rests
done_holds h s k g m (step act rest) lock right e = absurd (undone act right.2.reaches e)
  where
    undone : (act : Act) → TreeReaches h s k g m act → is_done act ≡ true → ⊥
    undone (Load cell) reaches f = cc
    undone (Store cell value) reaches f = cc
    undone (Take other) reaches f = cc
    undone (Give other) reaches f = cc
    undone (Mark kind) reaches f = cc
    undone Done reaches f = reaches

pub tree_keeping : (h : Header) (scripts : List Script) → AreTreesRight h scripts
    → Keeping h scripts
tree_keeping h scripts are = record {
  sound = are.sound;
  Holds = λ earlier passed state. (locals : ℕ → TreeLocals) × (g : Shape) × (m : Memory)
      × TreeInvariant h scripts earlier locals g m passed state;
  begins = (λ c. empty_tree_locals, first_shape, shown_by [], tree_begins h scripts are);
  goes_on = λ earlier number c did passed state run inv.
      let next = tree_next_event h scripts earlier number c did inv.0 inv.1 inv.2 passed state
      are.version are.sound run inv.3 in
      record {
        next = next.next;
        holds_now = (next.locals, next.g, next.m, next.holds);
        leading = next.leading;
        returning = next.returning;
      };
  kept = λ earlier passed state inv. inv.3.kept;
  count = λ earlier passed state inv. inv.3.count;
  view = λ earlier passed state run inv. view_between h scripts earlier inv.0 inv.1 inv.2 passed
      state are.subject are.sound run inv.3;
  upward = λ earlier passed state run inv c low lock takes.
      takes_higher h (situation_after (part_of c earlier)) (inv.0 c) inv.1 inv.2
      (left_after (script_of scripts c) (part_of c earlier)) lock
      (right earlier passed state run inv.0 inv.1 inv.2 inv.3 c low) takes;
  idle = λ earlier passed state run inv c low done lock.
      done_holds h (situation_after (part_of c earlier)) (inv.0 c) inv.1 inv.2
      (left_after (script_of scripts c) (part_of c earlier)) lock
      (right earlier passed state run inv.0 inv.1 inv.2 inv.3 c low) done;
}
  where
    right : (earlier : List Stamped) (passed : List Amounts) (state : Amounts)
        → IsRun h scripts earlier
        → (locals : ℕ → TreeLocals) (g : Shape) (m : Memory)
        → TreeInvariant h scripts earlier locals g m passed state
        → (c : ℕ) → c < h.callers → TreeRight h (situation_after (part_of c earlier)) (locals c) g m
        (left_after (script_of scripts c) (part_of c earlier))
    right earlier passed state run locals g m inv c low =
        (inv.each c low).right g m
        (rely_none h (situation_after (part_of c earlier)) (locals c) g m inv.tree
        (tree_calm h scripts earlier locals g m passed state are.sound run inv c low))
