-- Proofs of laws that an impl in src/ names: no contract says what is defined here.
-- Each correct procedure, played alone, does what the specification says.
--
-- A tree in a memory is said by what holds of each node in use (Contents), for the least key that
-- each may have, its low. On each level the nodes' ranges of keys share no key, and every key has
-- its node (Order). So the chain of the leaves shows for a key what the leaf of its range gives
-- (View). Such a tree is what the tests of its words say (Tested), and a memory that represents a
-- state has one (Changes). A walk arrives at the node of the key's range (WalkArrives), a changed
-- leaf keeps the tree (EntriesStaySound, Done), a split and a new root keep it (SplitKeepsTree,
-- RootKeepsTree), and so does each round of the ascent (AscentKeepsState).
pub mod Counts
pub mod Order
pub mod Entries
pub mod View
pub mod Tested
pub mod Changes
pub mod EntriesStaySound
pub mod Played
pub mod WalkArrives
pub mod SplitKeepsTree
pub mod RootKeepsTree
pub mod BlocksPlayed
pub mod Done
pub mod SplitWrites
pub mod FullNodeSplits
pub mod AscentKeepsState
pub mod NewKey
pub mod Inserted
use Rattle.std.proofs.Common.{◌≡◌, ℕ, ◌+◌, ◌-◌, ◌<◌, ◌^◌, inl, inr, true, cond, not}
use Rattle.std.proofs.Common.{Option, Some, None, refl, ap, ◌∙◌, sym, subst, arith}
use Rattle.std.specs.Prelude.{◌==◌, IsSome}
use Rattle.std.specs.Bool.{then_some}
use Rattle.vyrd_base.specs.declared.header.Header.{Header}
use Rattle.vyrd_base.specs.declared.subject.Subject.TheVariants.{Tree}
use Rattle.vyrd_base.specs.declared.subject.Method.{Method}
use Rattle.vyrd_base.specs.declared.subject.Method.TheVariants.{Multiset as OfMultiset}
use Rattle.vyrd_base.specs.declared.subject.Method.TheVariants.{Cache as OfCache, Tree as OfTree}
use Rattle.vyrd_base.specs.declared.subject.Method.TheVariants.{Buffers as OfBuffers}
use Rattle.vyrd_base.specs.declared.subject.Method.TheVariants.{OwnNever, OwnAtMostOnce, OwnOnce}
use Rattle.vyrd_base.specs.declared.multiset.MultisetMethod.TheVariants.{Insert as MsInsert}
use Rattle.vyrd_base.specs.declared.multiset.MultisetMethod.TheVariants.{InsertPair}
use Rattle.vyrd_base.specs.declared.multiset.MultisetMethod.TheVariants.{Delete as MsDelete}
use Rattle.vyrd_base.specs.declared.multiset.MultisetMethod.TheVariants.{Lookup as MsLookup}
use Rattle.vyrd_base.specs.declared.cache.CacheMethod.TheVariants.{Write, Flush, Evict}
use Rattle.vyrd_base.specs.declared.cache.CacheMethod.TheVariants.{Read as CaRead}
use Rattle.vyrd_base.specs.declared.tree.TreeMethod.TheVariants.{Insert as TrInsert}
use Rattle.vyrd_base.specs.declared.tree.TreeMethod.TheVariants.{Delete as TrDelete}
use Rattle.vyrd_base.specs.declared.tree.TreeMethod.TheVariants.{Lookup as TrLookup}
use Rattle.vyrd_base.specs.declared.buffers.BuffersMethod.TheVariants.{Append, AppendFrom, Cut}
use Rattle.vyrd_base.specs.declared.buffers.BuffersMethod.TheVariants.{Length, Read as BuRead}
use Rattle.vyrd_base.specs.declared.subject.Args.{Args}
use Rattle.vyrd_base.specs.Subjects.{subject_of, is_observer}
use Rattle.vyrd_base.specs.Amounts.{Amounts, amount_of, with_amount}
use Rattle.vyrd_base.specs.Specification.{next_state, answer_in}
use Rattle.vyrd_base.proofs.TestLaws.{is_same}
use Rattle.vyrd_memory.specs.declared.op.Op.{Op}
use Rattle.vyrd_memory.specs.declared.op.Variant.TheVariants.{Correct}
use Rattle.vyrd_memory.specs.Scripts.{Script}
use Rattle.vyrd_memory.specs.Arguments.{are_small}
use Rattle.vyrd_memory.proofs.Small.{small_a, small_b}
use Rattle.vyrd_memory.specs.Alone.{Memory, alone, state_in, state_after, MeetsSpecification}
use Rattle.vyrd_memory.specs.Alone.{IsRightAlone}
use Rattle.vyrd_tree.specs.Procedures.{procedure_of, lookup, delete, insert_entry}
use Rattle.vyrd_tree.specs.Contents.{TreeRepresents}
use Rattle.vyrd_tree.specs.Laws.Alone.Changes.{tree_represents, tree_represented}
use Rattle.vyrd_memory.proofs.AloneLaws.{EndsSo, ended_with, is_there, isnt_there}
use Rattle.vyrd_tree.specs.Laws.Alone.Done.{Meets, lookup_alone, delete_alone}
use Rattle.vyrd_tree.specs.Laws.Alone.Inserted.{InsertDone, insert_alone}

-- what the specification says of each reply
abbrev says_of : Op → Amounts → ℕ → Option Amounts
says_of op s reply = state_after (is_observer op.method) op reply s

meets : (h : Header) (op : Op) (script : Script) (c : ℕ) (memory : Memory) (s : Amounts)
    → h.subject ≡ Tree → (Q : ℕ → Memory → Type 0) → EndsSo (alone c script memory) Q
    → ((reply : ℕ) (after : Memory) → Q reply after → Meets h (says_of op s) reply after)
    → MeetsSpecification h op script c memory s
meets h op script c memory s is Q ended says =
    let o = ended_with (alone c script memory) Q ended in
    let m = says o.0.reply o.0.memory o.2 in
    let e : state_in h o.0.memory ≡ Some m.state =
    tree_represented h o.0.memory m.state is m.represents in
    record {
      outcome = o.0;
      ends = o.1;
      after = e ∙ sym m.allowed;
      goes_on = subst (λ o. IsSome o) (sym e) refl;
    }

by_method_right : (h : Header) (method : Method) (args : Args) → h.subject ≡ Tree
    → subject_of method ≡ Tree → args.a < 2 ^ 32 → args.b < 2 ^ 32
    → (c : ℕ) (memory : Memory) (s : Amounts) → TreeRepresents h memory s
    → MeetsSpecification h (record { method = method; args = args })
    (procedure_of h Correct method args) c memory s
by_method_right h (OfTree TrInsert) args is of small_key small c memory s st =
    meets h (record { method = OfTree TrInsert; args = args })
    (insert_entry h Correct args.a args.b) c
    memory s is (InsertDone h memory s args.a args.b)
    (insert_alone h c memory s args.a args.b st small_key small) says
  where
    next : Amounts
    next = with_amount s args.a (2 ^ 32 + args.b)

    says : (reply : ℕ) (after : Memory) → InsertDone h memory s args.a args.b reply after
        → Meets h (says_of (record { method = OfTree TrInsert; args = args }) s) reply after
    says reply after (inl d) =
        record {
          state = s;
          allowed = ap (λ r. next_state (OfTree TrInsert) args r s) d.0;
          represents = d.2;
        }
    says reply after (inr (inl d)) = record {
      state = next;
      allowed = ap (λ r. next_state (OfTree TrInsert) args r s) d.0
          ∙ ap (λ b. then_some (not b) (with_amount s args.a (2 ^ 32 + args.b)))
          (isnt_there s args.a d.1);
      represents = d.2;
    }
    says reply after (inr (inr d)) = record {
      state = next;
      allowed = ap (λ r. next_state (OfTree TrInsert) args r s) d.0
          ∙ ap (λ b. then_some b (with_amount s args.a (2 ^ 32 + args.b))) (is_there s args.a d.1);
      represents = d.2;
    }
by_method_right h (OfTree TrDelete) args is of small_key small c memory s st =
    meets h (record { method = OfTree TrDelete; args = args }) (delete h Correct args.a) c memory s
    is _
    (delete_alone h c memory s args.a st)
    (λ reply after d. elim d as
    (λ d. Meets h (says_of (record { method = OfTree TrDelete; args = args }) s) reply after) [
      | inl d ↦ record {
        state = s;
        allowed = ap (λ r. next_state (OfTree TrDelete) args r s) d.1
            ∙ ap (λ b. then_some (not b) s) (isnt_there s args.a d.0);
        represents = d.2;
      }
      | inr d ↦ record {
        state = with_amount s args.a 0;
        allowed = ap (λ r. next_state (OfTree TrDelete) args r s) d.1
            ∙ ap (λ b. then_some b (with_amount s args.a 0)) (is_there s args.a d.0);
        represents = d.2;
      }
    ])
by_method_right h (OfTree TrLookup) args is of small_key small c memory s st =
    meets h (record { method = OfTree TrLookup; args = args }) (lookup h Correct args.a) c memory s
    is _
    (lookup_alone h c memory s args.a st)
    (λ reply after d. record { state = s; allowed = answered reply d.1; represents = d.0 })
  where
    answers : (reply : ℕ) → reply ≡ answer_in s (OfTree TrLookup) args
        → cond (reply == answer_in s (OfTree TrLookup) args) (Some s) None ≡ Some s
    answers reply e = ap (λ b. cond b (Some s) None)
        (is_same reply (answer_in s (OfTree TrLookup) args) e)

    answered : (reply : ℕ) → Rattle.std.proofs.Common.◌⊎◌ ((amount_of s args.a ≡ 0) × (reply ≡ 0))
        ((value : ℕ) × (amount_of s args.a ≡ 2 ^ 32 + value) × (reply ≡ value + 1))
        → cond (reply == answer_in s (OfTree TrLookup) args) (Some s) None ≡ Some s
    answered reply (inl d) = answers reply
        (d.1 ∙ sym (ap (λ b. cond b (amount_of s args.a - 2 ^ 32 + 1) 0) (isnt_there s args.a d.0)))
    answered reply (inr d) =
        answers reply (d.2 ∙ plus_one d.0 (amount_of s args.a) d.1
        ∙ sym (ap (λ b. cond b (amount_of s args.a - 2 ^ 32 + 1) 0)
        (is_there s args.a (let e = d.1 in omega (arith, e)))))
      where
        plus_one : (value amount : ℕ) → amount ≡ 2 ^ 32 + value → value + 1 ≡ amount - 2 ^ 32 + 1
        plus_one value amount e = omega arith
by_method_right h (OfMultiset MsInsert) args is of small_key small c memory s st = absurd (cc)
by_method_right h (OfMultiset InsertPair) args is of small_key small c memory s st = absurd (cc)
by_method_right h (OfMultiset MsDelete) args is of small_key small c memory s st = absurd (cc)
by_method_right h (OfMultiset MsLookup) args is of small_key small c memory s st = absurd (cc)
by_method_right h (OfCache Write) args is of small_key small c memory s st = absurd (cc)
by_method_right h (OfCache Flush) args is of small_key small c memory s st = absurd (cc)
by_method_right h (OfCache Evict) args is of small_key small c memory s st = absurd (cc)
by_method_right h (OfCache CaRead) args is of small_key small c memory s st = absurd (cc)
by_method_right h (OfBuffers Append) args is of small_key small c memory s st = absurd (cc)
by_method_right h (OfBuffers AppendFrom) args is of small_key small c memory s st = absurd (cc)
by_method_right h (OfBuffers Cut) args is of small_key small c memory s st = absurd (cc)
by_method_right h (OfBuffers Length) args is of small_key small c memory s st = absurd (cc)
by_method_right h (OfBuffers BuRead) args is of small_key small c memory s st = absurd (cc)
by_method_right h (OwnNever i) args is of small_key small c memory s st = cc
by_method_right h (OwnAtMostOnce i) args is of small_key small c memory s st = cc
by_method_right h (OwnOnce i) args is of small_key small c memory s st = cc

pub procedure_right_alone : (h : Header) (method : Method) (args : Args)
    → h.subject ≡ Tree → subject_of method ≡ Tree → are_small args ≡ true
    → IsRightAlone h (record { method = method; args = args }) (procedure_of h Correct method args)
procedure_right_alone h method args is of small = λ c memory s e.
    by_method_right h method args is of (small_a args small) (small_b args small) c memory s
    (tree_represents h memory s is e)
