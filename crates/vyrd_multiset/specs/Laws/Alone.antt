-- Proofs of laws that an impl in src/ names: no contract says what is defined here.
-- Each correct procedure, played alone, does what the specification says.
pub mod FreeSlots
pub mod Changes
pub mod Played
pub mod Done
use Rattle.std.proofs.Common.{◌≡◌, ℕ, ◌-◌, inl, inr, true, cond, not, Some, None, refl}
use Rattle.std.proofs.Common.{ap, ◌∙◌, sym, subst, arith}
use Rattle.std.specs.Prelude.{◌==◌, IsSome}
use Rattle.std.specs.Bool.{then_some}
use Rattle.vyrd_base.specs.declared.header.Header.{Header}
use Rattle.vyrd_base.specs.declared.subject.Subject.TheVariants.{Multiset}
use Rattle.vyrd_base.specs.declared.subject.Method.{Method}
use Rattle.vyrd_base.specs.declared.subject.Method.TheVariants.{Multiset as OfMultiset}
use Rattle.vyrd_base.specs.declared.subject.Method.TheVariants.{Cache as OfCache, Tree as OfTree}
use Rattle.vyrd_base.specs.declared.subject.Method.TheVariants.{Buffers as OfBuffers}
use Rattle.vyrd_base.specs.declared.subject.Method.TheVariants.{OwnNever, OwnAtMostOnce, OwnOnce}
use Rattle.vyrd_base.specs.declared.multiset.MultisetMethod.TheVariants.{Insert as MsInsert}
use Rattle.vyrd_base.specs.declared.multiset.MultisetMethod.TheVariants.{InsertPair}
use Rattle.vyrd_base.specs.declared.multiset.MultisetMethod.TheVariants.{Delete as MsDelete}
use Rattle.vyrd_base.specs.declared.multiset.MultisetMethod.TheVariants.{Lookup as MsLookup}
use Rattle.vyrd_base.specs.declared.cache.CacheMethod.TheVariants.{Write, Flush, Evict}
use Rattle.vyrd_base.specs.declared.cache.CacheMethod.TheVariants.{Read as CaRead}
use Rattle.vyrd_base.specs.declared.tree.TreeMethod.TheVariants.{Insert as TrInsert}
use Rattle.vyrd_base.specs.declared.tree.TreeMethod.TheVariants.{Delete as TrDelete}
use Rattle.vyrd_base.specs.declared.tree.TreeMethod.TheVariants.{Lookup as TrLookup}
use Rattle.vyrd_base.specs.declared.buffers.BuffersMethod.TheVariants.{Append, AppendFrom, Cut}
use Rattle.vyrd_base.specs.declared.buffers.BuffersMethod.TheVariants.{Length, Read as BuRead}
use Rattle.vyrd_base.specs.declared.subject.Args.{Args}
use Rattle.vyrd_base.specs.Subjects.{subject_of, is_observer}
use Rattle.vyrd_base.specs.Amounts.{Amounts, amount_of, with_amount, plus_amount}
use Rattle.vyrd_base.specs.Structures.{by_reply}
use Rattle.vyrd_base.specs.Specification.{next_state}
use Rattle.vyrd_memory.specs.declared.op.Op.{Op}
use Rattle.vyrd_memory.specs.declared.op.Variant.TheVariants.{Correct}
use Rattle.vyrd_memory.specs.Scripts.{Script}
use Rattle.vyrd_memory.specs.Alone.{Memory, alone, state_in, state_after, MeetsSpecification}
use Rattle.vyrd_memory.specs.Alone.{IsRightAlone}
use Rattle.vyrd_memory.proofs.AloneLaws.{EndsSo, ended_with, is_there, isnt_there}
use Rattle.vyrd_multiset.specs.Procedures.{insert, insert_pair, delete, lookup, procedure_of}
use Rattle.vyrd_multiset.specs.Contents.{IsMultiset}
use Rattle.vyrd_multiset.specs.Laws.Alone.Changes.{is_multiset, multiset_represented}
use Rattle.vyrd_multiset.specs.Laws.Alone.Done.{InsertDone, insert_done, PairDone, pair_done}
use Rattle.vyrd_multiset.specs.Laws.Alone.Done.{DeleteDone, delete_done, LookupDone, lookup_done}

-- the memory at the end represents the state that the specification says
record Meets (h : Header) (op : Op) (s : Amounts) (reply : ℕ) (after : Memory) : Type 0 where
  state : Amounts
  says : state_after (is_observer op.method) op reply s ≡ Some state
  is : IsMultiset h after state

meets : (h : Header) (op : Op) (script : Script) (c : ℕ) (memory : Memory) (s : Amounts)
    → h.subject ≡ Multiset → (Q : ℕ → Memory → Type 0) → EndsSo (alone c script memory) Q
    → ((reply : ℕ) (after : Memory) → Q reply after → Meets h op s reply after)
    → MeetsSpecification h op script c memory s
meets h op script c memory s is Q ended says =
    let o = ended_with (alone c script memory) Q ended in
    let m = says o.0.reply o.0.memory o.2 in
    let e : state_in h o.0.memory ≡ Some m.state =
    multiset_represented h o.0.memory m.state is m.is in
    record {
      outcome = o.0;
      ends = o.1;
      after = e ∙ sym m.says;
      goes_on = subst (λ o. IsSome o) (sym e) refl;
    }

by_method_right : (h : Header) (method : Method) (args : Args) → h.subject ≡ Multiset
    → subject_of method ≡ Multiset → (c : ℕ) (memory : Memory) (s : Amounts) → IsMultiset h memory s
    → MeetsSpecification h (record { method = method; args = args })
    (procedure_of h Correct method args) c memory s
by_method_right h (OfMultiset MsInsert) args is of c memory s m =
    meets h (record { method = OfMultiset MsInsert; args = args }) (insert h Correct args.a) c
    memory s is
    (InsertDone h memory s args.a)
    (insert_done h is c memory s args.a m) says
  where
    says : (reply : ℕ) (after : Memory) → InsertDone h memory s args.a reply after
        → Meets h (record { method = OfMultiset MsInsert; args = args }) s reply after
    says reply after (inl d) = record {
      state = plus_amount s args.a 1;
      says = ap (λ r. by_reply r (Some s) (Some (plus_amount s args.a 1)) None) d.0;
      is = d.1;
    }
    says reply after (inr d) = record {
      state = s;
      says = ap (λ r. by_reply r (Some s) (Some (plus_amount s args.a 1)) None) d.0;
      is = d.1;
    }
by_method_right h (OfMultiset InsertPair) args is of c memory s m =
    meets h (record { method = OfMultiset InsertPair; args = args })
    (insert_pair h Correct args.a args.b) c
    memory s is (PairDone h memory s args.a args.b)
    (pair_done h is c memory s args.a args.b m) says
  where
    says : (reply : ℕ) (after : Memory) → PairDone h memory s args.a args.b reply after
        → Meets h (record { method = OfMultiset InsertPair; args = args }) s reply after
    says reply after (inl d) = record {
      state = plus_amount (plus_amount s args.a 1) args.b 1;
      says =
          ap (λ r. by_reply r (Some s) (Some (plus_amount (plus_amount s args.a 1) args.b 1)) None)
          d.0;
      is = d.1;
    }
    says reply after (inr d) = record {
      state = s;
      says =
          ap (λ r. by_reply r (Some s) (Some (plus_amount (plus_amount s args.a 1) args.b 1)) None)
          d.0;
      is = d.1;
    }
by_method_right h (OfMultiset MsDelete) args is of c memory s m =
    meets h (record { method = OfMultiset MsDelete; args = args }) (delete h args.a) c memory s is
    (DeleteDone h s args.a)
    (delete_done h is c memory s args.a m) says
  where
    fewer : Amounts
    fewer = with_amount s args.a (amount_of s args.a - 1)

    says : (reply : ℕ) (after : Memory) → DeleteDone h s args.a reply after
        → Meets h (record { method = OfMultiset MsDelete; args = args }) s reply after
    says reply after (inl d) = record {
      state = with_amount s args.a (amount_of s args.a - 1);
      says = ap (λ r. next_state (OfMultiset MsDelete) args r s) d.0
          ∙ ap (λ b. then_some b (with_amount s args.a (amount_of s args.a - 1)))
          (is_there s args.a (let some = d.2 in omega (arith, some)));
      is = d.1;
    }
    says reply after (inr d) = record {
      state = s;
      says = ap (λ r. next_state (OfMultiset MsDelete) args r s) d.0
          ∙ ap (λ b. then_some (not b) s) (isnt_there s args.a d.2);
      is = d.1;
    }
by_method_right h (OfMultiset MsLookup) args is of c memory s m =
    meets h (record { method = OfMultiset MsLookup; args = args }) (lookup h args.a) c memory s is
    (LookupDone h s args.a)
    (lookup_done h is c memory s args.a m) says
  where
    says : (reply : ℕ) (after : Memory) → LookupDone h s args.a reply after
        → Meets h (record { method = OfMultiset MsLookup; args = args }) s reply after
    says reply after (m', inl d) = record {
      state = s;
      says = ap (λ r. state_after true (record { method = OfMultiset MsLookup; args = args }) r s)
          d.0
          ∙ ap (λ b. cond (1 == cond b 1 0) (Some s) None)
          (is_there s args.a (let some = d.1 in omega (arith, some)));
      is = m';
    }
    says reply after (m', inr d) = record {
      state = s;
      says = ap (λ r. state_after true (record { method = OfMultiset MsLookup; args = args }) r s)
          d.0
          ∙ ap (λ b. cond (0 == cond b 1 0) (Some s) None) (isnt_there s args.a d.1);
      is = m';
    }
by_method_right h (OfCache Write) args is of c memory s m = absurd (cc)
by_method_right h (OfCache Flush) args is of c memory s m = absurd (cc)
by_method_right h (OfCache Evict) args is of c memory s m = absurd (cc)
by_method_right h (OfCache CaRead) args is of c memory s m = absurd (cc)
by_method_right h (OfTree TrInsert) args is of c memory s m = absurd (cc)
by_method_right h (OfTree TrDelete) args is of c memory s m = absurd (cc)
by_method_right h (OfTree TrLookup) args is of c memory s m = absurd (cc)
by_method_right h (OfBuffers Append) args is of c memory s m = absurd (cc)
by_method_right h (OfBuffers AppendFrom) args is of c memory s m = absurd (cc)
by_method_right h (OfBuffers Cut) args is of c memory s m = absurd (cc)
by_method_right h (OfBuffers Length) args is of c memory s m = absurd (cc)
by_method_right h (OfBuffers BuRead) args is of c memory s m = absurd (cc)
by_method_right h (OwnNever i) args is of c memory s m = cc
by_method_right h (OwnAtMostOnce i) args is of c memory s m = cc
by_method_right h (OwnOnce i) args is of c memory s m = cc

pub procedure_right_alone : (h : Header) (method : Method) (args : Args)
    → h.subject ≡ Multiset → subject_of method ≡ Multiset
    → IsRightAlone h (record { method = method; args = args }) (procedure_of h Correct method args)
procedure_right_alone h method args is of = λ c memory s e.
    by_method_right h method args is of c memory s (is_multiset h memory s is e)
