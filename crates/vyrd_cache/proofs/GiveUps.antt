-- That no operation gives up: the specification refuses the reply 0.
use Rattle.std.proofs.Common.{◌≡◌, ℕ, true, false, None, Some, refl, sym, subst}
use Rattle.vyrd_base.specs.declared.header.Header.{Header}
use Rattle.vyrd_base.specs.declared.subject.Subject.TheVariants.{Cache}
use Rattle.vyrd_base.specs.declared.subject.Method.{Method}
use Rattle.vyrd_base.specs.declared.subject.Method.TheVariants.{Multiset as OfMultiset}
use Rattle.vyrd_base.specs.declared.subject.Method.TheVariants.{Cache as OfCache, Tree as OfTree}
use Rattle.vyrd_base.specs.declared.subject.Method.TheVariants.{Buffers as OfBuffers}
use Rattle.vyrd_base.specs.declared.subject.Method.TheVariants.{OwnNever, OwnAtMostOnce, OwnOnce}
use Rattle.vyrd_base.specs.declared.cache.CacheMethod.TheVariants.{Write, Flush, Evict, Read}
use Rattle.vyrd_base.specs.declared.subject.Args.{Args}
use Rattle.vyrd_base.specs.Amounts.{Amounts}
use Rattle.vyrd_base.specs.Specification.{next_state}
use Rattle.vyrd_base.specs.Subjects.{subject_of, is_observer, are_args}
use Rattle.vyrd_base.proofs.ListLaws.{none_isnt_some}
use Rattle.vyrd_memory.specs.declared.op.Op.{Op}
use Rattle.vyrd_memory.specs.declared.op.Variant.TheVariants.{Correct}
use Rattle.vyrd_memory.specs.Arguments.{are_small}
use Rattle.vyrd_memory.specs.Alone.{Memory, state_in, alone, GivesUpWhere, MeetsSpecification}
use Rattle.vyrd_cache.specs.Procedures.{cache_procedure}
use Rattle.vyrd_cache.specs.Laws.{cache_is_right_alone}

refused : (method : Method) (args : Args) (state : Amounts) → subject_of method ≡ Cache
    → is_observer method ≡ false → next_state method args 0 state ≡ None
refused (OfCache Write) args state of changes = refl
refused (OfCache Flush) args state of changes = refl
refused (OfCache Evict) args state of changes = refl
refused (OfCache Read) args state of changes = cc
refused (OfMultiset other) args state of changes = cc
refused (OfTree other) args state of changes = cc
refused (OfBuffers other) args state of changes = cc
refused (OwnNever i) args state of changes = cc
refused (OwnAtMostOnce i) args state of changes = cc
refused (OwnOnce i) args state of changes = cc

pub never_gives_up : (h : Header) (memory : Memory) (state : Amounts) (c : ℕ) (op : Op)
    → h.subject ≡ Cache → subject_of op.method ≡ Cache → is_observer op.method ≡ false
    → are_args h.size op.method op.args ≡ true → are_small op.args ≡ true
    → state_in h memory ≡ Some state
    → GivesUpWhere ⊥ (alone c (cache_procedure h Correct op) memory)
never_gives_up h memory state c op is of changes fit small e = subst (GivesUpWhere ⊥) (sym m.ends)
    (refuses, λ none. absurd none)
  where
    m : MeetsSpecification h op (cache_procedure h Correct op) c memory state
    m = cache_is_right_alone h op is of fit small c memory state e

    refuses : m.outcome.reply ≡ 0 → ⊥
    refuses zero = none_isnt_some (state_in h m.outcome.memory)
        (cc (m.after, refused op.method op.args state of changes)) m.goes_on
