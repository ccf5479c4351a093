-- The laws, of workloads.
use Rattle.vyrd_every.proofs.Prelude
use Prelude.{option_or, AllByRecursion, Header, Multiset, Cache, Tree, Buffers, Kind, Entry}
use Prelude.{Stamped, Place, places, first_answer, newest_first, is_built_in, first_break, State}
use Prelude.{fault_at, log_of, violation_at, states_along, first_fault, is_call_open, accepted}
use Prelude.{verdict, Op, Correct, Memory, is_callable, are_callable, Script, operations, at_rest}
use Prelude.{script_of, GetsStuck, IsRun, Workload, KeepsLimits, procedure_in, ops_of, work_script}
use Prelude.{work_scripts, ops_are_callable, script_at, scripts_sound, IsCorrect, IsSchedule}
use Prelude.{Structure, empty_locals, DoesRight, IsRight, AreRight, multiset, cache, buffers}
use Prelude.{IsCorrectTree, multiset_procedure, cache_procedure, buffers_procedure, rules_of}
use Rattle.std.proofs.Common.{option_map, ◌≡◌, ℕ, ◌+◌, ◌*◌, ◌<◌, ◌≤◌, Bool, true, false, List, []}
use Rattle.std.proofs.Common.{◌∷◌, Option, Some, None, length, refl, ap, ◌∙◌, sym, subst, arith}
use Rattle.vyrd_base.specs.declared.subject.Subject.{Subject}
use Rattle.vyrd_base.specs.declared.subject.Subject.TheVariants.{Own}
use Rattle.vyrd_base.specs.declared.verdict.Why.{Why}
use Rattle.vyrd_base.specs.declared.verdict.Verdict.TheVariants.{Violation}
use Rattle.vyrd_base.specs.Verdicts.{line_of}
use Rattle.vyrd_base.proofs.HeaderLaws.{some_size}
use Rattle.vyrd_memory.specs.Bounds.{bound_in, bounds_of}
use Rattle.vyrd_work.proofs.BuiltIn.{work_built_in}
use Rattle.vyrd_work.proofs.ScriptLaws.{ops_are_few}
use Rattle.vyrd_every.specs.Schedules.{has_few_events, most_few_events, most_cache_events}
use Rattle.vyrd_every.specs.Schedules.{IsCorrectWithFewEvents}
use Rattle.vyrd_every.proofs.Followed.{operations_right}
use Rattle.vyrd_every.proofs.Multisets.Guards.{multiset_fits}
use Rattle.vyrd_every.proofs.Multisets.Wholes.{multiset_right}
use Rattle.vyrd_every.proofs.Caches.Guards.{cache_fits}
use Rattle.vyrd_every.proofs.Caches.Wholes.{cache_right}
use Rattle.vyrd_every.proofs.Buffers.Guards.{buffers_fit}
use Rattle.vyrd_every.proofs.Buffers.Wholes.{buffers_right}
use Rattle.vyrd_every.proofs.Keeping.{Keeping}
use Rattle.vyrd_every.proofs.Trees.Wholes.{tree_script_right}
use Rattle.vyrd_every.proofs.Trees.Keeps.{tree_keeping}
use Rattle.vyrd_every.proofs.Kept.{keeping_of}
use Rattle.vyrd_every.proofs.Reached.{no_break, all_front}
use Rattle.vyrd_every.proofs.Accepted.{AreDone, whole_run, none_open_at_end, no_fault, is_accepted}
use Rattle.vyrd_every.proofs.Unstuck.{never_stuck}

-- the script of a caller does right, if the procedure of each operation does
script_right : (S : Structure) (w : Workload) (procedure : Op → Script) (c : ℕ) (now : Memory)
    → procedure_in w.header.subject w.header w.variant ≡ procedure → c < w.header.callers
    → are_callable S.header (ops_of c w.ops) ≡ true
    → ((op : Op) → is_callable S.header op ≡ true → IsRight S procedure op)
    → DoesRight S at_rest empty_locals now (script_of (work_scripts w) c)
script_right S w procedure c now same low callable each = subst (DoesRight S _ _ _) (sym its)
    (operations_right S _ _ _ _ each callable
    (record { rests = refl; owned = λ slot. refl; called = refl }))
  where
    its : script_of (work_scripts w) c ≡ operations procedure (ops_of c w.ops)
    its =
        let e : 0 + c ≡ c = omega arith in
        cc (script_at (work_script w) 0 w.header.callers c low)

-- so do the scripts of a workload of the correct multiset, of the correct cache, and of correct
-- string buffers
multisets_right : (w : Workload) → KeepsLimits w → w.header.subject ≡ Multiset → IsCorrect w
    → AreRight (multiset w.header) (work_scripts w)
multisets_right w limits subject correct = record {
  fits = multiset_fits w.header limits.version subject;
  sound = scripts_sound w limits;
  right = λ c low now. script_right (multiset w.header) w (multiset_procedure w.header Correct) c
      now
      (λ i. procedure_in (subject i) w.header (correct i)) low (ops_are_callable w c limits)
      (λ op callable. multiset_right w.header op subject callable);
}

caches_right : (w : Workload) → KeepsLimits w → w.header.subject ≡ Cache → IsCorrect w
    → AreRight (cache w.header) (work_scripts w)
caches_right w limits subject correct = record {
  fits = cache_fits w.header limits.version subject;
  sound = scripts_sound w limits;
  right = λ c low now. script_right (cache w.header) w (cache_procedure w.header Correct) c now
      (λ i. procedure_in (subject i) w.header (correct i)) low (ops_are_callable w c limits)
      (λ op callable. cache_right w.header op subject callable);
}

buffer_scripts_right : (w : Workload) → KeepsLimits w → w.header.subject ≡ Buffers → IsCorrect w
    → AreRight (buffers w.header) (work_scripts w)
buffer_scripts_right w limits subject correct = record {
  fits = buffers_fit w.header limits.version subject;
  sound = scripts_sound w limits;
  right = λ c low now. script_right (buffers w.header) w (buffers_procedure w.header Correct) c now
      (λ i. procedure_in (subject i) w.header (correct i)) low (ops_are_callable w c limits)
      (λ op callable. buffers_right w.header op subject callable);
}

trees_right : (w : Workload) → KeepsLimits w → IsCorrectTree w → Keeping w.header (work_scripts w)
trees_right w limits is = tree_keeping w.header (work_scripts w) (record {
  version = limits.version;
  subject = is.subject;
  some = omega (arith, some_size w.header (work_built_in w limits));
  sound = scripts_sound w limits;
  right = λ c low g m tree. tree_script_right w c g m limits is low tree;
})

-- so there is something that holds after every event
pub keeping : (w : Workload) → KeepsLimits w → IsCorrect w → Keeping w.header (work_scripts w)
keeping w limits is = by_subject w.header.subject refl
  where
    by_subject : (s : Subject) → w.header.subject ≡ s → Keeping w.header (work_scripts w)
    by_subject Multiset e = keeping_of (multiset w.header) (work_scripts w)
        (multisets_right w limits e is)
    by_subject Cache e = keeping_of (cache w.header) (work_scripts w) (caches_right w limits e is)
    by_subject Tree e = trees_right w limits (record { subject = e; variant = is })
    by_subject Buffers e = keeping_of (buffers w.header) (work_scripts w)
        (buffer_scripts_right w limits e is)
    by_subject Own e = let no : true ≡ false = sym (work_built_in w limits) ∙ ap is_built_in e in cc

-- there is no first fault
none_first : (h : Header) → h.version ≡ 1 → (scripts : List Script) (k : Keeping h scripts)
    (history : List Stamped) → IsRun h scripts (newest_first history)
    → AreDone h scripts (newest_first history)
    → first_answer (violation_at (rules_of h) [] (states_along (rules_of h) [] (log_of history)))
    (places (log_of history)) ≡ None
unfolding first_fault
none_first h one scripts k history run done =
    sym (ap (λ es. first_answer (violation_at (rules_of h) [] (states_along (rules_of h) [] es))
    (places es)) (all_front h scripts k history run))
    ∙ no_fault h one scripts k history run done

-- no place is a fault
no_why : (line : ℕ) (o : Option Why) → option_map (Violation line) o ≡ None → o ≡ None
no_why line None e = refl
no_why line (Some why) e = cc

each_right : (h : Header) (states : List State) (ps : List (Place Entry))
    → first_answer (violation_at (rules_of h) [] states) ps ≡ None
    → AllByRecursion (λ place. fault_at (rules_of h) [] states place ≡ None) ps
each_right h states [] e = tt
each_right h states (place ∷ ps) e =
    let parts = both_none (violation_at _ [] _ _) (first_answer (violation_at _ [] _) ps) e in
    (no_why (line_of [] _) _ parts.0, each_right h states ps parts.1)
  where
    both_none : {A : Type 0} (a b : Option A) → option_or a b ≡ None → (a ≡ None) × (b ≡ None)
    both_none None b e = (refl, e)
    both_none (Some a) b e = cc

pub where_kind : (h : Header) (states : List State) (test : Kind → Bool) (ps : List (Place Entry))
    → AllByRecursion (λ place. fault_at (rules_of h) [] states place ≡ None) ps
    → AllByRecursion (λ place. test place.here.kind ≡ true → fault_at (rules_of h) [] states place
    ≡ None) ps
where_kind h states test [] all = tt
where_kind h states test (place ∷ ps) all = (λ e. all.0, where_kind h states test ps all.1)

-- what follows wherever something holds after every event
pub formed : (w : Workload) (history : List Stamped) → Keeping w.header (work_scripts w)
    → IsSchedule w history → first_break w.header (log_of history) ≡ None
formed w history k schedule = no_break w.header (work_scripts w) k history
    (whole_run w.header (work_scripts w) history schedule.legal schedule.parts)

pub closed : (w : Workload) (history : List Stamped) → Keeping w.header (work_scripts w)
    → IsSchedule w history
    → is_call_open w.header (newest_first (log_of history)) ≡ false
closed w history k schedule = none_open_at_end _ _ k _ schedule.legal schedule.parts

pub kinds_right : (w : Workload) (history : List Stamped) (test : Kind → Bool) → w.header.version
    ≡ 1 → Keeping w.header (work_scripts w) → IsSchedule w history
    → AllByRecursion (λ place. test place.here.kind ≡ true → fault_at (rules_of w.header) []
    (states_along (rules_of w.header) [] (log_of history)) place ≡ None) (places (log_of history))
kinds_right w history test one k schedule =
    where_kind w.header (states_along (rules_of w.header) [] (log_of history)) test
    (places (log_of history))
    (each_right w.header (states_along (rules_of w.header) [] (log_of history))
    (places (log_of history))
    (none_first w.header one (work_scripts w) k history
    (whole_run w.header (work_scripts w) history schedule.legal schedule.parts)
    (λ c low. (schedule.parts c).done)))

pub schedule_accepted : (w : Workload) (history : List Stamped) → KeepsLimits w → IsCorrect w
    → IsSchedule w history
    → verdict (rules_of w.header) [] (log_of history) ≡ accepted (log_of history)
schedule_accepted w history limits is schedule =
    is_accepted w.header limits.version (work_scripts w) (keeping w limits is) history
    schedule.legal schedule.parts

pub not_stuck : (w : Workload) → KeepsLimits w → IsCorrect w → GetsStuck (work_scripts w) w.turns
    → ⊥
not_stuck w limits is stuck = never_stuck w.header (work_scripts w) (keeping w limits is) w.turns
    stuck

-- 32 events for each operation of a multiset or of string buffers, and 16 for each of a cache
multiset_sum : (h : Header) (ops : List Op) → h.subject ≡ Multiset → bounds_of h ops
    ≡ 32 * length ops
multiset_sum h [] is = refl
multiset_sum h (op ∷ ops) is =
    omega (arith, ap (λ s. bound_in s h.size op.method) is, multiset_sum h ops is)

cache_sum : (h : Header) (ops : List Op) → h.subject ≡ Cache → bounds_of h ops ≡ 16 * length ops
cache_sum h [] is = refl
cache_sum h (op ∷ ops) is =
    omega (arith, ap (λ s. bound_in s h.size op.method) is, cache_sum h ops is)

buffers_sum : (h : Header) (ops : List Op) → h.subject ≡ Buffers → bounds_of h ops ≡ 32 * length ops
buffers_sum h [] is = refl
buffers_sum h (op ∷ ops) is =
    omega (arith, ap (λ s. bound_in s h.size op.method) is, buffers_sum h ops is)

pub few_multiset_events : (w : Workload) (c : ℕ) → KeepsLimits w → w.header.subject ≡ Multiset
    → bounds_of w.header (ops_of c w.ops) ≤ most_few_events
few_multiset_events w c limits is =
    omega (arith, multiset_sum w.header (ops_of c w.ops) is, ops_are_few w c limits)

pub few_cache_events : (w : Workload) (c : ℕ) → KeepsLimits w → w.header.subject ≡ Cache
    → bounds_of w.header (ops_of c w.ops) ≤ most_cache_events
few_cache_events w c limits is =
    omega (arith, cache_sum w.header (ops_of c w.ops) is, ops_are_few w c limits)

pub few_buffer_events : (w : Workload) (c : ℕ) → KeepsLimits w → w.header.subject ≡ Buffers
    → bounds_of w.header (ops_of c w.ops) ≤ most_few_events
few_buffer_events w c limits is =
    omega (arith, buffers_sum w.header (ops_of c w.ops) is, ops_are_few w c limits)

-- so 6,400,000 are enough for each of them
pub few_events : (w : Workload) (c : ℕ) → KeepsLimits w → IsCorrectWithFewEvents w
    → bounds_of w.header (ops_of c w.ops) ≤ most_few_events
few_events w c limits is = by_subject w.header.subject refl is.few
  where
    by_subject : (s : Subject) → w.header.subject ≡ s → has_few_events s ≡ true
        → bounds_of w.header (ops_of c w.ops) ≤ most_few_events
    by_subject Multiset e few = few_multiset_events w c limits e
    by_subject Cache e few = let fewer = few_cache_events w c limits e in omega (arith, fewer)
    by_subject Tree e few = cc
    by_subject Buffers e few = few_buffer_events w c limits e
    by_subject Own e few = cc
