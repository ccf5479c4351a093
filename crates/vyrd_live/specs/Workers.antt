-- Workers: what they begin with, and what they leave.
use Rattle.std.specs.Prelude.{◌≡◌, ℕ, ◌<◌, true, List, [], length, map}
use Rattle.vyrd_base.specs.declared.header.Header.{Header}
use Rattle.vyrd_base.specs.Places.{numbers_below}
use Rattle.vyrd_base.specs.Layout.{plain_words, lock_words}
use Rattle.vyrd_memory.specs.Scripts.{Script, is_between}
use Rattle.vyrd_memory.specs.Bounds.{bounds_of}
use Rattle.vyrd_trace.specs.declared.plan.Plan.{Plan}
use Rattle.vyrd_trace.specs.Hands.{TracedView, HandView, IsOf}
use Rattle.vyrd_work.specs.Workloads.{Workload}
use Rattle.vyrd_work.specs.WorkScripts.{ops_of, work_script}
use Rattle.vyrd_live.specs.declared.worker.Ending.{Ending}
use Rattle.vyrd_live.specs.declared.worker.Ending.TheVariants.{Spent}
use Rattle.vyrd_live.specs.Endings.{HasEnded}
use Rattle.std.specs.List.{All}
use Rattle.vyrd_live.specs.Working.{dids_of, IsMemoryOf}

-- a machine that hasn't begun, with the hand that it will be played on
pub record IsFresh {M : Type 0} (header_of : M → Header) (script : M → Script)
    (traced : TracedView) (machine : M) (hand : HandView) : Type 0 where
  pub hand_of : IsOf traced hand
  pub empty : hand.lane ≡ []
  pub kept : hand.forgotten ≡ 0
  pub between : is_between (script machine) ≡ true
  pub memory : IsMemoryOf (header_of machine) traced.plan

-- the machine is that of the hand's caller in a workload
pub record IsWorkerOf {M : Type 0} (header_of : M → Header) (script : M → Script) (ahead : M
    → ℕ) (w : Workload) (machine : M) (hand : HandView) : Type 0 where
  pub header : header_of machine ≡ w.header
  pub script_is : script machine ≡ work_script w hand.caller
  pub bound : ahead machine ≡ bounds_of w.header (ops_of hand.caller w.ops)

-- the bounds of all operations of each caller of a workload, from caller 0 on
abbrev pub work_bounds : Workload → List ℕ
work_bounds w = map (λ c. bounds_of w.header (ops_of c w.ops)) (numbers_below w.header.callers)

-- What a machine that was played on a hand leaves. If it stopped for lack of room, the limit allows
-- fewer events than the machine's bound.
pub record HasWorked {M : Type 0} (header_of : M → Header) (script : M → Script) (ahead : M
    → ℕ) (traced : TracedView) (machine : M) (before after : HandView)
    (ending : Ending) : Type 0 where
  pub hand_of : IsOf traced after
  pub caller : after.caller ≡ before.caller
  pub ended : HasEnded (header_of machine) traced.plan.limit (script machine) ending
      (dids_of after.lane)
  pub long : ending ≡ Spent → traced.plan.limit < ahead machine

-- the sizes of the memory of a header, for callers that may have this many events
abbrev pub plan_of : Header → ℕ → Plan
plan_of h limit = record {
  plain = plain_words h;
  locks = lock_words h;
  callers = h.callers;
  limit = limit;
}

-- there is a machine for each caller of the header, and each was made for this header
pub record AreMadeFor (h : Header) (headers : List Header) : Type 0 where
  pub count : length headers ≡ h.callers
  pub each : All (λ header. header ≡ h) headers
