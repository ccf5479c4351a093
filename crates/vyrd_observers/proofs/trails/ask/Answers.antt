use Rattle.vyrd_observers.proofs.Prelude.{inr, ap, sym, ◌∙◌, arith, slice_get_within, same_Some}
use Rattle.vyrd_observers.proofs.Prelude.{has_method, slice_get-set_same, must_commit, Asked}
use Rattle.vyrd_observers.proofs.Prelude.{kept_by}
use Rattle.vyrd_observers.proofs.CostLaws.{kept_at}
use Rattle.vyrd_observers.proofs.TrailLaws.{asking_set, keeps_set, old_except_then}
use Rattle.vyrd_observers.proofs.trails.ask.Goals as goal

pub returns-in_err-i-clause-asking : goal.returns-in_err-i-clause-asking
returns-in_err-i-clause-asking g c = λ h may answers all. c.free.ensures.asking h all

pub index_mut-requires : goal.index_mut-requires
index_mut-requires g c = let there = c.in_ok-i.ensures.free in
    omega (
      arith,
      slice_get_within c.free.new.trails.items c.in_ok-i.i there.0
          there.1,
      c.free.new.trails.ok.0,
    )

pub returns-clause-asked : goal.returns-clause-asked
returns-clause-asked g c =
    grind (
      arith,
      c.begin.new.self,
      slice_get-set_same c.free.new.trails.items c.in_ok-i.i
          c.begin.new.self (slice_get_within c.free.new.trails.items c.in_ok-i.i c.in_ok-i.ensures.free.0
          c.in_ok-i.ensures.free.1),
      c.begin.ensures.question,
    )

pub returns-clause-kept : goal.returns-clause-kept
returns-clause-kept g c = λ i t here is_asked. let there = c.in_ok-i.ensures.free in
    keeps_set c.free.new.trails.items c.in_ok-i.i there.0 c.begin.new.self there.1 there.2 i t
    (c.free.ensures.kept i t here is_asked) is_asked

pub returns-clause-asking : goal.returns-clause-asking
returns-clause-asking g c = λ h may answers all. let there = c.in_ok-i.ensures.free in
    asking_set h c.free.new.trails.items c.in_ok-i.i c.begin.new.self
    (slice_get_within c.free.new.trails.items c.in_ok-i.i there.0 there.1)
    (λ is. (
      ap (λ t. has_method h t.method t.args) c.begin.ensures.question ∙ may,
      ap (λ t. must_commit t.method) c.begin.ensures.question ∙ answers,
    ))
    (c.free.ensures.asking h all)

pub returns-clause-only : goal.returns-clause-only
returns-clause-only g c =
    let there = c.in_ok-i.ensures.free in
    let items = c.free.new.trails.items in
    let i = c.in_ok-i.i in (
      old_except_then c.args.trails.now.items items i c.in_ok-i.ensures.only c.begin.new.self,
      λ t here.
          let is = same_Some _ _ (sym here ∙ slice_get-set_same items i c.begin.new.self
          (slice_get_within items i there.0 there.1)) ∙ c.begin.ensures.question in
          inr (ap (λ (u : Asked). u.askers) is, ap (λ (u : Asked). u.others) is),
    )

pub returns-clause-steps : goal.returns-clause-steps
returns-clause-steps g c =
    let there = c.in_ok-i.ensures.free in
    let items = c.free.new.trails.items in
    let within = slice_get_within items c.in_ok-i.i there.0 there.1 in
    let more = kept_at items c.in_ok-i.i c.index_mut.result.now c.begin.new.self within in
    let same = ap kept_by c.index_mut.ensures.value in
    omega (
      arith,
      c.find.ensures.steps,
      c.requires.within,
      c.free.ensures.steps,
      c.free.ensures.as_many,
      c.begin.ensures.steps,
      more,
      same,
    )
