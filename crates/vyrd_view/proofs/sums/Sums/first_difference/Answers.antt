use Rattle.vyrd_view.proofs.Prelude.{subst, amount_of, IsLeastApart, shown_at, specified_of}
use Rattle.std.specs.Prelude.{IfSome, ◌<◌, ◌^◌}
use Rattle.vyrd_view.proofs.SummedLaws.{settled_sums, apart_uncarried, apart_carried, apart_either}
use Rattle.vyrd_view.proofs.sums.Sums.first_difference.Goals as goal

pub first_difference-one-requires : goal.first_difference-one-requires
first_difference-one-requires c = (settled_sums c.args.self.now c.requires).sides

pub returns-in_default-None : goal.returns-in_default-None
returns-in_default-None c =
    let s = c.args.self.now in
    apart_uncarried s (amount_of (specified_of s.sides)) c.first_difference-one.result
    (subst (IsLeastApart (shown_at s.carries) (λ q. 0)) c.in_default-None.is-1
    c.first_carried.ensures.least)
    c.first_difference-one.ensures

pub returns-in-None-Some : goal.returns-in-None-Some
returns-in-None-Some c =
    let s = c.args.self.now in
    let specified = amount_of (specified_of s.sides) in
    apart_carried s specified c.in-None-Some.key
    (subst (IsLeastApart (shown_at s.carries) (λ q. 0)) c.in-None-Some.is-1
    c.first_carried.ensures.least)
    (subst (λ o. IfSome o (λ key. specified key < 2 ^ 64)) c.in-None-Some.is-1
    c.first_carried.ensures.small)
    (subst (IsLeastApart (shown_at s.sides) specified) c.in-None-Some.is-0
    c.first_difference-one.ensures)

pub returns-in-Some-Some : goal.returns-in-Some-Some
returns-in-Some-Some c =
    let s = c.args.self.now in
    let specified = amount_of (specified_of s.sides) in
    apart_either s specified c.in-Some-Some.one c.in-Some-Some.other c.min.result
    (subst (IsLeastApart (shown_at s.sides) specified) c.in-Some-Some.is-0
    c.first_difference-one.ensures)
    (subst (IsLeastApart (shown_at s.carries) (λ q. 0)) c.in-Some-Some.is-1
    c.first_carried.ensures.least)
    (subst (λ o. IfSome o (λ key. specified key < 2 ^ 64)) c.in-Some-Some.is-1
    c.first_carried.ensures.small)
    c.min.ensures
