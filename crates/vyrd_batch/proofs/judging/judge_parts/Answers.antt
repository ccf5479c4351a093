use Rattle.vyrd_batch.proofs.Prelude.{◌≡◌, List, map, Vec, Global, IfOk, Bor, ap, ◌∙◌, Verdict}
use Rattle.vyrd_batch.proofs.Prelude.{Span, bytes_of, verdicts_of}
use Rattle.rayon.proofs.ToStd.{slice-AllZip}
use Rattle.vyrd_batch.proofs.JudgedFacts.{collected}
use Rattle.vyrd_batch.proofs.judging.judge_parts.Goals as goal

pub returns : goal.returns
returns g c =
    let show = λ (verdicts : Vec Verdict Global). verdicts.items in
    let right = λ (part : Bor (List Span)). verdicts_of
    (map (bytes_of c.args.bytes.now) part.now) in
    let done = c.in_ok-judged.ensures in
    let chain = rw c.map.ensures.f at done.1 in
    let slice = ap (λ it. it.base.slice.now) c.map.ensures.base
    ∙ ap (λ it. it.slice.now) c.with_min_len.ensures.base ∙ c.par_iter.ensures in
    collected (λ judged. judged.items) show right c.args.parts.now done.0 c.in_ok-judged.judged
    done.2
    (slice-AllZip chain.0 c.args.parts.now (chain.1 ∙ slice)
    (λ part r. IfOk r (λ verdicts. show verdicts ≡ right part)) done.0 chain.2)
