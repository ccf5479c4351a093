use Rattle.vyrd_batch.proofs.Prelude.{List, map, length, Vec, Global, Bor, ap, ◌∙◌, sym, subst}
use Rattle.vyrd_batch.proofs.Prelude.{arith, flat_map, AllByRecursion, Verdict, Span, bytes_of}
use Rattle.vyrd_batch.proofs.Prelude.{LiesWithin, verdicts_of}
use Rattle.vyrd_batch.proofs.JudgedFacts.{all_parts, flat_verdicts, where_all, verdict_each}
use Rattle.vyrd_batch.proofs.JudgedFacts.{list_each}
use Rattle.vyrd_batch.proofs.judging.judge_batch_counted.Goals as goal

pub judge_parts-requires-after_bounds : goal.judge_parts-requires-after_bounds
judge_parts-requires-after_bounds g c κs within =
    let inside : Span → Type 0 = LiesWithin (length c.args.bytes.now) in
    let all : AllByRecursion inside
    (flat_map (λ (part : Bor (List Span)). part.now) c.in_ok-parts.parts.items) =
    subst (AllByRecursion inside) (sym c.in_ok-parts.ensures.all) c.requires in
    subst (AllByRecursion (λ (part : Bor (List Span)). AllByRecursion inside part.now))
    (sym c.deref.ensures.value)
    (all_parts inside (λ (part : Bor (List Span)). part.now) c.in_ok-parts.parts.items all)

pub returns-clause-verdicts : goal.returns-clause-verdicts
returns-clause-verdicts g c =
    let show = λ (verdicts : Vec Verdict Global). verdicts.items in
    let same = flat_verdicts c.args.bytes.now c.args.spans.now c.deref.result.now
    c.in_ok-judged.judged.items
    (ap (flat_map (λ (part : Bor (List Span)). part.now)) c.deref.ensures.value
    ∙ c.in_ok-parts.ensures.all) c.in_ok-judged.ensures in
    where_all show (flat_map show c.deref-2.result.now)
    (verdicts_of (map (bytes_of c.args.bytes.now) c.args.spans.now))
    (ap (flat_map show) c.deref-2.ensures.value ∙ same) c.joined.result c.joined.ensures.all

pub returns-clause-steps : goal.returns-clause-steps
returns-clause-steps g c =
    let bytes = c.args.bytes.now in
    let show = λ (verdicts : Vec Verdict Global). verdicts.items in
    let right = λ (part : Bor (List Span)). verdicts_of (map (bytes_of bytes) part.now) in
    let parts = c.in_ok-parts.parts.items in
    let judged = c.in_ok-judged.judged.items in
    let same = flat_verdicts bytes c.args.spans.now c.deref.result.now judged
    (ap (flat_map (λ (part : Bor (List Span)). part.now)) c.deref.ensures.value
    ∙ c.in_ok-parts.ensures.all) c.in_ok-judged.ensures in
    omega (
      arith,
      c.joined.ensures.steps,
      c.in_ok-parts.ensures.steps,
      c.in_ok-parts.ensures.few,
      ap length c.deref.ensures.value,
      ap length c.deref-2.ensures.value,
      list_each show right judged c.deref.result.now c.in_ok-judged.ensures,
      ap (λ xs. length (flat_map show xs)) c.deref-2.ensures.value,
      ap length same,
      verdict_each bytes c.args.spans.now,
    )
