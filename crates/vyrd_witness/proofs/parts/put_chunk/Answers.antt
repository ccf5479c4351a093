use Rattle.vyrd_witness.proofs.Prelude.{ap, ◌∙◌, ◌++◌, sym, arith, append-nil, chunk_at}
use Rattle.vyrd_witness.proofs.Prelude.{chunk_parts, told}
use Rattle.vyrd_witness.proofs.GivenLaws.{at_home, no_home, chunk_elsewhere}
use Rattle.vyrd_witness.proofs.parts.put_chunk.Goals as goal

pub returns-in_ok-put_given : goal.returns-in_ok-put_given
returns-in_ok-put_given c =
    let size = c.args.size in
    let words = c.args.words.now in
    let old = c.args.parts.now.items in
    let chunk = c.number_of-chunk.result in
    c.in_ok-put_given.ensures
    ∙ ap (λ amount. old ++ told chunk amount) c.given_by_chunk.ensures
    ∙ ap (λ xs. old ++ xs) (at_home size c.args.key (λ n. chunk_parts size n (chunk_at words n))
    (chunk_elsewhere size c.args.key words) chunk c.number_of-chunk.ensures
    c.if-chunk-size.true)

pub returns-else-chunk-size : goal.returns-else-chunk-size
returns-else-chunk-size c =
    let size = c.args.size in
    let words = c.args.words.now in
    let old = c.args.parts.now.items in
    sym (append-nil old)
    ∙ ap (λ xs. old ++ xs) (no_home size c.args.key (λ n. chunk_parts size n (chunk_at words n))
    (chunk_elsewhere size c.args.key words) c.number_of-chunk.result c.number_of-chunk.ensures
    (omega (arith, c.if-chunk-size.false)))
