use Rattle.vyrd_witness.proofs.Prelude.{ap, ◌∙◌, ◌++◌, sym, arith, append-nil, buffer_at}
use Rattle.vyrd_witness.proofs.Prelude.{buffer_parts, told}
use Rattle.vyrd_witness.proofs.GivenLaws.{at_home, no_home, buffer_elsewhere}
use Rattle.vyrd_witness.proofs.parts.put_buffer.Goals as goal

pub returns-in_ok-put_given : goal.returns-in_ok-put_given
returns-in_ok-put_given c =
    let size = c.args.size in
    let words = c.args.words.now in
    let old = c.args.parts.now.items in
    let buffer = c.number_of-buffer.result in
    c.in_ok-put_given.ensures
    ∙ ap (λ amount. old ++ told buffer amount) c.given_by_buffer.ensures
    ∙ ap (λ xs. old ++ xs) (at_home size c.args.key (λ n. buffer_parts size n (buffer_at words n))
    (buffer_elsewhere size c.args.key words) buffer c.number_of-buffer.ensures
    c.if-buffer-size.true)

pub returns-else-buffer-size : goal.returns-else-buffer-size
returns-else-buffer-size c =
    let size = c.args.size in
    let words = c.args.words.now in
    let old = c.args.parts.now.items in
    sym (append-nil old)
    ∙ ap (λ xs. old ++ xs) (no_home size c.args.key (λ n. buffer_parts size n (buffer_at words n))
    (buffer_elsewhere size c.args.key words) c.number_of-buffer.result c.number_of-buffer.ensures
    (omega (arith, c.if-buffer-size.false)))
