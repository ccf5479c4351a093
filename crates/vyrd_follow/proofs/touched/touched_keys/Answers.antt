use Rattle.std.proofs.Common.{ℕ, ap, ◌∙◌, sym}
use Rattle.vyrd_follow.proofs.TouchedLaws.{slot_touched, chunk_touched, buffer_touched}
use Rattle.vyrd_follow.proofs.TouchedLaws.{slots_small, chunks_small, buffers_small}
use Rattle.vyrd_follow.proofs.touched.touched_keys.Goals as goal

pub returns-in-Multiset-clause-others : goal.returns-in-Multiset-clause-others
returns-in-Multiset-clause-others c =
    slot_touched c.args.header c.args.words.now c.args.word c.args.was c.requires.count
    c.slot_keys.result.0 c.slot_keys.result.1 (sym c.in-Multiset.ensures) c.requires.within
    c.slot_keys.ensures.before c.slot_keys.ensures.after

pub returns-in-Multiset-clause-fits : goal.returns-in-Multiset-clause-fits
returns-in-Multiset-clause-fits c = λ q.
    slots_small c.args.header c.args.words.now q (sym c.in-Multiset.ensures) c.requires.built_in

pub returns-in-Cache-clause-others : goal.returns-in-Cache-clause-others
returns-in-Cache-clause-others c = λ q other past.
    chunk_touched c.args.header c.args.words.now c.args.word c.args.was c.requires.count
    (sym c.in-Cache.ensures) q
    (λ e. other (e ∙ sym (ap (λ (p : ℕ × ℕ). p.0) c.part_keys.ensures)))
    (λ e. past (e ∙ sym (ap (λ (p : ℕ × ℕ). p.1) c.part_keys.ensures)))

pub returns-in-Cache-clause-fits : goal.returns-in-Cache-clause-fits
returns-in-Cache-clause-fits c = λ q.
    chunks_small c.args.header c.args.words.now q (sym c.in-Cache.ensures)

pub returns-in-Buffers-clause-others : goal.returns-in-Buffers-clause-others
returns-in-Buffers-clause-others c = λ q other past.
    buffer_touched c.args.header c.args.words.now c.args.word c.args.was c.requires.count
    (sym c.in-Buffers.ensures) q
    (λ e. other (e ∙ sym (ap (λ (p : ℕ × ℕ). p.0) c.part_keys-in-Buffers.ensures)))
    (λ e. past (e ∙ sym (ap (λ (p : ℕ × ℕ). p.1) c.part_keys-in-Buffers.ensures)))

pub returns-in-Buffers-clause-fits : goal.returns-in-Buffers-clause-fits
returns-in-Buffers-clause-fits c = λ q.
    buffers_small c.args.header c.args.words.now q (sym c.in-Buffers.ensures)
