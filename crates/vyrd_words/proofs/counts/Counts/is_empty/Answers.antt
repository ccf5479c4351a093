use Rattle.vyrd_words.proofs.Prelude.{length, ap, sym, ◌∙◌, ◌==◌}
use Rattle.vyrd_words.proofs.CountLaws.{length-counts_of}
use Rattle.vyrd_words.proofs.counts.Counts.is_empty.Goals as goal

pub returns : goal.returns
returns c =
    let i = c.self.inside in
    c.is_empty.ensures
    ∙ ap (λ n. n == 0) (i.bytes.ok.0 ∙ sym (length-counts_of i.bytes.items i.large.items))
    ∙ ap (λ ks. length ks == 0) c.self.view_is
