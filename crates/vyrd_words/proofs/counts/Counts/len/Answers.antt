use Rattle.std.proofs.Common.{length, ap, sym, ◌∙◌}
use Rattle.vyrd_words.proofs.CountLaws.{length-counts_of}
use Rattle.vyrd_words.proofs.counts.Counts.len.Goals as goal

pub returns : goal.returns
returns c =
    let i = c.self.inside in
    c.len.ensures ∙ i.bytes.ok.0 ∙ sym (length-counts_of i.bytes.items i.large.items)
    ∙ ap length c.self.view_is
