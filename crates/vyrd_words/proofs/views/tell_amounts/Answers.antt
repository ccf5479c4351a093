use Rattle.vyrd_words.proofs.Prelude.{ℕ, ◌+◌, take, get_or, ap, sym, subst, ◌∙◌, take_all, Amounts}
use Rattle.vyrd_words.proofs.Prelude.{IsAmounts, with_amount, Known}
use Rattle.vyrd_words.proofs.StartingLaws.{told_more}
use Rattle.vyrd_words.proofs.views.tell_amounts.Goals as goal

pub loop-key-init : goal.loop-key-init
loop-key-init g c =
    record {
      told =
          ap (λ (s : Amounts). record (g.C.Compare.known c.args.compared.now) { specified = s })
          c.requires.none;
    }

pub loop-key-preserved : goal.loop-key-preserved
loop-key-preserved g c =
    let i = c.loop-key.key-index in
    let items = c.pairs-key-items.result.now in
    let same = c.pairs-key-items.ensures.pairs in
    let pair : ℕ × ℕ = get_or items i (0, 0) in
    record {
      told = c.in_ok-spec_changed.ensures.ok
          ∙ ap (λ (k : Known). record k { specified = with_amount k.specified pair.0 pair.1 })
          c.loop-key.invariant.told
          ∙ ap (λ (s : Amounts). record (g.C.Compare.known c.args.compared.now) {
            specified = with_amount (take i s) pair.0 pair.1;
          }) (sym same)
          ∙ ap (λ (s : Amounts). record (g.C.Compare.known c.args.compared.now) { specified = s })
          (told_more items i (0, 0) c.loop-key-test.true
          (subst IsAmounts (sym same) c.pairs-key-items.ensures.amounts))
          ∙ ap (λ (s : Amounts). record (g.C.Compare.known c.args.compared.now) {
            specified = take (i + 1) s;
          }) same;
    }

pub returns-clause-ok : goal.returns-clause-ok
returns-clause-ok g c =
    let items = c.pairs-key-items.result.now in
    let same = c.pairs-key-items.ensures.pairs in
    cc (c.loop-key.invariant.told, take_all c.loop-key.key-index items c.loop-key-test.false)

pub returns-clause-refused : goal.returns-clause-refused
returns-clause-refused g c = ap (λ (k : Known). k.refused) c.loop-key.invariant.told
    ∙ c.requires.sound
