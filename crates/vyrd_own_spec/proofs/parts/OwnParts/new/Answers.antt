use Rattle.vyrd_own_spec.proofs.Prelude.{◌/◌, ap, sym, ◌∙◌, subst, Written, written_in, show_of}
use Rattle.vyrd_own_spec.proofs.Prelude.{written, width_of, AreFew}
use Rattle.vyrd_own_spec.proofs.PartLaws.{are_few}
use Rattle.vyrd_own_spec.proofs.CallLaws.{length-mapped}
use Rattle.vyrd_own_spec.proofs.parts.OwnParts.new.Goals as goal

pub invariant_of-result : goal.invariant_of-result
invariant_of-result c =
    let says = c.program-program.ensures.says ∙ ap written_in c.deref.ensures in
    record {
      blank = c.in_ok-blank.ensures;
      width_is = c.width-width.ensures.is ∙ ap width_of says;
      few = subst (λ (w : Written). AreFew w c.width-width.result c.max-places.result
          (c.size.result / c.width-width.result)) says
          (subst (λ n. AreFew (written c.program-program.result.now) c.width-width.result
          c.max-places.result (n / c.width-width.result))
          (sym c.size.ensures)
          (are_few c.args.header (written c.program-program.result.now) c.width-width.result
          c.max-places.result c.len.result
          c.program-program.ensures.small c.width-width.ensures.is c.width-width.ensures.some
          (c.len.ensures ∙ c.program-program.result.now.shows.ok.0
          ∙ sym (length-mapped show_of c.program-program.result.now.shows.items))
          c.max-places.ensures));
    }
