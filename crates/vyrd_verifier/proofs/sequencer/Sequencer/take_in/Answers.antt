-- The event was taken in with all whose turn it was, or it alone is left out.
use Rattle.std.proofs.Common.{refl, ap, sym, subst, ◌∙◌}
use Rattle.vyrd_base.proofs.ListLaws.{isnt_some}
use Rattle.vyrd_verifier.specs.Taken.{has_number, HasTakenIn}
use Rattle.vyrd_verifier.proofs.TakenLaws.{taken_more, taken_same}
use Rattle.vyrd_verifier.proofs.sequencer.Sequencer.take_in.Goals as goal

pub returns-in-Ok-clause-taken : goal.returns-in-Ok-clause-taken
returns-in-Ok-clause-taken g c = λ taken t.
    taken_more g.S.EventSink.has_taken _ _ taken c.args.item (sym c.if-is_some.ensures)
    (isnt_some c.self.inside.refused (sym c.if-is_some.ensures))
    c.in-Ok.ensures.followed c.in-Ok.ensures.missing
    (subst (λ q. HasTakenIn g.S.EventSink.has_taken q taken) (sym c.self.view_is) t)

pub returns-in-Err-clause-refused : goal.returns-in-Err-clause-refused
returns-in-Err-clause-refused g c = λ taken t.
    taken_same g.S.EventSink.has_taken _ _ taken c.args.item.number
    (isnt_some c.self.inside.refused (sym c.if-is_some.ensures)) refl
    (ap (λ q. has_number q c.args.item.number) c.self.view_is ∙ c.requires.new) c.in-Err.ensures.had
    (subst (λ q. HasTakenIn g.S.EventSink.has_taken q taken) (sym c.self.view_is) t)
