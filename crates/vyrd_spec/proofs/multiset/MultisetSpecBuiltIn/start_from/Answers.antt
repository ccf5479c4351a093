use Rattle.vyrd_spec.proofs.Prelude.{ap, sym, subst, is_built_in, Multiset, IsAmounts, parts_of}
use Rattle.vyrd_spec.proofs.Prelude.{IsAmounts-collected}
use Rattle.vyrd_spec.proofs.SlotLaws.{first_counts}
use Rattle.vyrd_spec.proofs.StartFromLaws.{no_state, a_state, few_parts}
use Rattle.vyrd_spec.proofs.multiset.MultisetSpecBuiltIn.start_from.Goals as goal

pub returns-then-not-are_sound-clause-state : goal.returns-then-not-are_sound-clause-state
returns-then-not-are_sound-clause-state c =
    no_state c.args.header Multiset c.args.words.now c.requires.serves c.requires.count
    (cc (c.size-size.ensures, c.are_sound.ensures, c.if-not-are_sound.true))

pub invariant_of-result-clause-formed : goal.invariant_of-result-clause-formed
invariant_of-result-clause-formed c =
    subst IsAmounts (sym c.in_ok-counts.ensures)
    (IsAmounts-collected (parts_of Multiset c.size-size.result c.args.words.now))

pub invariant_of-result-clause-small : goal.invariant_of-result-clause-small
invariant_of-result-clause-small c =
    first_counts c.args.words.now c.size-size.result c.in_ok-counts.field-0
    (few_parts c.args.header c.size-size.result c.size-size.ensures
    (ap is_built_in c.requires.serves))
    c.requires.small c.in_ok-counts.ensures

pub returns-clause-state : goal.returns-clause-state
returns-clause-state c =
    a_state c.args.header Multiset c.args.words.now c.in_ok-counts.field-0 c.requires.serves
    c.requires.count
    (cc (c.size-size.ensures, c.are_sound.ensures, c.if-not-are_sound.false))
    (cc (c.in_ok-counts.ensures, c.size-size.ensures))
