use Rattle.vyrd_words.proofs.Prelude.{length-drop, set, ap, ◌∙◌, arith, counts_of, just}
use Rattle.vyrd_words.proofs.CountLaws.{apart_few, says_count, apart_in-parts, same_grown}
use Rattle.vyrd_words.proofs.CountLaws.{apart_set_grown}
use Rattle.vyrd_words.proofs.counts.set_apart.Goals as goal

pub overflow_sub-len : goal.overflow_sub-len
overflow_sub-len = grind (arith, apart_in-parts)

pub insert-requires : goal.insert-requires
insert-requires = grind (arith, apart_in-parts)

pub returns-in_err-insert-clause-steps : goal.returns-in_err-insert-clause-steps
returns-in_err-insert-clause-steps = grind (arith, apart_in-parts, apart_few, length-drop)

pub returns-clause-same : goal.returns-clause-same
returns-clause-same g c = let bytes = c.args.bytes.now.items in
    let small = says_count bytes c.args.index c.index-byte.result.now c.requires.index
    c.index-byte.ensures c.if-byte.false in
    ap (counts_of (set bytes c.args.index 255)) c.in_ok-insert.ensures.items
    ∙ same_grown bytes c.args.large.now.items c.args.index c.index-byte.result.now
    c.place_apart-place.result c.new-apart.result c.requires.index small
    c.index-byte.ensures c.place_apart-place.ensures.place
    (c.new-apart.ensures ∙ ap just c.from.ensures) c.requires.all

pub returns-clause-all : goal.returns-clause-all
returns-clause-all g c = let bytes = c.args.bytes.now.items in
    let small = says_count bytes c.args.index c.index-byte.result.now c.requires.index
    c.index-byte.ensures c.if-byte.false in
    omega (
      arith,
      apart_set_grown bytes c.args.index c.requires.index small,
      c.requires.all,
      c.in_ok-insert.ensures.len,
      c.args.large.now.ok.0,
      c.insert.new.self.ok.0,
    )

pub returns-clause-steps : goal.returns-clause-steps
returns-clause-steps = grind (arith, apart_in-parts, apart_few, length-drop)
