use Rattle.vyrd_words.proofs.Prelude.{length, ◌<◌, arith, written, is_same}
use Rattle.vyrd_words.proofs.CountLaws.{byte_within, length-counts_of, place_below, late_added}
use Rattle.vyrd_words.proofs.counts.Counts.add_late.Goals as goal

pub set_apart-requires-clause-index : goal.set_apart-requires-clause-index
set_apart-requires-clause-index = grind (arith, byte_within)

pub returns-in_err-place-clause-steps : goal.returns-in_err-place-clause-steps
returns-in_err-place-clause-steps = grind (arith, length-counts_of)

pub index_mut-requires : goal.index_mut-requires
index_mut-requires g c = let i = c.self.inside in
    let low = byte_within i.bytes.items i.large.items c.args.self.now c.args.index c.self.view_is
    c.requires.index in
    let low' : c.args.index < length c.set_apart.new.bytes.items =
    omega (arith, low, c.set_apart.ensures.len) in
    let test = is_same _ 255 c.in_ok-place.ensures.apart in
    let below = place_below c.set_apart.new.bytes.items c.set_apart.new.large.items c.args.index
    low' test c.set_apart.ensures.all in
    omega (arith, below, c.in_ok-place.ensures.place, c.set_apart.new.large.ok.0)

pub returns-in_err-add-clause-steps : goal.returns-in_err-add-clause-steps
returns-in_err-add-clause-steps = grind (arith, length-counts_of)

pub returns-clause-counts : goal.returns-clause-counts
returns-clause-counts = grind (arith, byte_within, late_added, written)

pub returns-clause-steps : goal.returns-clause-steps
returns-clause-steps = grind (arith, length-counts_of)
