use Rattle.std.proofs.Common.{◌*◌}
use Rattle.vyrd_view.specs.Pairs.{slot_gives, chunk_gives, buffer_gives}
use Rattle.vyrd_view.specs.Laws.Slots.{slots_fit}
use Rattle.vyrd_view.specs.Laws.Chunks.{chunks_fit}
use Rattle.vyrd_view.specs.Laws.Buffers.{buffers_fit}
use Rattle.vyrd_view.proofs.DecodedLaws.{pairs_given}
use Rattle.vyrd_view.proofs.shown.gathered.Goals as goal

pub collect-requires-clause-fits : goal.collect-requires-clause-fits
collect-requires-clause-fits c = λ q.
    let slots = c.new.result in
    slots_fit slots.size slots.small _ q
    (pairs_given 2 1 (4 * slots.size) slot_gives c.args.words.now)

pub collect-requires-in-Cache-clause-fits : goal.collect-requires-in-Cache-clause-fits
collect-requires-in-Cache-clause-fits c = λ q.
    let chunks = c.new-in-Cache.result in
    chunks_fit chunks.size _ q
    (pairs_given 5 2 chunks.size (chunk_gives chunks.size) c.args.words.now)

pub collect-requires-in-Buffers-clause-fits : goal.collect-requires-in-Buffers-clause-fits
collect-requires-in-Buffers-clause-fits c = λ q.
    let buffers = c.new-in-Buffers.result in
    buffers_fit buffers.size _ q
    (pairs_given 8 1 buffers.size (buffer_gives buffers.size) c.args.words.now)
