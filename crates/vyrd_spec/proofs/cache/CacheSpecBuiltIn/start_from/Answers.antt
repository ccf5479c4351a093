use Rattle.vyrd_spec.proofs.Prelude.{◌≡◌, Some, None, rules, ap, ◌∙◌, ◌^◌, is_built_in, Cache}
use Rattle.vyrd_spec.proofs.Prelude.{collected, chunk_at, chunk_parts, parts_of, row_amounts}
use Rattle.vyrd_spec.specs.Chunks.{sound_pairs}
use Rattle.vyrd_spec.proofs.ChunkWordLaws.{is_sound_at, pair_shown, given_pair, small_pair}
use Rattle.vyrd_spec.proofs.SoundRows.{first_row, many_in, row_shows, sound_where, unsound_where}
use Rattle.vyrd_spec.proofs.StartFromLaws.{no_state, a_state, few_parts}
use Rattle.vyrd_spec.proofs.cache.CacheSpecBuiltIn.start_from.Goals as goal

pub invariant_of-result : goal.invariant_of-result
invariant_of-result c =
    let words = c.args.words.now in
    let size = c.size.result in
    let pairs = c.in-Some.pairs.items in
    let some : sound_pairs size words ≡ Some pairs = rw c.in-Some.is at c.in_ok-pairs.ensures in
    record {
      subject = c.requires.serves;
      few = search rules;
      count = many_in (is_sound_at words) (pair_shown words) size pairs some ∙ c.size.ensures;
      small = first_row (is_sound_at words) (pair_shown words) (2 ^ 64) (small_pair words) size
          pairs
          (few_parts c.args.header size c.size.ensures (ap is_built_in c.requires.serves)) some;
    }

pub returns-in-Some-clause-state : goal.returns-in-Some-clause-state
returns-in-Some-clause-state c =
    let words = c.args.words.now in
    let size = c.size.result in
    let pairs = c.in-Some.pairs.items in
    let some : sound_pairs size words ≡ Some pairs = rw c.in-Some.is at c.in_ok-pairs.ensures in
    a_state c.args.header Cache words (row_amounts pairs) c.requires.serves c.requires.count
    (cc (c.size.ensures, sound_where (is_sound_at words) (pair_shown words) size pairs some))
    (row_shows (is_sound_at words) (pair_shown words) (λ h. chunk_parts size h (chunk_at words h))
    (given_pair size words) size pairs some
    ∙ ap (λ n. collected (parts_of Cache n words)) c.size.ensures)

pub returns-in-None-clause-state : goal.returns-in-None-clause-state
returns-in-None-clause-state c =
    let words = c.args.words.now in
    let none : sound_pairs c.size.result words ≡ None = rw c.in-None.is at c.in_ok-pairs.ensures in
    no_state c.args.header Cache words c.requires.serves c.requires.count
    (cc (c.size.ensures, unsound_where (is_sound_at words) (pair_shown words) c.size.result none))
