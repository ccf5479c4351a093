-- What the specification of any subject is seen as: the one specification in it.
use Rattle.std.specs.Prelude.{◌≡◌, ℕ, ◌^◌, ◌<◌, true, List}
use Rattle.std.proofs.Common.{ap}
use Rattle.vyrd_base.specs.declared.header.Header.{Header}
use Rattle.vyrd_base.specs.Subjects.{is_built_in}
use Rattle.vyrd_base.specs.Amounts.{IsAmounts}
use Rattle.vyrd_base.specs.States.{State, showing}
use Rattle.vyrd_spec.specs.declared.any.AnySpec.{AnySpec}
use Rattle.vyrd_spec.specs.declared.any.AnySpec.TheVariants.{Multiset, Cache, Tree, Buffers}
use Rattle.vyrd_spec.specs.Bounds.{AllAmounts, small_counts, small_chunks, small_values}
use Rattle.vyrd_spec.specs.Bounds.{small_texts}
use Rattle.vyrd_spec.specs.Rows.{row_amounts, row_formed}

abbrev pub header_in : AnySpec → Header
header_in (Multiset s) = s.header
header_in (Cache s) = s.header
header_in (Tree s) = s.header
header_in (Buffers s) = s.header

abbrev pub state_in : AnySpec → State
state_in (Multiset s) = showing s.amounts
state_in (Cache s) = showing (row_amounts s.pairs.items)
state_in (Tree s) = showing s.amounts
state_in (Buffers s) = showing (row_amounts s.texts.items)

abbrev pub made_in : AnySpec → ℕ
made_in (Multiset s) = s.made
made_in (Cache s) = s.made
made_in (Tree s) = s.made
made_in (Buffers s) = s.made

abbrev pub touched_in : AnySpec → List ℕ
touched_in (Multiset s) = s.touched
touched_in (Cache s) = s.touched
touched_in (Tree s) = s.touched
touched_in (Buffers s) = s.touched

-- The subject is built in.
pub built_in_subject : (s : AnySpec) → is_built_in (header_in s).subject ≡ true
built_in_subject (Multiset s) = ap is_built_in s.subject
built_in_subject (Cache s) = ap is_built_in s.subject
built_in_subject (Tree s) = ap is_built_in s.subject
built_in_subject (Buffers s) = ap is_built_in s.subject

-- What is shown are amounts.
pub formed_in : (s : AnySpec) → IsAmounts (state_in s).shown
formed_in (Multiset s) = s.formed
formed_in (Cache s) = row_formed s.pairs.items
formed_in (Tree s) = s.formed
formed_in (Buffers s) = row_formed s.texts.items

-- Keys have less than 63 bits, and amounts at most 64.
pub small_in : (s : AnySpec)
    → AllAmounts (λ key amount. (key < 2 ^ 63) × (amount < 2 ^ 64)) (state_in s).shown
small_in (Multiset s) = small_counts s.made s.amounts s.few s.small
small_in (Cache s) = small_chunks (row_amounts s.pairs.items) s.small
small_in (Tree s) = small_values s.amounts s.small
small_in (Buffers s) = small_texts (row_amounts s.texts.items) s.small
