-- Where the writes of effects stand.
use Rattle.std.specs.Prelude.{◌≡◌, List, Some, slice_get}
use Rattle.vyrd_base.specs.declared.log.Kind.TheVariants.{Write}
use Rattle.vyrd_base.specs.declared.log.Entry.{Entry}
use Rattle.vyrd_witness.specs.declared.effect.Effect.{Effect}

-- at the position of the write its caller writes that value to that word
abbrev pub IsWritten : List Entry → Effect → Type 0
IsWritten log x = slice_get log x.written
    ≡ Some (record { caller = x.caller; kind = Write x.word x.value })
