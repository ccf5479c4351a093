-- Which events can be written.
use Rattle.std.specs.Prelude.{Bool, true}
use Rattle.vyrd_base.specs.declared.history.Did.{Did}
use Rattle.vyrd_base.specs.declared.history.Did.TheVariants.{Marked}
use Rattle.vyrd_text.specs.Written.{is_padded}

-- whether a call's arguments that the method doesn't have are 0
abbrev pub is_padded_did : Did → Bool
is_padded_did (Marked kind) = is_padded kind
is_padded_did _ = true
