-- How much of a text is written, write by write.
use Rattle.std.proofs.Common.{ℕ, ◌+◌, List, take, drop, Option, Some, None, ap, ◌∙◌, append_assoc}
use Rattle.std.specs.Prelude.{option_map}
use Rattle.std.proofs.Math.Seq.{take-add}
use Rattle.vyrd_base.specs.Devices.{SinkKnown, Takes}
use Rattle.vyrd_check_command.specs.Outputs.{Appends}

pub appends_next : (before : Option (List ℕ)) (between after : SinkKnown) (text : List ℕ)
    (written n : ℕ) → Appends before between.taken (take written text)
    → Takes between n (drop written text) after → Appends before after.taken
    (take (written + n) text)
appends_next None between after text written n so takes = takes.bytes ∙ ap (option_map _) so
appends_next (Some taken) between after text written n so takes = takes.bytes ∙ ap (option_map _) so
    ∙ ap Some (cc
    (append_assoc taken (take written text) (take n (drop written text)), take-add written n text))
