-- What follows where a call went well, or where what it leaves is sound, since it wouldn't be after
-- a failure.
use Rattle.std.proofs.Common.{◌≡◌, Bool, true, false, OnOk, OnErr, Result, Ok, Err, sym, ◌∙◌}

pub of_sound : {T E : Type 0} (r : Result T E) (P : Type 0) (refused : Bool) → OnOk r P
    → OnErr r (refused ≡ true) → refused ≡ false → P
of_sound (Ok x) P refused ok err sound = ok
of_sound (Err e) P refused ok err sound = let no : true ≡ false = sym err ∙ sound in cc
