-- The verdict about the bytes of a log of any version, and what is known of it so far. A log that
-- begins with `vyrd 3 own ` has a specification in front; every other is one of versions 1 and 2,
-- or
-- none at all. `max_lines` is the reader's limit, at least 1.
use Rattle.std.specs.Prelude.{ℕ, Bool, List, take, codes, Option, if◌then◌else◌}
use Rattle.std.specs.Str.{bytes_eq}
use Rattle.vyrd_base.specs.declared.verdict.Verdict.{Verdict}
use Rattle.vyrd_base.specs.VerdictText.{verdict_text}
use Rattle.vyrd_base.specs.TextVerdicts.{text_verdict, text_verdict_so_far}
use Rattle.vyrd_base.specs.Own.LogVerdicts.{own_text_verdict, own_text_verdict_so_far}

-- how a log begins that has a specification in front
abbrev pub own_beginning : List ℕ
own_beginning = codes "vyrd 3 own "

-- whether the bytes begin so
abbrev pub is_own_text : List ℕ → Bool
is_own_text bytes = bytes_eq (take 11 bytes) own_beginning

-- the verdict that these bytes have already, however they go on
unfoldable pub log_verdict_so_far : ℕ → List ℕ → Option Verdict
log_verdict_so_far max_lines bytes = if is_own_text bytes
    then own_text_verdict_so_far max_lines bytes
    else text_verdict_so_far max_lines bytes

-- the verdict about the whole input
unfoldable pub log_verdict : ℕ → List ℕ → Verdict
log_verdict max_lines bytes = if is_own_text bytes
    then own_text_verdict max_lines bytes
    else text_verdict max_lines bytes

-- the line that is answered about the whole input
abbrev pub log_answer : ℕ → List ℕ → List ℕ
log_answer max_lines bytes = verdict_text (log_verdict max_lines bytes)
