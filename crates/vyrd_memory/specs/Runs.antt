-- Laws of runs of sound scripts. A run by turns is a legal history in which each caller plays its
-- whole script, and it is a function of the scripts and the turns. And a log that such a history
-- leaves breaks no rule of shape, except that callers may race for a word of a block.
use Rattle.std.specs.Prelude.{◌≡◌, ℕ, ◌<◌, Bool, true, ◌&&◌, List, [], length}
use Rattle.std.specs.List.{AllByRecursion}
use Rattle.vyrd_base.specs.declared.header.Header.{Header}
use Rattle.vyrd_base.specs.declared.log.Kind.{Kind}
use Rattle.vyrd_base.specs.declared.log.Kind.TheVariants.{Call}
use Rattle.vyrd_base.specs.declared.history.Stamped.{Stamped}
use Rattle.vyrd_base.specs.declared.verdict.Rule.{Rule}
use Rattle.vyrd_base.specs.declared.verdict.Rule.TheVariants.{BlockRaced}
use Rattle.vyrd_base.specs.declared.verdict.Verdict.TheVariants.{Malformed}
use Rattle.vyrd_base.specs.Places.{newest_first}
use Rattle.vyrd_base.specs.Subjects.{same_subject, subject_of, are_args}
use Rattle.vyrd_base.specs.Histories.{cells_of, is_legal, log_of}
use Rattle.vyrd_base.specs.Verdicts.{verdict}
use Rattle.vyrd_memory.specs.declared.op.Turn.{Turn}
use Rattle.vyrd_memory.specs.Scripts.{Script, PlaysToTheEnd}
use Rattle.vyrd_memory.specs.Soundness.{IsSound, at_rest}
use Rattle.vyrd_memory.specs.Turns.{part_of, script_of, RunsTo, GetsStuck}
use Rattle.vyrd_base.specs.Rules.{rules_of}

-- there is a script for each caller of the header, and each is sound for a caller at rest
pub record AreSoundScripts (h : Header) (scripts : List Script) : Type 0 where
  pub count : length scripts ≡ h.callers
  pub sound : (c : ℕ) → c < h.callers → IsSound h at_rest (script_of scripts c)

-- Each caller's part of the history is the whole of what its script wants. A caller that has no
-- script does nothing.
abbrev pub PlayToTheEnd : List Script → List Stamped → Type 0
PlayToTheEnd scripts history =
    (c : ℕ) → PlaysToTheEnd (script_of scripts c) (part_of c (newest_first history))

-- The history that sound scripts leave when they are played by turns is legal.
abbrev pub RunsByTurnsAreLegal : Type 0
RunsByTurnsAreLegal =
    (h : Header) (scripts : List Script) (turns : List Turn) (history : List Stamped)
    → AreSoundScripts h scripts → RunsTo scripts turns history
    → is_legal (cells_of h) history ≡ true

-- In that history each script is played to its end.
abbrev pub RunsByTurnsPlayToTheEnd : Type 0
RunsByTurnsPlayToTheEnd =
    (h : Header) (scripts : List Script) (turns : List Turn) (history : List Stamped)
    → AreSoundScripts h scripts → RunsTo scripts turns history
    → PlayToTheEnd scripts history

-- Whatever legal history sound scripts leave when they are played to their end, by turns or all at
-- once: if the verdict about its log names a broken rule, the rule is that of a write to a word
-- that another caller's open block has written.
abbrev pub OnlyRacesAreMalformed : Type 0
OnlyRacesAreMalformed =
    (h : Header) (scripts : List Script) (history : List Stamped) → AreSoundScripts h scripts
    → is_legal (cells_of h) history ≡ true → PlayToTheEnd scripts history → (line : ℕ) (rule : Rule)
    → verdict (rules_of h) [] (log_of history) ≡ Malformed line rule → rule ≡ BlockRaced

-- whether an entry, if it is a call, is one of the header's subject with arguments in range
abbrev pub is_call_of : Header → Kind → Bool
is_call_of h (Call method args) =
    same_subject (subject_of method) h.subject && are_args h.size method args
is_call_of h _ = true

-- The calls in that log are of the header's subject, and their arguments are in range.
abbrev pub LoggedCallsFit : Type 0
LoggedCallsFit =
    (h : Header) (scripts : List Script) (history : List Stamped) → AreSoundScripts h scripts
    → is_legal (cells_of h) history ≡ true → PlayToTheEnd scripts history
    → AllByRecursion (λ e. is_call_of h e.kind ≡ true) (log_of history)

-- Scripts that are played by the same turns leave the same history.
abbrev pub TurnsHaveOneEnd : Type 0
TurnsHaveOneEnd = (scripts : List Script) (turns : List Turn) (a b : List Stamped)
    → RunsTo scripts turns a → RunsTo scripts turns b → a ≡ b

-- A run by turns that ends doesn't get stuck.
abbrev pub EndedRunsArentStuck : Type 0
EndedRunsArentStuck = (scripts : List Script) (turns : List Turn) (history : List Stamped)
    → RunsTo scripts turns history → GetsStuck scripts turns → ⊥
