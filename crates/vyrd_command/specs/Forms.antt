-- The words that the program takes.
use Rattle.std.specs.Prelude.{Bool, ◌&&◌, ℕ, nat_le, List, [], ◌∷◌, map, codes, decimal, Option}
use Rattle.std.specs.Prelude.{Some, None, if◌then◌else◌, ◌++◌}
use Rattle.std.specs.Option.{option_and_then}
use Rattle.std.specs.Str.{bytes_eq}
use Rattle.std.specs.Borrow.{Bor}
use Rattle.vyrd_base.specs.Lines.{number_of}
use Rattle.vyrd_memory.specs.Bounds.{most_ops}
use Rattle.vyrd_explain.specs.declared.about.About.TheVariants.{Fault, Changes}
use Rattle.vyrd_command.specs.declared.show.Show.{Show}
use Rattle.vyrd_command.specs.declared.show.Show.TheVariants.{Verdict, Log, History}
use Rattle.vyrd_command.specs.declared.form.Form.{Form}
use Rattle.vyrd_command.specs.declared.form.Form.TheVariants.{Check, Step, Run, Gen, Movers, Batch}
use Rattle.vyrd_command.specs.declared.form.Form.TheVariants.{Tell}

-- one word: `check`, `step`, `run`, `movers`, `batch`, `explain` or `follow`
abbrev pub one_word : List ℕ → Option Form
one_word word = if bytes_eq word (codes "check") then Some Check
    else (if bytes_eq word (codes "step") then Some (Step Verdict)
    else (if bytes_eq word (codes "run") then Some (Run Verdict)
    else (if bytes_eq word (codes "movers") then Some Movers
    else (if bytes_eq word (codes "batch") then Some Batch
    else (if bytes_eq word (codes "explain") then Some (Tell Fault)
    else (if bytes_eq word (codes "follow") then Some (Tell Changes) else None))))))

-- whether a word is the one spelling of a number from 1 to 200,000
abbrev pub is_count : List ℕ → Bool
is_count word = bytes_eq (decimal (number_of word)) word && nat_le 1 (number_of word)
    && nat_le (number_of word) most_ops

-- what an option asks for: `--log` or `--history`
abbrev pub shown_by : List ℕ → Option Show
shown_by option = if bytes_eq option (codes "--log") then Some Log
    else (if bytes_eq option (codes "--history") then Some History else None)

-- `step` and `run` with what is to be shown
abbrev pub shown_form : List ℕ → Show → Option Form
shown_form word show = if bytes_eq word (codes "step") then Some (Step show)
    else (if bytes_eq word (codes "run") then Some (Run show) else None)

-- two words: `step` or `run` with an option, or `gen` with a number from 1 to 200,000
abbrev pub two_words : List ℕ → List ℕ → Option Form
two_words word other =
    if bytes_eq word (codes "gen") then
    (if is_count other then Some (Gen (number_of other)) else None)
    else option_and_then (shown_form word) (shown_by other)

-- the form of the words, if they have one
abbrev pub form_in : List (List ℕ) → Option Form
form_in (word ∷ []) = one_word word
form_in (word ∷ other ∷ []) = two_words word other
form_in _ = None

-- the form of the words that a call is given
abbrev pub form_said : List (Bor (List ℕ)) → Option Form
form_said words = form_in (map (λ word. word.now) words)

-- the usage line
abbrev pub usage_line : List ℕ
usage_line =
    codes "usage: vyrd check | step [--log|--history] | run [--log|--history] | gen N"
    ++ codes " | movers | batch | explain | follow\n"
