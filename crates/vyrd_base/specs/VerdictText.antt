-- The one line that a verdict is written as.
use Rattle.std.specs.Prelude.{ℕ, List, ◌++◌, codes, decimal}
use Rattle.vyrd_base.specs.declared.verdict.Rule.{Rule}
use Rattle.vyrd_base.specs.declared.verdict.Rule.TheVariants.{TooManyLines, AfterEnd, BadHeader}
use Rattle.vyrd_base.specs.declared.verdict.Rule.TheVariants.{UnknownVersion, BadEntry, StartRange}
use Rattle.vyrd_base.specs.declared.verdict.Rule.TheVariants.{StartOrder, NoLineFeed, NoEnd}
use Rattle.vyrd_base.specs.declared.verdict.Rule.TheVariants.{StartState, CallerRange, MethodOther}
use Rattle.vyrd_base.specs.declared.verdict.Rule.TheVariants.{ArgumentRange, CallInCall, NoCall}
use Rattle.vyrd_base.specs.declared.verdict.Rule.TheVariants.{ReturnInBlock, NoCommit, WordRange}
use Rattle.vyrd_base.specs.declared.verdict.Rule.TheVariants.{ValueRange, BlockRaced}
use Rattle.vyrd_base.specs.declared.verdict.Rule.TheVariants.{ObserverCommit, SecondCommit}
use Rattle.vyrd_base.specs.declared.verdict.Rule.TheVariants.{CommitInBlock, BlockInBlock, NoBlock}
use Rattle.vyrd_base.specs.declared.verdict.Rule.TheVariants.{CallOpen, Specification}
use Rattle.vyrd_base.specs.declared.own.rule.SpecificationRule.{SpecificationRule}
use Rattle.vyrd_base.specs.declared.own.rule.SpecificationRule.TheVariants.{TooLong, BadLine}
use Rattle.vyrd_base.specs.declared.own.rule.SpecificationRule.TheVariants.{OutOfPlace, NameTaken}
use Rattle.vyrd_base.specs.declared.own.rule.SpecificationRule.TheVariants.{UnknownName, TooMany}
use Rattle.vyrd_base.specs.declared.own.rule.SpecificationRule.TheVariants.{TooDeep, StateIsRead}
use Rattle.vyrd_base.specs.declared.own.rule.SpecificationRule.TheVariants.{NoCase, NoMethod}
use Rattle.vyrd_base.specs.declared.verdict.Why.{Why}
use Rattle.vyrd_base.specs.declared.verdict.Why.TheVariants.{Reply, View, Observer}
use Rattle.vyrd_base.specs.declared.verdict.Verdict.{Verdict}
use Rattle.vyrd_base.specs.declared.verdict.Verdict.TheVariants.{Accepted, Violation, Malformed}
use Rattle.vyrd_base.specs.Spelling.{ended_line}

-- the name of a rule of a specification's text
abbrev pub specification_text : SpecificationRule → List ℕ
specification_text TooLong = codes "line too long"
specification_text BadLine = codes "bad specification line"
specification_text OutOfPlace = codes "line out of place"
specification_text NameTaken = codes "name taken"
specification_text UnknownName = codes "unknown name"
specification_text TooMany = codes "too many"
specification_text TooDeep = codes "too deep"
specification_text StateIsRead = codes "state is read here"
specification_text NoCase = codes "method without a case"
specification_text NoMethod = codes "no method"

-- the name of a rule
abbrev pub rule_text : Rule → List ℕ
rule_text TooManyLines = codes "too many lines"
rule_text AfterEnd = codes "text after end"
rule_text BadHeader = codes "bad header"
rule_text UnknownVersion = codes "unknown version"
rule_text BadEntry = codes "bad entry"
rule_text StartRange = codes "start out of range"
rule_text StartOrder = codes "start word not rising"
rule_text (Specification rule) = specification_text rule
rule_text NoLineFeed = codes "no line feed"
rule_text NoEnd = codes "no end"
rule_text StartState = codes "start stands for no state"
rule_text CallerRange = codes "caller out of range"
rule_text MethodOther = codes "method of another subject"
rule_text ArgumentRange = codes "argument out of range"
rule_text CallInCall = codes "call inside a call"
rule_text NoCall = codes "no call open"
rule_text ReturnInBlock = codes "return inside a block"
rule_text NoCommit = codes "no commit"
rule_text WordRange = codes "word out of range"
rule_text ValueRange = codes "value out of range"
rule_text BlockRaced = codes "block raced"
rule_text ObserverCommit = codes "observer commits"
rule_text SecondCommit = codes "second commit"
rule_text CommitInBlock = codes "commit inside a block"
rule_text BlockInBlock = codes "block inside a block"
rule_text NoBlock = codes "no block open"
rule_text CallOpen = codes "call not returned"

-- what is said of a violation
abbrev pub why_text : Why → List ℕ
why_text (Reply r) = codes "reply " ++ decimal r ++ codes " not allowed"
why_text (View k) = codes "view differs at key " ++ decimal k
why_text (Observer r) = codes "observer reply " ++ decimal r ++ codes " in no state"

-- the line without its line feed. Its words are the same for one and for many.
abbrev pub verdict_words : Verdict → List ℕ
verdict_words (Accepted entries commits observers) =
    codes "accepted: " ++ decimal entries ++ codes " entries, " ++ decimal commits
    ++ codes " commits, " ++ decimal observers ++ codes " observers"
verdict_words (Violation line why) =
    codes "violation at line " ++ decimal line ++ codes ": " ++ why_text why
verdict_words (Malformed line rule) =
    codes "malformed at line " ++ decimal line ++ codes ": " ++ rule_text rule

-- the verdict's line, with its line feed
unfoldable pub verdict_text : Verdict → List ℕ
verdict_text verdict = ended_line (verdict_words verdict)
