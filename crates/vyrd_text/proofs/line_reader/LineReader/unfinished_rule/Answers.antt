use Rattle.vyrd_text.proofs.Prelude.{arith, subst, Some, None, TooManyLines, BadEntry, LineState}
use Rattle.vyrd_text.proofs.Prelude.{IsRuleOfRest, state_of}
use Rattle.vyrd_text.proofs.ReaderLaws.{none_of, some_of}
use Rattle.vyrd_text.proofs.RestSteps.{first_long, first_short, rest_past, rest_after_end}
use Rattle.vyrd_text.proofs.RestSteps.{rest_long, rest_short}
use Rattle.vyrd_text.proofs.line_reader.LineReader.unfinished_rule.Goals as goal

pub returns-then-is_long-clause-rule : goal.returns-then-is_long-clause-rule
returns-then-is_long-clause-rule = grind (arith, none_of, first_long)

pub returns-else-is_long-clause-rule : goal.returns-else-is_long-clause-rule
returns-else-is_long-clause-rule c =
    let fine = rw (← c.self.view_is) at c.requires.fine in
    let none = none_of c.self.inside.header c.if-is_none.ensures in
    let first = c.self.invariant.first none in
    subst (λ (s : LineState). IsRuleOfRest s c.args.more None) c.self.view_is (λ bytes len lack.
    first_short (state_of c.self.inside) fine c.self.invariant.low c.self.invariant.one_line bytes
    lack
    (omega (arith, len, c.requires.some)) none first.0 first.1
    (omega (arith, len, c.if-is_long.false, c.len.ensures.len, c.self.invariant.short)))

pub returns-then-self-clause-rule : goal.returns-then-self-clause-rule
returns-then-self-clause-rule c =
    let fine = rw (← c.self.view_is) at c.requires.fine in
    let header = some_of c.self.inside.header c.if-is_none.ensures in
    subst (λ (s : LineState). IsRuleOfRest s c.args.more (Some TooManyLines)) c.self.view_is
    (λ bytes len lack.
    rest_past (state_of c.self.inside) fine c.self.invariant.low c.self.invariant.one_line bytes
    lack
    (omega (arith, len, c.requires.some)) header.0 header.1 c.if-self.true)

pub returns-then-self-2-clause-rule : goal.returns-then-self-2-clause-rule
returns-then-self-2-clause-rule = grind (arith, some_of, rest_after_end)

pub returns-then-is_long-2-clause-rule : goal.returns-then-is_long-2-clause-rule
returns-then-is_long-2-clause-rule c =
    let fine = rw (← c.self.view_is) at c.requires.fine in
    let header = some_of c.self.inside.header c.if-is_none.ensures in
    subst (λ (s : LineState). IsRuleOfRest s c.args.more (Some BadEntry)) c.self.view_is
    (λ bytes len lack.
    rest_long (state_of c.self.inside) fine c.self.invariant.low c.self.invariant.one_line bytes
    lack
    (omega (arith, len, c.requires.some)) header.0 header.1 c.if-self.false c.if-self-2.false
    (omega (arith, len, c.if-is_long-2.true, c.len.ensures.len, c.self.invariant.short)))

pub returns-else-is_long-2-clause-rule : goal.returns-else-is_long-2-clause-rule
returns-else-is_long-2-clause-rule c =
    let fine = rw (← c.self.view_is) at c.requires.fine in
    let header = some_of c.self.inside.header c.if-is_none.ensures in
    subst (λ (s : LineState). IsRuleOfRest s c.args.more None) c.self.view_is (λ bytes len lack.
    rest_short (state_of c.self.inside) fine c.self.invariant.low c.self.invariant.one_line bytes
    lack
    (omega (arith, len, c.requires.some)) header.0 header.1 c.if-self.false c.if-self-2.false
    (omega (arith, len, c.if-is_long-2.false, c.len.ensures.len, c.self.invariant.short)))
