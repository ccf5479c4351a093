use Rattle.vyrd_plain.proofs.Prelude.{◌+◌, take, drop, refl, ap, subst, ◌∙◌, IfOk, rules_by}
use Rattle.vyrd_plain.proofs.Prelude.{next_reply, HasEffects, CommitGives}
use Rattle.vyrd_plain.proofs.StepLaws.{known_at, same_entry, running, allowed_all, leads_as}
use Rattle.vyrd_plain.proofs.StepLaws.{leads_for, call_allowed, return_called}
use Rattle.vyrd_base.proofs.CommitLaws.{commits_by}
use Rattle.vyrd_plain.proofs.FaultLaws.{commit_called, commit_mutates, commit_leads, return_leads}
use Rattle.vyrd_plain.proofs.FaultLaws.{call_leads, quiet_by, quiet_leads}
use Rattle.vyrd_plain.proofs.BlockFacts.{words_here}
use Rattle.vyrd_plain.proofs.scan.Scan.step.Goals as goal

pub begin-requires-clause-caller : goal.begin-requires-clause-caller
begin-requires-clause-caller g c =
    let here = known_at c.entry_at-entry.ensures c.in-Call.is c.requires.kept c.requires.tracks in
    here.within

pub begin-requires-clause-allowed : goal.begin-requires-clause-allowed
begin-requires-clause-allowed g c =
    let here = known_at c.entry_at-entry.ensures c.in-Call.is c.requires.kept c.requires.tracks in
    call_allowed here

pub finish-requires : goal.finish-requires
finish-requires g c =
    let here = known_at c.entry_at-entry.ensures c.in-Return.is c.requires.kept c.requires.tracks in
    record { caller = here.within }

pub commit-requires-clause-caller : goal.commit-requires-clause-caller
commit-requires-clause-caller g c =
    let here = known_at c.entry_at-entry.ensures refl c.requires.kept c.requires.tracks in
    here.within

pub commit-requires-clause-allowed : goal.commit-requires-clause-allowed
commit-requires-clause-allowed g c =
    allowed_all _ _ _ _ _ _ c.requires.tracks

pub commit-requires-clause-mutates : goal.commit-requires-clause-mutates
commit-requires-clause-mutates g c =
    let here = known_at c.entry_at-entry.ensures refl c.requires.kept c.requires.tracks in
    commit_mutates (commits_by c.in-Commit.is) here

pub returns-in-Call-clause-gives : goal.returns-in-Call-clause-gives
returns-in-Call-clause-gives g c = λ e is.
    let here = known_at c.entry_at-entry.ensures c.in-Call.is c.requires.kept c.requires.tracks in
    let reply = c.next_reply-reply.ensures ∙ ap (next_reply c.entry_at-entry.result.caller)
    c.split_at.ensures.back in
    (leads_for (same_entry c.entry_at-entry.ensures c.in-Call.is is)
    (leads_as (ap g.S.Spec.state c.begin.ensures.spec) c.begin.ensures.executions refl
    (call_leads here reply))).to

pub returns-in-Return-clause-gives : goal.returns-in-Return-clause-gives
returns-in-Return-clause-gives g c = λ e is.
    let here = known_at c.entry_at-entry.ensures c.in-Return.is c.requires.kept c.requires.tracks in
    let ran = running here (return_called here).1 in
    (leads_for (same_entry c.entry_at-entry.ensures c.in-Return.is is)
    (leads_as (ap g.S.Spec.state c.finish.ensures.spec) c.finish.ensures.executions
    (c.finish.ensures.outcome ran.0 ran.1)
    (return_leads here ran.2))).to

pub returns-in-Commit-clause-gives : goal.returns-in-Commit-clause-gives
returns-in-Commit-clause-gives g c = λ e is.
    let rules = rules_by (g.S.Spec.charter c.args.self.now.spec) in
    let r = c.entry_at-entry.result in
    let commits = commits_by c.in-Commit.is in
    let here = known_at c.entry_at-entry.ensures refl c.requires.kept c.requires.tracks in
    let ran = running here (commit_called commits here).1 in
    let words = words_here rules.header c.args.front.now c.args.at r c.step.new.self.words.items
    c.step.new.self.open_blocks.items c.entry_at-entry.ensures
    (subst (λ k. HasEffects k c.step.new.self.words.items c.step.new.self.open_blocks.items
    (take (c.args.at + 1) c.args.front.now) (drop (c.args.at + 1) c.args.front.now))
    c.args.self.now.effects_header c.step.ensures.next) in
    commit_leads c.commit.result _ _ commits here ran.2
    (same_entry c.entry_at-entry.ensures refl is)
    (subst (λ ws. IfOk c.commit.result
    (CommitGives rules (rules.view ws) c.entry_at-entry.result.caller ran.0
    (g.S.Spec.state c.args.self.now.spec)
    (g.S.Spec.state c.commit.new.self.spec) c.args.self.now.executions.items
    c.commit.new.self.executions.items)) words
    (c.commit.ensures.gives ran.0 ran.1))

pub returns-in-Write-clause-gives : goal.returns-in-Write-clause-gives
returns-in-Write-clause-gives g c = λ e is.
    let here = known_at c.entry_at-entry.ensures refl c.requires.kept c.requires.tracks in
    (leads_for (same_entry c.entry_at-entry.ensures refl is)
    (quiet_leads (quiet_by c.in-Write.is) here)).to
