use Rattle.vyrd_text.proofs.Prelude.{ap, ◌∙◌, sym, ◌≡◌, true, false, ok_or, UnknownVersion}
use Rattle.vyrd_text.proofs.HeaderLaws.{header_known, header_unknown, made, not_made}
use Rattle.vyrd_text.proofs.header.read_header.Goals as goal

pub returns-in_default : goal.returns-in_default
returns-in_default c = header_unknown c.args.line.now c.in_default.ensures

pub returns-in_default-new : goal.returns-in_default-new
returns-in_default-new c =
    sym (header_known c.args.line.now c.in-Some.version c.in-Some.subject c.in-Some.size
    c.in-Some.callers c.in-Some.ensures
    ∙ ap (λ o. ok_or o UnknownVersion)
    (not_made c.in-Some.version c.in-Some.subject c.in-Some.size c.in-Some.callers
    (λ h. let x : false
    ≡ true = c.in_default-new.ensures.within.1 h in cc)))

pub returns : goal.returns
returns c =
    sym (header_known c.args.line.now c.in-Some.version c.in-Some.subject c.in-Some.size
    c.in-Some.callers c.in-Some.ensures
    ∙ ap (λ o. ok_or o UnknownVersion)
    (made c.in-Some.version c.in-Some.subject c.in-Some.size c.in-Some.callers c.in-Some-new.header
    c.in-Some-new.ensures.version c.in-Some-new.ensures.subject c.in-Some-new.ensures.size
    c.in-Some-new.ensures.callers))
