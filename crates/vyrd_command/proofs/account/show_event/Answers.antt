use Rattle.vyrd_command.proofs.Prelude.{◌∙◌, sym, subst, ap, ◌++◌, [], ◌∷◌, ◌≡◌, on_ok_weaker}
use Rattle.vyrd_command.proofs.Prelude.{text_so_far}
use Rattle.vyrd_command.proofs.AccountLaws.{entry_shown, nothing_shown, event_shown}
use Rattle.vyrd_command.proofs.account.show_event.Goals as goal

pub returns-in-Some : goal.returns-in-Some
returns-in-Some c = λ h history before.
    let show = sym c.in-Log.is in
    on_ok_weaker c.write_entry.result (λ now.
    subst (λ show. c.write_entry.new.out.items ≡ text_so_far show h (history ++ c.args.event ∷ []))
    show
    (entry_shown h history c.args.event c.in-Some.entry c.args.text.now.items
    c.write_entry.new.out.items
    (sym c.entry_of.ensures ∙ c.in-Some.is)
    (before ∙ ap (λ show. text_so_far show h history) c.in-Log.is) now))
    c.write_entry.ensures.ok

pub returns-in-None : goal.returns-in-None
returns-in-None c = λ h history before.
    subst (λ show. c.args.text.now.items ≡ text_so_far show h (history ++ c.args.event ∷ []))
    (sym c.in-Log.is)
    (nothing_shown h history c.args.event c.args.text.now.items
    (sym c.entry_of.ensures ∙ c.in-None.is)
    (before ∙ ap (λ show. text_so_far show h history) c.in-Log.is))

pub returns-in-History : goal.returns-in-History
returns-in-History c = λ h history before.
    on_ok_weaker c.write_event.result (λ now.
    subst (λ show. c.write_event.new.out.items ≡ text_so_far show h (history ++ c.args.event ∷ []))
    (sym c.in-History.is)
    (event_shown h history c.args.event c.args.text.now.items c.write_event.new.out.items
    (before ∙ ap (λ show. text_so_far show h history) c.in-History.is) now))
    c.write_event.ensures.ok
