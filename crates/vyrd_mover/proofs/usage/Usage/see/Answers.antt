use Rattle.vyrd_mover.proofs.Prelude.{◌≡◌, ◌||◌, ◌∙◌, cond, ap, sym, in_both, joined, is_used}
use Rattle.vyrd_mover.proofs.UsageLaws.{when_unused, when_used, same_use, or_is_true, or_is_second}
use Rattle.vyrd_mover.proofs.usage.Usage.see.Goals as goal
use Rattle.vyrd_mover.proofs.usage.Usage.see.Goals.{in-Nobody+in_ok-self-inside, in_default}
use Rattle.vyrd_mover.proofs.usage.Usage.see.Goals.{then-self, else-self}

pub returns-clause-ok : goal.returns-clause-ok
returns-clause-ok c =
    let before = c.self.inside in
    let users_kept : c.match-self.self-inside.users ≡ before.users =
    elim c.match-self.branch [
      | in-Nobody+in_ok-self-inside w ↦ ap
          (λ s. s.users) w.self-inside-is
      | in_default w ↦ ap (λ s. s.users) w.self-inside-is
    ] in
    let written_kept : c.match-self.self-inside.written ≡ before.written =
    elim c.match-self.branch [
      | in-Nobody+in_ok-self-inside w ↦ ap
          (λ s. s.written) w.self-inside-is
      | in_default w ↦ ap (λ s. s.written) w.self-inside-is
    ] in
    let users : c.join-self-inside.result ≡ joined before.users c.args.caller =
    c.join-self-inside.ensures ∙ ap (λ u. joined u c.args.caller) users_kept in
    let written : c.if-self.self ≡ (before.written || c.args.is_write) =
    elim c.if-self.branch [
      | then-self w ↦ w.self-is ∙ w.if-self.true ∙ or_is_true before.written c.args.is_write
          (sym written_kept ∙ w.if-self.true)
      | else-self w ↦ w.self-is ∙ or_is_second before.written c.args.is_write
          (sym written_kept ∙ w.if-self.false)
    ] in
    let guards : c.match-self.self-inside.guards ≡ cond (is_used before.users)
    (in_both before.guards c.args.held.now) c.args.held.now =
    elim c.match-self.branch [
      | in-Nobody+in_ok-self-inside w ↦
          ap (λ s. s.guards) w.self-inside-is ∙ w.in_ok-self-inside.ensures
          ∙ sym (when_unused before.users (in_both before.guards c.args.held.now) c.args.held.now
          w.in-Nobody.is)
      | in_default w ↦
          ap (λ s. s.guards) w.self-inside-is ∙ w.intersect_with.ensures
          ∙ sym (when_used before.users (in_both before.guards c.args.held.now) c.args.held.now
          w.in_default.not-Nobody)
    ] in
    rw (← c.self.view_is) (same_use _ _ users written guards)
