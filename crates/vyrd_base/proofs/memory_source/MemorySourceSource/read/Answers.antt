use Rattle.std.proofs.Common.{◌≡◌, Some, ◌≤◌, refl, sym, ap, ◌∙◌, length, drop, take, arith}
use Rattle.vyrd_base.proofs.DeviceLaws.{given_next}
use Rattle.vyrd_base.proofs.memory_source.MemorySourceSource.read.Goals as goal

pub returns-clause-given : goal.returns-clause-given
returns-clause-given c =
    let rest : c.split_at.result.1.now ≡ drop c.self.inside.given c.self.inside.bytes.items =
    c.split_at.ensures.back ∙ ap (drop c.self.inside.given) c.deref.ensures.value in
    let fits : c.min-n.result ≤ length (drop c.self.inside.given c.self.inside.bytes.items) =
    omega (arith, ap length rest) in
    let copied = c.copy_from_slice.ensures.after ∙ ap (take c.min-n.result) rest in
    let empty : c.min-n.result ≡ 0 → length (drop c.self.inside.given c.self.inside.bytes.items)
    ≡ 0 =
    λ none. omega (
      arith,
      none,
      c.min-n.ensures,
      c.min.ensures,
      ap length
          rest,
      c.requires.room,
      c.self.invariant,
    ) in
    given_next _ _ c.self.inside.given c.min-n.result c.self.inside.bytes.items
    c.copy_from_slice.new.self
    (drop c.min-n.result c.args.buf.now) (ap (λ s. Some s.rest) (sym c.self.view_is)) refl refl
    copied fits empty
