use Rattle.vyrd_live.proofs.Prelude.{rules, subst, sym, IsFresh, HasSent}
use Rattle.vyrd_live.proofs.workers.work_all.Goals as goal

pub map_vec-requires-after_bounds : goal.map_vec-requires-after_bounds
map_vec-requires-after_bounds g c κs within = λ i x l is. (
  (
    search rules,
    subst
        (λ j. IsFresh g.M.Machine.header_of g.M.Machine.script c.args.traced.now j.0.machine
        j.0.hand) (sym is) (c.requires.fresh i x l),
    subst (λ j. HasSent c.args.relay.now j.1.sender j.1.place j.0.hand) (sym is)
        (c.requires.sent i x l),
  ),
  (search rules, search rules, search rules),
)
