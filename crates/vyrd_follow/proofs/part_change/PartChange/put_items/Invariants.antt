use Rattle.vyrd_follow.proofs.Prelude.{◌≡◌, ◌-◌, ◌^◌, ◌++◌, map, option_map_or, IsAmounts}
use Rattle.vyrd_follow.proofs.Prelude.{differences, changed_item, view_by}
use Rattle.vyrd_follow.proofs.NextKeyLaws.{AreUpTo}
use Rattle.vyrd_follow.proofs.part_change.PartChange.put_items.Given as goal

abbrev pub invariant-loop-next : goal.invariant-loop-next
invariant-loop-next g l =
    let a = l.fn.shown in
    let b = view_by (g.D.Decode.shows l.decoder) l.words in
    let item = changed_item l.effect l.was a b in record {
      formed : IsAmounts l.shown;
      known : AreUpTo a b l.next l.shown;
      rest : l.items.items ++ map item (differences l.shown b)
          ≡ l.fn.items.items ++ map item (differences a b);
    }

abbrev pub decreases-loop-next : goal.decreases-loop-next
decreases-loop-next g l = option_map_or (λ key. 2 ^ 64 - key) l.next 0
