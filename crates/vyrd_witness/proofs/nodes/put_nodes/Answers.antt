use Rattle.vyrd_witness.proofs.Prelude.{◌≡◌, ◌-◌, ◌+◌, ◌||◌, ℕ, List, Bool, true, false, get_or}
use Rattle.vyrd_witness.proofs.Prelude.{set, length-set, refl, ap, ◌∙◌, sym, arith, ◌==◌, right_of}
use Rattle.vyrd_witness.proofs.Prelude.{is_same, isnt_same}
use Rattle.std.proofs.Math.Bool.{or-true}
use Rattle.vyrd_view.proofs.ChainLaws.{unseen_within}
use Rattle.vyrd_witness.proofs.NodeLaws.{walk_left, walk_stops, walk_on}
use Rattle.vyrd_witness.proofs.nodes.put_nodes.Goals as goal
use Rattle.vyrd_witness.proofs.nodes.put_nodes.Goals.{then-ends-via-then-ends}
use Rattle.vyrd_witness.proofs.nodes.put_nodes.Goals.{then-ends-via-else-ends+then-back}

-- what the call of `is_seen` says of the flags
seen_is : {flags items : List Bool} {back : Bool} (q : ℕ) → flags ≡ items
    → back ≡ get_or flags q true → get_or items q true ≡ back
seen_is q same is = ap (λ s. get_or s q true) (sym same) ∙ sym is

pub returns-then-ends : goal.returns-then-ends
returns-then-ends c =
    let size = c.args.size in
    let words = c.args.words.now in
    let key = c.args.key in
    let old = c.args.parts.now.items in
    let turn = c.loop-turn._turn in
    let node = c.loop-turn.node in
    let right = right_of words node in
    let back = c.is_seen-back.result in
    let walk = walk_left size words key old c.loop-turn.parts.items c.loop-turn.seen.items turn node
    (omega arith) c.loop-turn.invariant.walk in
    let stops : (right == 0 || back) ≡ true = elim c.then-ends.branch [
      | then-ends-via-then-ends w ↦ ap (λ e. e || back) (is_same right 0 w.if-ends.true)
      | then-ends-via-else-ends+then-back w ↦
          ap (λ b. right == 0 || b) w.if-back.true ∙ or-true (right == 0)
    ] in
    walk_stops size words key old c.loop-turn.parts.items c.put_given.new.parts.items
    c.loop-turn.seen.items (size - (turn + 1)) node walk (right == 0) back c.given_by_node.result
    c.given_by_link-link.result (omega arith) refl
    (seen_is right c.deref.ensures.value c.is_seen-back.ensures) c.given_by_node.ensures.given
    c.given_by_link-link.ensures.given c.in_ok-put_given.ensures stops

pub loop-turn-preserved : goal.loop-turn-preserved
loop-turn-preserved c =
    let size = c.args.size in
    let words = c.args.words.now in
    let key = c.args.key in
    let old = c.args.parts.now.items in
    let turn = c.loop-turn._turn in
    let node = c.loop-turn.node in
    let right = right_of words node in
    let back = c.is_seen-back.result in
    let seen = c.loop-turn.seen.items in
    let walk = walk_left size words key old c.loop-turn.parts.items seen turn node (omega arith)
    c.loop-turn.invariant.walk in
    let is_back = seen_is right c.deref.ensures.value c.is_seen-back.ensures in
    let on : (right == 0 || back) ≡ false =
    ap (λ e. e || back) (isnt_same right 0 c.if-ends.false) ∙ c.if-back.false in
    let low = unseen_within (set seen node true) right (is_back ∙ c.if-back.false) in
    let flags = length-set seen node true in record {
      walk = walk_on size words key old c.loop-turn.parts.items c.put_given.new.parts.items seen
          (size - (turn + 1)) node walk (right == 0) back c.given_by_node.result
          c.given_by_link-link.result (omega arith) refl is_back c.given_by_node.ensures.given
          c.given_by_link-link.ensures.given c.in_ok-put_given.ensures on;
      flags = flags ∙ c.loop-turn.invariant.flags;
      within = omega (arith, low, flags, c.loop-turn.invariant.flags);
    }
