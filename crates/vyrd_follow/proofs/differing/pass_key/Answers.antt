use Rattle.vyrd_follow.proofs.Prelude.{◌≡◌, ◌<◌, ℕ, length, refl, ap, ◌∙◌, arith, nat_cmp, Less}
use Rattle.vyrd_follow.proofs.Prelude.{Equal, Greater, nat_tests, slice_get_read, slice_get_past}
use Rattle.vyrd_follow.proofs.DifferingLaws.{none_here, greater_here, gone, come, turns_here}
use Rattle.vyrd_follow.proofs.DifferingLaws.{stays_here}
use Rattle.vyrd_follow.proofs.differing.pass_key.Goals as goal
use Rattle.vyrd_follow.proofs.differing.pass_key.Goals.{then-x-y+in_ok-push-in-Equal, else-x-y}

less_of : (a b : ℕ) → Less ≡ nat_cmp a b → a < b
less_of a b is = grind (arith, nat_tests)

same_of : (a b : ℕ) → Equal ≡ nat_cmp a b → a ≡ b
same_of a b is = grind (arith, nat_tests)

greater_of : (a b : ℕ) → Greater ≡ nat_cmp a b → b < a
greater_of a b is = grind (arith, nat_tests)

pub returns-in_ok-push-in-None-Some-clause-found :
    goal.returns-in_ok-push-in-None-Some-clause-found
returns-in_ok-push-in-None-Some-clause-found c =
    let before = c.args.before.now in
    let after = c.args.after.now in
    let i = c.args.places.0 in
    let j = c.args.places.1 in
    let y = c.in-None-Some.y.now in
    let there = c.in-None-Some.ensures'.lookup in
    come before after i j y c.args.found.now.items c.push.new.self.items c.requires.before
    c.requires.after y (slice_get_read after (length after) j y refl there.3.0 there.1)
    (none_here before i y.0 (slice_get_past before i c.in-None-Some.ensures.lookup.3))
    c.in_ok-push-in-None-Some.ensures.items

pub returns-in_ok-push-in-Some-None-clause-found :
    goal.returns-in_ok-push-in-Some-None-clause-found
returns-in_ok-push-in-Some-None-clause-found c =
    let before = c.args.before.now in
    let after = c.args.after.now in
    let i = c.args.places.0 in
    let j = c.args.places.1 in
    let x = c.in-Some-None.x.now in
    let here = c.in-Some-None.ensures.lookup in
    gone before after i j x c.args.found.now.items c.push-in-Some-None.new.self.items
    c.requires.before c.requires.after
    (slice_get_read before (length before) i x refl here.3.0 here.1)
    (none_here after j x.0 (slice_get_past after j c.in-Some-None.ensures'.lookup.3))
    c.in_ok-push-in-Some-None.ensures.items

pub returns-in_ok-push-in-Less-clause-found : goal.returns-in_ok-push-in-Less-clause-found
returns-in_ok-push-in-Less-clause-found c =
    let before = c.args.before.now in
    let after = c.args.after.now in
    let i = c.args.places.0 in
    let j = c.args.places.1 in
    let x = c.in-Some-Some.x.now in
    let y = c.in-Some-Some.y.now in
    let here = c.in-Some-Some.ensures.lookup in
    let there = c.in-Some-Some.ensures'.lookup in
    gone before after i j x c.args.found.now.items c.push-in-Less.new.self.items
    c.requires.before c.requires.after
    (slice_get_read before (length before) i x refl here.3.0 here.1)
    (greater_here after j x.0 y c.requires.after
    (slice_get_read after (length after) j y refl there.3.0 there.1)
    (less_of x.0 y.0 c.in-Less.ensures))
    c.in_ok-push-in-Less.ensures.items

pub returns-in_ok-push-in-Greater-clause-found : goal.returns-in_ok-push-in-Greater-clause-found
returns-in_ok-push-in-Greater-clause-found c =
    let before = c.args.before.now in
    let after = c.args.after.now in
    let i = c.args.places.0 in
    let j = c.args.places.1 in
    let x = c.in-Some-Some.x.now in
    let y = c.in-Some-Some.y.now in
    let here = c.in-Some-Some.ensures.lookup in
    let there = c.in-Some-Some.ensures'.lookup in
    come before after i j y c.args.found.now.items c.push-in-Greater.new.self.items
    c.requires.before c.requires.after y
    (slice_get_read after (length after) j y refl there.3.0 there.1)
    (greater_here before i y.0 x c.requires.before
    (slice_get_read before (length before) i x refl here.3.0 here.1)
    (greater_of x.0 y.0 c.in-Greater.ensures))
    c.in_ok-push-in-Greater.ensures.items

pub returns-after-x-y-clause-found : goal.returns-after-x-y-clause-found
returns-after-x-y-clause-found c =
    let before = c.args.before.now in
    let after = c.args.after.now in
    let i = c.args.places.0 in
    let j = c.args.places.1 in
    let x = c.in-Some-Some.x.now in
    let y = c.in-Some-Some.y.now in
    let here = c.in-Some-Some.ensures.lookup in
    let there = c.in-Some-Some.ensures'.lookup in
    let ours = slice_get_read before (length before) i x refl here.3.0 here.1 in
    let theirs = slice_get_read after (length after) j y refl there.3.0 there.1 in
    let key = same_of x.0 y.0 c.in-Equal.ensures in
    elim c.if-x-y.branch [
      | then-x-y+in_ok-push-in-Equal w ↦
          turns_here before after i j x c.args.found.now.items c.if-x-y.found.items
          c.requires.before c.requires.after y theirs ours key w.if-x-y.true
          (ap (λ v. v.items) w.found-is ∙ w.in_ok-push-in-Equal.ensures.items)
      | else-x-y w ↦
          stays_here before after i j x c.args.found.now.items c.if-x-y.found.items
          c.requires.before c.requires.after y theirs ours key w.if-x-y.false
          (ap (λ v. v.items) w.found-is)
    ]
