use Rattle.vyrd_own_log.proofs.Prelude.{Vec, texts, ℕ, ap, sym, ◌∙◌, subst, kept_of, IsFed}
use Rattle.vyrd_own_log.proofs.ReadLaws.{fed_then, taken_fed, one_ok}
use Rattle.vyrd_own_log.proofs.FrontLaws.{line_front, front_then}
use Rattle.vyrd_own_log.proofs.piece_reader.PieceReader.take_piece.Goals as goal

pub loop-line-preserved : goal.loop-line-preserved
loop-line-preserved c =
    let one = c.in_ok-take_line.ensures in
    let more = c.in_ok-rest-2.ensures in
    record {
      safe = more.safe;
      limit = more.limit ∙ one.limit ∙ c.loop-line.invariant.limit;
      fed = λ sound.
          let front = c.loop-line.invariant.fed sound in
          front_then (kept_of c.args.self.now) (kept_of c.loop-line.self) _ c.args.piece.now
          c.loop-line.rest.now _ _ _ _ _ _ _ front
          (front_then (kept_of c.loop-line.self) (kept_of c.take_line.new.self) _
          c.loop-line.rest.now c.in-Some.after.now _ _ _ _ _ _ _
          (line_front (kept_of c.loop-line.self) (kept_of c.take_line.new.self) c.in-Some.line.now
          c.loop-line.rest.now c.in-Some.after.now _ _ _ _
          c.in-Some.ensures.1 (one.fed front.sound) (one.sound front.sound))
          (more.fed (one.sound front.sound)));
    }

pub returns-clause-fed : goal.returns-clause-fed
returns-clause-fed c = one_ok c.take_unfinished.result
    (λ taken sound.
    let front = c.loop-line.invariant.fed sound in
    let k = kept_of c.args.self.now in
    let m = kept_of c.loop-line.self in
    let n = kept_of c.take_unfinished.new.self in
    subst (λ t. IsFed k t c.args.out.now.items c.loop-line.out.items c.args.numbers.now.items
    c.loop-line.numbers.items n) (sym front.parted)
    (fed_then k m n front.read c.loop-line.rest.now _ _ _ _ _ _ front.fed
    (taken_fed m n c.loop-line.rest.now c.loop-line.out.items c.loop-line.numbers.items
    (taken front.sound)
    (ap (λ (v : Vec (Vec ℕ)). texts v.items) c.take_unfinished.ensures.specified)
    (ap (λ v. v.items) c.take_unfinished.ensures.start))))
    c.take_unfinished.ensures.taken
