use Rattle.vyrd_own_log.proofs.Prelude.{◌∷◌, [], ap, ℕ, Vec, texts, kept_of}
use Rattle.vyrd_own_log.proofs.ReadLaws.{fed_then, taken_fed, one_ok}
use Rattle.vyrd_own_log.proofs.piece_reader.PieceReader.take_line.Goals as goal

pub returns-clause-fed : goal.returns-clause-fed
returns-clause-fed c = one_ok c.end_unfinished.result
    (λ fed sound.
    let k = kept_of c.args.self.now in
    let m = kept_of c.take_unfinished.new.self in
    let first = c.in_ok-take_unfinished.ensures in
    fed_then k m (kept_of c.end_unfinished.new.self) c.args.line.now (10 ∷ []) _ _ _ _ _ _
    (taken_fed k m c.args.line.now c.args.out.now.items c.args.numbers.now.items (first.taken sound)
    (ap (λ (v : Vec (Vec ℕ)). texts v.items) first.specified) (ap (λ v. v.items) first.start))
    (fed (first.sound sound)))
    c.end_unfinished.ensures.fed
