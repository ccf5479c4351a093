-- What the events of a lane did, and how it grows.
use Rattle.vyrd_live.proofs.Prelude.{◌≡◌, List, [], ◌∷◌, ◌++◌, map, length, ap, ◌∙◌, length-map}
use Rattle.vyrd_live.proofs.Prelude.{Stamped, dids_of}
use Rattle.vyrd_base.proofs.PlaceLaws.{newest_first-push}
use Rattle.vyrd_trace.proofs.HistoryGrows.{length-newest_first}

-- the newest event comes first
pub dids_of-snoc : (lane : List Stamped) (e : Stamped) → dids_of (lane ++ e ∷ []) ≡ e.did
    ∷ dids_of lane
dids_of-snoc lane e = ap (map (λ (e : Stamped). e.did)) (newest_first-push lane e)

pub length-dids : (lane : List Stamped) → length (dids_of lane) ≡ length lane
length-dids lane = length-map _ _ ∙ length-newest_first _
