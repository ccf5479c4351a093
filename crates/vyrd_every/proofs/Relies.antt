-- The others may do nothing, and one thing after the other.
use Rattle.vyrd_every.proofs.Prelude.{refl, ◌∙◌, Memory, Situation, Structure, Locals, Rely}

pub rely_same : (S : Structure) (s : Situation) (k : Locals) (shown : Memory)
    → Rely S s k shown shown
rely_same S s k shown = record { held = λ cell access. refl; owned = λ slot own. S.same shown slot }

pub rely_more : (S : Structure) (s : Situation) (k : Locals) (a b c : Memory) → Rely S s k a b
    → Rely S s k b c → Rely S s k a c
rely_more S s k a b c first second = record {
  held = λ cell access. second.held cell access ∙ first.held cell access;
  owned = λ slot own. S.same_more a b c slot (first.owned slot own) (second.owned slot own);
}
