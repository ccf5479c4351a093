-- What a judge that follows a run has taken in with one event more.
use Rattle.std.proofs.Common.{◌≡◌, ◌+◌, List, [], ◌∷◌, ◌++◌, Some, None, refl, ap, ◌∙◌, sym, subst}
use Rattle.std.proofs.Common.{append-nil, length-append}
use Rattle.std.specs.List.{cons_option}
use Rattle.std.proofs.lemmas.List.Elements.{filter_map-append}
use Rattle.vyrd_base.specs.declared.history.Stamped.{Stamped}
use Rattle.vyrd_base.specs.declared.log.Entry.{Entry}
use Rattle.vyrd_base.specs.Histories.{logged, log_of}
use Rattle.vyrd_judge.specs.Following.{HasFollowed}
use Rattle.vyrd_verifier.specs.Judging.{RunJudgeView, HasJudged}

-- the log of a history with one event more
log_more : (history : List Stamped) (e : Stamped) → log_of (history ++ e ∷ []) ≡ log_of history
    ++ cons_option (logged e.caller e.did) []
unfolding log_of
log_more history e = filter_map-append (λ e. logged e.caller e.did) history (e ∷ [])

pub log_with : (history : List Stamped) (e : Stamped) (entry : Entry) → logged e.caller e.did
    ≡ Some entry
    → log_of (history ++ e ∷ []) ≡ log_of history ++ entry ∷ []
log_with history e entry is = log_more history e ∙ ap (λ o. log_of history ++ cons_option o []) is

pub log_without : (history : List Stamped) (e : Stamped) → logged e.caller e.did ≡ None
    → log_of (history ++ e ∷ []) ≡ log_of history
log_without history e none = cc (log_more history e, append-nil (log_of history))

-- nothing was done yet
pub no_log : log_of [] ≡ []
unfolding log_of
no_log = refl

pub judged_none : (j : RunJudgeView) → HasFollowed j.judge [] [] → j.count ≡ 0 → HasJudged j []
judged_none j followed none =
    record { followed = subst (HasFollowed j.judge []) (sym no_log) followed; counted = none }

-- the judge was shown an event more, which has an entry
pub judged_with : (j j' : RunJudgeView) (history : List Stamped) (e : Stamped) (entry : Entry)
    → logged e.caller e.did ≡ Some entry
    → HasFollowed j'.judge [] (log_of history ++ entry ∷ []) → j'.count ≡ j.count + 1
    → HasJudged j history → HasJudged j' (history ++ e ∷ [])
judged_with j j' history e entry is followed count judged = record {
  followed = subst (HasFollowed j'.judge []) (sym (log_with history e entry is)) followed;
  counted = count ∙ ap (λ n. n + 1) judged.counted ∙ sym (length-append history (e ∷ []));
}

-- or has none
pub judged_without : (j j' : RunJudgeView) (history : List Stamped) (e : Stamped)
    → logged e.caller e.did ≡ None
    → j'.judge ≡ j.judge → j'.count ≡ j.count + 1 → HasJudged j history
    → HasJudged j' (history ++ e ∷ [])
judged_without j j' history e none same count judged = record {
  followed = subst (λ k. HasFollowed k [] (log_of (history ++ e ∷ []))) (sym same)
      (subst (HasFollowed j.judge []) (sym (log_without history e none)) judged.followed);
  counted = count ∙ ap (λ n. n + 1) judged.counted ∙ sym (length-append history (e ∷ []));
}
