-- How all that is kept goes on with one more entry, and with one more that is judged.
use Rattle.vyrd_judge.proofs.Prelude
use Prelude.{◌≡◌, ℕ, zero, suc, ◌+◌, ◌*◌, ◌<◌, ◌≤◌, ◌^◌, Bool, true, false, cond, ◌&&◌, List, []}
use Prelude.{◌∷◌, ◌++◌, map, length, Option, Some, None, refl, ap, subst, ◌∙◌, sym, arith, not}
use Prelude.{replicate, Result, cons_option, none-some, sum_by-cons, ∥∥₁_elim, ∥∥₁_map, Bool-set}
use Prelude.{Header, Method, Args, Kind, Entry, StartWord, Verdict, Malformed, Accepted, CallOpen}
use Prelude.{Place, places_after, newest_first_onto, newest_first, Called, has_committed}
use Prelude.{broken_rule, Rules, rules_by, State, words_at_start, state_at_start, is_commit}
use Prelude.{commit_count, is_return, first_fault, verdict_so_far, verdict_at, verdict, accepted}
use Prelude.{is_call_open, length-newest_first_onto, newest_first-push, commit_count-cons}
use Prelude.{caller_kept, below_of, is_below, Waiting, HasWords, Keeps, place_of, Seen}
use Prelude.{answer_count, unwatched, first_with, parts_behind, effect_parts, with_effects, cut_if}
use Prelude.{AreFew, ended_effects_at, replied, waiting_at, AreCurrent, HasQueued, HasTakenUp}
use Prelude.{MayQueue, AwaitsReturn, Judged, MayJudge, AreSeenFew, FollowerKept, HasTakenIn}
use Prelude.{IsFaultless, IsSomewhere, with_first, IsCatchingUp, MayCatchUp, so_far_kept, ShowsFew}
use Rattle.std.specs.Prelude.{count_by}
use Rattle.std.specs.Result.{MatchResult, is_err}
use Rattle.std.proofs.lemmas.List.{length_push, length-replicate}
use Rattle.vyrd_base.specs.declared.verdict.Rule.{Rule}
use Rattle.vyrd_base.specs.Places.{places}
use Rattle.vyrd_base.specs.Commits.{commits, states_of}
use Rattle.vyrd_base.specs.Verdicts.{observer_returns}
use Rattle.vyrd_base.proofs.ShadowLaws.{well_formed-first_break}
use Rattle.vyrd_shape.specs.Following.{ShapeKept, HasFollowed as ShapeFollows}
use Rattle.vyrd_words.specs.HasWords.{HasTaken, MayFollow}
use Rattle.vyrd_words.proofs.FewLaws.{few_more}
use Rattle.vyrd_judge.proofs.PartLaws.{parts_more}
use Rattle.vyrd_base.proofs.FrontLaws.{kept-push, front_at_break, break_at_break, nothing_broken}
use Rattle.vyrd_base.proofs.VerdictParts.{sound_start, so_far_break, at_end_open, at_end_accepted}
use Rattle.vyrd_judge.proofs.JudgedLaws.{judged_more, judged_head, judged_all}
use Rattle.vyrd_judge.proofs.AnswerLaws.{seen_nothing}
use Rattle.vyrd_judge.proofs.JudgingLaws.{judged_waits}
use Rattle.vyrd_judge.proofs.ShownLaws.{start_shows}

-- before the first entry
pub judged_nothing : (r : Rules) (starting : List StartWord) (state : State) (watches : List Seen)
    (first : List ℕ)
    → state_at_start r starting ≡ Some state → first ≡ words_at_start r.header starting
    → AreCurrent (r.answer state) watches
    → AreSeenFew [] watches → ShowsFew r starting state
    → Judged r starting [] state 0 watches [] first []
unfolding commits first_fault
judged_nothing r starting state watches first begins words current seen shows = record {
  earlier = [];
  later = [];
  whole = refl;
  kept = refl;
  queued = refl;
  parts = (words, tt);
  settled = λ more. refl;
  ended = λ c inner. absurd (apart inner);
  reached = λ more. record {
    going = ap (λ o. states_of r o more) begins;
    allowed = λ c called is. absurd (no_some is);
    watched = λ c called low is free none. absurd (no_some is);
  };
  clean = λ more. refl;
  few = omega arith;
  current = current;
  returned = tt;
  seen_few = seen;
  shows = shows;
}
  where
    no_some : {called : Called} → None ≡ Some called → ⊥
    no_some e = cc

    apart : false ≡ true → ⊥
    apart e = cc

-- where nothing that waits can be judged there is no fault so far
awaits_faultless : {k : FollowerKept} {starting : List StartWord} {log : List Entry}
    → HasTakenIn k starting log → AwaitsReturn k.waiting
    → first_fault (rules_by k.charter) starting log ≡ None
awaits_faultless {k} {starting} {log} t awaits = by_first k.waiting t.judged awaits
  where
    by_first : (ws : List Waiting) → Judged (rules_by k.charter) starting log k.state k.made
        k.watches ws k.views.first k.views.since → AwaitsReturn ws
        → first_fault (rules_by k.charter) starting log ≡ None
    by_first [] j a = search (judged_all, starting, arith)
    by_first (x ∷ xs) j a = judged_waits a.2 j

-- all that can be judged is
pub caught_up : {k : FollowerKept} {starting : List StartWord} {log : List Entry}
    → IsCatchingUp None k starting log → IsFaultless k starting log
caught_up going = grind (arith, awaits_faultless)

-- an entry was handed out: it waits first, few are judged, and its position is small
pub may_judge : {k : FollowerKept} (x : Waiting) → MayCatchUp (Some x) k
    → MayJudge (rules_by k.charter) k.state k.made k.watches x k.views.first k.views.since
may_judge {k} x may = ∥∥₁_map may (λ s. (s.0, s.1, k.waiting, s.2.taken_in.judged, s.3))

pub few_taken : {k : FollowerKept} (x : Waiting) → MayCatchUp (Some x) k → k.taken + 1 < 2 ^ 64
few_taken {k} x may = below_of _ _ (∥∥₁_elim may (Bool-set _ _) (λ s.
    let count : k.taken + length (x ∷ k.waiting) ≤ length (newest_first s.1) =
    s.2.taken_in.queued.count in
    let low : k.taken + 1 < 2 ^ 64 = omega (arith, count, length-newest_first_onto [] s.1, s.3) in
    is_below (k.taken + 1) (2 ^ 64) low))

position_is : (p : Place Entry) (x : Waiting) → waiting_at p ≡ Some x → x.position
    ≡ length p.earlier
position_is p x is = grind arith

pub few_position : {k : FollowerKept} (x : Waiting) → MayCatchUp (Some x) k → k.started ≤ 2 ^ 32
    → k.started + x.position + 2 < 2 ^ 64
few_position {k} x may short = below_of _ _ (∥∥₁_elim may (Bool-set _ _) (λ s.
    let at = judged_head (rules_by k.charter) s.0 s.1 k.state k.made k.watches x k.waiting
    k.views.first k.views.since s.2.taken_in.judged in
    let low : k.started + x.position + 2 < 2 ^ 64 = omega (
      arith,
      short,
      position_is (place_of at.here at.earlier at.later) x at.is,
      length-newest_first_onto (at.here ∷ at.earlier) at.later,
      length-newest_first_onto [] s.1,
      ap length at.whole,
      s.3,
    ) in is_below (k.started + x.position + 2) (2 ^ 64) low))

-- an entry that was handed out is judged
pub taken_on : (k n : FollowerKept) (starting : List StartWord) (log : List Entry)
    (xs : List Waiting)
    → HasTakenIn k starting log
    → Judged (rules_by k.charter) starting log n.state n.made n.watches xs n.views.first
    n.views.since → HasQueued (rules_by k.charter).header xs n.taken n.callers (newest_first log)
    → n.waiting ≡ xs
    → n.charter ≡ k.charter → n.started ≡ k.started → n.shape ≡ k.shape → n.shadow ≡ k.shadow
    → n.inner ≡ k.inner → n.views.header ≡ k.views.header
    → (n.views.specified ≡ (rules_by k.charter).shown n.state) × (n.views.refused ≡ false)
    → n.entries ≡ k.entries → n.commits ≡ k.commits → n.observers ≡ k.observers
    → length n.watches ≡ (rules_by k.charter).header.callers
    → n.answers ≤ 2 * answer_count n.watches → AreFew n.views.begun n.views.since
    (effect_parts [] [] log) → HasTakenIn n starting log
taken_on k n starting log xs t judged queued waiting header started shape shadow inner views_header
    known entries commits_same observers watched answers writes = search (commits_same, arith)

-- how many there are with one more
count_more : {A : Type 0} (f : A → Bool) (xs : List A) (x : A) → count_by f (xs ++ x ∷ [])
    ≡ count_by f xs + cond (f x) 1 0
count_more f [] x = sum_by-cons (λ y. cond (f y) 1 0) x [] ∙ omega arith
count_more f (y ∷ xs) x =
    let rest = count_more f xs x in
    let first : count_by f (y ∷ xs ++ x ∷ []) ≡ cond (f y) 1 0 + count_by f (xs ++ x ∷ []) =
    sum_by-cons (λ z. cond (f z) 1 0) y (xs ++ x ∷ []) in
    let whole : count_by f (y ∷ xs) ≡ cond (f y) 1 0 + count_by f xs = sum_by-cons
    (λ z. cond (f z) 1 0) y xs in
    omega (arith, rest, first, whole)

observers_more : (earlier xs : List Entry) (e : Entry) → count_by observer_returns
    (places_after earlier (xs ++ e ∷ []))
    ≡ count_by observer_returns (places_after earlier xs)
    + cond (is_return e.kind && not (has_committed e.caller (newest_first_onto earlier xs))) 1 0
observers_more earlier [] e = cc
observers_more earlier (x ∷ xs) e =
    let one : ℕ = cond (is_return x.kind && not (has_committed x.caller earlier)) 1 0 in
    let rest = observers_more (x ∷ earlier) xs e in
    let first : count_by observer_returns (places_after earlier (x ∷ xs ++ e ∷ [])) ≡ one
    + count_by observer_returns (places_after (x ∷ earlier) (xs ++ e ∷ [])) =
    sum_by-cons (λ p. cond (observer_returns p) 1 0) (place_of x earlier (xs ++ e ∷ []))
    (places_after (x ∷ earlier) (xs ++ e ∷ [])) in
    let whole : count_by observer_returns (places_after earlier (x ∷ xs)) ≡ one
    + count_by observer_returns (places_after (x ∷ earlier) xs) =
    sum_by-cons (λ p. cond (observer_returns p) 1 0) (place_of x earlier xs)
    (places_after (x ∷ earlier) xs) in
    omega (arith, rest, first, whole)

-- one more entry was taken in
pub taken_more : (k n : FollowerKept) (starting : List StartWord) (log : List Entry) (e : Entry)
    → HasTakenIn k starting log
    → Keeps (rules_by k.charter).header (newest_first log) e
    → ShapeFollows n.shape (e ∷ newest_first log) → n.shape.header ≡ k.shape.header
    → HasTaken n.shadow n.inner k.views n.views starting e (newest_first log) → n.shadow.header
    ≡ k.shadow.header
    → n.views.header ≡ n.shadow.header
    → HasTakenUp (rules_by k.charter).header k.waiting n.waiting n.taken n.callers e
    (newest_first log)
    → n.charter ≡ k.charter → n.started ≡ k.started → n.state ≡ k.state → n.made ≡ k.made
    → n.watches ≡ k.watches
    → n.entries ≡ k.entries + 1 → n.commits ≡ k.commits + cond (is_commit e.kind) 1 0
    → n.observers ≡ k.observers
    + cond (is_return e.kind && not (has_committed e.caller (newest_first log))) 1 0
    → (n.views.specified ≡ k.views.specified) × (n.views.refused ≡ false) → n.answers ≡ k.answers
    → HasTakenIn n starting (log ++ e ∷ [])
taken_more k n starting log e t keeps shape shape_header words shadow_header views_header queued
    header started state made watches entries commits_more observers known answers = record {
      started = started ∙ t.started;
      begun = cc (t.begun);
      shape = subst (ShapeFollows n.shape) (sym (newest_first-push log e)) shape;
      shape_header = shape_header ∙ t.shape_header ∙ sym (cc);
      words = subst (HasWords n.shadow n.inner starting) (sym (newest_first-push log e))
          words.words;
      shadow_header = shadow_header ∙ t.shadow_header ∙ sym (cc);
      views_header = views_header ∙ shadow_header ∙ t.shadow_header
          ∙ sym (cc);
      queued = rw header
          (subst (HasQueued (rules_by k.charter).header n.waiting n.taken n.callers)
          (sym (newest_first-push log e)) queued.queued);
      judged = subst
          (λ g. Judged (rules_by g) starting (log ++ e ∷ []) n.state n.made n.watches n.waiting
          n.views.first n.views.since) (sym header)
          (rw state
          (rw made
          (rw watches
          (rw queued.waiting
          (rw words.first
          (subst (Judged (rules_by k.charter) starting (log ++ e ∷ []) k.state k.made k.watches
          queue
          (first_with (parts_behind (newest_first log) e.caller e.kind) words.writes k.views.first
          k.views.since)) (sym words.since)
          (judged_more (rules_by k.charter) starting log e k.state k.made k.watches k.waiting
          k.views.first k.views.since words.writes
          (well_formed-first_break (rules_by k.charter).header log t.kept) keeps.rules words.alike
          t.judged)))))));
      kept = cc (kept-push (rules_by k.charter).header log e t.kept keeps.rules);
      specified = known.0 ∙ t.specified ∙ (λ i. (rules_by (sym header i)).shown (sym state i));
      sound = known.1;
      entries = cc (t.entries, length_push log e);
      commits = cc (t.commits, count_more (λ x. is_commit x.kind) log e);
      observers = cc (t.observers, observers_more [] log e);
      watched = ap length watches ∙ t.watched ∙ sym (cc);
      few_answers = omega (arith, t.few_answers, answers, ap answer_count watches);
      few_writes = subst (AreFew n.views.begun n.views.since) (sym parts)
          (rw words.since
          (few_more behind words.writes now (is_commit e.kind) k.views.begun n.views.begun
          k.views.since
          (effect_parts [] [] log) words.few words.begun t.few_writes));
    }
  where
    queue : List Waiting
    queue = map (replied e) k.waiting ++ cons_option (waiting_at (place_of e (newest_first log) []))
        []

    behind : ℕ
    behind = parts_behind (newest_first log) e.caller e.kind

    now : List (ℕ × ℕ)
    now = ended_effects_at (newest_first log) e.caller e.kind

    apart : false ≡ true → ⊥
    apart p = cc

    parts : effect_parts [] [] (log ++ e ∷ []) ≡ cut_if (is_commit e.kind)
        (with_effects behind now (effect_parts [] [] log))
    parts = search (parts_more, well_formed-first_break, apart, arith)

-- an entry that breaks a rule
pub broken_so_far : {k : FollowerKept} {starting : List StartWord} {log : List Entry} (e : Entry)
    (rule : Rule) → IsFaultless k starting log
    → broken_rule k.shape.header (newest_first log) e ≡ Some rule
    → Some (Malformed (k.started + k.entries + 2) rule) ≡ verdict_so_far (rules_by k.charter)
    starting (log ++ e ∷ [])
broken_so_far {k} {starting} {log} e rule f broken =
    let t = f.taken_in in
    let here : broken_rule (rules_by k.charter).header (newest_first log) e ≡ Some rule =
    ap (λ h. broken_rule h (newest_first log) e) (sym t.shape_header) ∙ broken in
    ap (λ n. Some (Malformed (n + k.entries + 2) rule)) t.started
    ∙ sym (so_far_break (rules_by k.charter) starting (log ++ e ∷ []) log k.entries rule t.begun
    (sym (front_at_break (rules_by k.charter).header log [] e rule t.kept here))
    (sym t.entries) f.faultless
    (break_at_break (rules_by k.charter).header log [] e rule t.kept here))

-- the verdict so far of a log that keeps all rules
pub so_far_is : {k : FollowerKept} {starting : List StartWord} {log : List Entry}
    → HasTakenIn k starting log
    → verdict_so_far (rules_by k.charter) starting log ≡ first_fault (rules_by k.charter) starting
    log
so_far_is {k} {starting} {log} t = so_far_kept (rules_by k.charter) starting log t.begun t.kept

-- how many commits there are, from either end
commits_onto : (earlier xs : List Entry) → commit_count (newest_first_onto earlier xs)
    ≡ commit_count xs + commit_count earlier
commits_onto earlier [] = omega arith
commits_onto earlier (x ∷ xs) =
    let rest = commits_onto (x ∷ earlier) xs in
    let one = commit_count-cons x earlier in
    let whole = commit_count-cons x xs in
    omega (arith, rest, one, whole)

pub commits_same : (log : List Entry) → commit_count (newest_first log) ≡ commit_count log
commits_same log = let all = commits_onto [] log in omega (arith, all)

-- what may follow
pub may_take : {k : FollowerKept} (e : Entry) → IsSomewhere k
    → ((starting : List StartWord) (log : List Entry) → IsFaultless k starting log
    → Keeps k.shadow.header (newest_first log) e)
    → MayFollow k.shadow k.inner e k.commits
may_take {k} e somewhere keeps = ∥∥₁_map somewhere (λ s. (
  s.0,
  newest_first s.1,
  s.2.taken_in.words,
  keeps s.0 s.1 s.2,
  s.2.taken_in.commits
      ∙ sym (commits_same s.1),
))

pub may_queue : {k : FollowerKept} (e : Entry) → IsSomewhere k
    → ((starting : List StartWord) (log : List Entry) → IsFaultless k starting log
    → Keeps (rules_by k.charter).header (newest_first log) e)
    → MayQueue (rules_by k.charter).header k.waiting k.taken k.callers e k.entries
may_queue {k} e somewhere keeps = ∥∥₁_map somewhere
    (λ s. (newest_first s.1, s.2.taken_in.queued, keeps s.0 s.1 s.2, same s.1 s.2.taken_in.entries))
  where
    same : (log : List Entry) → k.entries ≡ length log → k.entries ≡ length (newest_first log)
    same log is = omega (arith, is, length-newest_first_onto [] log)

-- counts are small
count_few : {A : Type 0} (f : A → Bool) (xs : List A) → count_by f xs ≤ length xs
count_few f [] = omega arith
count_few f (x ∷ xs) =
    let whole : count_by f (x ∷ xs) ≡ cond (f x) 1 0 + count_by f xs = sum_by-cons
    (λ z. cond (f z) 1 0) x xs in
    let one : cond (f x) 1 0 ≤ 1 = at_most (f x) in
    omega (arith, whole, one, count_few f xs)
  where
    at_most : (b : Bool) → cond b 1 0 ≤ 1
    at_most b = search arith

length-places : (earlier xs : List Entry) → length (places_after earlier xs) ≡ length xs
length-places earlier [] = refl
length-places earlier (x ∷ xs) = ap suc (length-places (x ∷ earlier) xs)

pub few_commits : {k : FollowerKept} → k.entries < 2 ^ 62 → IsSomewhere k → k.commits + 1 < 2 ^ 64
few_commits {k} few somewhere = below_of _ _ (∥∥₁_elim somewhere (Bool-set _ _) (λ s.
    let low : k.commits + 1 < 2 ^ 64 =
    omega (
      arith,
      few,
      s.2.taken_in.commits,
      s.2.taken_in.entries,
      count_few (λ x. is_commit x.kind)
          s.1,
    ) in
    is_below (k.commits + 1) (2 ^ 64) low))

pub low_commits : {k : FollowerKept} → k.entries < 2 ^ 62 → IsSomewhere k → k.commits < 2 ^ 62
low_commits {k} few somewhere = below_of _ _ (∥∥₁_elim somewhere (Bool-set _ _) (λ s.
    let low : k.commits < 2 ^ 62 =
    omega (
      arith,
      few,
      s.2.taken_in.commits,
      s.2.taken_in.entries,
      count_few (λ x. is_commit x.kind)
          s.1,
    ) in
    is_below k.commits (2 ^ 62) low))

pub few_observers : {k : FollowerKept} → k.entries < 2 ^ 62 → IsSomewhere k → k.observers
    + 1 < 2 ^ 64
few_observers {k} few somewhere = below_of _ _ (∥∥₁_elim somewhere (Bool-set _ _) (λ s.
    let low : k.observers + 1 < 2 ^ 64 =
    omega (
      arith,
      few,
      s.2.taken_in.observers,
      s.2.taken_in.entries,
      count_few observer_returns
          (places s.1),
      length-places [] s.1,
    ) in
    is_below (k.observers + 1) (2 ^ 64) low))

pub low_caller_of : {k : FollowerKept} (e : Entry) → IsSomewhere k
    → ((starting : List StartWord) (log : List Entry) → IsFaultless k starting log
    → Keeps (rules_by k.charter).header (newest_first log) e)
    → e.caller < (rules_by k.charter).header.callers
low_caller_of {k} e somewhere keeps = below_of _ _ (∥∥₁_elim somewhere (Bool-set _ _) (λ s.
    is_below _ _ (caller_kept (rules_by k.charter).header (newest_first s.1) e
    (keeps s.0 s.1 s.2).rules)))

-- nobody has an open observer, so all are current
none_current : (told : Method → Args → ℕ) (n : ℕ) → AreCurrent told (replicate n unwatched)
none_current told zero c seen here is_open = absurd (none-some _ here)
none_current told (suc n) zero seen here is_open = search (apart, here, is_open, arith)
  where
    apart : false ≡ true → ⊥
    apart p = cc
none_current told (suc n) (suc c) seen here is_open = none_current told n c seen here is_open

-- before the first entry all is kept
pub first_taken_in : (k : FollowerKept) (r : Rules) (starting : List StartWord) → rules_by k.charter
    ≡ r
    → k.started ≡ length starting
    → state_at_start r starting ≡ Some k.state → ShapeFollows k.shape [] → k.shape.header ≡ r.header
    → HasWords k.shadow k.inner starting []
    → k.shadow.header ≡ r.header → k.views.header ≡ r.header
    → HasQueued r.header k.waiting k.taken k.callers [] → k.made ≡ 0
    → k.watches ≡ replicate r.header.callers unwatched → k.waiting ≡ [] → k.views.first
    ≡ words_at_start r.header starting → k.views.since ≡ []
    → k.entries ≡ 0 → k.commits ≡ 0 → k.observers ≡ 0
    → (k.views.specified ≡ (rules_by k.charter).shown k.state) × (k.views.refused ≡ false)
    → k.answers ≤ 2 * answer_count k.watches → k.views.begun ≡ 0 → HasTakenIn k starting []
first_taken_in k r starting header started begins shape shape_header words shadow_header
    views_header queued made closed waiting first since entries commits_none observers known answers
    none = record {
      started = started;
      begun = cc (sound_start r starting k.state begins);
      shape = shape;
      shape_header = shape_header ∙ sym (cc);
      words = words;
      shadow_header = shadow_header ∙ sym (cc);
      views_header = views_header ∙ sym (cc);
      queued = rw header queued;
      judged = subst
          (λ g. Judged g starting [] k.state k.made k.watches k.waiting k.views.first k.views.since)
          (sym header)
          (rw made
          (rw waiting
          (subst (Judged r starting [] k.state 0 k.watches [] k.views.first) (sym since)
          (judged_nothing r starting k.state k.watches k.views.first begins first
          (subst (AreCurrent (r.answer k.state)) (sym closed)
          (none_current (r.answer k.state) r.header.callers))
          (subst (AreSeenFew []) (sym closed) (seen_nothing r.header.callers))
          (rw (← header) (start_shows k.charter starting k.state
          (cc)))))));
      kept = nothing_broken (rules_by k.charter).header;
      specified = known.0;
      sound = known.1;
      entries = entries;
      commits = commits_none;
      observers = observers;
      watched = ap length closed ∙ length-replicate r.header.callers unwatched
          ∙ sym (cc);
      few_answers = answers;
      few_writes = record {
        judged = [];
        part = [];
        further = [];
        whole = refl;
        first_few = omega (arith, none);
        since_few = rw since tt;
      };
    }

-- what may be judged once one more is
pub may_catch_up_on : {first next : Option Waiting} {k n : FollowerKept} → MayCatchUp first k
    → ((starting : List StartWord) (log : List Entry) → IsCatchingUp first k starting log
    → IsCatchingUp next n starting log) → MayCatchUp next n
may_catch_up_on may on = ∥∥₁_map may (λ s. (s.0, s.1, on s.0 s.1 s.2, s.3))

-- the whole of one more entry that keeps the rules, by what each part does
pub taken_all : (k n : FollowerKept) (first : Option Waiting) (e : Entry) (queue_header : Header)
    (commits_here observes : Bool)
    → k.shape.header ≡ (rules_by k.charter).header → k.shadow.header ≡ (rules_by k.charter).header
    → queue_header ≡ (rules_by k.charter).header
    → ((earlier : List Entry) → ShapeFollows k.shape earlier
    → (broken_rule k.shape.header earlier e ≡ None) × ShapeFollows n.shape (e ∷ earlier))
    → n.shape.header ≡ k.shape.header
    → ((starting : List StartWord) (earlier : List Entry)
    → HasWords k.shadow k.inner starting earlier → Keeps k.shadow.header earlier e
    → k.commits ≡ commit_count earlier → HasTaken n.shadow n.inner k.views n.views starting e
    earlier)
    → n.shadow.header ≡ k.shadow.header → n.views.header ≡ k.views.header
    → ((earlier : List Entry) → HasQueued queue_header k.waiting k.taken k.callers earlier
    → Keeps queue_header earlier e → k.entries ≡ length earlier
    → HasTakenUp queue_header k.waiting (cons_option first n.waiting) n.taken n.callers e earlier)
    → (AwaitsReturn k.waiting → first ≡ None → AwaitsReturn n.waiting)
    → n.charter ≡ k.charter → n.started ≡ k.started → n.state ≡ k.state → n.made ≡ k.made
    → n.watches ≡ k.watches → n.answers ≡ k.answers
    → commits_here ≡ is_commit e.kind → n.commits ≡ k.commits + cond commits_here 1 0
    → ((earlier : List Entry) → HasQueued queue_header k.waiting k.taken k.callers earlier
    → Keeps queue_header earlier e
    → observes ≡ (is_return e.kind && not (has_committed e.caller earlier)))
    → n.observers ≡ k.observers + cond observes 1 0 → n.entries ≡ k.entries + 1
    → (n.views.specified ≡ k.views.specified) × (n.views.refused ≡ false)
    → (starting : List StartWord) (log : List Entry) → IsFaultless k starting log
    → IsCatchingUp first n starting (log ++ e ∷ [])
taken_all k n first e queue_header commits_here observes shape_is shadow_is queue_is shape
    shape_header words shadow_header views_header queued awaits header started state made watches
    answers commits_is commits_more observes_is observers entries known starting log f = record {
      taken_in = taken_more k (with_first first n) starting log e t keeps
          (shape (newest_first log) t.shape).1 shape_header
          (words starting (newest_first log) t.words (keeps_at shadow_is)
          (t.commits ∙ sym (commits_same log))) shadow_header
          (views_header ∙ t.views_header ∙ sym t.shadow_header ∙ sym shadow_header)
          (rw (← queue_is)
          (queued (newest_first log) queue (keeps_at queue_is) (reversed log t.entries)))
          header started state made watches entries
          (cc)
          (cc (observes_is (newest_first log) queue (keeps_at queue_is))) known answers;
      awaits = awaits f.awaits;
    }
  where
    t : HasTakenIn k starting log
    t = f.taken_in

    keeps : Keeps (rules_by k.charter).header (newest_first log) e
    keeps = grind (arith, (shape (newest_first log) t.shape).0)

    keeps_at : {h : Header} → h ≡ (rules_by k.charter).header → Keeps h (newest_first log) e
    keeps_at {h} is = rw is keeps

    queue : HasQueued queue_header k.waiting k.taken k.callers (newest_first log)
    queue = grind (arith, t.queued)

    reversed : (es : List Entry) → k.entries ≡ length es → k.entries ≡ length (newest_first es)
    reversed es is = omega (arith, is, length-newest_first_onto [] es)

pub may_catch_up : (k n : FollowerKept) (first : Option Waiting) (e : Entry) → k.entries < 2 ^ 62
    → IsSomewhere k
    → ((starting : List StartWord) (log : List Entry) → IsFaultless k starting log
    → IsCatchingUp first n starting (log ++ e ∷ [])) → MayCatchUp first n
may_catch_up k n first e few somewhere on = ∥∥₁_map somewhere (λ s.
    let short : length (s.1 ++ e ∷ []) ≤ 2 ^ 62 =
    omega (arith, few, s.2.taken_in.entries, length_push s.1 e) in
    (s.0, s.1 ++ e ∷ [], on s.0 s.1 s.2, short))

-- an entry that keeps the rules by one name of the header keeps them by another
pub keeps_by : {k : FollowerKept} {n : ShapeKept} (e : Entry) (h : Header) → k.shape.header
    ≡ (rules_by k.charter).header → h ≡ (rules_by k.charter).header
    → ((earlier : List Entry) → ShapeFollows k.shape earlier
    → (broken_rule k.shape.header earlier e ≡ None) × ShapeFollows n (e ∷ earlier))
    → (starting : List StartWord) (log : List Entry) → IsFaultless k starting log
    → Keeps h (newest_first log) e
keeps_by e0 e1 e h starting log shape = grind (arith, starting)

-- the answer with one more entry
pub answer_with : {k : FollowerKept} {starting : List StartWord} {log : List Entry}
    (v : Option Verdict)
    → HasTakenIn k starting log → v ≡ first_fault (rules_by k.charter) starting log
    → v ≡ verdict_so_far (rules_by k.charter) starting log
answer_with v t is = is ∙ sym (so_far_is t)

-- the verdict if `end` stands after the entries
pub end_open : {k : FollowerKept} {starting : List StartWord} {log : List Entry}
    → IsFaultless k starting log
    → is_call_open k.shape.header (newest_first log) ≡ true
    → Malformed (k.started + k.entries + 2) CallOpen ≡ verdict (rules_by k.charter) starting log
unfolding verdict_at
end_open e0 e1 = search (at_end_open, so_far_is, arith)

pub end_accepted : {k : FollowerKept} {starting : List StartWord} {log : List Entry}
    → IsFaultless k starting log
    → is_call_open k.shape.header (newest_first log) ≡ false
    → Accepted k.entries k.commits k.observers ≡ verdict (rules_by k.charter) starting log
unfolding verdict_at accepted
end_accepted e0 e1 = search (at_end_accepted, so_far_is, arith)

-- whether a test of a result fails
pub open_by : {T E : Type 0} {b : Bool} (P : E → Type 0) (r : Result T E)
    → MatchResult r (λ _. b ≡ false) (λ f. (b ≡ true) × P f) → is_err r ≡ b
open_by P r ok = search arith

-- the comparison was not refused
pub sound_of : {k : FollowerKept} → IsSomewhere k → k.views.refused ≡ false
sound_of somewhere = ∥∥₁_elim somewhere (Bool-set _ _) (λ s. s.2.taken_in.sound)

pub sound_up : {first : Option Waiting} {k : FollowerKept} → MayCatchUp first k → k.views.refused
    ≡ false
sound_up may = ∥∥₁_elim may (Bool-set _ _) (λ s. s.2.taken_in.sound)

-- an entry is its caller and its kind
pub of_kind : (e : Entry) {k : Kind} → e.kind ≡ k → record { caller = e.caller; kind = k } ≡ e
of_kind e is = ap (λ k. record { caller = e.caller; kind = k }) (sym is)
