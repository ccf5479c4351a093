-- What is kept of a history from some place on, one event earlier.
use Rattle.vyrd_mover.proofs.Prelude
use Prelude.{◌≡◌, ℕ, suc, ◌<◌, ◌≤◌, Bool, true, false, not, ◌&&◌, List, [], ◌∷◌, length, get_or}
use Prelude.{set, replicate, Option, Some, None, refl, ap, ◌∙◌, sym, subst, arith, ◌==◌, option_or}
use Prelude.{option_map, option_and_then, cons_option, and-false, get_or-set_same, get_or-set_other}
use Prelude.{get_or-replicate, length-replicate, length-set, Did, Read, Wrote, Took, Gave, Marked}
use Prelude.{Stamped, same_of, apart_of, same_number, Role, is_right_mover, is_left_mover, is_mark}
use Prelude.{is_block_open, events_of, broken_lines, line_of, role_of}
use Rattle.vyrd_base.specs.declared.log.Kind.TheVariants.{Call, Return, Write, Commit, BlockOpen}
use Rattle.vyrd_base.specs.declared.log.Kind.TheVariants.{BlockClose, BlockCommit}
use Rattle.vyrd_mover.specs.declared.ahead.Ahead.{Ahead}
use Rattle.vyrd_mover.specs.Blocks.{is_block_end}
use Rattle.vyrd_mover.specs.Ahead.{kept_of, ahead_of, with_line, with_ahead, opened_before}
use Rattle.vyrd_mover.specs.Ahead.{ahead_at, Surveyed, preceded_by, HasSurveyed}
use Rattle.vyrd_mover.proofs.BreakLaws.{broken_lines_is}

-- what is kept of the rest of a block
abbrev keep : (ℕ → Bool) → ℕ → List Stamped → Ahead
keep free c rest = kept_of free (events_of c rest)

-- an event that neither ends the caller's block nor is one of the caller's events
ahead_skip : (free : ℕ → Bool) (c : ℕ) (e : Stamped) (later : List Stamped)
    → ((e.caller == c) && is_block_end e.did) ≡ false
    → ((e.caller == c) && not (is_mark e.did)) ≡ false → ahead_of free c (e ∷ later)
    ≡ ahead_of free c later
ahead_skip free c e later no_end no_event = grind (arith, free, no_end, no_event)

-- the end of the caller's block
ahead_end : (free : ℕ → Bool) (c : ℕ) (e : Stamped) (later : List Stamped)
    → ((e.caller == c) && is_block_end e.did) ≡ true
    → ((e.caller == c) && not (is_mark e.did)) ≡ false → ahead_of free c (e ∷ later)
    ≡ Some (kept_of free [])
ahead_end free c e later end no_event = grind (arith, free, no_event)

-- one of the caller's events
ahead_act : (free : ℕ → Bool) (c : ℕ) (e : Stamped) (later : List Stamped)
    → ((e.caller == c) && is_block_end e.did) ≡ false
    → ((e.caller == c) && not (is_mark e.did)) ≡ true
    → ahead_of free c (e ∷ later)
    ≡ option_map (with_line (line_of e) (is_left_mover free e) (is_right_mover free e))
    (ahead_of free c later)
ahead_act free c e later no_end event = grind (arith, free, no_end)

-- what other callers have ahead stays, and what the event's caller has ahead is the new
ahead_set : (free : ℕ → Bool) (e : Stamped) (later : List Stamped) (ahead : List (Option Ahead))
    (new : Option Ahead)
    → ((c : ℕ) → c < length ahead → get_or ahead c None ≡ ahead_of free c later)
    → new ≡ ahead_of free e.caller (e ∷ later) → (c : ℕ) → c < length (set ahead e.caller new)
    → get_or (set ahead e.caller new) c None ≡ ahead_of free c (e ∷ later)
ahead_set free e later ahead new old is c low = go (e.caller == c) refl
  where
    size : length (set ahead e.caller new) ≡ length ahead
    size = length-set ahead e.caller new

    within : c < length ahead
    within = omega (arith, size)

    go : (b : Bool) → (e.caller == c) ≡ b → get_or (set ahead e.caller new) c None ≡ ahead_of free c
        (e ∷ later)
    go true h =
        let at : e.caller ≡ c = same_of e.caller c h in
        let low_e : e.caller < length ahead = omega (arith, within) in
        subst (λ n. get_or (set ahead e.caller new) n None ≡ ahead_of free n (e ∷ later)) at
        (get_or-set_same ahead e.caller new None low_e ∙ is)
    go false h = search (apart_of, get_or-set_other, within, ahead_skip, free, is_mark, arith)

-- one more event that opens no block
acted : (free : ℕ → Bool) (e : Stamped) (later : List Stamped) (s : Surveyed) (new : Option Ahead)
    → is_block_open e.did ≡ false
    → HasSurveyed free later s
    → (e.caller < length s.ahead → new ≡ ahead_of free e.caller (e ∷ later))
    → e.caller < length s.ahead
    → HasSurveyed free (e ∷ later) (with_ahead s e.caller new)
acted free e later s new no_open is new_is low = search (ahead_set, arith)

-- one more mark that opens and ends no block
marked : (free : ℕ → Bool) (e : Stamped) (later : List Stamped) (s : Surveyed) → is_block_open e.did
    ≡ false → is_block_end e.did ≡ false
    → is_mark e.did ≡ true → HasSurveyed free later s → HasSurveyed free (e ∷ later) s
marked free e later s no_open no_end mark is = grind (arith, is.few)

-- what an opened block adds
count_opened : (free : ℕ → Bool) (e : Stamped) (s : Surveyed) (a : Option Ahead)
    (o : Option (List Stamped)) (rest : List (List Stamped))
    → a ≡ option_map (keep free e.caller) o → s.blocks ≡ length rest
    → (opened_before s (line_of e) a).blocks
    ≡ length (cons_option (option_map (events_of e.caller) o) rest)
count_opened free e s a o rest h count = search arith

broken_opened : (free : ℕ → Bool) (e : Stamped) (s : Surveyed) (a : Option Ahead)
    (o : Option (List Stamped)) (rest : Option (ℕ × ℕ))
    → a ≡ option_map (keep free e.caller) o → s.broken ≡ rest
    → (opened_before s (line_of e) a).broken
    ≡ option_or (option_and_then (broken_lines free e) (option_map (events_of e.caller) o)) rest
broken_opened free e s a o rest h same = grind (arith, free, broken_lines_is)

few_opened : (line : ℕ) (s : Surveyed) (a : Option Ahead) (n : ℕ) → s.blocks ≤ n
    → (opened_before s line a).blocks ≤ suc n
few_opened line s a n low = search arith

same_ahead : (line : ℕ) (s : Surveyed) (a : Option Ahead) → (opened_before s line a).ahead ≡ s.ahead
same_ahead line s a = search arith

-- one more block
opened : (free : ℕ → Bool) (e : Stamped) (later : List Stamped) (s : Surveyed) → is_block_open e.did
    ≡ true → is_block_end e.did ≡ false
    → is_mark e.did ≡ true → HasSurveyed free later s → e.caller < length s.ahead
    → HasSurveyed free (e ∷ later) (opened_before s (line_of e) (ahead_at s e.caller))
opened free e later s open_mark no_end mark is low = search
    (same_ahead, ahead_skip, count_opened, few_opened, broken_opened, arith)

-- an event, by what it does
abbrev stamp : ℕ → ℕ → Did → Stamped
stamp k c did = record { number = k; caller = c; did = did }

-- an event of the caller that isn't a mark
act_by : (free : ℕ → Bool) (e : Stamped) (later : List Stamped) (s : Surveyed) → is_mark e.did
    ≡ false → is_block_open e.did ≡ false
    → is_block_end e.did ≡ false → HasSurveyed free later s → e.caller < length s.ahead
    → HasSurveyed free (e ∷ later)
    (with_ahead s e.caller
    (option_map (with_line (line_of e) (is_left_mover free e) (is_right_mover free e))
    (ahead_at s e.caller)))
act_by free e later s no_mark no_open no_end is low =
    acted _ e _ s _ no_open is (λ l. ap (option_map _) (is.ahead _ l)
    ∙ sym (ahead_act _ _ e _ (cc (and-false (e.caller == e.caller))) (cc (same_number e.caller))))
    low

end_by : (free : ℕ → Bool) (e : Stamped) (later : List Stamped) (s : Surveyed) → is_mark e.did
    ≡ true → is_block_open e.did ≡ false
    → is_block_end e.did ≡ true → HasSurveyed free later s → e.caller < length s.ahead
    → HasSurveyed free (e ∷ later) (with_ahead s e.caller (Some (kept_of free [])))
end_by free e later s mark no_open end is low = acted _ e _ s _ no_open is
    (λ l. sym (ahead_end _ _ e _ (cc (same_number e.caller))
    (cc (and-false (e.caller == e.caller))))) low

step_by : (free : ℕ → Bool) (k c : ℕ) (did : Did) (later : List Stamped) (s : Surveyed)
    → HasSurveyed free later s → c < length s.ahead
    → HasSurveyed free (stamp k c did ∷ later)
    (preceded_by free s (line_of (stamp k c did)) c (role_of did))
step_by free k c (Read cell value) later s is low = search (act_by, free, arith)
step_by free k c (Wrote cell value) later s is low = search (act_by, free, arith)
step_by free k c (Took lock) later s is low = search (act_by, free, arith)
step_by free k c (Gave lock) later s is low = search (act_by, free, arith)
step_by free k c (Marked BlockOpen) later s is low = search (opened, free, arith)
step_by free k c (Marked BlockClose) later s is low = search (end_by, free, arith)
step_by free k c (Marked BlockCommit) later s is low = search (end_by, free, arith)
step_by free k c (Marked Commit) later s is low = search (marked, free, arith)
step_by free k c (Marked (Call m args)) later s is low = search (marked, free, arith)
step_by free k c (Marked (Return r)) later s is low = search (marked, free, arith)
step_by free k c (Marked (Write w v)) later s is low = search (marked, free, arith)

-- one more event before the others
pub surveyed_before : (free : ℕ → Bool) (e : Stamped) (later : List Stamped) (s : Surveyed)
    → HasSurveyed free later s → e.caller < length s.ahead
    → HasSurveyed free (e ∷ later) (preceded_by free s (line_of e) e.caller (role_of e.did))
surveyed_before free e later s is low = step_by free e.number e.caller e.did later s is low

-- nothing is ahead at the end
pub surveyed_nothing : (free : ℕ → Bool) (callers : ℕ)
    → HasSurveyed free [] (record { ahead = replicate callers None; blocks = 0; broken = None })
surveyed_nothing free callers = record {
  ahead = λ c low. get_or-replicate callers c None None
      (subst (λ n. c < n) (length-replicate callers None) low);
  blocks = λ earlier. refl;
  few = omega arith;
  broken = λ earlier. refl;
}

preceded_callers : (free : ℕ → Bool) (s : Surveyed) (line caller : ℕ) (role : Role)
    → length (preceded_by free s line caller role).ahead ≡ length s.ahead
preceded_callers free s line caller role = grind (arith, free, length-set, same_ahead)

-- the events from a place on are surveyed, for that many callers
pub record IsSurvey (free : ℕ → Bool) (callers : ℕ) (later : List Stamped) (s : Surveyed) : Type 0
  where
    pub callers_are : length s.ahead ≡ callers
    pub surveyed : HasSurveyed free later s

pub survey_begins : (free : ℕ → Bool) (callers : ℕ) → IsSurvey free callers []
    (record { ahead = replicate callers None; blocks = 0; broken = None })
survey_begins free callers = search (free, length-replicate, surveyed_nothing, arith)

pub survey_goes_on : (free : ℕ → Bool) (callers : ℕ) (e : Stamped) (later : List Stamped)
    (s : Surveyed) → IsSurvey free callers later s → e.caller < callers
    → IsSurvey free callers (e ∷ later) (preceded_by free s (line_of e) e.caller (role_of e.did))
survey_goes_on free callers e later s is low = search (preceded_callers, surveyed_before, arith)
