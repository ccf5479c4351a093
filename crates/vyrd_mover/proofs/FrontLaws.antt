-- Events that are read where they lie: what a reader makes of them is what it makes of their lines.
use Rattle.vyrd_mover.proofs.Prelude
use Prelude.{◌≡◌, ℕ, ◌+◌, ◌-◌, ◌<◌, ◌≤◌, ◌^◌, Bool, true, false, List, [], ◌∷◌, ◌++◌, length, take}
use Prelude.{drop, get_or, Option, Some, refl, ap, sym, ◌∙◌, subst, arith, append_assoc}
use Prelude.{length-append, decimal, is_some, append-nil, bytes_eq-Decides, Subject, Kind, Did}
use Prelude.{Stamped, end_line, is_write, isnt_some, cut, lacks, both_true, is_below, entry_line_is}
use Prelude.{Events, HistoryFault, Lines, Recorded, did_line, event_line, event_in, event_read}
use Prelude.{line_read, history_reading, HaveRead, HaveReadOn, rest_read, Follows, IsAt, GoesTo}
use Prelude.{ReaderState, HasRead, IsFedTo, IsRefusal, IsRefusedAt}
use Rattle.std.specs.Prelude.{IfSome}
use denote.Ref.{Bor}
use Rattle.vyrd_text.specs.Quick.{IsKindAtFront}
use Rattle.vyrd_mover.specs.HistoryFront.{did_text, IsDidAtFront, IsEventAtFront}
use Rattle.vyrd_mover.specs.HistoryReaders.{IsTakenTo}
use Rattle.vyrd_mover.proofs.EventLaws.{event_in-event_line}
use Rattle.vyrd_mover.proofs.EventsReadLaws.{line_says}
use Rattle.vyrd_mover.proofs.LinesLaws.{rest_line, rest_goes_on, at_later, line_and_rest}
use Rattle.vyrd_mover.proofs.ReaderLaws.{whole_line}
use Rattle.vyrd_mover.proofs.TextLaws.{event_line_whole, did_isnt_end}
use Rattle.vyrd_mover.proofs.WalkLaws.{refusal_at}

-- a kind whose fourth byte isn't that of `write` isn't a write
isnt_write : (subject : Subject) (text rest : List ℕ) (kind : Kind) → (get_or text 3 0 ≡ 116 → ⊥)
    → IsKindAtFront subject text kind rest → is_write kind ≡ false
isnt_write subject text rest kind other is = grind arith

pub mark_read : (subject : Subject) (text : List ℕ) (read : Option (Kind × Bor (List ℕ)))
    → (get_or text 3 0 ≡ 116 → ⊥) → IfSome read (λ r. IsKindAtFront subject text r.0 r.1.now)
    → IfSome read (λ r. is_write r.0 ≡ false)
mark_read subject text read other is = search (isnt_write, arith)

-- an event's line is its caller, a space and what it says
did_line_is : (caller : ℕ) (did : Did) → did_line caller did ≡ decimal caller ++ 32 ∷ did_text did
did_line_is caller did = grind (arith, entry_line_is)

-- a caller and what it did
pub event_at_front : (subject : Subject) (number caller : ℕ) (did : Did) (text rest after : List ℕ)
    → caller < 2 ^ 32 → text ≡ decimal caller ++ 32 ∷ rest → IsDidAtFront subject rest did after
    → IsEventAtFront subject number text (record { number = number; caller = caller; did = did })
    after
event_at_front subject number caller did text rest after low is d =
    grind (arith, after, both_true, is_below, append_assoc, did_line_is)

-- its line isn't `end`
event_isnt_end : (e : Stamped) → ¬ (event_line e ≡ end_line)
event_isnt_end e same =
    let never : true ≡ false = sym ((bytes_eq-Decides _ _).1 same) ∙ did_isnt_end _ _ in
    cc

-- no event of a text was taken in
pub goes_nowhere : (e : Events) (r : Recorded) (n : ℕ) (text : List ℕ)
    → HaveRead e.ledger e.checker r → GoesTo e r n n text text
goes_nowhere e r n text have =
    record { front = []; parted = refl; recorded = r; have = have; read = λ more. refl }

pub goes_shorter : {e : Events} {r : Recorded} {n m : ℕ} {text rest : List ℕ}
    → GoesTo e r n m text rest → length rest ≤ length text
goes_shorter {rest = rest} to = omega (arith, ap length to.parted, length-append to.front rest)

-- one more event at the front of what is left
module _ {e : Events} {r : Recorded} {n m : ℕ} {text rest : List ℕ} (to : GoesTo e r n m text rest)
    (low : m ≤ 4000000) (subject : Subject) (place : ℕ) (whose : subject ≡ e.ledger.header.subject)
    (count : place ≡ length e.checker.steps) (x : Stamped) (after : List ℕ)
    (at : IsEventAtFront subject place rest x after) where
  abbrev line : List ℕ
  line = event_line x

  whole : lacks 10 line ≡ true
  whole = event_line_whole subject x at.1

  is_read : line_read to.recorded line ≡ event_read to.recorded (Some x)
  is_read = line_says e.ledger e.checker to.recorded subject place line to.have whose count (Some x)
      (ap (λ k. event_in subject k line) (sym at.0) ∙ event_in-event_line subject x at.1)

  -- it is taken in
  pub event_goes_on : (new : Events)
      → HaveReadOn new.ledger new.checker (event_read to.recorded (Some x))
      → GoesTo new r n (m + 1) text after
  event_goes_on new have =
      let on = rest_goes_on new to.recorded m false line refl whole low (event_isnt_end x)
      (subst (HaveReadOn new.ledger new.checker) (sym is_read) have) in
      record {
        front = to.front ++ (line ++ 10 ∷ []);
        parted = to.parted
            ∙ ap (λ t. to.front ++ t) (at.2 ∙ sym (append_assoc line (10 ∷ []) after))
            ∙ sym (append_assoc to.front (line ++ 10 ∷ []) after);
        recorded = on.recorded;
        have = on.have;
        read = λ more.
            ap (λ t. rest_read r n false (cut t)) (line_and_rest to.front line more)
            ∙ to.read (line ++ 10 ∷ more) ∙ on.read more;
      }

  -- or it breaks a rule
  pub event_refused : (fault : HistoryFault)
      → IsRefusedAt m fault (event_read to.recorded (Some x)) → (more : List ℕ)
      → IsRefusal fault (rest_read r n false (cut (text ++ more)))
  event_refused fault is more =
      let there : text ++ more ≡ to.front ++ (line ++ 10 ∷ (after ++ more)) =
      ap (λ t. t ++ more) (to.parted ∙ ap (λ t. to.front ++ t) at.2)
      ∙ append_assoc to.front (line ++ 10 ∷ after) more
      ∙ ap (λ t. to.front ++ t) (append_assoc line (10 ∷ after) more) in
      refusal_at m fault (line_read to.recorded line) (cut (after ++ more)) _
      (ap (λ t. rest_read r n false (cut t)) there ∙ to.read (line ++ 10 ∷ (after ++ more))
      ∙ rest_line to.recorded m false line (after ++ more) refl whole low (event_isnt_end x))
      (subst (IsRefusedAt m fault) (sym is_read) is)

-- the lines so far, where `end` wasn't read
pub at_events : (l : Lines) (e : Events) (bytes : List ℕ) → is_some l.fault ≡ false
    → l.ended ≡ false → l.events ≡ Some e → IsAt l bytes → Follows l.line e false bytes
at_events l e bytes fine going later at = subst (λ d. Follows l.line e d bytes) going
    (at_later l e bytes (isnt_some l.fault fine) later at)

-- nothing of a text was taken in
pub nothing_taken : (l : Lines) (bytes text : List ℕ) → IsAt l bytes → IsTakenTo l bytes text text
nothing_taken l bytes text at = grind (arith, append-nil bytes)

-- events were
pub events_taken : (l : Lines) (e new : Events) (m : ℕ) (bytes text rest : List ℕ)
    → is_some l.fault ≡ false → l.ended ≡ false → (f : Follows l.line e false bytes)
    → GoesTo new f.recorded l.line m text rest
    → IsTakenTo (record { line = m; events = Some new; ended = l.ended; fault = l.fault }) bytes
    text rest
events_taken l e new m bytes text rest fine going f to = record {
  front = to.front;
  parted = to.parted;
  at = rw (isnt_some l.fault fine)
      (rw going follows);
}
  where
    follows : Follows m new false (bytes ++ to.front)
    follows = record {
      recorded = to.recorded;
      have = to.have;
      read = λ more. ap history_reading (append_assoc bytes _ _)
          ∙ f.read _ ∙ to.read _;
    }

-- one of them breaks a rule, and the rest is passed over
pub events_refused : (l : Lines) (e : Events) (fault : HistoryFault) (bytes text : List ℕ)
    → (f : Follows l.line e false bytes)
    → ((more : List ℕ) → IsRefusal fault (rest_read f.recorded l.line false (cut (text ++ more))))
    → (n : ℕ) (events : Option Events) (ended : Bool)
    → IsTakenTo (record { line = n; events = events; ended = ended; fault = Some fault }) bytes
    text (take (length text - length text) (drop (length text) text))
events_refused l e fault bytes text f refused n events ended =
    let none : length text - length text ≡ 0 = omega arith in
    record {
      front = text;
      parted = sym (ap (λ n. text ++ take n (drop (length text) text)) none ∙ append-nil text);
      at = λ more. subst (IsRefusal fault)
          (sym (ap history_reading (append_assoc bytes text more) ∙ f.read (text ++ more)))
          (refused more);
    }

-- a reader that has nothing unfinished takes in the front of a text
pub front_fed : (l : Lines) (s : ReaderState) (bytes text rest : List ℕ) → (read : HasRead s bytes)
    → s.unfinished ≡ [] → IsTakenTo l read.whole text rest
    → IsFedTo (record { lines = l; unfinished = s.unfinished }) bytes text rest
front_fed l s bytes text rest read none to =
    grind (arith, to.front, to.parted, whole_line l s bytes to.front read none to.at)

-- the front of a piece, and then the front of what stands behind it
pub fed_then : (a b : ReaderState) (bytes piece rest after : List ℕ)
    → (first : IsFedTo a bytes piece rest) → IsFedTo b (bytes ++ first.front) rest after
    → IsFedTo b bytes piece after
fed_then a b bytes piece rest after first second = search (append_assoc, arith)
