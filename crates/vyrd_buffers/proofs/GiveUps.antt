-- When an operation gives up, by what the specification allows.
use Rattle.std.proofs.Common.{◌≡◌, ℕ, ◌+◌, ◌<◌, ◌≤◌, false, Some, refl, ap, ◌∙◌, sym, arith}
use Rattle.std.specs.Prelude.{IsSome, nat_le}
use Rattle.std.proofs.lemmas.Bool.Decides.{nat_tests}
use Rattle.vyrd_base.specs.declared.header.Header.{Header}
use Rattle.vyrd_base.specs.declared.subject.Subject.TheVariants.{Buffers}
use Rattle.vyrd_base.specs.declared.subject.Method.TheVariants.{Buffers as OfBuffers}
use Rattle.vyrd_base.specs.declared.buffers.BuffersMethod.TheVariants.{Append, AppendFrom}
use Rattle.vyrd_base.specs.Amounts.{Amounts, amount_of}
use Rattle.vyrd_base.specs.Buffers.{text_length, has_room}
use Rattle.vyrd_base.specs.Buffers.{after_append}
use Rattle.vyrd_base.proofs.TextLaws.{length_at_most, one_character}
use Rattle.vyrd_base.proofs.ListLaws.{none_isnt_some}
use Rattle.vyrd_memory.specs.declared.op.Op.{Op}
use Rattle.vyrd_memory.specs.declared.op.Variant.TheVariants.{Correct}
use Rattle.vyrd_memory.specs.Scripts.{Script}
use Rattle.vyrd_memory.specs.Alone.{Memory, state_in, alone, GivesUpWhere}
use Rattle.vyrd_memory.specs.Alone.{MeetsSpecification}
use Rattle.vyrd_memory.proofs.Memories.{represents}
use Rattle.vyrd_buffers.specs.Procedures.{append, append_from, cut}
use Rattle.vyrd_buffers.specs.Laws.Alone.{append_alone, append_from_alone, cut_alone}
use Rattle.vyrd_buffers.specs.Laws.Alone.Done.{Appends}

-- an append that is allowed to reply 0 has no room, and one that has no room is allowed no other
-- reply
without_room : (state : Amounts) (b more : ℕ) → IsSome (after_append 0 state b more)
    → has_room (amount_of state b) more ≡ false
without_room state b more some = search (has_room, none_isnt_some, arith)

only_zero : (reply : ℕ) (state : Amounts) (b more : ℕ) → has_room (amount_of state b) more ≡ false
    → IsSome (after_append reply state b more)
    → reply ≡ 0
only_zero reply state b more full some = search (none_isnt_some, arith)

-- so it gives up exactly when there is no room
append_meets : (h : Header) (op : Op) (script : Script) (c : ℕ) (memory : Memory) (state : Amounts)
    (b more : ℕ) → Appends op state b more
    → MeetsSpecification h op script c memory state → (P : Type 0)
    → (has_room (amount_of state b) more ≡ false → P)
    → (P → has_room (amount_of state b) more ≡ false)
    → GivesUpWhere P (alone c script memory)
append_meets h op script c memory state b more says m P to from =
    grind (arith, more, without_room, only_zero)

full_length : (text x : ℕ) → x < 255 → has_room text (x + 1) ≡ nat_le (text_length text + 1) 7
full_length text x low = ap (λ n. nat_le (text_length text + n) 7) (one_character x low)

pub append_gives_up : (h : Header) (memory : Memory) (state : Amounts) (c b x : ℕ)
    → h.subject ≡ Buffers → b < h.size → x < 255 → state_in h memory ≡ Some state
    → GivesUpWhere (text_length (amount_of state b) ≡ 7) (alone c (append h b x) memory)
append_gives_up h memory state c b x is low small e = append_meets h op (append h b x) c memory
    state b (x + 1) (λ reply. refl) (append_alone h _ c b x _ _ is (represents h _ _ e) low small
    (λ reply. refl)) (text_length _ ≡ 7)
    (λ full. seven (text_length _) (length_at_most _) (sym (full_length _ x small) ∙ full))
    (λ all. cc (full_length (amount_of state b) x small))
  where
    op : Op
    op = record { method = OfBuffers Append; args = record { a = b; b = x; c = 0 } }

    seven : (n : ℕ) → n ≤ 7 → nat_le (n + 1) 7 ≡ false → n ≡ 7
    seven n most full = grind (arith, nat_tests)

pub append_from_gives_up : (h : Header) (memory : Memory) (state : Amounts) (c b s : ℕ)
    → h.subject ≡ Buffers → b < h.size → s < h.size → state_in h memory ≡ Some state
    → GivesUpWhere (has_room (amount_of state b) (amount_of state s) ≡ false)
    (alone c (append_from h Correct b s) memory)
append_from_gives_up h memory state c b s is low low_s e =
    append_meets h op (append_from h Correct b s) c memory state b (amount_of _ s) (λ reply. refl)
    (append_from_alone h _ c b s _ _ is (represents h _ _ e) low low_s (λ reply. refl))
    (has_room _ _ ≡ false) (λ full. full) (λ full. full)
  where
    op : Op
    op = record { method = OfBuffers AppendFrom; args = record { a = b; b = s; c = 0 } }

pub cut_never_gives_up : (h : Header) (memory : Memory) (state : Amounts) (c b n : ℕ)
    → h.subject ≡ Buffers → b < h.size → state_in h memory ≡ Some state
    → GivesUpWhere ⊥ (alone c (cut h b n) memory)
cut_never_gives_up h memory state c b n is low e =
    grind (arith, cut_alone, represents, none_isnt_some)
