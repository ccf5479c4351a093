-- A log in which each write writes its own position. When a write takes effect doesn't depend on
-- its value. So the effects in this log, by the definition of effects and no other, tell of each
-- effect in the log itself where its write stands.
use Rattle.std.specs.Prelude.{ℕ, ◌+◌, List, [], ◌∷◌}
use Rattle.vyrd_base.specs.declared.log.Kind.{Kind}
use Rattle.vyrd_base.specs.declared.log.Kind.TheVariants.{Write}
use Rattle.vyrd_base.specs.declared.log.Entry.{Entry}

-- a write of this position in place of its value
abbrev pub numbered_kind : ℕ → Kind → Kind
numbered_kind position (Write word value) = Write word position
numbered_kind position kind = kind

-- the entry that stands at this position
abbrev pub numbered_entry : ℕ → Entry → Entry
numbered_entry position e = record {
  caller = e.caller;
  kind = numbered_kind position e.kind;
}

-- entries, the first of which stands at this position
abbrev pub numbered_from : ℕ → List Entry → List Entry
numbered_from position [] = []
numbered_from position (e ∷ entries) =
    numbered_entry position e ∷ numbered_from (position + 1) entries

-- the log in which each write writes its own position
abbrev pub numbered : List Entry → List Entry
numbered entries = numbered_from 0 entries
