-- The characters that are loaded and held.
use Rattle.std.specs.Prelude.{ℕ, List, take}
use Rattle.vyrd_buffers.specs.declared.held.Held.{Held}

-- the characters of a buffer that are held
abbrev pub held_of : Held → List ℕ
held_of held = take held.loaded held.characters
