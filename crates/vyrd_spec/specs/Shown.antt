-- How many keys a state can show of itself at most.
use Rattle.std.specs.Prelude.{◌*◌, ℕ, length}
use Rattle.vyrd_base.specs.Layout.{plain_words}
use Rattle.vyrd_base.specs.Own.Reader.{written_in}
use Rattle.vyrd_base.specs.Rules.{Charter, built_in, own}

-- As many keys as there are words; and if the user's own specification says what words show, as
-- many for each word as it has lines that do.
abbrev pub most_shown : Charter → ℕ
most_shown (built_in h) = plain_words h
most_shown (own h lines) = plain_words h * length (written_in lines).shows
