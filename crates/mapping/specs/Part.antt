-- A part of a map as src/part.rt has it.
use Rattle.std.specs.Prelude.{ℕ, ◌+◌, Bool}
use Rattle.mapping.specs.Tally.{word_good}
use Rattle.mapping.specs.declared.part.Part.{Part}

-- The first page past those that its words may name.
abbrev pub past : Part → ℕ
past part = part.owners.first + part.owners.n

-- Word i names its owner's page.
abbrev pub good : Part → ℕ → Bool
good part i = word_good part.words.now part.from part.owners.spare.now part.owners.first part.owners.n i
