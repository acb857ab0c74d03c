-- The sizes of what a call keeps on its stack, as lent/src has them for the code.
use Rattle.std.specs.Prelude.{ℕ, ◌*◌}

-- Words of the census.
abbrev pub census_words : ℕ
census_words = 1024

-- Words of the filter of the cached pages, and its bits.
abbrev pub filter_words : ℕ
filter_words = 1024

abbrev pub filter_bits : ℕ
filter_bits = filter_words * 64
