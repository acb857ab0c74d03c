-- Closed instances by computation, a row a theorem: what 02 says stands on the left, in digits, and what the definitions give on the
-- right. A wrong definition is refused here at a value.
use Rattle.std.specs.Prelude.{ℕ, ◌≡◌, refl, List, [], ◌∷◌, ◌++◌, take, drop, set, replicate}
use Rattle.scope.specs.Geometry.{Geometry, accepted}
use Rattle.settings.specs.Fields.{number, bytes_of, next, fields_read, whole_fields, fields_written, bytes_in}
use Rattle.settings.specs.Settings.{Answered, answered, version_of, last_tag, read, written, write, tf_settings_read, tf_settings_write}

-- x itself, where all that the two calls compute with is unfolded.
unfoldable computed : {A : Type 0} → A → A
unfolding tf_settings_read read next number fields_read whole_fields version_of last_tag accepted write written fields_written bytes_of bytes_in
computed x = x

-- 01's geometry G, and its record: a line a field.
abbrev G : Geometry
G = record { P = 2; W = 2; D = 3; T = 3; L = 3; C = 1 }

abbrev G_numbers : List ℕ
G_numbers = 2 ∷ 2 ∷ 3 ∷ 3 ∷ 3 ∷ 1 ∷ []

abbrev G_record : List ℕ
G_record =
    1 ∷ 0 ∷ 1 ∷ 1
    ∷ 2 ∷ 0 ∷ 2 ∷ 0 ∷ 2
    ∷ 3 ∷ 0 ∷ 2 ∷ 0 ∷ 2
    ∷ 4 ∷ 0 ∷ 2 ∷ 0 ∷ 3
    ∷ 5 ∷ 0 ∷ 2 ∷ 0 ∷ 3
    ∷ 6 ∷ 0 ∷ 4 ∷ 0 ∷ 0 ∷ 0 ∷ 3
    ∷ 7 ∷ 0 ∷ 2 ∷ 0 ∷ 1
    ∷ []

-- A geometry whose six numbers differ and whose larger ones need their high bytes.
abbrev large : Geometry
large = record { P = 64; W = 512; D = 1000; T = 24; L = 60000; C = 4096 }

abbrev large_numbers : List ℕ
large_numbers = 64 ∷ 512 ∷ 1000 ∷ 24 ∷ 60000 ∷ 4096 ∷ []

abbrev large_record : List ℕ
large_record =
    1 ∷ 0 ∷ 1 ∷ 1
    ∷ 2 ∷ 0 ∷ 2 ∷ 0 ∷ 64
    ∷ 3 ∷ 0 ∷ 2 ∷ 2 ∷ 0
    ∷ 4 ∷ 0 ∷ 2 ∷ 3 ∷ 232
    ∷ 5 ∷ 0 ∷ 2 ∷ 0 ∷ 24
    ∷ 6 ∷ 0 ∷ 4 ∷ 0 ∷ 0 ∷ 234 ∷ 96
    ∷ 7 ∷ 0 ∷ 2 ∷ 16 ∷ 0
    ∷ []

-- The bytes read into six words that were not zero, and what a refusal hands back.
abbrev reading : List ℕ → Answered
reading bytes = tf_settings_read bytes (replicate 6 9)

abbrev refusal : ℕ → Answered
refusal n = answered n (0 ∷ 0 ∷ 0 ∷ 0 ∷ 0 ∷ 0 ∷ [])

-- ---- records written and read

G_is_written : answered 0 G_record ≡ tf_settings_write G (replicate 36 9)
unfolding computed
G_is_written = refl

G_is_read : answered 0 G_numbers ≡ reading G_record
unfolding computed
G_is_read = refl

large_is_written : answered 0 large_record ≡ tf_settings_write large (replicate 36 9)
unfolding computed
large_is_written = refl

large_is_read : answered 0 large_numbers ≡ reading large_record
unfolding computed
large_is_read = refl

-- ---- "fewer bytes than the field needs", 1; "wrong tag", 2; "wrong length", 3; "unknown version", 4

no_bytes : refusal 1 ≡ reading []
unfolding computed
no_bytes = refl

short_before_tag : refusal 1 ≡ reading (9 ∷ [])
unfolding computed
short_before_tag = refl

version_field_cut : refusal 1 ≡ reading (take 3 G_record)
unfolding computed
version_field_cut = refl

wrong_tag : refusal 2 ≡ reading (set G_record 0 2)
unfolding computed
wrong_tag = refl

tag_before_length : refusal 2 ≡ reading (set (set G_record 0 2) 2 2)
unfolding computed
tag_before_length = refl

wrong_length_low : refusal 3 ≡ reading (set G_record 2 2)
unfolding computed
wrong_length_low = refl

wrong_length_high : refusal 3 ≡ reading (set G_record 1 1)
unfolding computed
wrong_length_high = refl

length_before_version : refusal 3 ≡ reading (set (set G_record 2 2) 3 2)
unfolding computed
length_before_version = refl

version_2 : refusal 4 ≡ reading (set G_record 3 2)
unfolding computed
version_2 = refl

version_0 : refusal 4 ≡ reading (set G_record 3 0)
unfolding computed
version_0 = refl

version_before_short : refusal 4 ≡ reading (1 ∷ 0 ∷ 1 ∷ 2 ∷ [])
unfolding computed
version_before_short = refl

-- ---- the same of the fields after it

version_alone : refusal 1 ≡ reading (take 4 G_record)
unfolding computed
version_alone = refl

first_number_cut : refusal 1 ≡ reading (take 8 G_record)
unfolding computed
first_number_cut = refl

last_number_cut : refusal 1 ≡ reading (take 35 G_record)
unfolding computed
last_number_cut = refl

later_wrong_tag : refusal 2 ≡ reading (set G_record 31 8)
unfolding computed
later_wrong_tag = refl

fields_swapped : refusal 2 ≡ reading (take 4 G_record ++ take 5 (drop 9 G_record) ++ take 5 (drop 4 G_record) ++ drop 14 G_record)
unfolding computed
fields_swapped = refl

later_wrong_length_low : refusal 3 ≡ reading (set G_record 26 2)
unfolding computed
later_wrong_length_low = refl

later_wrong_length_high : refusal 3 ≡ reading (set G_record 25 1)
unfolding computed
later_wrong_length_high = refl

-- ---- "after tag 7, bytes that aren't whole fields of higher tags", 5

stray_byte : refusal 5 ≡ reading (G_record ++ 8 ∷ [])
unfolding computed
stray_byte = refl

two_stray_bytes : refusal 5 ≡ reading (G_record ++ 8 ∷ 0 ∷ [])
unfolding computed
two_stray_bytes = refl

tag_7_again : refusal 5 ≡ reading (G_record ++ 7 ∷ 0 ∷ 2 ∷ 0 ∷ 1 ∷ [])
unfolding computed
tag_7_again = refl

higher_field_cut : refusal 5 ≡ reading (G_record ++ 8 ∷ 0 ∷ 2 ∷ 1 ∷ [])
unfolding computed
higher_field_cut = refl

high_byte_of_length_counts : refusal 5 ≡ reading (G_record ++ 8 ∷ 1 ∷ 0 ∷ [])
unfolding computed
high_byte_of_length_counts = refl

one_byte_of_256 : refusal 5 ≡ reading (G_record ++ 8 ∷ 1 ∷ 0 ∷ 1 ∷ [])
unfolding computed
one_byte_of_256 = refl

tag_7_after_a_higher_one : refusal 5 ≡ reading (G_record ++ 8 ∷ 0 ∷ 1 ∷ 5 ∷ 7 ∷ 0 ∷ 0 ∷ [])
unfolding computed
tag_7_after_a_higher_one = refl

tags_9_8_8_skipped : answered 0 G_numbers
    ≡ reading (G_record ++ 9 ∷ 0 ∷ 2 ∷ 7 ∷ 7 ∷ 8 ∷ 0 ∷ 1 ∷ 7 ∷ 8 ∷ 0 ∷ 0 ∷ [])
unfolding computed
tags_9_8_8_skipped = refl

field_of_256_skipped : answered 0 G_numbers ≡ reading (G_record ++ 255 ∷ 1 ∷ 0 ∷ replicate 256 0)
unfolding computed
field_of_256_skipped = refl

-- ---- "a geometry that 01 refuses", 6

-- G with more logical pages than it has room for.
abbrev L_too_large : Geometry
L_too_large = record { P = 2; W = 2; D = 3; T = 3; L = 4; C = 1 }

geometry_refused : refusal 6 ≡ reading (set G_record 30 4)
unfolding computed
geometry_refused = refl

after_before_geometry : refusal 5 ≡ reading (set G_record 30 4 ++ 8 ∷ [])
unfolding computed
after_before_geometry = refl

-- ---- words that are not six, 7: tested first, and left

five_words_left : answered 7 (replicate 5 9) ≡ tf_settings_read G_record (replicate 5 9)
unfolding computed
five_words_left = refl

seven_words_left : answered 7 (replicate 7 9) ≡ tf_settings_read G_record (replicate 7 9)
unfolding computed
seven_words_left = refl

words_before_bytes : answered 7 (replicate 5 9) ≡ tf_settings_read [] (replicate 5 9)
unfolding computed
words_before_bytes = refl

-- ---- "the writer refuses such a geometry, then with 7 a place that isn't 36 bytes, and changes nothing"

refused_not_written : answered 6 (replicate 36 9) ≡ tf_settings_write L_too_large (replicate 36 9)
unfolding computed
refused_not_written = refl

geometry_before_place : answered 6 (9 ∷ []) ≡ tf_settings_write L_too_large (9 ∷ [])
unfolding computed
geometry_before_place = refl

place_of_35_left : answered 7 (replicate 35 9) ≡ tf_settings_write G (replicate 35 9)
unfolding computed
place_of_35_left = refl

place_of_37_left : answered 7 (replicate 37 9) ≡ tf_settings_write G (replicate 37 9)
unfolding computed
place_of_37_left = refl
