-- The tests of the writer and of the call for C, in their order: what each that applies gives, and what is done where none does.
use Rattle.std.specs.Prelude.{ℕ, ◌≡◌, ◌≢◌, true, false, List, length}
use Rattle.std.proofs.Math.Path.{refl}
use borrow.Author.Tests.{eq-eqb, ne_eqb}
use Rattle.scope.specs.Geometry.{Geometry, accepted}
use Rattle.settings.specs.Fields.{ACCEPTED, GEOMETRY, PLACE}
use Rattle.settings.specs.Settings.{Version, versions, numbers_words, answered, read, record_bytes, written, write, tf_settings_read}

module _ (v : Version) (g : Geometry) (place : List ℕ) where
  pub geometry_not_written : accepted g ≡ false → write v g place ≡ answered GEOMETRY place
  unfolding write
  geometry_not_written a = rw a refl

  module _ (a : accepted g ≡ true) where
    pub place_not_written : length place ≢ record_bytes v → write v g place ≡ answered PLACE place
    unfolding write
    place_not_written n = rw (a, ne_eqb (length place) (record_bytes v) n) refl

    pub record_written : length place ≡ record_bytes v → write v g place ≡ answered ACCEPTED (written v g)
    unfolding write
    record_written n = rw (a, eq-eqb (length place) (record_bytes v) n) refl

module _ (bytes numbers : List ℕ) where
  pub other_length_refused : length numbers ≢ numbers_words → tf_settings_read bytes numbers ≡ answered PLACE numbers
  unfolding tf_settings_read
  other_length_refused n = rw (ne_eqb (length numbers) numbers_words n) refl

  pub six_words_read : length numbers ≡ numbers_words → tf_settings_read bytes numbers ≡ read versions bytes
  unfolding tf_settings_read
  six_words_read n = rw (eq-eqb (length numbers) numbers_words n) refl
