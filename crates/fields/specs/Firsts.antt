-- The tests of a field in the reader's order: what each that applies refuses, and what is read where none does.
use Rattle.std.specs.Prelude.{ℕ, ◌<◌, ◌≡◌, ◌≢◌, List, [], ◌∷◌, ◌++◌, length, get_or, drop, Ok, Err}
use Rattle.std.specs.Borrow.{Bor}
use Rattle.std.proofs.Math.Path.{refl}
use Rattle.std.proofs.Common.{sym, ap₂, ◌∙◌, ◌≤◌}
use borrow.Author.Tests.{lt-ltb, le-ltb, eq-eqb, ne_eqb}
use Rattle.settings.specs.Fields.{Field, Numbers, field_bytes, head_bytes, number, next}
use Rattle.settings.proofs.Laws.Fields.{Whole, whole_is_read}
use Rattle.fields.specs.declared.refusal.Refusal.TheVariants.{Short, Tag, Length}
use Rattle.fields.specs.Model.{Next}

module _ {bytes : List ℕ} {f : Field} where
  pub first_short : length bytes < field_bytes f → Next bytes f (Err Short)
  unfolding next
  first_short h = record { is = λ numbers. rw (lt-ltb _ _ h) refl }

  pub first_other_tag : field_bytes f ≤ length bytes → get_or bytes 0 0 ≢ f.tag → Next bytes f (Err Tag)
  unfolding next
  first_other_tag h t = record { is = λ numbers. rw (le-ltb _ _ h, ne_eqb _ _ t) refl }

  pub first_other_length : field_bytes f ≤ length bytes → get_or bytes 0 0 ≡ f.tag → number 2 (drop 1 bytes) ≢ f.bytes
      → Next bytes f (Err Length)
  unfolding next
  first_other_length h t n = record { is = λ numbers. rw (le-ltb _ _ h, eq-eqb _ _ t, ne_eqb _ _ n) refl }

  pub first_number : Whole f bytes → {x : ℕ} {rest : Bor (List ℕ)} → x ≡ number f.bytes (drop head_bytes bytes)
      → rest.now ≡ drop (field_bytes f) bytes → Next bytes f (Ok (x, rest))
  first_number w e r =
      record {
        is = λ numbers.
            whole_is_read f numbers bytes w ∙ ap₂ (λ (y : ℕ) (l : List ℕ). Numbers (numbers ++ y ∷ []) l) (sym e) (sym r);
      }
