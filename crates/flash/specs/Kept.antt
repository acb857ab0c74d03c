-- What no operation changes: the lengths of the lists, and all of the state but chip and spare.
use Rattle.std.specs.Prelude.{◌*◌, ◌≡◌, refl, List, [], ◌∷◌, length, replicate}
use Rattle.std.proofs.Common.{◌∙◌, length-set}
use Rattle.std.proofs.Math.Seq.{length-sets}
use Rattle.scope.specs.Geometry.{Geometry}
use Rattle.scope.specs.Lent.{erased, invalid, State, spare_words, cache_size, claim_words}
use Rattle.scope.specs.Operations.{Operation, Read, Program, Mark, Erase, apply, apply_all}
use Rattle.scope.specs.Laws.Applied.{SameFlash}
use Rattle.flash.specs.Lengths.{Lengths, lengths_with_flash}

pub apply_keeps_lengths : (g : Geometry) (o : Operation) (s : State) → Lengths g s → Lengths g (apply g o s)
unfolding apply
apply_keeps_lengths g (Read p) s len = len
apply_keeps_lengths g (Program p owner words) s len =
    lengths_with_flash s len (length-sets s.chip (p * g.W) words ∙ len.chip_fits)
    (length-sets s.spare (p * spare_words) (claim_words owner) ∙ len.spare_fits)
apply_keeps_lengths g (Mark p) s len =
    lengths_with_flash s len len.chip_fits (length-set s.spare (p * spare_words) invalid ∙ len.spare_fits)
apply_keeps_lengths g (Erase b) s len =
    lengths_with_flash s len (length-sets s.chip (b * g.P * g.W) (replicate (g.P * g.W) erased) ∙ len.chip_fits)
    (length-sets s.spare (b * g.P * spare_words) (replicate (g.P * spare_words) erased) ∙ len.spare_fits)

pub apply_all_keeps_lengths : (g : Geometry) (os : List Operation) (s : State) → Lengths g s → Lengths g (apply_all g os s)
unfolding apply_all
apply_all_keeps_lengths g [] s len = len
apply_all_keeps_lengths g (o ∷ os) s len = apply_all_keeps_lengths g os (apply g o s) (apply_keeps_lengths g o s len)

-- Flash and directory are as before, and the cache is as long as it should be.
pub lengths_still : {g : Geometry} (s s' : State) → SameFlash s' s → s'.directory ≡ s.directory → length s'.cache ≡ cache_size g
    → Lengths g s → Lengths g s'
lengths_still s s' flash directory long len =
    record {
      chip_fits = rw flash.chip len.chip_fits;
      spare_fits = rw flash.spare len.spare_fits;
      directory_fits = rw directory len.directory_fits;
      cache_fits = long;
    }

-- Directory, cache and small record are as before.
pub record SameBeside (s s' : State) : Type 0 where
  pub directory : s'.directory ≡ s.directory
  pub cache : s'.cache ≡ s.cache
  pub small : s'.small ≡ s.small

pub apply_keeps_beside : (g : Geometry) (o : Operation) (s : State) → SameBeside s (apply g o s)
unfolding apply
apply_keeps_beside g (Read p) s = record { directory = refl; cache = refl; small = refl }
apply_keeps_beside g (Program p owner words) s = record { directory = refl; cache = refl; small = refl }
apply_keeps_beside g (Mark p) s = record { directory = refl; cache = refl; small = refl }
apply_keeps_beside g (Erase b) s = record { directory = refl; cache = refl; small = refl }

pub apply_all_keeps_beside : (g : Geometry) (os : List Operation) (s : State) → SameBeside s (apply_all g os s)
unfolding apply_all
apply_all_keeps_beside g [] s = record { directory = refl; cache = refl; small = refl }
apply_all_keeps_beside g (o ∷ os) s =
    let first = apply_keeps_beside g o s in
    let rest = apply_all_keeps_beside g os (apply g o s) in
    record {
      directory = rest.directory ∙ first.directory;
      cache = rest.cache ∙ first.cache;
      small = rest.small ∙ first.small;
    }
