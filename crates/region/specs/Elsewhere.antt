-- All that is not one region's own: the other region's pages and head, the directory, the cache, and the used entries. What the steps on
-- a region leave as it was.
use Rattle.std.specs.Prelude.{ℕ, ◌≡◌, refl}
use Rattle.scope.specs.Geometry.{Geometry}
use Rattle.scope.specs.Regions.{Region, Data, Translation}
use Rattle.scope.specs.SmallRecord.{SmallRecord, open_block, next_offset, with_open}
use Rattle.scope.specs.Lent.{State}
use Rattle.flash.specs.Places.{other}
use Rattle.flash.specs.SamePages.{SamePages}
use Rattle.flash.specs.Heads.{SameRest}

-- ---- the small record's open blocks

pub open_with : (r : Region) (b offset : ℕ) (x : SmallRecord) → open_block r (with_open r b offset x) ≡ b
open_with Data b offset x = refl
open_with Translation b offset x = refl

pub offset_with : (r : Region) (b offset : ℕ) (x : SmallRecord) → next_offset r (with_open r b offset x) ≡ offset
offset_with Data b offset x = refl
offset_with Translation b offset x = refl

-- ---- what is elsewhere

pub record SameElsewhere (g : Geometry) (r : Region) (s s' : State) : Type 0 where
  pub pages : SamePages g (other r) s s'
  pub directory : s'.directory ≡ s.directory
  pub cache : s'.cache ≡ s.cache
  pub rest : SameRest r s.small s'.small
