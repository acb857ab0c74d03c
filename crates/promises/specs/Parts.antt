-- A sound state in the parts that the steps keep, each by a law of its own: the index (the translation region, the directory and the
-- words past L), the data region under the current places, and the cache.
use Rattle.std.specs.Prelude.{ℕ, ◌≡◌, List}
use Rattle.scope.specs.Geometry.{Geometry}
use Rattle.scope.specs.Lent.{State}
use Rattle.scope.specs.Regions.{Region, Data, Translation}
use Rattle.scope.specs.SmallRecord.{SmallRecord, open_block, next_offset}
use Rattle.scope.specs.Sound.{PagesFit, OwnersDiffer, BlocksFit, EntriesFit, ProtectedFit, UnchangedAgree, current, Sound}
use Rattle.region.specs.Holds.{RegionFits, RegionHolds, Holds, rules_fit, fits_blocks}
use Rattle.flash.specs.Lengths.{Lengths}
use Rattle.flash.specs.Heads.{SameHead}
use Rattle.scope.specs.Laws.Applied.{SameFlash}
use Rattle.cache.specs.Holds.{Found, lookup, holds_lookup}
use Rattle.cache.specs.Steps.{HoldsIn}
use Rattle.region.specs.DirectoryFollows.{in_directory}
use Rattle.promises.specs.Stored.{NonePastL, past_none, none_past}

-- Rules 1 to 4 of the translation region, and rule 6's last sentence.
pub record IndexHolds (g : Geometry) (chip spare directory : List ℕ) (opened offset : ℕ) : Type 0 where
  pub pages : RegionHolds g Translation chip spare opened offset (in_directory directory)
  pub past_L : NonePastL g chip directory

abbrev pub IndexFits : Geometry → State → Type 0
IndexFits g s =
    IndexHolds g s.chip s.spare s.directory (open_block Translation s.small) (next_offset Translation s.small)

-- Rules 5 and 7.
pub record CacheFits (g : Geometry) (s : State) : Type 0 where
  pub entries : EntriesFit g s.cache s.small.used
  pub border : ProtectedFit g s.small
  pub agree : UnchangedAgree g s

module _ {g : Geometry} {s : State} where
  region_of : (r : Region) → Sound g s → RegionFits g r s.chip s.spare (open_block r s.small) (next_offset r s.small)
  region_of r sound = rules_fit g r s.chip s.spare _ _ (sound.rule_1 r) (sound.rule_2 r) (sound.rule_3 r)

  pub index_of : Sound g s → IndexFits g s
  index_of sound =
      record {
        pages = record {
          fits = region_of Translation sound;
          besides = (sound.rule_3 Translation).besides;
          maps = record { names = sound.rule_4 };
        };
        past_L = past_none g s.chip s.directory sound.rule_6.past_L;
      }

  -- Rules 1 to 3 of the data region, and rule 6's first sentence.
  pub data_of : Sound g s → Holds g Data s (current g s)
  data_of sound =
      record {
        fits = region_of Data sound;
        besides = (sound.rule_3 Data).besides;
        maps = record { names = sound.rule_6.current_place };
      }

  pub cache_of : Sound g s → CacheFits g s
  cache_of sound = record { entries = sound.rule_5; border = sound.rule_5_protected; agree = sound.rule_7 }

  -- The parts together.
  pub sound_from : IndexFits g s → Holds g Data s (current g s) → CacheFits g s → Sound g s
  sound_from index pages cache =
      record {
        rule_1 = one;
        rule_2 = two;
        rule_3 = three;
        rule_4 = index.pages.maps.names;
        rule_5 = cache.entries;
        rule_5_protected = cache.border;
        rule_6 = record { current_place = pages.maps.names; past_L = none_past g s.chip s.directory index.past_L };
        rule_7 = cache.agree;
      }
    where
      one : (r : Region) → PagesFit g r s.chip s.spare
      one Data = pages.fits.pages_fit
      one Translation = index.pages.fits.pages_fit

      two : (r : Region) → OwnersDiffer g r s.spare
      two Data = pages.fits.owners_differ
      two Translation = index.pages.fits.owners_differ

      three : (r : Region) → BlocksFit g r s.spare (open_block r s.small) (next_offset r s.small)
      three Data = fits_blocks g Data s.chip s.spare _ _ pages.fits pages.besides
      three Translation = fits_blocks g Translation s.chip s.spare _ _ index.pages.fits index.pages.besides

-- What a state's cache holds.
abbrev pub cached : Geometry → State → ℕ → Found
cached g s = lookup g s.cache s.small.used

pub cache_holds : (g : Geometry) (s : State) → Lengths g s → CacheFits g s → HoldsIn g s (cached g s)
cache_holds g s len fits = holds_lookup g s.cache s.small.used len.cache_fits fits.entries

-- The index holds of any state with the same flash, directory and head of the translation region.
pub index_same : {g : Geometry} {s s' : State} → SameFlash s' s → s'.directory ≡ s.directory
    → SameHead Translation s.small s'.small → IndexFits g s → IndexFits g s'
index_same flash directory head index = rw (flash.chip, flash.spare, directory, head.opened, head.offset) index

-- As many are protected as were, of as many in use.
pub border_same : {g : Geometry} {r r' : SmallRecord} → r'.used ≡ r.used → r'.protected ≡ r.protected
    → ProtectedFit g r → ProtectedFit g r'
border_same used protected fit = record { at_most_half = rw protected fit.at_most_half; at_most_used = rw (protected, used) fit.at_most_used }
