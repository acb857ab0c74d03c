-- The seven rules together: those of flash alone, then those that look at the cache. Each rule is a field here, as it is in scope's `Sound`.
use Rattle.std.specs.Prelude.{ℕ, List, []}
use Rattle.scope.specs.Geometry.{Geometry}
use Rattle.scope.specs.Regions.{Region, Data, Translation}
use Rattle.scope.specs.SmallRecord.{SmallRecord}
use Rattle.scope.specs.Lent.{State}
use Rattle.scope.specs.Sound.{OwnersDiffer, DirectoryNames, EntriesFit, ProtectedFit, PlacesHold, UnchangedAgree, Sound, current}
use Rattle.survey.specs.Survey.{PagesAndBlocks}
use Rattle.mapping.specs.Stored.{parts}

-- Rules 1 and 3 of each region, and rule 4, which rule 2 of the translation region is decided with.
pub record FlashRules (g : Geometry) (chip spare directory : List ℕ) (s : SmallRecord) : Type 0 where
  pub in_data : PagesAndBlocks g Data chip spare s
  pub in_translation : PagesAndBlocks g Translation chip spare s
  pub differ : OwnersDiffer g Translation spare
  pub names : DirectoryNames g spare directory

-- Rules 5 to 7; rule 2 of the data region is decided with rule 6.
pub record CacheRules (g : Geometry) (chip spare directory cache : List ℕ) (s : SmallRecord) : Type 0 where
  pub entries : EntriesFit g cache s.used
  pub border : ProtectedFit g s
  pub differ : OwnersDiffer g Data spare
  pub places : PlacesHold g (parts chip spare directory cache s.used)
  pub agree : UnchangedAgree g (parts chip [] directory cache s.used)

module _ (g : Geometry) (s : State) where
  pub flash_of_sound : Sound g s → FlashRules g s.chip s.spare s.directory s.small
  flash_of_sound h =
      record {
        in_data = record { pages = h.rule_1 Data; blocks = h.rule_3 Data };
        in_translation = record { pages = h.rule_1 Translation; blocks = h.rule_3 Translation };
        differ = h.rule_2 Translation;
        names = h.rule_4;
      }

  pub cache_of_sound : Sound g s → CacheRules g s.chip s.spare s.directory s.cache s.small
  unfolding current
  cache_of_sound h =
      record {
        entries = h.rule_5;
        border = h.rule_5_protected;
        differ = h.rule_2 Data;
        places = record { current_place = h.rule_6.current_place; past_L = h.rule_6.past_L };
        agree = h.rule_7;
      }

  pub sound_of_both : FlashRules g s.chip s.spare s.directory s.small
      → CacheRules g s.chip s.spare s.directory s.cache s.small → Sound g s
  unfolding current
  sound_of_both f c =
      record {
        rule_1 = λ r. (of_region r).pages;
        rule_2 = differ;
        rule_3 = λ r. (of_region r).blocks;
        rule_4 = f.names;
        rule_5 = c.entries;
        rule_5_protected = c.border;
        rule_6 = record { current_place = c.places.current_place; past_L = c.places.past_L };
        rule_7 = c.agree;
      }
    where
      of_region : (r : Region) → PagesAndBlocks g r s.chip s.spare s.small
      of_region Data = f.in_data
      of_region Translation = f.in_translation

      differ : (r : Region) → OwnersDiffer g r s.spare
      differ Data = c.differ
      differ Translation = f.differ
