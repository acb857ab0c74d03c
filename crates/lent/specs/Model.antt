-- What the structs of src/lib.rt mean in document 01's definitions.
use Rattle.std.specs.Prelude.{ℕ, List}
use Rattle.lent.specs.declared.Geometry.{Geometry as Numbers}
use Rattle.lent.specs.declared.Record.{Record}
use Rattle.lent.specs.declared.Counts.{Counts as Counted}
use Rattle.lent.specs.declared.Region.{Region as Kind}
use Rattle.lent.specs.declared.Region.TheVariants.{Data as DataOf, Translation as TranslationOf}
use Rattle.lent.specs.declared.Entry.{Entry as Coded}
use Rattle.lent.specs.declared.Entry.TheVariants.{Place as PlaceOf, Nowhere as NowhereOf}
use Rattle.scope.specs.Geometry.{Geometry}
use Rattle.scope.specs.Regions.{Region, Data, Translation}
use Rattle.scope.specs.SmallRecord.{SmallRecord}
use Rattle.scope.specs.Lent.{State, with_small, Entry, Place, Nowhere}
use Rattle.scope.specs.Operations.{Counts}
use Rattle.scope.specs.Boundary.{Words}

abbrev pub geometry : Numbers → Geometry
geometry g = record { P = g.p; W = g.w; D = g.d; T = g.t; L = g.l; C = g.c }

abbrev pub small : Record → SmallRecord
small r =
    record {
      open_data = r.open_data;
      data_offset = r.data_offset;
      open_translation = r.open_translation;
      translation_offset = r.translation_offset;
      used = r.used;
      protected = r.protected;
    }

abbrev pub counts : Counted → Counts
counts c = record { reads = c.reads; programs = c.programs; erases = c.erases }

abbrev pub region : Kind → Region
region DataOf = Data
region TranslationOf = Translation

abbrev pub entry : Coded → Entry
entry (PlaceOf p) = Place p
entry NowhereOf = Nowhere

-- The state with another record.
abbrev pub with_rec : Record → State → State
with_rec r s = with_small (small r) s

-- The lent lists, for laws that do not tell one from another.
pub record Lists : Type 0 where
  pub chip : List ℕ
  pub spare : List ℕ
  pub directory : List ℕ
  pub cache : List ℕ

-- They and the record as one state; list by list, as contracts write it.
abbrev pub together : Lists → Record → State
together x r = record { chip = x.chip; spare = x.spare; directory = x.directory; cache = x.cache; small = small r }

abbrev pub state : List ℕ → List ℕ → List ℕ → List ℕ → Record → State
state chip spare directory cache = together (record { chip = chip; spare = spare; directory = directory; cache = cache })

-- They, the record's words and the counts as C lends them; a state's; and list by list.
abbrev pub lend : Lists → List ℕ → List ℕ → Words
lend x numbers counted =
    record { chip = x.chip; spare = x.spare; directory = x.directory; cache = x.cache; small = numbers; counts = counted }

abbrev pub lists_of : State → Lists
lists_of s = record { chip = s.chip; spare = s.spare; directory = s.directory; cache = s.cache }

abbrev pub words : List ℕ → List ℕ → List ℕ → List ℕ → List ℕ → List ℕ → Words
words chip spare directory cache = lend (record { chip = chip; spare = spare; directory = directory; cache = cache })
