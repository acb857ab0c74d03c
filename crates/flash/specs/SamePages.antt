-- A region whose pages are as before, and that an operation on one region leaves the other one so.
use Rattle.std.specs.Prelude.{ℕ, List}
use Rattle.std.proofs.Common.{sym}
use Rattle.scope.specs.Geometry.{Geometry}
use Rattle.scope.specs.Lent.{State}
use Rattle.scope.specs.Regions.{Region, HasBlock, HasPage}
use Rattle.flash.specs.Pages.{PageSame, page_refl, page_sym, page_trans, Programmed, Marked, Erased}
use Rattle.flash.specs.Places.{other, page_other, outside_region}

-- The pages of a region have the states, the owners and the words that they had before.
pub record PagesSame (g : Geometry) (r : Region) (chip spare chip' spare' : List ℕ) : Type 0 where
  pub page : (p : ℕ) → HasPage g r p → PageSame g p chip spare chip' spare'

abbrev pub SamePages : Geometry → Region → State → State → Type 0
SamePages g r s s' = PagesSame g r s.chip s.spare s'.chip s'.spare

module _ {g : Geometry} {r : Region} where
  pub same_refl : {chip spare : List ℕ} → PagesSame g r chip spare chip spare
  same_refl = record { page = λ p h. page_refl }

  pub same_sym : {c d c' d' : List ℕ} → PagesSame g r c d c' d' → PagesSame g r c' d' c d
  same_sym a = record { page = λ p h. page_sym (a.page p h) }

  pub same_trans : {c d c' d' c'' d'' : List ℕ} → PagesSame g r c d c' d' → PagesSame g r c' d' c'' d'' → PagesSame g r c d c'' d''
  same_trans a b = record { page = λ p h. page_trans (a.page p h) (b.page p h) }

-- An operation on a page or a block of r leaves the other region's pages as they were.
module _ {g : Geometry} (r : Region) where
  pub program_elsewhere : {p k : ℕ} {contents : List ℕ} {s s' : State}
      → HasPage g r p → Programmed g p k contents s s' → SamePages g (other r) s s'
  program_elsewhere {p} h a = record { page = λ q l. a.others q (λ e. page_other g r p q h l (sym e)) }

  pub mark_elsewhere : {p : ℕ} {s s' : State} → HasPage g r p → Marked g p s s' → SamePages g (other r) s s'
  mark_elsewhere {p} h a = record { page = λ q l. a.others q (λ e. page_other g r p q h l (sym e)) }

  pub erase_elsewhere : {b : ℕ} {s s' : State} → HasBlock g r b → Erased g b s s' → SamePages g (other r) s s'
  erase_elsewhere {b} h a = record { page = λ q l. a.others q (outside_region g r b q h l) }
