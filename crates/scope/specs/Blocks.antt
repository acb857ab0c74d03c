-- A block's pages by their states: 01's "wholly erased", "no erased page" and "valid pages", as the steps test and count them.
use Rattle.std.specs.Prelude.{ℕ, Bool, not, List}
use Rattle.scope.specs.Counting.{all, count}
use Rattle.scope.specs.Geometry.{Geometry}
use Rattle.scope.specs.Lent.{is_erased, is_valid}
use Rattle.scope.specs.Regions.{page_in}

-- A block with all its pages erased; one with no erased page; how many of its pages are valid.
abbrev pub wholly_erased : Geometry → List ℕ → ℕ → Bool
wholly_erased g spare b = all g.P (λ i. is_erased (page_in g b i) spare)

abbrev pub no_erased_page : Geometry → List ℕ → ℕ → Bool
no_erased_page g spare b = all g.P (λ i. not (is_erased (page_in g b i) spare))

abbrev pub valid_pages : Geometry → List ℕ → ℕ → ℕ
valid_pages g spare b = count g.P (λ i. is_valid (page_in g b i) spare)
