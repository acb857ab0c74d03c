-- `entries::entries_fit` meets its contract: the parts of rule 5, in their order.
use mathlib.Core.Path.{◌≡◌, sym, subst, ap, ◌∙◌}
use mathlib.Core.Bool.{Bool, true}
use mathlib.Core.List.{List}
use Prim.Native.Nat.{ℕ, ◌*◌, ◌-◌, ◌≤◌}
use lib.ListN.{length, take, drop}
use borrow.Author.Rules.{part_to_end}
use borrow.Author.Tests.{leb-true}
use native.Mathlib.Omega.{arith}
use Rattle.scope.specs.Counting.{all}
use Rattle.scope.specs.Geometry.{Geometry}
use Rattle.scope.specs.Laws.Decides.{Decides}
use Rattle.scope.specs.Lent.{cache_size}
use Rattle.scope.specs.Sound.{EntriesFit}
use Rattle.flash.specs.Tests.{decides_by}
use Rattle.lent.specs.Model.{geometry}
use Rattle.words.specs.Erased.{only_erased, is_erased_word}
use Rattle.words.specs.Filter.{Filter}
use Rattle.mapping.specs.Entries.{used_fit, too_many, entries_by_parts}
use Rattle.mapping.specs.Seen.{seen_filter}
use Rattle.mapping.proofs.entries.entries_fit.Goals.{then-used-g, else-used-g}
use Rattle.mapping.proofs.entries.entries_fit.Goals as goal

tells : (g : Geometry) (cache : List ℕ) (used : ℕ) (r : Bool) → used ≤ g.C → length cache ≡ cache_size g
    → used_fit cache g.L used ≡ true → r ≡ only_erased (take (length cache - used * 3) (drop (used * 3) cache)) → Decides r (EntriesFit g cache used)
tells g cache used r few long fits e =
    decides_by (e ∙ ap (λ (words : List ℕ). all (length words) (is_erased_word words)) (part_to_end cache (used * 3)))
    (rw fits at (entries_by_parts g cache used few long))

pub returns-then-used_fit-clause-decides : goal.returns-then-used_fit-clause-decides
returns-then-used_fit-clause-decides c = let a = c.args in
    elim c.if-used-g.branch [
      | then-used-g w ↦ tells (geometry a.g) a.cache.now a.used _ w.if-used-g.true c.requires.cache_len
          (sym w.used_fit.ensures.value ∙ sym w.value-is ∙ c.if-used_fit.true) c.only_erased.ensures
      | else-used-g w ↦ absurd (omega (arith, leb-true _ _ (sym w.value-is ∙ c.if-used_fit.true), w.if-used-g.false))
    ]

pub returns-then-used_fit-clause-filter : goal.returns-then-used_fit-clause-filter
returns-then-used_fit-clause-filter c = let a = c.args in
    λ p. elim c.if-used-g.branch [
      | then-used-g w ↦ subst (Filter a.cache.now a.used) (sym w.filter-is) (seen_filter c.requires.accepted c.requires.cache_len
          ((tells (geometry a.g) a.cache.now a.used _ w.if-used-g.true c.requires.cache_len
          (sym w.used_fit.ensures.value ∙ sym w.value-is ∙ c.if-used_fit.true) c.only_erased.ensures).holds p)
          (w.used_fit.ensures.seen (sym w.value-is ∙ c.if-used_fit.true)))
      | else-used-g w ↦ absurd (omega (arith, leb-true _ _ (sym w.value-is ∙ c.if-used_fit.true), w.if-used-g.false))
    ]

pub returns-else-used_fit-clause-decides : goal.returns-else-used_fit-clause-decides
returns-else-used_fit-clause-decides c = let a = c.args in
    decides_by c.if-used_fit.false (elim c.if-used-g.branch [
      | then-used-g w ↦ rw (sym w.used_fit.ensures.value ∙ sym w.value-is ∙ c.if-used_fit.false) at
          (entries_by_parts (geometry a.g) a.cache.now a.used w.if-used-g.true c.requires.cache_len)
      | else-used-g w ↦ too_many (geometry a.g) a.cache.now a.used w.if-used-g.false
    ])
