-- `index::changed::of_page` meets its contract: a logical page is of translation page t where it lies less than W behind t·W, by 32 bits.
use Rattle.std.proofs.Common.{◌≡◌, ℕ, ◌*◌, ◌==◌, ◌∙◌, ap, get_or, arith}
use Rattle.scope.specs.Lent.{none, entry_words, logical_at, translation_page}
use Rattle.lent.specs.Model.{geometry}
use Rattle.words.specs.Runs.{get_d_any}
use Rattle.index.specs.OfPage.{own_is_near}
use Rattle.index.proofs.changed.of_page.Goals as goal

pub returns : goal.returns
returns c =
    let a = c.args in
    let is_logical : get_or a.cache.now (a.i * entry_words) 0 ≡ logical_at a.i a.cache.now =
    get_d_any a.cache.now (a.i * entry_words) 0 none (omega (arith, c.requires.1)) in
    own_is_near c.requires.0 (get_or a.cache.now (a.i * entry_words) 0) (c.type_inv.cache (a.i * entry_words)).fits
    ∙ ap (λ (l : ℕ). translation_page (geometry a.g) l == a.t) is_logical
