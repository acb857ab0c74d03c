-- `index::changed::set_if_changed` meets its contract: the code's tests are the definition's.
use Rattle.std.proofs.Common.{◌≡◌, ◌+◌, ◌*◌, get_or, sym, refl, ◌∙◌, arith, eq-eqb, ne_eqb}
use Rattle.scope.specs.Lent.{none, entry_words, logical_at, physical_at, changed_at}
use Rattle.lent.specs.Model.{geometry}
use Rattle.words.specs.Runs.{get_d_any}
use Rattle.index.specs.Changed.{of_other_page, of_this_page, looks_at_another, looks_at_one}
use Rattle.index.proofs.changed.set_if_changed.Goals as goal

pub returns-then-not-of_page : goal.returns-then-not-of_page
returns-then-not-of_page c = let a = c.args in
    looks_at_another (of_other_page (geometry a.g) a.t a.i a.cache.now (sym c.of_page.ensures ∙ c.if-not-of_page.true))

pub returns-then-cache-i-ne1 : goal.returns-then-cache-i-ne1
returns-then-cache-i-ne1 c = let is-changed-word : get_or c.args.cache.now (c.args.i * entry_words + 2) 0 ≡ changed_at c.args.i c.args.cache.now = get_d_any c.args.cache.now (c.args.i * entry_words + 2) 0 none (omega (arith, c.requires.of_pages.1)) in
    let a = c.args in
    looks_at_another (of_this_page (geometry a.g) a.t a.i a.cache.now (sym c.of_page.ensures ∙ c.if-not-of_page.false)
    ∙ ne_eqb (changed_at a.i a.cache.now) 1 (λ e. c.if-cache-i-ne1.true (is-changed-word ∙ e)))

pub returns : goal.returns
returns c = let is-logical : get_or c.args.cache.now (c.args.i * entry_words) 0 ≡ logical_at c.args.i c.args.cache.now = get_d_any c.args.cache.now (c.args.i * entry_words) 0 none (omega (arith, c.requires.of_pages.1)) in
    let is_place : get_or c.args.cache.now (c.args.i * entry_words + 1) 0 ≡ physical_at c.args.i c.args.cache.now = get_d_any c.args.cache.now (c.args.i * entry_words + 1) 0 none (omega (arith, c.requires.of_pages.1)) in
    let is-changed-word : get_or c.args.cache.now (c.args.i * entry_words + 2) 0 ≡ changed_at c.args.i c.args.cache.now = get_d_any c.args.cache.now (c.args.i * entry_words + 2) 0 none (omega (arith, c.requires.of_pages.1)) in
    let a = c.args in
    looks_at_one c.requires.chip_lent.0 c.requires.chip_lent.1
    (of_this_page (geometry a.g) a.t a.i a.cache.now (sym c.of_page.ensures ∙ c.if-not-of_page.false)
    ∙ eq-eqb (changed_at a.i a.cache.now) 1 (sym is-changed-word ∙ c.if-cache-i-ne1.false))
    (c.set_word.ensures ∙ (rw (is-logical, is_place) refl)) refl
