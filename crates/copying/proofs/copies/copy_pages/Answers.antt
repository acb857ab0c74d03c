-- `copying::copies::copy_pages` meets its contract: the law of the definition says of the pages copied what the next turn asks for.
use Prim.Native.Nat.{ℕ, ◌+◌, ◌*◌}
use mathlib.Core.Path.{◌≡◌, subst}
use native.Mathlib.Omega.{arith}
use Rattle.lent.specs.Model.{geometry, region}
use Rattle.steps.specs.Flash.{same_lent, then_same}
use Rattle.copying.specs.Moves.{first_moves, moves_counted}
use Rattle.copying.specs.Copies.{PageToCopy, CopiedUpto, none_copied, one_copied, page_ready}
use Rattle.copying.proofs.copies.copy_pages.Goals as goal

pub loop-i-init : goal.loop-i-init
unfolding first_moves
loop-i-init c = (none_copied, same_lent, c.requires.moves_len)

pub copy_if_valid-n-requires-clause-page_to_copy : goal.copy_if_valid-n-requires-clause-page_to_copy
copy_if_valid-n-requires-clause-page_to_copy c =
    let a = c.args in
    let l = c.loop-i in
    rw l.invariant.1.geometry_kept
    (subst (PageToCopy (geometry a.flash.now.g) (region a.r) (a.v * a.flash.now.g.p + l.i) l.flash.chip.now l.flash.spare.now l.work)
    (moves_counted l.moves l.n) (page_ready l.invariant.0 c.requires.copy_ready (omega (arith, c.loop-i-test.true))))

pub loop-i-preserved : goal.loop-i-preserved
loop-i-preserved c =
    let inv = c.loop-i.invariant in
    let copied = c.copy_if_valid-n.ensures in
    let noting = rw inv.1.geometry_kept at copied.does_noting in (
      one_copied inv.0 (omega (arith, c.loop-i-test.true)) noting,
      then_same inv.1 copied.same,
      copied.moves_len_kept,
    )

pub returns-clause-does_flash : goal.returns-clause-does_flash
returns-clause-does_flash c =
    let a = c.args in
    let l = c.loop-i in
    let g = geometry a.flash.now.g in
    let end : l.i ≡ a.flash.now.g.p = omega (arith, l.invariant.0.upto) in
    record {
      does = (subst (λ (n : ℕ). CopiedUpto g (region a.r) a.v n a.flash.now.chip.now a.flash.now.spare.now a.work.now
          (first_moves l.n l.moves) l.flash.chip.now l.flash.spare.now l.work)
          end l.invariant.0).does;
      same = l.invariant.1;
    }
