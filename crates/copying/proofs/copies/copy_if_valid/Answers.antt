-- `copying::copies::copy_if_valid` meets its contract: the code's test is the definition's, and the move is stored behind the others.
use Prim.Native.Nat.{◌+◌, ◌*◌, ◌≤◌}
use mathlib.Core.Path.{◌≡◌, sym, ◌∙◌}
use mathlib.Core.Bool.{true}
use mathlib.Core.List.{[], append-nil}
use native.Mathlib.Omega.{arith}
use lib.ListN.{length}
use Rattle.scope.specs.Lent.{is_valid}
use Rattle.steps.specs.Flash.{same_lent}
use Rattle.lent.specs.Model.{geometry, region}
use Rattle.copying.specs.Moves.{move_words, two_stored, stored_more}
use Rattle.copying.specs.Copies.{valid_copied, other_passed}
use Rattle.copying.proofs.copies.copy_if_valid.Goals as goal

pub returns-then-not-is_valid : goal.returns-then-not-is_valid
returns-then-not-is_valid c =
    record {
      does_noting = record {
        more = [];
        does = other_passed (geometry c.args.flash.now.g) (region c.args.r) c.args.page
            (sym c.is_valid.ensures ∙ c.if-not-is_valid.true);
        noted = sym (append-nil _);
      };
      same = same_lent;
      moves_len_kept = c.requires.moves_len;
    }

pub returns : goal.returns
returns c = let a = c.args in
    let told : is_valid a.page a.flash.now.spare.now ≡ true = sym c.is_valid.ensures ∙ c.if-not-is_valid.false in
    let few : a.n * move_words + move_words ≤ length a.moves.now = omega (arith, c.requires.page_to_copy.few, c.requires.moves_len) in
    record {
      does_noting = record {
        more = _;
        does = valid_copied (geometry a.flash.now.g) (region a.r) a.page told c.relocate-moved.ensures.does;
        noted = stored_more (two_stored a.n _ _ a.moves.now few);
      };
      same = c.relocate-moved.ensures.same;
      moves_len_kept = (two_stored a.n _ _ a.moves.now few).as_long ∙ c.requires.moves_len;
    }
