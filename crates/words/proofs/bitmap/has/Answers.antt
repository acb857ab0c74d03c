-- `bitmap::has` meets its contract.
use borrow.Author.Rules.{rules}
use Rattle.words.specs.Bitmap.{has}
use Rattle.words.proofs.bitmap.has.Goals as goal

pub returns : goal.returns
unfolding has
returns c = search rules
