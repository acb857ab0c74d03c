-- `bitmap::put` meets its contract: a shift of 1 by less than 64 places loses no bit.
use Prim.Native.Nat.{ℕ, ◌%◌, ◌<◌}
use native.Mathlib.Nat.{mod-lt, one-mul}
use native.Mathlib.Omega.{arith}
use lib.Pow.{shl_exact}
use Rattle.words.specs.Bitmap.{put}
use Rattle.words.proofs.bitmap.put.Goals as goal

pub returns : goal.returns
unfolding put
returns c = let k : ℕ = c.args.i % 64 in
    let below : k < 64 = mod-lt c.args.i (omega arith) in
    rw (shl_exact {a = 1} 1 k 64 (omega arith) (omega arith), one-mul)
