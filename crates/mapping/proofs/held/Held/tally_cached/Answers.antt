-- `held::Held::tally_cached` meets its contract.
use native.Mathlib.Omega.{arith}
use mathlib.Core.Path.{subst₂}
use Prim.Native.Nat.{ℕ, ◌*◌, ◌+◌}
use Rattle.scope.specs.Lent.{none}
use Rattle.words.specs.Runs.{get_d_any}
use Rattle.mapping.specs.Named.{owns, is_none}
use Rattle.mapping.specs.Tally.{nothing, TalliedWord, room_enough, tallied_more, tallied_room, most_counted}
use Rattle.mapping.proofs.held.Held.tally_cached.Goals as goal

pub add_word-requires : goal.add_word-requires
add_word-requires c = let turn = c.loop-i in record {
  room = tallied_room nothing turn.sum turn.i 1 most_counted _ _ turn.invariant room_enough (omega (arith, c.requires.1));
}

pub loop-i-preserved : goal.loop-i-preserved
loop-i-preserved c = let g = c.args.self.now.g in
    let cache = c.args.cache.now in
    let turn = c.loop-i in
    tallied_more nothing turn.sum c.add_word.new.self turn.i _ _ turn.invariant
    (subst₂
    (λ (x k : ℕ). TalliedWord turn.sum c.add_word.new.self (is_none x) (owns 0 (g.d * g.p) c.args.self.now.spare.now k x))
    (get_d_any cache (turn.i * 3 + 1) 0 none (omega (arith, c.requires.0)))
    (get_d_any cache (turn.i * 3) 0 none (omega (arith, c.requires.0)))
    c.add_word.ensures)
