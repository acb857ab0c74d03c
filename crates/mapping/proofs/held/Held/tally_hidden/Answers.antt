-- `held::Held::tally_hidden` meets its contract.
use native.Mathlib.Omega.{arith}
use mathlib.Core.Path.{subst}
use Prim.Native.Nat.{ℕ, ◌*◌}
use lib.ListN.{get_or}
use Rattle.scope.specs.Lent.{none}
use Rattle.lent.specs.Model.{geometry}
use Rattle.words.specs.Runs.{get_d_any}
use Rattle.mapping.specs.Named.{owns, is_none}
use Rattle.mapping.specs.Tally.{nothing, TalliedWord, room_enough, tallied_more, tallied_room, most_counted}
use Rattle.mapping.specs.Translated.{stored_none, stored_good}
use Rattle.mapping.proofs.held.Held.tally_hidden.Goals as goal

pub add_word-requires : goal.add_word-requires
add_word-requires c = let turn = c.loop-i in record {
  room = tallied_room nothing turn.sum turn.i 1 most_counted _ _ turn.invariant room_enough (omega (arith, c.requires.1));
}

pub loop-i-preserved : goal.loop-i-preserved
loop-i-preserved c = let s = c.args.self.now in
    let cache = c.args.cache.now in
    let turn = c.loop-i in
    tallied_more nothing turn.sum c.add_word.new.self turn.i _ _ turn.invariant
    (subst
    (λ (l : ℕ). TalliedWord turn.sum c.add_word.new.self (stored_none (geometry s.g) s.chip.now s.directory.now l)
    (stored_good (geometry s.g) s.chip.now s.spare.now s.directory.now l))
    (get_d_any cache (turn.i * 3) 0 none (omega (arith, c.requires.0)))
    (subst
    (λ (x : ℕ). TalliedWord turn.sum c.add_word.new.self (is_none x) (owns 0 (s.g.d * s.g.p) s.spare.now (get_or cache (turn.i * 3) 0) x))
    c.stored.ensures c.add_word.ensures))
