-- What follows the moves of a collection in the data region: an entry that takes the new place, or one more that waits behind those that
-- wait already, in the words of moves that are followed.
use Rattle.std.specs.Prelude.{ℕ, ◌+◌, ◌*◌, ◌≤◌, ◌<◌, ◌≡◌, refl, List, [], ◌∷◌, ◌++◌, get_or}
use Rattle.std.proofs.Math.Path.{sym}
use Rattle.std.proofs.Common.{◌∙◌, append-nil, arith, lt-ltb, le-ltb}
use Rattle.scope.specs.Geometry.{most_pages_in_block, Geometry}
use Rattle.scope.specs.Lent.{Mapping, translation_page}
use Rattle.scope.specs.Sound.{rank_of}
use Rattle.scope.specs.Operations.{Step}
use Rattle.scope.specs.Cache.{set_entry}
use Rattle.scope.specs.Steps.{cache_or_wait, cache_follows}
use Rattle.region.specs.Apart.{follow_each, cache_apart}
use Rattle.lent.specs.declared.Work.{Work}
use Rattle.lent.specs.DoesLaws.{does_value, does_give, does_look_at, does_bind, does_cond_true, does_cond_false}
use Rattle.lent.specs.Shapes.{DoesCache}
use Rattle.copying.specs.Moves.{move_words, move_at, first_moves, no_moves, one_more}
use Rattle.copying.specs.Choice.{follow_none_does, follow_more_does}
use Rattle.index.specs.Moves.{WaitsIn, MovesAhead, waits_too, wait_more, still_waits_in, one_ahead}

-- What is to wait of a step stands behind what waits already.
pub record DoesWaiting (m : Step (List Mapping)) (cache : List ℕ) (w : Work) (waiting waiting' : List Mapping) (cache' : List ℕ) : Type 0 where
  pub more : List Mapping
  pub does : DoesCache m cache w more cache' w
  pub waits : waiting' ≡ waiting ++ more

-- One more waits, in the words behind n others.
pub one_waits : {g : Geometry} {n : ℕ} {waiting waiting' : List ℕ} → WaitsIn g n waiting → n < most_pages_in_block → (l p : ℕ)
    → waiting' ≡ waits_too n l p (translation_page g l) waiting
    → (first_moves (n + 1) waiting' ≡ first_moves n waiting ++ record { logical = l; physical = p } ∷ [])
    × WaitsIn g (n + 1) waiting'
    × MovesAhead n (n + 1) waiting waiting'
one_waits {g} {n} {waiting} waits few l p stored =
    let t : ℕ = translation_page g l in
    rw stored (
      wait_more waiting n l p t (omega (arith, waits.long)),
      still_waits_in waits few l p,
      one_ahead waiting n l p t,
    )

-- ---- what follows a moved page

module _ (g : Geometry) (l page : ℕ) {cache : List ℕ} {w : Work} {i : ℕ} (is : rank_of g cache w.rec.used l ≡ i)
    {waiting : List Mapping} where
  pub entry_follows : {cache' : List ℕ} → i < g.C → DoesCache (set_entry i page) cache w tt cache' w
      → DoesWaiting (cache_or_wait g l page) cache w waiting waiting cache'
  unfolding cache_or_wait
  entry_follows h sets =
      record {
        more = [];
        does = λ s. does_bind _ (does_look_at _ is)
            (does_cond_true _ _ _ (lt-ltb i g.C h) (does_bind _ (sets s) (does_give [])));
        waits = sym (append-nil waiting);
      }

  pub page_waits : {waiting' : List Mapping} → g.C ≤ i → waiting' ≡ waiting ++ record { logical = l; physical = page } ∷ []
      → DoesWaiting (cache_or_wait g l page) cache w waiting waiting' cache
  unfolding cache_or_wait
  page_waits h e =
      record {
        more = record { logical = l; physical = page } ∷ [];
        does = λ s. does_bind _ (does_look_at _ is) (does_cond_false _ _ _ (le-ltb i g.C h) (does_give _));
        waits = e;
      }

-- ---- all moves

-- The first i of n moves are followed, k wait, and the moves ahead are as they were.
pub record FollowedUpto (g : Geometry) (n i k : ℕ) (cache₀ moves₀ : List ℕ) (w : Work) (cache moves : List ℕ) : Type 0 where
  pub upto : i ≤ n
  pub most : k ≤ i
  pub does : DoesCache (follow_each (cache_follows g) (first_moves i moves₀)) cache₀ w (first_moves k moves) cache w
  pub ahead : (j : ℕ) → i * move_words ≤ j → get_or moves j 0 ≡ get_or moves₀ j 0

module _ {g : Geometry} {n : ℕ} {cache₀ moves₀ : List ℕ} {w : Work} where
  pub none_followed : FollowedUpto g n 0 0 cache₀ moves₀ w cache₀ moves₀
  none_followed =
      record {
        upto = omega arith;
        most = omega arith;
        does = λ s. rw (no_moves moves₀) (follow_none_does (cache_follows g));
        ahead = λ j h. refl;
      }

  pub one_followed : {i k k' : ℕ} {cache moves cache' moves' : List ℕ} → FollowedUpto g n i k cache₀ moves₀ w cache moves → i < n
      → DoesWaiting (cache_or_wait g (get_or moves (i * move_words) 0) (get_or moves (i * move_words + 1) 0))
      cache w (first_moves k moves) (first_moves k' moves') cache'
      → MovesAhead k k' moves moves' → FollowedUpto g n (i + 1) k' cache₀ moves₀ w cache' moves'
  one_followed {i} {cache = cache} {moves} {cache'} before more follows ahead =
      record {
        upto = omega arith;
        most = omega (arith, before.most, ahead.most);
        does = λ s. rw (one_more moves₀ i)
            (does_value (follow_more_does (cache_apart g) (first_moves i moves₀) (move_at i moves₀) (before.does s)
            (same follows.does s)) (sym follows.waits));
        ahead = λ j h. ahead.behind j (omega (arith, before.most)) ∙ before.ahead j (omega arith);
      }
    where
      -- The move is the one that was noted.
      same : DoesCache (cache_or_wait g (get_or moves (i * move_words) 0) (get_or moves (i * move_words + 1) 0)) cache w follows.more cache' w
          → DoesCache (cache_or_wait g (get_or moves₀ (i * move_words) 0) (get_or moves₀ (i * move_words + 1) 0)) cache w follows.more cache' w
      same does = rw (sym (before.ahead (i * move_words) (omega arith)), sym (before.ahead (i * move_words + 1) (omega arith))) does
