-- What follows a moved data page keeps the laws that a collection asks of it (crate region's Follower): "if the owner is cached, its
-- entry takes the new place and is changed, with its rank kept; the others wait, and after the last copy each touched translation
-- page .. is updated once". An owner that waits is where its last waiting entry says.
use Rattle.std.specs.Prelude.{ℕ, ◌<◌, ◌≡◌, List, [], get_or}
use Rattle.std.proofs.Common.{◌∙◌, ap}
use Rattle.scope.specs.Geometry.{Geometry, Accepted, M}
use Rattle.scope.specs.Lent.{none, State, Mapping, named}
use Rattle.scope.specs.Regions.{Data, Translation, HasPage}
use Rattle.scope.specs.Operations.{Outcome}
use Rattle.scope.specs.Steps.{cache_or_wait, update_all, cache_follows}
use Rattle.scope.specs.Sound.{current}
use Rattle.flash.specs.Lengths.{Lengths}
use Rattle.flash.specs.Kept.{lengths_still}
use Rattle.region.specs.Carried.{holds_same, contents_same}
use Rattle.region.specs.Elsewhere.{SameElsewhere}
use Rattle.region.specs.Follower.{View, AfterMoved, AfterSettled, Follower}
use Rattle.region.specs.Stored.{stored_same}
use Rattle.cache.specs.Ranks.{HasRank}
use Rattle.cache.specs.Current.{PlacesKept}
use Rattle.cache.specs.Stored.{Settled, stored_settles, stored_keeps_places}
use Rattle.cache.specs.Waiting.{latest}
use Rattle.cache.specs.Follow.{WaitingFits, cache_or_wait_law}
use Rattle.promises.specs.Stored.{table}
use Rattle.promises.specs.Parts.{IndexFits, CacheFits, index_same, border_same, cached, cache_holds}
use Rattle.promises.specs.Update.{update_bound}
use Rattle.promises.specs.Settle.{IndexSettled, settle_law}

-- Where a logical page's data is, while w waits.
abbrev pub place_while : Geometry → View
place_while g w s l = latest w l (current g s l)

-- What holds outside of the data region: the index, the cache, what is said of those that wait; and page l keeps its rank.
pub record Follows (g : Geometry) (l i : ℕ) (w : List Mapping) (s : State) : Type 0 where
  pub index : IndexFits g s
  pub cache : CacheFits g s
  pub waiting : WaitingFits g w s.cache s.small.used
  pub rank : HasRank s.cache s.small.used l i

-- Nothing waits.
pub none_waits : {g : Geometry} {cache : List ℕ} {used : ℕ} → WaitingFits g [] cache used
none_waits = record { below_L = λ k z. absurd z; not_cached = λ k z. absurd z }

module _ {g : Geometry} (ok : Accepted g) (l i : ℕ) where
  moved_law : (w : List Mapping) (k q : ℕ) (s : State) → Lengths g s → Follows g l i w s → k < g.L → HasPage g Data q
      → AfterMoved g Data (place_while g) (Follows g l i) w k q s (cache_or_wait g k q s)
  moved_law w k q s len inv below here =
      let f = cache_or_wait_law g w s len.cache_fits inv.cache.entries inv.cache.agree inv.waiting k q below in
      record {
        no_operation = f.did;
        flash = f.flash;
        head = f.heads Data;
        lengths = lengths_still s _ f.flash f.directory f.long len;
        at_most_one = f.at_most_one;
        inv =
            record {
              index = index_same f.flash f.directory (f.heads Translation) inv.index;
              cache = record { entries = f.entries; border = border_same f.used f.protected inv.cache.border; agree = f.agree };
              waiting = f.waiting;
              rank = record { in_use = rw f.used inv.rank.in_use; is_l = f.ranks i ∙ inv.rank.is_l };
            };
        renames = record { there = f.here; elsewhere = f.elsewhere };
      }

  -- All that waits is settled.
  module _ (w : List Mapping) (s : State) (len : Lengths g s) (inv : Follows g l i w s) (o : Outcome (Unit {0}))
      (did : IndexSettled g w s o) where
    after_settled : AfterSettled g Data (update_bound g) (place_while g) (Follows g l i) w s o
    after_settled =
        record {
          pages = did.only.data_pages;
          opened = did.only.rest.head.opened;
          offset = did.only.rest.head.offset;
          lengths = did.lengths;
          inv = record {
            index = did.index;
            cache =
                record {
                  entries = rw (did.only.cache, used) inv.cache.entries;
                  border = border_same used did.only.rest.protected inv.cache.border;
                  agree = settled.agree;
                };
            waiting = none_waits;
            rank = rw (did.only.cache, used) inv.rank;
          };
          views = settled.places;
          done = did.done;
          costs = did.costs;
        }
      where
        used : o.after.small.used ≡ s.small.used
        used = did.only.rest.used

        settled : Settled g w s o.after
        settled =
            let holds = cache_holds g s len inv.cache in
            stored_settles g s o.after (cached g s) holds inv.cache.agree did.only.cache used w
            (λ k waits. holds.misses k (inv.waiting.not_cached k waits)) (λ k h _. did.stores k h)

  -- Nothing of this rests on the data region.
  module _ (w : List Mapping) (s s' : State) (len : Lengths g s) (len' : Lengths g s') (same : SameElsewhere g Data s s')
      (inv : Follows g l i w s) where
    same_table : (t : ℕ) → t < M g → table g s'.chip s'.directory t ≡ table g s.chip s.directory t
    same_table t h =
        ap (λ (directory : List ℕ). table g s'.chip directory t) same.directory
        ∙ contents_same same.pages t (named t s.directory) (inv.index.pages.maps.names t h)

    same_used : s'.small.used ≡ s.small.used
    same_used = same.rest.used

    same_places : PlacesKept g s s'
    same_places =
        stored_keeps_places g s s' (cached g s) (cache_holds g s len inv.cache) inv.cache.agree same.cache same_used
        (λ k h _. stored_same g s.chip s.directory s'.chip s'.directory ok.W_from len.directory_fits
        len'.directory_fits same_table k)

    follows_kept : Follows g l i w s'
    follows_kept =
        record {
          index = record {
            pages = rw (same.directory, same.rest.head.opened, same.rest.head.offset)
                (holds_same same.pages inv.index.pages);
            past_L = λ t n h k m. ap (λ (words : List ℕ). get_or words n none) (same_table t h) ∙ inv.index.past_L t n h k m;
          };
          cache =
              record {
                entries = rw (same.cache, same_used) inv.cache.entries;
                border = border_same same_used same.rest.protected inv.cache.border;
                agree = same_places.agree;
              };
          waiting = rw (same.cache, same_used) inv.waiting;
          rank = rw (same.cache, same_used) inv.rank;
        }

  pub cache_follower : Follower g Data (cache_follows g) (update_bound g) (place_while g) (Follows g l i)
  cache_follower =
      record {
        mover =
            record {
              moved = moved_law;
              kept = λ w s s' len len' same inv. follows_kept w s s' len len' same inv;
              seen = λ w s s' len len' same inv k h. ap (latest w k) ((same_places w s s' len len' same inv).places k h);
            };
        settled = λ w s len inv. after_settled w s len inv (update_all g w s)
            (settle_law ok w inv.waiting.below_L s len inv.index);
      }
