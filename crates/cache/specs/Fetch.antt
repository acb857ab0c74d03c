-- Translate where l isn't cached and an entry is free: "if l's translation page exists, read it and take the word; else *none*,
-- with no read." The entry enters, unchanged. The word is what flash stores for l.
use Rattle.std.specs.Prelude.{ℕ, suc, ◌≤◌, ◌<◌, ◌≡◌, refl, List, [], ◌∷◌}
use Rattle.std.proofs.Common.{mod-lt, arith, ap}
use Rattle.flash.specs.Lengths.{words_at}
use Rattle.scope.specs.Geometry.{Geometry}
use Rattle.scope.specs.Lent.{Entry, Place, Nowhere, State, named, translation_page, translation_word}
use Rattle.scope.specs.Operations.{Operation, Read, Outcome, apply, give, look, perform, set_cache, set_small, ◌>>=◌}
use Rattle.scope.specs.Room.{read_page}
use Rattle.scope.specs.Cache.{enter}
use Rattle.scope.specs.Steps.{word_for, fetch}
use Rattle.scope.specs.Sound.{in_page, stored}
use Rattle.cache.specs.Holds.{Found, Hit, Miss, updated}
use Rattle.cache.specs.Steps.{HoldsIn, RankHanded, enter_law}
use Rattle.cache.specs.Current.{stored_in}

-- The read of the page that an entry names, if any.
abbrev pub page_read : Entry → List Operation
page_read (Place p) = Read p ∷ []
page_read Nowhere = []

listed : {A : Type 0} → List Operation → Outcome A → Outcome A
listed ops o = record { value = o.value; after = o.after; did = ops }

fetch_is : (g : Geometry) (l : ℕ) (s : State) → 1 ≤ g.W
    → fetch g l s ≡ listed (page_read (named (translation_page g l) s.directory)) (enter l (stored_in g s l) s)
unfolding fetch stored word_for read_page perform apply look give ◌>>=◌ listed enter set_cache set_small
fetch_is g l s wide = go (named (translation_page g l) s.directory)
  where
    go : (e : Entry) → (word_for g l e >>= enter l) s ≡ listed (page_read e) (enter l (in_page g s.chip l e) s)
    go (Place p) =
        ap (λ w. listed (Read p ∷ []) (enter l w s)) (words_at g p (translation_word g l) s.chip (mod-lt l (omega arith)))
    go Nowhere = refl

-- So it leaves what entering that word leaves.
pub fetch_enters : (g : Geometry) (l : ℕ) (s : State) → 1 ≤ g.W → (fetch g l s).after ≡ (enter l (stored_in g s l) s).after
unfolding listed
fetch_enters g l s wide = ap (λ (o : Outcome ℕ). o.after) (fetch_is g l s wide)

pub fetch_law : (g : Geometry) (s : State) (m : ℕ → Found) → HoldsIn g s m → 1 ≤ g.W
    → (l : ℕ) → s.small.protected ≤ s.small.used → s.small.used < g.C → m l ≡ Miss → l < g.L
    → RankHanded g s (fetch g l s) (page_read (named (translation_page g l) s.directory)) (suc s.small.used)
    (updated m l (Hit (stored_in g s l) 0)) l
unfolding listed
fetch_law g s m h wide l before room miss below =
    let e = enter_law g s m h l (stored_in g s l) before room miss below in
    rw (fetch_is g l s wide)
    (record {
      step =
          record {
            did = refl;
            flash = e.step.flash;
            directory = e.step.directory;
            heads = e.step.heads;
            used = e.step.used;
            border = e.step.border;
            holds = e.step.holds;
          };
      rank = e.rank;
    })
