-- Pages copied first and followed afterwards: what follows a moved page makes no operation, leaves flash and small record, and looks at
-- nothing that a copy changes. So all valid pages of a block may be copied, their moves noted, and the moves be followed one after the
-- other: the same step, with the same operations. The code copies so, once for both regions.
use Prim.Native.Nat.{ℕ, zero, suc, ◌+◌, ◌*◌}
use Rattle.std.specs.Prelude.{◌≡◌, cond, ltb, set}
use Rattle.std.proofs.Math.Path.{refl, sym, ap}
use Rattle.std.proofs.Common.{◌∙◌}
use mathlib.Core.List.{List, [], ◌∷◌, ◌++◌, append-nil, append_assoc}
use Rattle.std.proofs.lemmas.List.Edits.{sets}
use Rattle.scope.specs.Geometry.{Geometry}
use Rattle.scope.specs.Regions.{Region, Data, Translation, page_in}
use Rattle.scope.specs.SmallRecord.{open_block, next_offset}
use Rattle.scope.specs.Lent.{entry_words, State, Mapping, with_directory, with_cache, words_of, owner_of, is_valid}
use Rattle.scope.specs.Sound.{rank_of}
use Rattle.scope.specs.Operations.{Operation, Read, Program, Mark, Outcome, Step, apply, give, look, perform, nothing, ◌>>=◌}
use Rattle.scope.specs.Operations.{set_directory, set_cache, set_small}
use Rattle.scope.specs.Room.{Following, read_page, program_next, move_page, move_if_valid, move_pages}
use Rattle.scope.specs.Cache.{set_entry}
use Rattle.scope.specs.Steps.{directory_names_it, directory_follows, cache_or_wait, cache_follows}
use Rattle.flash.specs.Cases.{on}

-- All that is moved is handed back, and nothing done.
abbrev pub waits_all : Following
waits_all = record { moved = λ k q. give (record { logical = k; physical = q } ∷ []); settled = λ waiting. nothing }

-- Moves followed in their order, and what is to wait of them.
unfoldable pub follow_each : Following → List Mapping → Step (List Mapping)
follow_each follow [] = give []
follow_each follow (m ∷ moves) = do
  waiting ← follow.moved m.logical m.physical
  more ← follow_each follow moves
  give (waiting ++ more)

-- What following leaves beside flash and small record, and what is to wait.
pub record Left : Type 0 where
  pub waiting : List Mapping
  pub directory : List ℕ
  pub cache : List ℕ

abbrev pub with_left : Left → State → State
with_left x s = with_cache x.cache (with_directory x.directory s)

abbrev pub leaving : Left → State → Outcome (List Mapping)
leaving x s = record { value = x.waiting; after = with_left x s; did = [] }

-- What a copy alone leaves: all that following looks at.
record Unseen (s s' : State) : Type 0 where
  directory : s'.directory ≡ s.directory
  cache : s'.cache ≡ s.cache
  used : s'.small.used ≡ s.small.used

copy_unseen : (g : Geometry) (r : Region) (p : ℕ) (s : State) → Unseen s (move_if_valid g r waits_all p s).after
unfolding move_if_valid move_page read_page program_next look perform apply set_small give ◌>>=◌
copy_unseen g r p s = on (is_valid p s.spare) (λ e. rw e (moved r)) (λ e. rw e (record { directory = refl; cache = refl; used = refl }))
  where
    moved : (r : Region) → Unseen s (move_page g r waits_all p s).after
    moved Data = record { directory = refl; cache = refl; used = refl }
    moved Translation = record { directory = refl; cache = refl; used = refl }

-- So do all.
pub copies_keep_used : (g : Geometry) (r : Region) (v n : ℕ) (s : State) → (move_pages g r waits_all v n s).after.small.used ≡ s.small.used
unfolding move_pages give ◌>>=◌
copies_keep_used g r v zero s = refl
copies_keep_used g r v (suc n) s =
    (copy_unseen g r (page_in g v n) (move_pages g r waits_all v n s).after).used ∙ copies_keep_used g r v n s

-- What follows is apart from the copies: it looks at directory, cache and the number of entries in use, and changes the first two alone.
pub record Apart (follow : Following) : Type 0 where
  pub leaves : ℕ → ℕ → List ℕ → List ℕ → ℕ → Left
  pub is : (k q : ℕ) (s : State) → follow.moved k q s ≡ leaving (leaves k q s.directory s.cache s.small.used) s

-- One step's outcome behind another's; what it leaves behind what the other left.
abbrev joined : Outcome (List Mapping) → Outcome (List Mapping) → Outcome (List Mapping)
joined a b = record { value = a.value ++ b.value; after = b.after; did = a.did ++ (b.did ++ []) }

abbrev behind : Left → Left → Left
behind x y = record { waiting = x.waiting ++ y.waiting; directory = y.directory; cache = y.cache }

module _ {follow : Following} (A : Apart follow) where
  -- What moves leave, followed one after the other, by the parts that following looks at.
  unfoldable each : List Mapping → List ℕ → List ℕ → ℕ → Left
  each [] directory cache used = record { waiting = []; directory = directory; cache = cache }
  each (m ∷ moves) directory cache used =
      let x = A.leaves m.logical m.physical directory cache used in
      behind x (each moves x.directory x.cache used)

  follow_each_is : (moves : List Mapping) (s : State)
      → follow_each follow moves s ≡ leaving (each moves s.directory s.cache s.small.used) s
  unfolding each follow_each ◌>>=◌ give
  follow_each_is [] s = refl
  follow_each_is (m ∷ moves) s =
      let x = A.leaves m.logical m.physical s.directory s.cache s.small.used in
      ap (λ (o : Outcome (List Mapping)). joined o (follow_each follow moves o.after)) (A.is m.logical m.physical s)
      ∙ ap (joined (leaving x s)) (follow_each_is moves (with_left x s))

  -- More moves behind others, where directory, cache and number are as they were or go by other names.
  each_++ : (moves more : List Mapping) {directory directory' cache cache' : List ℕ} {used used' : ℕ}
      → directory' ≡ directory → cache' ≡ cache → used' ≡ used
      → let x = each moves directory cache used in
      each (moves ++ more) directory' cache' used' ≡ behind x (each more x.directory x.cache used')
  unfolding each
  each_++ moves more {directory} {cache = cache} {used = used} e f h = rw (e, f, h) (go moves directory cache)
    where
      go : (moves : List Mapping) (directory cache : List ℕ)
          → let x = each moves directory cache used in
          each (moves ++ more) directory cache used ≡ behind x (each more x.directory x.cache used)
      go [] directory cache = refl
      go (m ∷ moves) directory cache =
          let x = A.leaves m.logical m.physical directory cache used in
          let y = each moves x.directory x.cache used in
          let z = each more y.directory y.cache used in
          ap (behind x) (go moves x.directory x.cache)
          ∙ ap (λ (w : List Mapping). record { waiting = w; directory = z.directory; cache = z.cache })
          (sym (append_assoc x.waiting y.waiting z.waiting))

  -- The last of a move's steps, behind the operations that a list has in front of its own.
  followed : (x : Left) (k q : ℕ) (s : State) (front : List Operation → List Operation)
      → let o = follow.moved k q (with_left x s) in
      let y = each (record { logical = k; physical = q } ∷ []) x.directory x.cache s.small.used in
      ◌≡◌ {A = Outcome (List Mapping)} (record { value = o.value; after = o.after; did = front o.did })
      (record { value = y.waiting; after = with_left y s; did = front [] })
  unfolding each
  followed x k q s front =
      let z = A.leaves k q x.directory x.cache s.small.used in
      ap (λ (o : Outcome (List Mapping)). record { value = o.value; after = o.after; did = front o.did }) (A.is k q (with_left x s))
      ∙ ap (λ (w : List Mapping). record { value = w; after = with_left z s; did = front [] }) (sym (append-nil z.waiting))

  -- A page moved where something has been followed already: the same page moved, and followed then.
  move_then_follow : (g : Geometry) (r : Region) (p : ℕ) (x : Left) (s : State)
      → let o = move_if_valid g r waits_all p s in
      let y = each o.value x.directory x.cache o.after.small.used in
      move_if_valid g r follow p (with_left x s) ≡ record { value = y.waiting; after = with_left y o.after; did = o.did }
  unfolding each move_if_valid move_page read_page program_next look perform apply set_small give ◌>>=◌
  move_then_follow g r p x s =
      on (is_valid p s.spare)
      (λ e. rw e (followed x k q (move_page g r waits_all p s).after
      (λ (os : List Operation). Read p ∷ (Program q k (words_of g p s.chip) ∷ (Mark p ∷ os)))))
      (λ e. rw e refl)
    where
      k : ℕ
      k = owner_of p s.spare

      q : ℕ
      q = page_in g (open_block r s.small) (next_offset r s.small)

  -- What copies have left, with their moves followed.
  abbrev followed_all : Outcome (List Mapping) → Outcome (List Mapping)
  followed_all o =
      let x = each o.value o.after.directory o.after.cache o.after.small.used in
      record { value = x.waiting; after = with_left x o.after; did = o.did }

  copies_followed : (g : Geometry) (r : Region) (v n : ℕ) (s : State)
      → move_pages g r follow v n s ≡ followed_all (move_pages g r waits_all v n s)
  unfolding each move_pages give ◌>>=◌
  copies_followed g r v zero s = refl
  copies_followed g r v (suc n) s =
      let a = move_pages g r waits_all v n s in
      let b = move_if_valid g r waits_all (page_in g v n) a.after in
      let x = each a.value a.after.directory a.after.cache a.after.small.used in
      let same = copy_unseen g r (page_in g v n) a.after in
      ap (λ (o : Outcome (List Mapping)). joined o (move_if_valid g r follow (page_in g v n) o.after)) (copies_followed g r v n s)
      ∙ ap (joined (followed_all a)) (move_then_follow g r (page_in g v n) x a.after)
      ∙ sym (ap (λ (l : Left). record { value = l.waiting; after = with_left l b.after; did = a.did ++ (b.did ++ []) })
      (each_++ a.value b.value same.directory same.cache same.used))

  -- "Each valid page is read, programmed with the same owner, and the old one marked invalid": all of them, and then their moves followed.
  pub copies_then_follow : (g : Geometry) (r : Region) (v n : ℕ) (s : State)
      → move_pages g r follow v n s ≡ (move_pages g r waits_all v n >>= follow_each follow) s
  unfolding ◌>>=◌
  copies_then_follow g r v n s =
      let o = move_pages g r waits_all v n s in
      copies_followed g r v n s
      ∙ ap (λ (os : List Operation). record { value = (followed_all o).value; after = (followed_all o).after; did = os }) (sym (append-nil o.did))
      ∙ sym (ap (λ (p : Outcome (List Mapping)). record { value = p.value; after = p.after; did = o.did ++ p.did })
      (follow_each_is o.value o.after))

  -- One move more.
  pub follow_one_more : (moves : List Mapping) (m : Mapping) (s : State)
      → follow_each follow (moves ++ m ∷ []) s
      ≡ (follow_each follow moves >>= λ (w : List Mapping). follow.moved m.logical m.physical >>= λ (x : List Mapping). give (w ++ x)) s
  unfolding each follow_each ◌>>=◌ give
  follow_one_more moves m s =
      let x = each moves s.directory s.cache s.small.used in
      follow_each_is (moves ++ m ∷ []) s
      ∙ ap (λ (l : Left). leaving l s) (each_++ moves (m ∷ []) refl refl refl)
      ∙ sym (ap (λ (o : Outcome (List Mapping)). joined o (follow.moved m.logical m.physical o.after)) (follow_each_is moves s)
      ∙ ap (joined (leaving x s)) (followed x m.logical m.physical s (λ os. os)))

-- The directory follows so, and the cache.
pub directory_apart : Apart directory_follows
unfolding directory_names_it set_directory give ◌>>=◌
directory_apart =
    record {
      leaves = λ k q directory cache used. record { waiting = []; directory = set directory k q; cache = cache };
      is = λ k q s. refl;
    }

pub cache_apart : (g : Geometry) → Apart (cache_follows g)
unfolding cache_or_wait set_entry set_cache look give ◌>>=◌
cache_apart g = record { leaves = leaves; is = λ k q s. on (ltb (rank_of g s.cache s.small.used k) g.C) (λ e. rw e refl) (λ e. rw e refl) }
  where
    leaves : ℕ → ℕ → List ℕ → List ℕ → ℕ → Left
    leaves k q directory cache used =
        let i = rank_of g cache used k in
        record {
          waiting = cond (ltb i g.C) [] (record { logical = k; physical = q } ∷ []);
          directory = directory;
          cache = cond (ltb i g.C) (sets cache (i * entry_words + 1) (q ∷ 1 ∷ [])) cache;
        }
