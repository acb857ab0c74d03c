-- Words stored one after the other from a place on, as a loop stores them: how far it has come, and laws of such runs.
use Rattle.std.specs.Prelude.{ℕ, zero, suc, ◌+◌, ◌≤◌, ◌<◌, ◌≡◌, refl, ◌⊎◌, List, [], ◌∷◌, ◌++◌, length, get_or, set, take, drop}
use Rattle.std.proofs.Common.{sym, ap, ◌∙◌, ⊎_elim, append-nil, add-zero, add-one, arith, length-set, length-take, length-drop, take-append-drop, set-set, take-suc, take_all, take-add, length-take-le, get_or-take, get_or-drop}
use Rattle.std.proofs.lemmas.List.Edits.{sets, sets-eq}
use Rattle.std.proofs.Math.Seq.{drop-length, paste}
use Rattle.std.proofs.lemmas.List.{set_comm}
use Rattle.flash.specs.Stores.{getD_sets_outside}

-- Within the list it does not matter what a place past its end would read as.
pub get_d_any : (l : List ℕ) (i a b : ℕ) → i < length l → get_or l i a ≡ get_or l i b
get_d_any [] i a b h = absurd (omega arith)
get_d_any (x ∷ l) zero a b h = refl
get_d_any (x ∷ l) (suc i) a b h = get_d_any l i a b (omega arith)

-- One more word at the end of a run.
pub sets_snoc : (l : List ℕ) (i : ℕ) (vs : List ℕ) (v : ℕ) → set (sets l i vs) (i + length vs) v ≡ sets l i (vs ++ v ∷ [])
sets_snoc l i [] v = rw add-zero refl
sets_snoc l i (x ∷ vs) v =
    ap (λ (k : ℕ). set (sets (set l i x) (suc i) vs) k v) (omega arith) ∙ sets_snoc (set l i x) (suc i) vs v

-- A store in front of a run may come after it.
pub set_before : (l : List ℕ) (i j : ℕ) (vs : List ℕ) (v : ℕ) → i < j → set (sets l j vs) i v ≡ sets (set l i v) j vs
set_before l i j [] v h = refl
set_before l i j (x ∷ vs) v h =
    set_before (set l j x) i (suc j) vs v (omega arith)
    ∙ ap (λ (k : List ℕ). sets k (suc j) vs) (set_comm l j i x v (omega arith))

-- A store inside a run is a store in what was run in.
pub set_inside : (l : List ℕ) (i : ℕ) (vs : List ℕ) (j v : ℕ) → j < length vs → set (sets l i vs) (i + j) v ≡ sets l i (set vs j v)
set_inside l i [] j v h = absurd (omega arith)
set_inside l i (x ∷ vs) zero v h =
    ap (λ (k : ℕ). set (sets (set l i x) (suc i) vs) k v) (add-zero i)
    ∙ set_before (set l i x) i (suc i) vs v (omega arith)
    ∙ ap (λ (k : List ℕ). sets k (suc i) vs) (set-set l i x v)
set_inside l i (x ∷ vs) (suc j) v h =
    ap (λ (k : ℕ). set (sets (set l i x) (suc i) vs) k v) (omega arith) ∙ set_inside (set l i x) (suc i) vs j v (omega arith)

-- A run as long as the list is all that is left of it.
pub sets_whole : (l vs : List ℕ) → length vs ≡ length l → sets l 0 vs ≡ vs
sets_whole l vs e =
    let end : 0 + length vs ≡ length l = omega arith in
    sets-eq vs l 0 (omega arith) ∙ (rw (end, drop-length) (append-nil vs))

-- A part of a list, n words from `from` on.
pub length_part : (l : List ℕ) (from n : ℕ) → from + n ≤ length l → length (take n (drop from l)) ≡ n
length_part l from n h = simp (length-take, length-drop) (omega arith)

pub part_at : (l : List ℕ) (from n i : ℕ) → i < n → get_or (take n (drop from l)) i 0 ≡ get_or l (from + i) 0
part_at l from n i h = get_or-take n (drop from l) i 0 h ∙ get_or-drop from l i 0

-- A list's own words stored in it change nothing.
pub sets_own : (l : List ℕ) (at n : ℕ) → at + n ≤ length l → sets l at (take n (drop at l)) ≡ l
sets_own l at n h =
    let size : length (take n (drop at l)) ≡ n = length_part l at n h in
    sets-eq (take n (drop at l)) l at (omega arith) ∙ (rw (size, ← take-add at n l) (take-append-drop (at + n) l))

-- The first n words of vs are stored in l₀, from `at` on.
pub record StoredUpto (l₀ : List ℕ) (at : ℕ) (vs l : List ℕ) (n : ℕ) : Type 0 where
  pub up_to : n ≤ length vs
  pub words : l ≡ sets l₀ at (take n vs)
  pub as_long : length l ≡ length l₀

module _ {l₀ : List ℕ} {at : ℕ} {vs : List ℕ} where
  pub none_stored : StoredUpto l₀ at vs l₀ 0
  none_stored = record { up_to = omega arith; words = refl; as_long = refl }

  pub one_stored : {l : List ℕ} {n i v : ℕ} → StoredUpto l₀ at vs l n → n < length vs → i ≡ at + n → v ≡ get_or vs n 0
      → StoredUpto l₀ at vs (set l i v) (n + 1)
  one_stored {l} {n} {i} {v} h k place value =
      record {
        up_to = omega arith;
        words = rw (place, value)
            (ap (λ (x : List ℕ). set x (at + n) (get_or vs n 0)) h.words
            ∙ ap (λ (j : ℕ). set (sets l₀ at (take n vs)) (at + j) (get_or vs n 0)) (sym (length-take-le n vs h.up_to))
            ∙ sets_snoc l₀ at (take n vs) (get_or vs n 0)
            ∙ ap (sets l₀ at) (sym (take-suc vs n 0 k) ∙ ap (λ (j : ℕ). take j vs) (sym (add-one n))));
        as_long = length-set l i v ∙ h.as_long;
      }

  pub all_stored : {l : List ℕ} {n : ℕ} → StoredUpto l₀ at vs l n → length vs ≤ n → l ≡ sets l₀ at vs
  all_stored {l} {n} h k = h.words ∙ ap (sets l₀ at) (take_all n vs k)

  -- Before the run and past what is stored, nothing has changed.
  pub stored_kept : {l : List ℕ} {n : ℕ} → StoredUpto l₀ at vs l n → (j : ℕ) → (j < at) ⊎ (at + n ≤ j) → get_or l j 0 ≡ get_or l₀ j 0
  stored_kept {l} {n} h j apart =
      let len : length (take n vs) ≡ n = length-take-le n vs h.up_to in
      ap (λ (x : List ℕ). get_or x j 0) h.words
      ∙ getD_sets_outside l₀ at (take n vs) j 0
      (λ k below e. ⊎_elim (λ a. omega arith) (λ a. omega arith) apart)

-- The first n words of vs written over as many from `at` on.
pub sets_pasted : (l : List ℕ) (at : ℕ) (vs : List ℕ) (n : ℕ) → at + n ≤ length l → n ≤ length vs → paste l at vs n ≡ sets l at (take n vs)
sets_pasted l at vs n fits few =
    let size : length (take n vs) ≡ n = length-take-le n vs few in
    sym (sets-eq (take n vs) l at (omega arith) ∙ (rw size refl))
