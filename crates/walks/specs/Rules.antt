-- Rules of separation logic by which a walk, a proof by hand of a function, steps through its code: of any function. They assume `Logic`.
--     lends_again   a `&mut [T]` that is needed after a call is lent for a lifetime made for the call, under a new name, at its list
--     comes_back    once the call is over, that lifetime ends, and the slice is had as before, at the list that the call left
--     lends_ref_again, ref_comes_back   the same of a `&mut T`
--     lends_local, local_back           a local is lent as a `&mut T` for such a lifetime, and holds the value that the call left
--     shares_local, shared_back         the same as a `&T`, where T can be shared with no token but that lifetime's; it holds what it held
--     shares_elements, elements_back    the same of a local array, whose elements are lent as a `&[T]`
--     as_raw, as_named                  a local as it lies behind a reference, where types have no names, and back
--     zeros_typed, zeroed               a local array of zeros has its type, and holds a list, of which a walk keeps no more than that it is zeros
--     frees_all     at a `return` all locals are freed
use Rattle.std.specs.Prelude.{◌≡◌, ℕ, zero, suc, ◌<◌, ◌^◌, List, [], ◌∷◌, length, replicate, T}
use Rattle.std.proofs.Math.Path.{refl}
use Rattle.std.proofs.Common.{sym, ap, subst, ◌∙◌}
use Rattle.std.proofs.lemmas.List.{length-replicate}
use seplogic.Ra.Ura.{Ura}
use base.Fraction.{full_share}
use mir.Syntax.{Ty, Lifetime, Width, ty_int, ty_array}
use mir.Val.{Val, vint, vptr, bits, WT, has_ty}
use mir.Raw.{raw}
use base.Fml.{Lft, GName, Share, Fml, fsep, flft, fobs, fauth, fres, flent, fobor, fat, froom, fdies}
use types.Logic.{Logic}
use types.Kit.{Goal, frees, Soaks, Step, step, Seq, Item, ‵, ◌⊛◌, some, later, ◌$◌, move, drop, use1, use3, split, pick, rewrite}
use types.Kit.{use2, fsplit, fjoin, fpick, fpack, await}
use types.Run.{forget, free1, free0}
use types.SemTy.{cells, Arr, Body}
use types.Share.{arr_parts}
use types.Tokens.{lft_new, lft_end, lent_back}
use Rattle.std.specs.Borrow.{RattleType}
use denote.Shadow.{shadow, pure_l, pure_i}
use denote.Laws.{Is, Tells, shows}
use denote.Memory.{mem, cell_at, part_of, part_at, shares}
use denote.Plain.{UInt, uint_vals, uint_Tells, uint_Lawful}
use denote.Array.{Array, each, array_val, array_vals, Array-Tells, Array-Lawful}
use denote.ArrayMemory.{Single, Array-apart, Array-whole}
use denote.Shares.{Shares}
use mathlib.Core.List.{not-mem-nil}
use denote.Steps.{only, peeks}
use denote.Struct.Steps.{spelt}
use denote.Ref.{MutBor, MutRef, ShrRef}
use denote.Slice.{slice_val, MutSlice, ShrSlice, heres, Room, finally, mut_slice_at, coded_holeys}
use denote.Lend.{Held, LentAgain, lends_slice, slice_back, lends_ref, ref_back, lends_again as relends, comes_back as gives_back}
use denote.Lend.{lends_shr, lends_shr_slice}
use denote.Index.{row, whole_in, whole_out, opens_slice, closes_slice}

-- A slice of T at the place (b, o), by its ghost name and its list. Its machine value has a count m, which a walk writes as the length
-- that it was given with, and not as that of its list so far.
module _ (R : RattleType) (b o : ℕ) where
  abbrev pub slice : GName → List R.Denot → MutBor (List R.Denot)
  slice γ xs = record { ref_ptr = (b, o); ghost_name = γ; now = xs }

  abbrev values : ℕ → List Val
  values m = slice_val (b, o) m ∷ []

  abbrev owned : Lifetime → Lft → GName → List R.Denot → ℕ → Fml
  owned ℓ κ γ xs m = (MutSlice ℓ κ R).own_val (slice γ xs) (values m)

  -- What is kept while it is lent at ν under δ: the lender's right at ν, and the borrow at κ, which is open.
  abbrev kept : Lft → Share → GName → ℕ → GName → List R.Denot → Fml
  kept κ q γ ν δ xs =
      fsep
      (fsep (flent (ν ∷ []) (Held R (length xs) b o δ)) (fobor κ q (Held R (length xs) b o γ)))
      (fsep (fobs γ ((coded_holeys R).code (heres R xs))) (fauth γ ((coded_holeys R).code (heres R xs))))

module _ {M : Type 1} {𝓤 : Ura M} {𝓛 : Logic 𝓤} {K : Type 0} {Γ : List (Item 𝓤)} {G : Goal 𝓤 𝓛.H} where
  pub lends_again : K → Soaks G → (R : RattleType) (ℓ ℓ' : Lifetime) {κ : Lft} {q : Share} {γ : GName} (b o : ℕ) (xs : List R.Denot) (m : ℕ)
      → ((ν : ℕ) (δ : GName)
      → Seq K 𝓛 (‵ (flft (ν ∷ []) full_share) ∷ ‵ (owned R b o ℓ' (ν ∷ []) δ xs m) ∷ ‵ (kept R b o κ q γ ν δ xs) ∷ Γ) G)
      → Seq K 𝓛 (‵ (owned R b o ℓ κ γ xs m) ∷ ‵ (flft κ q) ∷ Γ) G
  lends_again t z R ℓ ℓ' {κ} {q} {γ} b o xs m k =
      fsplit t $ pure_l t (mut_slice_at R (slice R b o γ xs) (values R b o m)) (λ at. fsplit t $ opens_slice t z R xs b o $
      use1 𝓛 (‵ (cells (mem R) xs b o)) (whole_in 𝓛 R xs b o) $ lft_new t z (λ ν. move t (1 ∷ []) $
      use1 𝓛 (later (some (λ (δ : GName). ‵ (owned R b o ℓ' (ν ∷ []) δ xs (length xs)) ⊛ ‵ (flent (ν ∷ []) (Held R (length xs) b o δ)))))
      (lends_slice 𝓛 R ℓ' (ν ∷ []) xs b o at.1) $ await t z $ pick t (λ δ. split t $
      rewrite t 0 (λ (vs : List Val). ‵ ((MutSlice ℓ' (ν ∷ []) R).own_val (slice R b o δ xs) vs)) (sym at.0) refl $
      move t (1 ∷ 3 ∷ []) $ fjoin t $ move t (3 ∷ 4 ∷ []) $ fjoin t $ move t (1 ∷ 0 ∷ []) $ fjoin t $ move t (2 ∷ 1 ∷ 0 ∷ []) $ k ν δ)))

  pub comes_back : K → Soaks G → (R : RattleType) (ℓ : Lifetime) {κ : Lft} {q : Share} {γ : GName} (b o : ℕ) {ν : ℕ} {δ : GName}
      (xs xs' : List R.Denot) {m : ℕ} → length xs ≡ m → length xs' ≡ length xs → Room R m
      → Step K 𝓛 (‵ (owned R b o ℓ κ γ xs' m) ∷ ‵ (flft κ q) ∷ Γ) G
      (‵ (flft (ν ∷ []) full_share) ∷ ‵ (kept R b o κ q γ ν δ xs) ∷ ‵ (finally R δ xs') ∷ Γ) G
  comes_back t z R ℓ {κ} {q} {γ} b o {ν} {δ} xs xs' {m} as_m as_long room = step (λ s. lft_end t z $
      move t (1 ∷ []) $ fsplit t $ fsplit t $ move t (3 ∷ 0 ∷ 4 ∷ []) $
      use3 𝓛 (later (‵ ((Arr (mem R) (length xs)).own_at xs' b o))) (slice_back 𝓛 R (ν ∷ []) δ xs' (length xs) b o) $ await t z $
      fsplit t $ drop t $ use1 𝓛 (‵ (row R full_share xs' b o)) (whole_out 𝓛 R xs' b o) $
      move t (2 ∷ []) $ fsplit t $ move t (2 ∷ 3 ∷ 0 ∷ 1 ∷ []) $ closes_slice t z R xs xs' as_long b o $ fjoin t $
      pure_i t (mut_slice_at R (slice R b o γ xs') (values R b o m)) (tt, (tt, tt))
      (ap (values R b o) (sym (as_long ∙ as_m)), subst (Room R) (sym (as_long ∙ as_m)) room) $ fjoin t $ s)

-- A `&mut T` to the place (b, o), by its ghost name and its value.
module _ (R : RattleType) (b o : ℕ) where
  abbrev pub to_one : GName → R.Denot → MutBor R.Denot
  to_one γ x = record { ref_ptr = (b, o); ghost_name = γ; now = x }

  abbrev one : Lifetime → Lft → GName → R.Denot → Fml
  one ℓ κ γ x = (MutRef ℓ κ R).own_val (to_one γ x) (vptr b o ∷ [])

-- What the callee has of a local b that is shared: a `&T`, or a `&[T]` of the elements of an array, of which the lender keeps `elements`.
module _ (R : RattleType) (b : ℕ) where
  abbrev shared_one : Lifetime → Lft → R.Denot → Fml
  shared_one ℓ κ x = (ShrRef ℓ κ R).own_val (record { ref_ptr = (b, 0); now = x }) (vptr b 0 ∷ [])

  abbrev shared_all : Lifetime → Lft → List R.Denot → ℕ → Fml
  shared_all ℓ κ xs m = (ShrSlice ℓ κ R).own_val (record { ref_ptr = (b, 0); now = xs }) (slice_val (b, 0) m ∷ [])

  abbrev elements : List R.Denot → ℕ → Fml
  elements xs m = (arr_parts (shares R) m).part full_share xs b 0

module _ {M : Type 1} {𝓤 : Ura M} {𝓛 : Logic 𝓤} {K : Type 0} {Γ : List (Item 𝓤)} {G : Goal 𝓤 𝓛.H} where
  pub lends_ref_again : K → Soaks G → (R : RattleType) (ℓ ℓ' : Lifetime) {κ : Lft} {q : Share} {γ : GName} (b o : ℕ) (x : R.Denot)
      → ((ν : ℕ) (δ : GName)
      → Seq K 𝓛 (‵ (flft (ν ∷ []) full_share) ∷ ‵ (one R b o ℓ' (ν ∷ []) δ x) ∷ ‵ (LentAgain R κ (ν ∷ []) q γ b o δ x) ∷ Γ) G)
      → Seq K 𝓛 (‵ (one R b o ℓ κ γ x) ∷ ‵ (flft κ q) ∷ Γ) G
  lends_ref_again t z R ℓ ℓ' {κ} {q} {γ} b o x k = lft_new t z (λ ν. move t (1 ∷ 2 ∷ []) $
      use2 𝓛 (later (some (λ (δ : GName). ‵ (one R b o ℓ' (ν ∷ []) δ x) ⊛ ‵ (LentAgain R κ (ν ∷ []) q γ b o δ x))))
      (relends 𝓛 R ℓ κ (ν ∷ []) q γ b o ℓ' x) $ await t z $ pick t (λ δ. split t $ move t (2 ∷ 0 ∷ 1 ∷ []) $ k ν δ))

  pub ref_comes_back : K → Soaks G → (R : RattleType) (ℓ : Lifetime) {κ : Lft} {q : Share} {γ : GName} (b o : ℕ) {ν : ℕ} {δ : GName} (x x' : R.Denot)
      → Step K 𝓛 (‵ (one R b o ℓ κ γ x') ∷ ‵ (flft κ q) ∷ Γ) G
      (‵ (flft (ν ∷ []) full_share) ∷ ‵ (LentAgain R κ (ν ∷ []) q γ b o δ x) ∷ ‵ (fres δ (R.coded.code x')) ∷ Γ) G
  ref_comes_back t z R ℓ {κ} {q} {γ} b o {ν} {δ} x x' = step (λ s. lft_end t z $
      use3 𝓛 (later (‵ (one R b o ℓ κ γ x') ⊛ ‵ (flft κ q))) (gives_back 𝓛 R ℓ κ (ν ∷ []) q γ b o δ x x') $ await t z $ split t $ s)

  pub lends_local : K → Soaks G → (R : RattleType) (ℓ : Lifetime) (b : ℕ) (x : R.Denot) (vs : List Val)
      → ((ν : ℕ) (δ : GName)
      → Seq K 𝓛 (‵ (flft (ν ∷ []) full_share) ∷ ‵ (one R b 0 ℓ (ν ∷ []) δ x) ∷ ‵ (flent (ν ∷ []) (Body (mem R) b 0 δ)) ∷ Γ) G)
      → Seq K 𝓛 (‵ (cell_at full_share R.mir vs b 0) ∷ ‵ (R.own_val x vs) ∷ Γ) G
  unfolding part_of
  lends_local t z R ℓ b x vs k =
      fjoin t $ fpack t (List Val) (λ us. fsep (cell_at full_share R.mir us b 0) (R.own_val x us)) vs $ lft_new t z (λ ν. move t (1 ∷ []) $
      use1 𝓛 (later (some (λ (δ : GName). ‵ (one R b 0 ℓ (ν ∷ []) δ x) ⊛ ‵ (flent (ν ∷ []) (Body (mem R) b 0 δ)))))
      (lends_ref 𝓛 R ℓ (ν ∷ []) x b 0) $ await t z $ pick t (λ δ. split t $ move t (2 ∷ 0 ∷ 1 ∷ []) $ k ν δ))

  -- What lies in memory lies there as its machine value.
  lies_again : K → (R : RattleType) (vals : R.Denot → List Val) → Tells R (Is R) vals → (b : ℕ) (x : R.Denot)
      → (Is R x (vals x) → Seq K 𝓛 (‵ (cell_at full_share R.mir (vals x) b 0) ∷ Γ) G)
      → Seq K 𝓛 (‵ (part_at R full_share x b 0) ∷ Γ) G
  unfolding part_of
  lies_again t R vals tells b x k = fpick t (λ vs. fsplit t $
      spelt t R (Is R) (shows 𝓛 R) vals tells full_share x vs b 0 $ move t (1 ∷ []) $
      peeks t R (Is R) (shows 𝓛 R) x (vals x) (λ is. drop t $ k is))

  pub local_back : K → Soaks G → (R : RattleType) (vals : R.Denot → List Val) → Tells R (Is R) vals → (b : ℕ) {ν : ℕ} {δ : GName} (x : R.Denot)
      → (Is R x (vals x) → Seq K 𝓛 (‵ (cell_at full_share R.mir (vals x) b 0) ∷ Γ) G)
      → Seq K 𝓛 (‵ (flft (ν ∷ []) full_share) ∷ ‵ (flent (ν ∷ []) (Body (mem R) b 0 δ)) ∷ ‵ (fres δ (R.coded.code x)) ∷ Γ) G
  local_back t z R vals tells b {ν} {δ} x k = lft_end t z $
      use3 𝓛 (later (‵ ((mem R).own_at x b 0))) (ref_back 𝓛 R (ν ∷ []) δ x b 0) $ await t z $ lies_again t R vals tells b x k

  -- A local of which each value can be shared, as one that holds no `&mut` can.
  pub shares_local : K → Soaks G → (R : RattleType) → Shares 𝓛 R [] → (ℓ : Lifetime) (b : ℕ) (x : R.Denot) (vs : List Val)
      → ((ν : ℕ)
      → Seq K 𝓛 (‵ (flft (ν ∷ []) full_share) ∷ ‵ (shared_one R b ℓ (ν ∷ []) x) ∷ ‵ (flent (ν ∷ []) (part_at R full_share x b 0)) ∷ Γ) G)
      → Seq K 𝓛 (‵ (cell_at full_share R.mir vs b 0) ∷ ‵ (R.own_val x vs) ∷ Γ) G
  unfolding part_of
  shares_local t z R shared ℓ b x vs k =
      fjoin t $ fpack t (List Val) (λ us. fsep (cell_at full_share R.mir us b 0) (R.own_val x us)) vs $ lft_new t z (λ ν. move t (1 ∷ []) $
      use2 𝓛 (later ((‵ (shared_one R b ℓ (ν ∷ []) x) ⊛ ‵ (flent (ν ∷ []) (part_at R full_share x b 0))) ⊛ ‵ (flft (ν ∷ []) full_share)))
      (lends_shr 𝓛 R ℓ (ν ∷ []) full_share x b 0 [] (shared x) ((ν ∷ [], full_share) ∷ []) (λ a m. absurd (not-mem-nil m)) (λ a m. m)) $ await t z $
      split t $ split t $ move t (2 ∷ 0 ∷ 1 ∷ []) $ k ν)

  pub shared_back : K → Soaks G → (R : RattleType) (vals : R.Denot → List Val) → Tells R (Is R) vals → (b : ℕ) {ν : ℕ} (x : R.Denot)
      → Step K 𝓛 (‵ (cell_at full_share R.mir (vals x) b 0) ∷ Γ) G
      (‵ (flft (ν ∷ []) full_share) ∷ ‵ (flent (ν ∷ []) (part_at R full_share x b 0)) ∷ Γ) G
  shared_back t z R vals tells b x = step (λ s. lft_end t z $ lent_back t z $ lies_again t R vals tells b x (λ _. s))

  -- An array is its elements, side by side, and these are what a slice borrows. Its type has n, and the slice the length of its list.
  pub shares_elements : K → Soaks G → (R : RattleType) → Shares 𝓛 R [] → Single R.mir → (ℓ : Lifetime) (n b : ℕ) (xs : List R.Denot) (vs : List Val)
      → length xs ≡ n → Room R n
      → ((ν : ℕ)
      → Seq K 𝓛 (‵ (flft (ν ∷ []) full_share) ∷ ‵ (shared_all R b ℓ (ν ∷ []) xs n) ∷ ‵ (flent (ν ∷ []) (elements R b xs n)) ∷ Γ) G)
      → Seq K 𝓛 (‵ (cell_at full_share (Array R n).mir vs b 0) ∷ ‵ ((Array R n).own_val xs vs) ∷ Γ) G
  unfolding part_of
  shares_elements t z R shared single ℓ n b xs vs as_n room k =
      fjoin t $ fpack t (List Val) (λ us. fsep (cell_at full_share (Array R n).mir us b 0) ((Array R n).own_val xs us)) vs $
      use1 𝓛 (‵ (elements R b xs n)) (Array-apart 𝓛 R full_share single n xs b 0) $
      rewrite t 0 (λ (m : ℕ). ‵ (elements R b xs m)) (sym as_n) refl $ lft_new t z (λ ν. move t (1 ∷ []) $
      use2 𝓛 (later ((‵ (shared_all R b ℓ (ν ∷ []) xs (length xs)) ⊛ ‵ (flent (ν ∷ []) (elements R b xs (length xs)))) ⊛ ‵ (flft (ν ∷ []) full_share)))
      (lends_shr_slice 𝓛 R ℓ (ν ∷ []) full_share xs b 0 (subst (Room R) (sym as_n) room) [] shared ((ν ∷ [], full_share) ∷ []) (λ a m. absurd (not-mem-nil m))
      (λ a m. m)) $ await t z $ split t $ split t $
      rewrite t 0 (λ (m : ℕ). ‵ (shared_all R b ℓ (ν ∷ []) xs m)) as_n refl $
      rewrite t 1 (λ (m : ℕ). ‵ (flent (ν ∷ []) (elements R b xs m))) as_n refl $ move t (2 ∷ 0 ∷ 1 ∷ []) $ k ν)

  pub elements_back : K → Soaks G → (R : RattleType) (vals : R.Denot → List Val) → Tells R (Is R) vals → (n b : ℕ) {ν : ℕ}
      (xs : List R.Denot)
      → Step K 𝓛 (‵ (cell_at full_share (Array R n).mir (array_vals vals xs) b 0) ∷ Γ) G
      (‵ (flft (ν ∷ []) full_share) ∷ ‵ (flent (ν ∷ []) (elements R b xs n)) ∷ Γ) G
  elements_back t z R vals tells n b xs = step (λ s. lft_end t z $ lent_back t z $
      use1 𝓛 (‵ (part_at (Array R n) full_share xs b 0)) (Array-whole 𝓛 R full_share n xs b 0) $
      lies_again t (Array R n) (array_vals vals) (Array-Tells R vals tells n) b xs (λ _. s))

  pub as_raw : K → (τ : Ty) (b : ℕ) (v : Val) → Step K 𝓛 (‵ (fat full_share (raw τ) b 0 v) ∷ Γ) G (‵ (fat full_share τ b 0 v) ∷ Γ) G
  as_raw t τ b v = use1 𝓛 (‵ (fat full_share (raw τ) b 0 v)) (𝓛.laws.at_raw full_share τ b 0 v)

  pub as_named : K → (τ : Ty) (b : ℕ) (v : Val) → Step K 𝓛 (‵ (fat full_share τ b 0 v) ∷ Γ) G (‵ (fat full_share (raw τ) b 0 v) ∷ Γ) G
  as_named t τ b v = use1 𝓛 (‵ (fat full_share τ b 0 v)) (𝓛.laws.raw_at full_share τ b 0 v)

-- Arrays of n zeros, at any n, so that no proof counts them.
module _ (w : Width) (fits : 0 < 2 ^ bits w) where
  abbrev zeros : ℕ → Val
  zeros n = array_val (replicate n (vint w 0))

  each_zero : (n : ℕ) → shadow (each ℕ (UInt w).own_val (replicate n 0) (replicate n (vint w 0)))
  each_zero zero = tt
  each_zero (suc n) = ((refl, fits), each_zero n)

  zeros_are : (n : ℕ) → Is (Array (UInt w) n) (replicate n 0) (zeros n ∷ [])
  zeros_are n = (replicate n (vint w 0), ((refl, length-replicate n 0), each_zero n))

  zeros_tell : (n : ℕ) → zeros n ∷ [] ≡ array_vals (uint_vals w) (replicate n 0)
  zeros_tell n = Array-Tells (UInt w) (uint_vals w) (uint_Tells w) n (replicate n 0) (zeros n ∷ []) (zeros_are n)

  pub zeros_typed : {M : Type 1} {𝓤 : Ura M} (𝓛 : Logic 𝓤) → (n : ℕ)
      → T (has_ty (ty_array (ty_int w) n) (zeros n)) × WT (zeros n)
  zeros_typed 𝓛 n = ((Array-Lawful 𝓛 (UInt w) (uint_Lawful 𝓛 w) n).typed (replicate n 0) _ (zeros_are n)).0

module _ {M : Type 1} {𝓤 : Ura M} {𝓛 : Logic 𝓤} {K : Type 0} {Γ : List (Item 𝓤)} {G : Goal 𝓤 𝓛.H} where
  pub zeroed : K → (w : Width) (fits : 0 < 2 ^ bits w) (n b : ℕ)
      → ((xs : List ℕ) → xs ≡ replicate n 0 → Is (Array (UInt w) n) xs (array_vals (uint_vals w) xs)
      → Seq K 𝓛 (‵ (fat full_share (ty_array (ty_int w) n) b 0 (only (array_vals (uint_vals w) xs))) ∷ Γ) G)
      → Seq K 𝓛 (‵ (fat full_share (ty_array (ty_int w) n) b 0 (zeros w fits n)) ∷ Γ) G
  zeroed t w fits n b k =
      rewrite t 0 (λ (v : Val). ‵ (fat full_share (ty_array (ty_int w) n) b 0 v)) (ap only (zeros_tell w fits n)) refl $
      k (replicate n 0) refl (subst (Is (Array (UInt w) n) (replicate n 0)) (zeros_tell w fits n) (zeros_are w fits n))

-- A local at a `return`, which has the right to free it: it holds a value, or none.
pub data Local : Type 0 where
  holds : Ty → ℕ → Val → Local
  bare : Ty → ℕ → Local

abbrev spots : List Local → List (Ty × ℕ)
spots [] = []
spots (holds τ b v ∷ locals) = (τ, b) ∷ spots locals
spots (bare τ b ∷ locals) = (τ, b) ∷ spots locals

abbrev had : {M : Type 1} (𝓤 : Ura M) → List Local → List (Item 𝓤) → List (Item 𝓤)
had 𝓤 [] Γ = Γ
had 𝓤 (holds τ b v ∷ locals) Γ = ‵ (fat full_share τ b 0 v) ∷ ‵ (fdies τ b) ∷ had 𝓤 locals Γ
had 𝓤 (bare τ b ∷ locals) Γ = ‵ (froom τ b 0) ∷ ‵ (fdies τ b) ∷ had 𝓤 locals Γ

module _ {M : Type 1} {𝓤 : Ura M} {𝓛 : Logic 𝓤} {K : Type 0} {Γ : List (Item 𝓤)} where
  open 𝓛 use {H}

  pub frees_all : K → (locals : List Local) {g : Goal 𝓤 H} → Step K 𝓛 Γ g (had 𝓤 locals Γ) (frees (spots locals) g)
  frees_all t [] = free0 t
  frees_all t (holds τ b v ∷ locals) = step (λ s. forget t 0 refl $ free1 t $ frees_all t locals $ s)
  frees_all t (bare τ b ∷ locals) = step (λ s. free1 t $ frees_all t locals $ s)
