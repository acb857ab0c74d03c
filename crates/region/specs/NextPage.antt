-- The steps that replace an owner's page: `program_next` and then the mark of the page that was the owner's, as update, write and
-- collect make them, under the replace law.
use Rattle.std.specs.Prelude.{ℕ, suc, ◌<◌, ◌≡◌, refl, ◌≢◌, List, [], ◌∷◌, length}
use Rattle.std.proofs.Common.{sym, ap, ◌∙◌, arith}
use Rattle.std.proofs.Math.Path.{subst}
use Rattle.scope.specs.Geometry.{Geometry}
use Rattle.scope.specs.Regions.{Region, owners, page_in, HasPage}
use Rattle.scope.specs.SmallRecord.{open_block, next_offset, advanced}
use Rattle.scope.specs.Lent.{Entry, Place, Nowhere, decode, invalid, State, with_small, state_of, owner_of}
use Rattle.scope.specs.Operations.{Program, Mark, Outcome, apply, apply_all, give, look, perform, set_small, counted, ◌>>=◌}
use Rattle.scope.specs.Room.{program_next}
use Rattle.scope.specs.Steps.{mark_old}
use Rattle.scope.specs.Sound.{Names}
use Rattle.scope.specs.Laws.Applied.{flash_refl, flash_as}
use Rattle.flash.specs.Bounded.{RegionBounded}
use Rattle.flash.specs.Lengths.{Lengths}
use Rattle.flash.specs.Pages.{page_trans, Programmed, Marked, program_page, mark_page}
use Rattle.flash.specs.Places.{page_on_chip, page_in_region}
use Rattle.flash.specs.Heads.{SameRest, advanced_block, advanced_offset, advanced_rest}
use Rattle.flash.specs.Kept.{apply_keeps_lengths}
use Rattle.flash.specs.Moments.{cost, PageErased}
use Rattle.region.specs.Holds.{RegionFits, Maps}
use Rattle.region.specs.Carried.{fits_erased}
use Rattle.region.specs.Elsewhere.{SameElsewhere}
use Rattle.region.specs.Replace.{Replaced, Replacement, replace_law}
use Rattle.region.specs.Done.{Done, done_none, done_one}

-- The open block's next page.
abbrev pub next_page : Geometry → Region → State → ℕ
next_page g r s = page_in g (open_block r s.small) (next_offset r s.small)

-- The old page was valid and the new one erased, so they differ.
old_apart : (g : Geometry) (r : Region) (chip spare : List ℕ) (opened offset : ℕ) (k p : ℕ)
    → RegionFits g r chip spare opened offset → offset < g.P → Names g r spare k (Place p) → p ≢ page_in g opened offset
old_apart g r chip spare opened offset k p fits room names e =
    omega (arith, names.1, ap (λ x. state_of x spare) e, fits.from_offset offset room (omega arith))

-- A program and a mark replace.
program_and_mark : (g : Geometry) (q k p : ℕ) (words : List ℕ) (s s₁ s₂ : State) → p ≢ q
    → Programmed g q k words s s₁ → Marked g p s₁ s₂
    → Replaced g q k words (Place p) s.chip s.spare s₂.chip s₂.spare
program_and_mark g q k p words s s₁ s₂ apart programmed marked =
    let kept = marked.others q (λ e. apart (sym e)) in
    record {
      new_state = kept.state ∙ programmed.state;
      new_owner = kept.owner ∙ programmed.owner;
      new_words = kept.words ∙ programmed.words;
      old_state = λ x e. subst (λ x. state_of x s₂.spare ≡ invalid) (is_p x e) marked.state;
      old_owner = λ x e. subst (λ x. owner_of x s₂.spare ≡ owner_of x s.spare) (is_p x e)
          (marked.owner ∙ (programmed.others p apart).owner);
      rest = λ x new old. page_trans (programmed.others x new) (marked.others x (λ e. old (ap Place (sym e))));
    }
  where
    is_p : (x : ℕ) → Place p ≡ Place x → p ≡ x
    is_p x e = cc

program_alone : (g : Geometry) (q k : ℕ) (words : List ℕ) (s s₁ : State) → Programmed g q k words s s₁
    → Replaced g q k words Nowhere s.chip s.spare s₁.chip s₁.spare
program_alone g q k words s s₁ programmed =
    record {
      new_state = programmed.state;
      new_owner = programmed.owner;
      new_words = programmed.words;
      old_state = λ x e. never x e;
      old_owner = λ x e. never x e;
      rest = λ x new _. programmed.others x new;
    }
  where
    never : {X : Type 0} (x : ℕ) → Nowhere ≡ Place x → X
    never x e = let z : ◌≡◌ {A = ℕ} 0 1 = cc in absurd (omega arith)

-- What the two steps do, one after the other.
pub record PageWritten (g : Geometry) (r : Region) (k : ℕ) (words : List ℕ) (view : ℕ → ℕ) (s : State)
    (o : Outcome ℕ) (o' : Outcome (Unit {0})) : Type 0 where
  pub value : o.value ≡ next_page g r s
  -- The cache between the two, which write looks at there.
  pub cache_between : o.after.cache ≡ s.cache
  pub replacement : Replacement g r k words s.chip s.spare o'.after.chip o'.after.spare
      (open_block r s.small) (next_offset r s.small) view
  pub directory : o'.after.directory ≡ s.directory
  pub cache : o'.after.cache ≡ s.cache
  pub opened : open_block r o'.after.small ≡ open_block r s.small
  pub offset : next_offset r o'.after.small ≡ suc (next_offset r s.small)
  pub rest : SameRest r s.small o'.after.small
  pub lengths : Lengths g o'.after
  pub programmed : Done g s o.did o.after
  pub marked : Done g o.after o'.did o'.after
  pub costs_program : cost o.did ≡ 1
  pub costs_mark : cost o'.did ≡ 0

pub written_elsewhere : {g : Geometry} {r : Region} {k : ℕ} {words : List ℕ} {view : ℕ → ℕ} {s : State} {o : Outcome ℕ} {o' : Outcome (Unit {0})}
    → PageWritten g r k words view s o o' → SameElsewhere g r s o'.after
written_elsewhere w = record { pages = w.replacement.elsewhere; directory = w.directory; cache = w.cache; rest = w.rest }

module _ (g : Geometry) (r : Region) (k : ℕ) (words : List ℕ) (view : ℕ → ℕ) (s : State)
    (bounds : RegionBounded g r) (lengths : Lengths g s) (full_page : length words ≡ g.W)
    (fits : RegionFits g r s.chip s.spare (open_block r s.small) (next_offset r s.small))
    (room : next_offset r s.small < g.P) (maps : Maps g r s.spare view) (owned : k < owners g r) where
  abbrev q : ℕ
  q = next_page g r s

  here : HasPage g r q
  here = page_in_region g r _ _ fits.in_region room

  -- The state between the two.
  abbrev s₁ : State
  s₁ = with_small (advanced r s.small) (apply g (Program q k words) s)

  lengths₁ : Lengths g s₁
  lengths₁ = apply_keeps_lengths g (Program q k words) s lengths

  programmed : Programmed g q k words s s₁
  programmed =
      let did = program_page g q k words s lengths (page_on_chip g r q here) full_page in
      record { state = did.state; owner = did.owner; words = did.words; others = did.others }

  -- From the next offset on the open block's pages are erased.
  erased_page : PageErased g q s.chip s.spare
  erased_page = fits_erased (fits.pages_fit q here) (fits.from_offset _ room (omega arith))

  programs : Done g s (Program q k words ∷ []) s₁
  unfolding apply_all
  programs =
      record {
        flash = flash_as refl;
        allowed = ((page_on_chip g r q here, erased_page, full_page), tt);
      }

  replaced : {chip' spare' : List ℕ} (old : Entry) → decode (view k) ≡ old
      → Replaced g q k words old s.chip s.spare chip' spare'
      → Replacement g r k words s.chip s.spare chip' spare' (open_block r s.small) (next_offset r s.small) view
  replaced {chip'} {spare'} old e did =
      replace_law g r k words s.chip s.spare chip' spare' (open_block r s.small) (next_offset r s.small) view
      bounds fits room maps owned (rw e did)

  pub page_written : (old : Entry) → decode (view k) ≡ old
      → PageWritten g r k words view s (program_next g r k words s) (mark_old g old (program_next g r k words s).after)
  unfolding program_next mark_old ◌>>=◌ look perform set_small give counted apply
  page_written (Place p) e =
      let names = subst (Names g r s.spare k) e (maps.names k owned) in
      let apart = old_apart g r s.chip s.spare _ _ k p fits room names in
      let marked = mark_page g p s₁ lengths₁ (page_on_chip g r p names.0) in
      record {
        value = refl;
        cache_between = refl;
        replacement = replaced (Place p) e (program_and_mark g q k p words s _ _ apart programmed marked);
        directory = refl;
        cache = refl;
        opened = advanced_block r s.small;
        offset = advanced_offset r s.small;
        rest = advanced_rest r s.small;
        lengths = apply_keeps_lengths g (Mark p) s₁ lengths₁;
        programmed = programs;
        marked = done_one g (Mark p) tt;
        costs_program = refl;
        costs_mark = refl;
      }
  page_written Nowhere e =
      record {
        value = refl;
        cache_between = refl;
        replacement = replaced Nowhere e (program_alone g q k words s s₁ programmed);
        directory = refl;
        cache = refl;
        opened = advanced_block r s.small;
        offset = advanced_offset r s.small;
        rest = advanced_rest r s.small;
        lengths = lengths₁;
        programmed = programs;
        marked = done_none g flash_refl;
        costs_program = refl;
        costs_mark = refl;
      }
