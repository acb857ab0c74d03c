-- A region's head: its open block and next page offset in the small record. What a step leaves of the record is said by the heads and by
-- the numbers of used and of protected entries, and not of the record as a whole, so that nothing is promised of what else it may hold.
use Rattle.std.specs.Prelude.{ℕ, suc, ◌≡◌, refl}
use Rattle.std.proofs.Common.{sym, ap, ◌∙◌}
use Rattle.scope.specs.Regions.{Region, Data, Translation}
use Rattle.scope.specs.SmallRecord.{SmallRecord, open_block, next_offset, opened, advanced, with_used, with_protected}
use Rattle.flash.specs.Places.{other}

pub record SameHead (r : Region) (x x' : SmallRecord) : Type 0 where
  pub opened : open_block r x' ≡ open_block r x
  pub offset : next_offset r x' ≡ next_offset r x

pub head_same : (r : Region) {x x' : SmallRecord} → x' ≡ x → SameHead r x x'
head_same r e = record { opened = ap (open_block r) e; offset = ap (next_offset r) e }

pub head_trans : {r : Region} {x x' x'' : SmallRecord} → SameHead r x x' → SameHead r x' x'' → SameHead r x x''
head_trans a b = record { opened = b.opened ∙ a.opened; offset = b.offset ∙ a.offset }

-- What isn't region r's own: the other region's head, and the cache's numbers.
pub record SameRest (r : Region) (x x' : SmallRecord) : Type 0 where
  pub head : SameHead (other r) x x'
  pub used : x'.used ≡ x.used
  pub protected : x'.protected ≡ x.protected

pub rest_same : (r : Region) {x x' : SmallRecord} → x' ≡ x → SameRest r x x'
rest_same r e =
    record {
      head = head_same (other r) e;
      used = ap (λ (y : SmallRecord). y.used) e;
      protected = ap (λ (y : SmallRecord). y.protected) e;
    }

pub rest_sym : {r : Region} {x x' : SmallRecord} → SameRest r x x' → SameRest r x' x
rest_sym a =
    record {
      head = record { opened = sym a.head.opened; offset = sym a.head.offset };
      used = sym a.used;
      protected = sym a.protected;
    }

pub rest_trans : {r : Region} {x x' x'' : SmallRecord} → SameRest r x x' → SameRest r x' x'' → SameRest r x x''
rest_trans a b =
    record { head = head_trans a.head b.head; used = b.used ∙ a.used; protected = b.protected ∙ a.protected }

-- ---- what the steps do to it

-- A block is opened.
pub opened_rest : (r : Region) (b : ℕ) (x : SmallRecord) → SameRest r x (opened r b x)
opened_rest Data b x = record { head = record { opened = refl; offset = refl }; used = refl; protected = refl }
opened_rest Translation b x = record { head = record { opened = refl; offset = refl }; used = refl; protected = refl }

-- The next page is one further.
pub advanced_block : (r : Region) (x : SmallRecord) → open_block r (advanced r x) ≡ open_block r x
advanced_block Data x = refl
advanced_block Translation x = refl

pub advanced_offset : (r : Region) (x : SmallRecord) → next_offset r (advanced r x) ≡ suc (next_offset r x)
advanced_offset Data x = refl
advanced_offset Translation x = refl

pub advanced_rest : (r : Region) (x : SmallRecord) → SameRest r x (advanced r x)
advanced_rest Data x = record { head = record { opened = refl; offset = refl }; used = refl; protected = refl }
advanced_rest Translation x = record { head = record { opened = refl; offset = refl }; used = refl; protected = refl }

-- Another number of used entries, or of protected ones.
pub with_used_head : (r : Region) (n : ℕ) (x : SmallRecord) → SameHead r x (with_used n x)
with_used_head Data n x = record { opened = refl; offset = refl }
with_used_head Translation n x = record { opened = refl; offset = refl }

pub with_protected_head : (r : Region) (n : ℕ) (x : SmallRecord) → SameHead r x (with_protected n x)
with_protected_head Data n x = record { opened = refl; offset = refl }
with_protected_head Translation n x = record { opened = refl; offset = refl }
