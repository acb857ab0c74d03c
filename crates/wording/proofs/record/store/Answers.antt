-- `wording::record::store` meets its contract: six stores, one after the other.
use Prim.Native.Nat.{ℕ}
use mathlib.Core.Path.{◌≡◌}
use mathlib.Core.List.{List}
use lib.ListN.{set}
use lib.Seq.{sets}
use Rattle.scope.specs.SmallRecord.{SmallRecord, words_from}
use Rattle.lent.specs.Model.{small}
use Rattle.wording.proofs.record.store.Goals as goal

-- Each number is stored at its own place.
in_order : (l : List ℕ) (r : SmallRecord) {l₁ l₂ l₃ l₄ l₅ l₆ : List ℕ} → l₁ ≡ set l 0 r.open_data → l₂ ≡ set l₁ 1 r.data_offset
    → l₃ ≡ set l₂ 2 r.open_translation → l₄ ≡ set l₃ 3 r.translation_offset → l₅ ≡ set l₄ 4 r.used
    → l₆ ≡ set l₅ 5 r.protected → l₆ ≡ sets l 0 (words_from r)
in_order l r h₁ h₂ h₃ h₄ h₅ h₆ = cc

pub returns : goal.returns
returns c =
    let a = c.args in
    in_order a.«record».now (small a.rec) c.set_word.ensures c.set_word-2.ensures c.set_word-3.ensures c.set_word-4.ensures
    c.set_word-5.ensures c.set_word-6.ensures
