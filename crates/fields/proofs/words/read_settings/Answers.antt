-- A slice of another length is left; one of six takes what was read.
use Rattle.std.proofs.Common.{sym, ap, ap₂, ◌∙◌, ℕ}
use Rattle.settings.specs.Settings.{answered}
use Rattle.settings.proofs.Laws.Calls.{other_length_refused, six_words_read}
use Rattle.fields.proofs.words.read_settings.Goals as goal

pub returns-then-numbers-ne-NUMBERS : goal.returns-then-numbers-ne-NUMBERS
returns-then-numbers-ne-NUMBERS c = let a = c.args in
    ap (λ (n : ℕ). answered n a.numbers.now) c.from.ensures ∙ sym (other_length_refused a.bytes.now a.numbers.now c.if-numbers-ne-NUMBERS.true)

pub returns-in-Ok : goal.returns-in-Ok
returns-in-Ok c = let a = c.args in
    ap (answered 0) (c.copy_from_slice.ensures.after ∙ c.numbers_of.ensures) ∙ c.in-Ok.ensures ∙ sym (six_words_read a.bytes.now a.numbers.now c.if-numbers-ne-NUMBERS.false)

pub returns-in-Err : goal.returns-in-Err
returns-in-Err c = let a = c.args in
    ap₂ answered c.from-in-Err.ensures c.copy_from_slice-in-Err.ensures.after ∙ c.in-Err.ensures ∙ sym (six_words_read a.bytes.now a.numbers.now c.if-numbers-ne-NUMBERS.false)
