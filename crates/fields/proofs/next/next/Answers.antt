-- A refusal by the test that led to it, and the number where none applied.
use Rattle.std.proofs.Common.{arith, sym, ap, ◌∙◌, length, drop, take_all, length-drop, ℕ, ◌+◌, ◌-◌}
use Rattle.settings.specs.Fields.{number}
use Rattle.fields.specs.Model.{size}
use Rattle.fields.specs.Firsts.{first_short, first_other_tag, first_other_length, first_number}
use Rattle.fields.proofs.next.next.Goals as goal

pub returns-then-bytes-size : goal.returns-then-bytes-size
returns-then-bytes-size c = first_short (omega (arith, c.bytes-size.ensures))

pub returns-then-bytes-f : goal.returns-then-bytes-f
returns-then-bytes-f c = first_other_tag (omega (arith, c.bytes-size.ensures)) c.if-bytes-f.true

pub returns-then-pair-size : goal.returns-then-pair-size
returns-then-pair-size c =
    first_other_length (omega (arith, c.bytes-size.ensures)) c.if-bytes-f.false (λ e. c.if-pair-size.true (c.pair.ensures.value ∙ e ∙ sym c.bytes-size.ensures))

pub returns : goal.returns
returns c = let a = c.args in let n = c.bytes-size.result in
    first_number
    (record {
      enough = omega (arith, c.bytes-size.ensures);
      tagged = c.if-bytes-f.false;
      sized = sym c.pair.ensures.value ∙ c.if-pair-size.false ∙ c.bytes-size.ensures;
    })
    (c.number.ensures ∙ ap (number (size a.f.size)) (take_all (length a.bytes.now - 3) (drop 3 a.bytes.now) (omega (arith, length-drop 3 a.bytes.now))))
    (take_all (length a.bytes.now - (3 + n)) (drop (3 + n) a.bytes.now) (omega (arith, length-drop (3 + n) a.bytes.now)) ∙ ap (λ (k : ℕ). drop (3 + k) a.bytes.now) c.bytes-size.ensures)
