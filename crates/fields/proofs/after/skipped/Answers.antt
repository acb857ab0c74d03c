-- Each test that applies finds no whole field; where none does, what stands behind the field.
use Rattle.std.proofs.Common.{◌+◌, ◌-◌, length, drop, take_all, length-drop, arith}
use Rattle.fields.specs.Skipping.{no_head, low_tag, cut, behind_field}
use Rattle.fields.proofs.after.skipped.Goals as goal

pub returns-then-bytes-lt-HEAD_BYTES : goal.returns-then-bytes-lt-HEAD_BYTES
returns-then-bytes-lt-HEAD_BYTES c = no_head _ _ c.if-bytes-lt-HEAD_BYTES.true

pub returns-then-bytes-last : goal.returns-then-bytes-last
returns-then-bytes-last c = low_tag _ _ c.if-bytes-lt-HEAD_BYTES.false c.if-bytes-last.true

pub returns-then-bytes-size : goal.returns-then-bytes-size
returns-then-bytes-size c = cut _ _ c.if-bytes-lt-HEAD_BYTES.false c.if-bytes-last.false c.pair.ensures.value c.if-bytes-size.true

pub returns : goal.returns
returns c = let bytes = c.args.bytes.now in
    let size = 3 + c.pair.result in
    behind_field _ _ c.if-bytes-lt-HEAD_BYTES.false c.if-bytes-last.false c.pair.ensures.value c.if-bytes-size.false
    (take_all (length bytes - size) (drop size bytes) (omega (arith, length-drop size bytes)))
