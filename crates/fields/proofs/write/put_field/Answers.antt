-- The tag, the length and the number, one behind the other.
use Rattle.std.proofs.Common.{arith, sym, refl}
use Rattle.settings.specs.Fields.{bytes_of}
use Rattle.fields.specs.Written.{put_one, put_then}
use Rattle.fields.proofs.write.put_field.Goals as goal

pub returns : goal.returns
unfolding bytes_of
returns c = let a = c.args in
    rw (sym c.bytes-size.ensures) (put_then (put_then (put_one a.place.now a.at a.f.tag (omega arith)) refl c.put_number.ensures) refl c.put_number-2.ensures)
