-- The last bytes of four, put where they belong.
use Rattle.std.proofs.Common.{rules, arith, ap, ◌∙◌, ◌≡◌, ◌+◌, ◌-◌, refl, length, drop, take_all, length-drop}
use Rattle.std.proofs.lemmas.Slice.{take-put_mid}
use Rattle.settings.specs.Fields.{bytes_of}
use Rattle.fields.specs.Written.{last_bytes}
use Rattle.fields.proofs.write.put_number.Goals as goal

pub returns : goal.returns
returns c = let a = c.args in
    let part : c.copy_from_slice.new.self ≡ bytes_of a.n a.x = c.copy_from_slice.ensures.after
    ∙ take_all (4 - (4 - a.n)) (drop (4 - a.n) c.to_be_bytes.result) (omega (arith, length-drop (4 - a.n) c.to_be_bytes.result, ap length c.to_be_bytes.ensures))
    ∙ ap (drop (4 - a.n)) c.to_be_bytes.ensures ∙ last_bytes a.n a.x c.requires.four_at_most in
    record {
      put = rw part (take-put_mid a.at (a.at + a.n - a.at) a.place.now (bytes_of a.n a.x) _ refl (omega arith));
      same = search rules;
    }
