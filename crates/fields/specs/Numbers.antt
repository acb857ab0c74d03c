-- Numbers of one, two and four bytes, byte by byte.
use Rattle.std.specs.Prelude.{ℕ, ◌+◌, ◌*◌, ◌≡◌, List, get_or, drop}
use Rattle.std.proofs.Common.{ap, add-zero, arith, get_or-drop}
use Rattle.settings.specs.Fields.{number}

pub number_two : (bytes : List ℕ) (at : ℕ) → get_or bytes at 0 * 256 + get_or bytes (at + 1) 0 ≡ number 2 (drop at bytes)
unfolding number
number_two bytes at = omega (arith, get_or-drop at bytes 0 0, ap (λ (k : ℕ). get_or bytes k 0) (add-zero at), get_or-drop at bytes 1 0)
