-- A number and its bytes, most significant first: each is had from the other, for as many bytes as there are.
use Rattle.std.specs.Prelude.{ℕ, zero, suc, ◌+◌, ◌*◌, ◌/◌, ◌%◌, ◌^◌, ◌≤◌, ◌<◌, ◌≡◌, refl, List, [], ◌∷◌, ◌++◌, length, get_or, take, drop}
use Rattle.std.proofs.Common.{sym, ap, ap₂, subst, ◌∙◌, pow-suc, div-lt_iff_lt-mul, div-add-mod', zero-lt-suc, arith, length-append, take-suc, get_or-drop}
use Rattle.std.proofs.Math.Arith.{digits_div, digits_mod}
use Rattle.std.proofs.Math.Seq.{append_snoc}
use Rattle.std.proofs.lemmas.List.{get_or_at}
use Rattle.settings.specs.Fields.{number, bytes_of}
use Rattle.settings.specs.Laid.{Bytes}

pub length_bytes_of : (n x : ℕ) → length (bytes_of n x) ≡ n
unfolding bytes_of
length_bytes_of zero x = refl
length_bytes_of (suc n) x = length-append (bytes_of n (x / 256)) (x % 256 ∷ []) ∙ ap (λ (k : ℕ). k + 1) (length_bytes_of n (x / 256)) ∙ omega arith

-- A number that n bytes can hold is what its n bytes make, whatever follows them.
pub number_of_its_bytes : (n x : ℕ) (rest : List ℕ) → x < 256 ^ n → number n (bytes_of n x ++ rest) ≡ x
unfolding number bytes_of
number_of_its_bytes zero x rest h = omega arith
number_of_its_bytes (suc n) x rest h =
    ap (λ (bytes : List ℕ). number n bytes * 256 + get_or bytes n 0) (append_snoc (bytes_of n (x / 256)) (x % 256) rest)
    ∙ ap₂ (λ (high low : ℕ). high * 256 + low)
    (number_of_its_bytes n (x / 256) (x % 256 ∷ rest) ((div-lt_iff_lt-mul (zero-lt-suc 255)).1 (subst (λ (m : ℕ). x < m) (pow-suc 256 n) h)))
    (get_or_at (bytes_of n (x / 256)) (x % 256) rest 0 n (length_bytes_of n (x / 256)))
    ∙ div-add-mod' x 256

-- The number that n bytes make has those for its bytes.
pub bytes_of_their_number : (n : ℕ) (bytes : List ℕ) → Bytes bytes → n ≤ length bytes → bytes_of n (number n bytes) ≡ take n bytes
unfolding number bytes_of
bytes_of_their_number zero bytes b h = refl
bytes_of_their_number (suc n) bytes b h =
    ap₂ (λ (high low : ℕ). bytes_of n high ++ low ∷ []) (digits_div (number n bytes) (b n)) (digits_mod (number n bytes) (b n))
    ∙ ap (λ (l : List ℕ). l ++ get_or bytes n 0 ∷ []) (bytes_of_their_number n bytes b (omega arith))
    ∙ sym (take-suc bytes n 0 h)

pub bytes_dropped : (n : ℕ) (bytes : List ℕ) → Bytes bytes → Bytes (drop n bytes)
bytes_dropped n bytes b i = subst (λ (x : ℕ). x < 256) (sym (get_or-drop n bytes i 0)) (b (n + i))
