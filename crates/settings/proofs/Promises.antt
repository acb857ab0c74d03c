-- 02, P1: "Writing then reading gives the same numbers. An accepted record without higher tags is the only one for its numbers." Said of
-- any version in any table, from what its row must have; so a further version has them once that is shown of its row.
use Rattle.std.specs.Prelude.{ℕ, ◌+◌, ◌*◌, ◌-◌, ◌^◌, ◌≤◌, ◌<◌, ◌≡◌, refl, ◌≢◌, true, List, [], ◌++◌, length, take, drop, replicate}
use Rattle.std.proofs.Common.{sym, ap, ap₂, subst, ◌∙◌, append_assoc, append-nil, mul-le-mul, arith, length-append, take_all, take_at}
use Rattle.std.proofs.Math.Option.{Option, some}
use Rattle.scope.specs.Geometry.{Geometry, Accepted, accepted, most_blocks, most_pages_in_block}
use Rattle.scope.proofs.Decided.{accepted_decided}
use Rattle.settings.specs.Fields.{head_bytes, field_bytes, number, Numbers, ACCEPTED, next, fields_read, whole_fields, field_written, fields_written, bytes_in}
use Rattle.settings.specs.Settings.{Version, version_field, version_1, versions, version_of, last_tag, may_follow, numbers_of, numbers_words, geometry_from, answered, ended, by_table, by_version, read, written, record_bytes}
use Rattle.settings.specs.Laid.{Bytes, Skipped, laid, Higher}
use Rattle.settings.proofs.Laws.Tests.{of_both}
use Rattle.settings.proofs.Laws.Numbers.{bytes_dropped}
use Rattle.settings.proofs.Laws.Reader.{ended_accepts, next_says_why, fields_read_say_why, Ended, ended_accepted, table_accepted, version_accepted, Each, found_is_one, numbers_of_their_geometry, version_zeros}
use Rattle.settings.proofs.Laws.Skipped.{laid_is_whole, WasLaid, whole_was_laid}
use Rattle.settings.proofs.Laws.Fields.{Fits, length_field_written, length_fields_written, Whole, whole_is_read, read_was_whole, whole_is_written, written_field_is_read, written_fields_are_read, WasWritten, read_fields_were_written}

-- What a version's row must have: the reader finds it under its number, which one byte holds, and it has a field for each of the six
-- numbers, in which that number of any accepted geometry has room.
pub record Writable (known : List Version) (v : Version) : Type 0 where
  pub found : version_of known v.number ≡ some v
  pub number_fits : v.number < 256 ^ version_field.bytes
  pub one_each : length v.fields ≡ numbers_words
  pub numbers_fit : (g : Geometry) → Accepted g → Fits v.fields (numbers_of g)

-- ---- writing then reading

pub length_written : (v : Version) (g : Geometry) → length v.fields ≡ numbers_words → length (written v g) ≡ record_bytes v
unfolding written
length_written v g e =
    length-append (field_written version_field v.number) (fields_written v.fields (numbers_of g))
    ∙ ap₂ ◌+◌ (length_field_written version_field v.number) (length_fields_written v.fields (numbers_of g) (sym e))

pub written_is_read : (known : List Version) (v : Version) (g : Geometry) (tail : List ℕ) → Writable known v → accepted g ≡ true
    → may_follow v tail ≡ true → read known (written v g ++ tail) ≡ answered ACCEPTED (numbers_of g)
unfolding read written
written_is_read known v g tail w a f =
    ap (λ (l : List ℕ). by_version known (next version_field (Numbers [] l))) (append_assoc (field_written version_field v.number) fields tail)
    ∙ ap (by_version known) (written_field_is_read version_field v.number [] (fields ++ tail) (omega arith) w.number_fits)
    ∙ ap (λ (o : Option Version). by_table o (fields ++ tail)) w.found
    ∙ ap (ended v) (written_fields_are_read v.fields (numbers_of g) [] tail (w.numbers_fit g ((accepted_decided g).holds a)))
    ∙ ended_accepts v (numbers_of g) tail f a
  where
    fields : List ℕ
    fields = fields_written v.fields (numbers_of g)

pub nothing_may_follow : (v : Version) → may_follow v [] ≡ true
unfolding whole_fields
nothing_may_follow v = of_both (λ b. b ≡ true) v.more (λ e. refl) (λ e. refl)

-- The case that nothing follows it.
pub written_alone_is_read : (known : List Version) (v : Version) (g : Geometry) → Writable known v → accepted g ≡ true
    → read known (written v g) ≡ answered ACCEPTED (numbers_of g)
written_alone_is_read known v g w a =
    ap (read known) (sym (append-nil (written v g))) ∙ written_is_read known v g [] w a (nothing_may_follow v)

-- ---- what an accepted record is

-- The record of an accepted geometry, which has these numbers, and behind it only what may follow.
pub record RecordOf (v : Version) (bytes numbers : List ℕ) : Type 0 where
  pub is_accepted : accepted (geometry_from numbers) ≡ true
  pub its_numbers : numbers_of (geometry_from numbers) ≡ numbers
  pub tail : List ℕ
  pub whole : bytes ≡ written v (geometry_from numbers) ++ tail
  pub follows : may_follow v tail ≡ true

pub accepted_was_written : (known : List Version) (bytes numbers : List ℕ) → Each (Writable known) known → Bytes bytes
    → read known bytes ≡ answered ACCEPTED numbers
    → (v : Version) × (version_of known v.number ≡ some v) × RecordOf v bytes numbers
unfolding read written
accepted_was_written known bytes numbers each b e =
    let (before, rest, p) = version_accepted known (next version_field (Numbers [] bytes)) numbers (next_says_why version_field (Numbers [] bytes) tt) e in
    let w : Whole version_field bytes = read_was_whole version_field [] bytes before rest p in
    let (v, is-v, e1) = table_accepted (version_of known n) after numbers (ap (by_version known) (sym (whole_is_read version_field [] bytes w)) ∙ e) in
    by_its_table v is-v w (ended_accepted v (fields_read v.fields (Numbers [] after)) numbers (fields_read_say_why v.fields (Numbers [] after) tt) e1)
  where
    n : ℕ
    n = number version_field.bytes (drop head_bytes bytes)

    after : List ℕ
    after = drop (field_bytes version_field) bytes

    by_its_table : (v : Version) → version_of known n ≡ some v → Whole version_field bytes
        → Ended v (fields_read v.fields (Numbers [] after)) numbers
        → (v : Version) × (version_of known v.number ≡ some v) × RecordOf v bytes numbers
    by_its_table v is-v w end = (
      v,
      one.0.found,
      record {
        is_accepted = end.is_accepted;
        its_numbers = its;
        tail = end.tail;
        whole =
            sym (whole_is_written version_field bytes b w)
            ∙ ap₂ (λ (m : ℕ) (l : List ℕ). field_written version_field m ++ l) one.1 own.written
            ∙ ap (λ (l : List ℕ). field_written version_field v.number ++ (fields_written v.fields l ++ end.tail)) (sym (its ∙ own.behind))
            ∙ sym (append_assoc (field_written version_field v.number) (fields_written v.fields (numbers_of (geometry_from numbers))) end.tail);
        follows = end.follows;
      },
    )
      where
        one : Writable known v × (n ≡ v.number)
        one = found_is_one (Writable known) known n v each is-v

        own : WasWritten v.fields [] after numbers end.tail
        own = read_fields_were_written v.fields [] after numbers end.tail (bytes_dropped (field_bytes version_field) bytes b) end.all_read

        its : numbers_of (geometry_from numbers) ≡ numbers
        its = numbers_of_their_geometry numbers (ap length own.behind ∙ own.one_each ∙ one.0.one_each)

-- ---- the only record of its numbers

pub first_bytes_are_written : (v : Version) (bytes numbers : List ℕ) → length v.fields ≡ numbers_words → RecordOf v bytes numbers
    → take (record_bytes v) bytes ≡ written v (geometry_from numbers)
first_bytes_are_written v bytes numbers e r =
    ap (take (record_bytes v)) r.whole
    ∙ take_at (written v (geometry_from numbers)) r.tail (record_bytes v) (length_written v (geometry_from numbers) e)

pub only_record : (v : Version) (bytes numbers : List ℕ) → length v.fields ≡ numbers_words → RecordOf v bytes numbers
    → length bytes ≡ record_bytes v → bytes ≡ written v (geometry_from numbers)
only_record v bytes numbers e r l =
    sym (take_all (record_bytes v) bytes (omega arith)) ∙ first_bytes_are_written v bytes numbers e r

-- ---- a refusal

pub refusal_gives_zeros : (known : List Version) (bytes : List ℕ) → (read known bytes).answer ≢ ACCEPTED
    → (read known bytes).left ≡ replicate numbers_words 0
unfolding read
refusal_gives_zeros known bytes = version_zeros known (next version_field (Numbers [] bytes))

-- ---- version 1

-- L is bounded by a product, which no linear step sees.
most_L : (g : Geometry) → Accepted g → (g.D - 1) * g.P ≤ most_blocks * most_pages_in_block
most_L g a = mul-le-mul {n₁ = g.D - 1} {m₁ = g.P} {n₂ = most_blocks} {m₂ = most_pages_in_block} (omega (arith, a)) a.P_to

pub version_1_writable : Writable versions version_1
unfolding version_of
version_1_writable =
    record {
      found = refl;
      number_fits = omega arith;
      one_each = refl;
      numbers_fit = λ g a. omega (arith, a, most_L g a);
    }

pub record_1_has_36_bytes : record_bytes version_1 ≡ 36
unfolding bytes_in
record_1_has_36_bytes = refl

pub written_1_has_36_bytes : (g : Geometry) → length (written version_1 g) ≡ 36
written_1_has_36_bytes g = length_written version_1 g refl ∙ record_1_has_36_bytes

-- What may follow: whole fields of tags above 7, and nothing else.
pub higher_fields_may_follow : (fields : List Skipped) → Higher 7 fields → may_follow version_1 (laid fields) ≡ true
unfolding last_tag
higher_fields_may_follow fields h = laid_is_whole 7 fields h

pub higher_fields_followed : (tail : List ℕ) → Bytes tail → may_follow version_1 tail ≡ true
    → (fields : List Skipped) × Higher 7 fields × (tail ≡ laid fields)
unfolding last_tag
higher_fields_followed tail b e =
    let w : WasLaid 7 0 tail = whole_was_laid 7 0 tail b e in
    let nothing : take 0 w.ending ≡ w.ending = take_all 0 w.ending (omega (arith, w.as_many)) in
    (w.fields, w.higher, w.whole ∙ ap (λ (l : List ℕ). l ++ laid w.fields) (sym nothing))

pub accepted_was_version_1 : (bytes numbers : List ℕ) → Bytes bytes → read versions bytes ≡ answered ACCEPTED numbers
    → RecordOf version_1 bytes numbers
accepted_was_version_1 bytes numbers b e =
    let (v, found, r) = accepted_was_written versions bytes numbers (version_1_writable, tt) b e in
    subst (λ (v : Version). RecordOf v bytes numbers) (found_is_one (λ v. v ≡ version_1) versions v.number v (refl, tt) found).0 r
