-- The reader's parts put together: the row of a version, what may follow its fields, and the whole record.
use Rattle.std.specs.Prelude.{ℕ, zero, suc, ◌≡◌, refl, Bool, true, false, List, [], ◌∷◌, map, length, get_or, Option, Some, None, ok_or, Ok, Err}
use Rattle.std.specs.Borrow.{Bor}
use Rattle.std.proofs.Common.{sym, ◌∙◌, arith}
use Rattle.std.proofs.Math.Path.{ap}
use Rattle.std.proofs.Math.Option.{Option as Row}
use Rattle.lent.specs.declared.Geometry.{Geometry as GeometryOf}
use Rattle.lent.specs.Model.{geometry}
use Rattle.scope.specs.Geometry.{accepted}
use Rattle.settings.specs.Fields.{Reading, Numbers, Refused, AFTER, GEOMETRY, ACCEPTED, fields_read, whole_fields}
use Rattle.settings.specs.Settings.{Version, version_field, versions, version_of, last_tag, may_follow, numbers_of, answered, refused, by_version, by_table, ended, read}
use Rattle.fields.specs.declared.Field.{Field as FieldOf}
use Rattle.fields.specs.declared.Version.{Version as VersionOf}
use Rattle.fields.specs.declared.refusal.Refusal.{Refusal}
use Rattle.fields.specs.declared.refusal.Refusal.TheVariants.{Version as UnknownVersion}
use Rattle.fields.specs.Model.{field, version, row, refusal, Next}

-- The last tag of a table, and so of one with six rows.
last_tag_of_rows : (n : ℕ) (fs : List FieldOf) (k : ℕ) (d : FieldOf) → length fs ≡ suc k → last_tag n (map field fs) ≡ (get_or fs k d).tag
unfolding last_tag
last_tag_of_rows n [] k d e = absurd (omega (arith, e))
last_tag_of_rows n (f ∷ []) zero d e = refl
last_tag_of_rows n (f ∷ []) (suc k) d e = absurd (omega (arith, e))
last_tag_of_rows n (f ∷ f' ∷ fs) zero d e = absurd (omega (arith, e))
last_tag_of_rows n (f ∷ f' ∷ fs) (suc k) d e = last_tag_of_rows f.tag (f' ∷ fs) k d (omega (arith, e))

-- An answer that is `may_follow` of every version with a row's last tag and its `more` is that of the row.
pub row_follows : (v : VersionOf) (bytes : List ℕ) (d : FieldOf) {b : Bool} → length v.fields ≡ 6
    → ((w : Version) → w.more ≡ v.more → last_tag 0 w.fields ≡ (get_or v.fields 5 d).tag → b ≡ may_follow w bytes)
    → b ≡ may_follow (version v) bytes
row_follows v bytes d n follows = follows (version v) refl (last_tag_of_rows 0 v.fields 5 d n)

-- Where more may follow a row's fields: whole fields alone, of tags above its last.
pub fields_follow : (v : VersionOf) (bytes : List ℕ) (d : FieldOf) → v.more ≡ true → length v.fields ≡ 6
    → whole_fields (get_or v.fields 5 d).tag 0 bytes ≡ may_follow (version v) bytes
fields_follow v bytes d m n =
    rw m (ap (λ (last : ℕ). whole_fields last 0 bytes) (sym (last_tag_of_rows 0 v.fields 5 d n)))

-- The record behind its version's field, behind the fields of its version, and behind the tests there.
module _ (bytes : List ℕ) where
  pub read_refused : {r : Refusal} → Next bytes version_field (Err r) → refused (refusal r) ≡ read versions bytes
  unfolding read
  read_refused n = ap (by_version versions) (sym (n.is []))

  module _ {n : ℕ} {rest : Bor (List ℕ)} (first : Next bytes version_field (Ok (n, rest))) where
    pub by_row : (o : Row Version) → o ≡ version_of versions n → by_table o rest.now ≡ read versions bytes
    unfolding read
    by_row o e = ap (λ (o : Row Version). by_table o rest.now) e ∙ ap (by_version versions) (sym (first.is []))

    pub unknown_refused : (o : Option VersionOf) (r : Refusal) → row o ≡ version_of versions n → Err r ≡ ok_or o UnknownVersion
        → refused (refusal r) ≡ read versions bytes
    unknown_refused None r known e =
        let unknown : r ≡ UnknownVersion = cc in
        ap (λ (r : Refusal). refused (refusal r)) unknown ∙ by_row (row None) known
    unknown_refused (Some v) r known e = let apart : ⊥ = cc in absurd apart

    -- The row that was found.
    is_row : (o : Option VersionOf) (v : VersionOf) → row o ≡ version_of versions n → Ok v ≡ ok_or o UnknownVersion
        → row (Some v) ≡ version_of versions n
    is_row None v known e = let apart : ⊥ = cc in absurd apart
    is_row (Some w) v known e = let same : v ≡ w = cc in ap (λ (v : VersionOf). row (Some v)) same ∙ known

    module _ (o : Option VersionOf) (v : VersionOf) (known : row o ≡ version_of versions n) (found : Ok v ≡ ok_or o UnknownVersion) where
      pub by_fields : (r : Reading) → fields_read (version v).fields (Numbers [] rest.now) ≡ r → ended (version v) r ≡ read versions bytes
      by_fields r e = ap (ended (version v)) (sym e) ∙ by_row (row (Some v)) (is_row o v known found)

      pub fields_refused : (r : Refusal) → fields_read (version v).fields (Numbers [] rest.now) ≡ Refused (refusal r)
          → refused (refusal r) ≡ read versions bytes
      fields_refused r e = by_fields (Refused (refusal r)) e

      module _ (numbers : List ℕ) (behind : List ℕ) (all : fields_read (version v).fields (Numbers [] rest.now) ≡ Numbers numbers behind) where
        pub other_bytes_refused : may_follow (version v) behind ≡ false → refused AFTER ≡ read versions bytes
        other_bytes_refused f = let e = by_fields (Numbers numbers behind) all in rw f at e

        module _ (f : may_follow (version v) behind ≡ true) (g : GeometryOf) (six : numbers_of (geometry g) ≡ numbers) where
          pub geometry_refused : accepted (geometry g) ≡ false → refused GEOMETRY ≡ read versions bytes
          geometry_refused a = let e = by_fields (Numbers (numbers_of (geometry g)) behind) (all ∙ ap (λ (l : List ℕ). Numbers l behind) (sym six)) in
              rw (f, a) at e

          pub all_accepted : accepted (geometry g) ≡ true → answered ACCEPTED (numbers_of (geometry g)) ≡ read versions bytes
          all_accepted a = let e = by_fields (Numbers (numbers_of (geometry g)) behind) (all ∙ ap (λ (l : List ℕ). Numbers l behind) (sym six)) in
              rw (f, a) at e
