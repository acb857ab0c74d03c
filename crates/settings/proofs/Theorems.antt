-- P1's promises of the two calls, proved: the laws of any version in any table (Promises.antt), at version 1 and for what the calls' contracts
-- allow.
use Rattle.std.specs.Prelude.{ℕ, ◌≡◌, refl, true, not, List, ◌++◌, eqb, length, take, drop, replicate}
use Rattle.std.proofs.Common.{sym, ap, subst, ◌∙◌, inl, inr, arith, drop_at, eqb-true}
use Rattle.std.proofs.lemmas.Bool.{eqb-false, not-true, not-false}
use Rattle.scope.specs.Geometry.{Geometry, accepted}
use Rattle.scope.proofs.Decided.{accepted_decided}
use Rattle.settings.specs.Fields.{ACCEPTED, GEOMETRY, PLACE}
use Rattle.settings.specs.Settings.{version_1, versions, numbers_words, geometry_from, Answered, answered, read, written, record_bytes, write, tf_settings_read, tf_settings_write}
use Rattle.settings.specs.Laid.{Bytes, laid, IsRecord}
use Rattle.settings.specs.Kept.{ReadMade, WriteMade, ReadOneOutcome, WriteOneOutcome, ReadsEachRecord, ReadsRecordsAlone, WriteAnswers, LeftByRefusal, ReadRefused, WriteRefused, ReadGivesWhatWasWritten, OnlyRecordOfItsNumbers, WritingWhatWasReadGivesItBack, SkippedNeverMatters}
use Rattle.settings.proofs.Laws.Numbers.{bytes_dropped}
use Rattle.settings.proofs.Laws.Tests.{of_both, not_refused}
use Rattle.settings.proofs.Laws.Calls.{record_written, six_words_read}
use Rattle.settings.proofs.Laws.Reader.{same_outcome, did_not_accept}
use Rattle.settings.proofs.Promises.{RecordOf, written_is_read, written_alone_is_read, first_bytes_are_written, only_record, refusal_gives_zeros, version_1_writable, record_1_has_36_bytes, written_1_has_36_bytes, higher_fields_may_follow, higher_fields_followed, accepted_was_version_1}

-- ---- one outcome

pub read_one_outcome : ReadOneOutcome
read_one_outcome bytes numbers numbers' numbers₁ r r₁ e e₁ = same_outcome (e ∙ sym e₁)

pub write_one_outcome : WriteOneOutcome
write_one_outcome g place place' place₁ r r₁ e e₁ = same_outcome (e ∙ sym e₁)

-- ---- the calls, as the reader and the writer

-- What was accepted was read into six words, and is a record of version 1.
record ReadByTable (bytes numbers numbers' : List ℕ) : Type 0 where
  six : length numbers ≡ 6
  its_record : RecordOf version_1 bytes numbers'

was_read : (bytes numbers numbers' : List ℕ) → Bytes bytes → ReadMade bytes numbers 0 numbers' → ReadByTable bytes numbers numbers'
unfolding tf_settings_read
was_read bytes numbers numbers' b e =
    let (six, accepts) = not_refused (not (eqb (length numbers) numbers_words)) (did_not_accept PLACE (omega arith)) (sym e) in
    record {
      six = eqb-true (length numbers) numbers_words (not-false (eqb (length numbers) numbers_words) six);
      its_record = accepted_was_version_1 bytes numbers' b accepts;
    }

-- To 36 bytes the call writes the record of an accepted geometry.
writes : (g : Geometry) (place : List ℕ) → accepted g ≡ true → length place ≡ 36
    → tf_settings_write g place ≡ answered ACCEPTED (written version_1 g)
writes g place a l = record_written version_1 g place a (l ∙ sym record_1_has_36_bytes)

-- Where it answered 0, it did.
record Written (g : Geometry) (place place' : List ℕ) : Type 0 where
  is_accepted : accepted g ≡ true
  room : length place ≡ 36
  holds : place' ≡ written version_1 g

wrote : (g : Geometry) (place place' : List ℕ) → WriteMade g place 0 place' → Written g place place'
unfolding write
wrote g place place' e =
    let (is_accepted, e1) = not_refused (not (accepted g)) (did_not_accept GEOMETRY (omega arith)) (sym e) in
    let (room, e2) = not_refused (not (eqb (length place) (record_bytes version_1))) (did_not_accept PLACE (omega arith)) e1 in
    record {
      is_accepted = not-false (accepted g) is_accepted;
      room = eqb-true (length place) (record_bytes version_1) (not-false (eqb (length place) (record_bytes version_1)) room) ∙ record_1_has_36_bytes;
      holds = sym (same_outcome e2).1;
    }

-- ---- what is accepted

pub reads_each_record : ReadsEachRecord
reads_each_record bytes numbers numbers' r x six e =
    same_outcome
    (e ∙ six_words_read bytes numbers six
    ∙ ap (read versions) x.laid_out
    ∙ written_is_read versions version_1 x.of (laid x.skipped) version_1_writable ((accepted_decided x.of).passes x.is_accepted) (higher_fields_may_follow x.skipped x.higher))

laid_record : (bytes numbers : List ℕ) → Bytes bytes → RecordOf version_1 bytes numbers → IsRecord bytes
laid_record bytes numbers b r =
    let (fields, higher, e) = higher_fields_followed r.tail (subst Bytes its_tail (bytes_dropped 36 bytes b)) r.follows in
    record {
      of = geometry_from numbers;
      is_accepted = (accepted_decided (geometry_from numbers)).holds r.is_accepted;
      skipped = fields;
      higher = higher;
      laid_out = r.whole ∙ ap (λ (l : List ℕ). written version_1 (geometry_from numbers) ++ l) e;
    }
  where
    its_tail : drop 36 bytes ≡ r.tail
    its_tail = ap (drop 36) r.whole ∙ drop_at (written version_1 (geometry_from numbers)) r.tail 36 (written_1_has_36_bytes (geometry_from numbers))

pub reads_records_alone : ReadsRecordsAlone
reads_records_alone bytes numbers numbers' b e =
    let w : ReadByTable bytes numbers numbers' = was_read bytes numbers numbers' b e in
    (w.six, laid_record bytes numbers' b w.its_record)

pub write_answers : WriteAnswers
write_answers g place place' r e = (
  λ z. let w : Written g place place' = wrote g place place' (subst (λ (n : ℕ). WriteMade g place n place') z e) in ((accepted_decided g).holds w.is_accepted, w.room),
  λ h. (same_outcome (e ∙ writes g place ((accepted_decided g).passes h.0) h.1)).0,
)

-- ---- what was written is read

pub read_gives_what_was_written : ReadGivesWhatWasWritten
read_gives_what_was_written g place place' numbers numbers' r w six e =
    let wr : Written g place place' = wrote g place place' w in
    same_outcome
    (e ∙ six_words_read place' numbers six
    ∙ ap (read versions) wr.holds
    ∙ written_alone_is_read versions version_1 g version_1_writable wr.is_accepted)

-- ---- what was read is as it is written

its_36_bytes : (bytes numbers numbers' : List ℕ) → Bytes bytes → length bytes ≡ 36 → ReadMade bytes numbers 0 numbers'
    → bytes ≡ written version_1 (geometry_from numbers')
its_36_bytes bytes numbers numbers' b l e =
    only_record version_1 bytes numbers' refl (was_read bytes numbers numbers' b e).its_record (l ∙ sym record_1_has_36_bytes)

pub only_record_of_its_numbers : OnlyRecordOfItsNumbers
only_record_of_its_numbers bytes bytes₁ numbers numbers₁ x b b₁ l l₁ e e₁ =
    its_36_bytes bytes numbers x b l e ∙ sym (its_36_bytes bytes₁ numbers₁ x b₁ l₁ e₁)

pub writing_what_was_read_gives_it_back : WritingWhatWasReadGivesItBack
writing_what_was_read_gives_it_back bytes numbers numbers' place place' r b l e room w =
    same_outcome
    (w ∙ writes (geometry_from numbers') place (was_read bytes numbers numbers' b e).its_record.is_accepted room
    ∙ ap (answered ACCEPTED) (sym (its_36_bytes bytes numbers numbers' b l e)))

-- ---- what is skipped

pub skipped_never_matters : SkippedNeverMatters
skipped_never_matters bytes numbers numbers₁ x x₁ fields r b e h six e₁ =
    same_outcome
    (e₁ ∙ six_words_read (take 36 bytes ++ laid fields) numbers₁ six
    ∙ ap (λ (l : List ℕ). read versions (l ++ laid fields)) first_36
    ∙ written_is_read versions version_1 (geometry_from x) (laid fields) version_1_writable of.is_accepted (higher_fields_may_follow fields h)
    ∙ ap (answered ACCEPTED) of.its_numbers)
  where
    of : RecordOf version_1 bytes x
    of = (was_read bytes numbers x b e).its_record

    first_36 : take 36 bytes ≡ written version_1 (geometry_from x)
    first_36 = subst (λ (n : ℕ). take n bytes ≡ written version_1 (geometry_from x)) record_1_has_36_bytes (first_bytes_are_written version_1 bytes x refl of)

-- ---- refusals

pub read_refused : ReadRefused
unfolding tf_settings_read
read_refused bytes numbers numbers' r e h =
    of_both (λ (a : Answered). answered r numbers' ≡ a → LeftByRefusal numbers r numbers') (not (eqb (length numbers) numbers_words))
    (λ b e. inl ((same_outcome e).0, eqb-false (length numbers) 6 (not-true (eqb (length numbers) 6) b), (same_outcome e).1))
    (λ b e. inr (eqb-true (length numbers) 6 (not-false (eqb (length numbers) 6) b), zeros e))
    e
  where
    zeros : answered r numbers' ≡ read versions bytes → numbers' ≡ replicate 6 0
    zeros e = (same_outcome e).1 ∙ refusal_gives_zeros versions bytes (λ z. h ((same_outcome e).0 ∙ z))

pub write_refused : WriteRefused
unfolding write
write_refused g place place' r e h =
    of_both Left (not (accepted g)) (λ b e. (same_outcome e).1)
    (λ b. of_both Left (not (eqb (length place) (record_bytes version_1))) (λ b e. (same_outcome e).1) (λ b e. absurd (h (same_outcome e).0)))
    e
  where
    Left : Answered → Type 0
    Left a = answered r place' ≡ a → place' ≡ place
