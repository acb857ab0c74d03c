-- What the requests of a run keep, one after the other: the state stays sound, what is lent keeps its lengths, and each costs little.
use Prim.Native.Nat.{ℕ, zero, suc, ◌+◌, ◌*◌, ◌≤◌}
use Rattle.std.specs.Prelude.{◌≡◌, List, [], length}
use Rattle.std.proofs.Math.Path.{refl}
use Rattle.std.proofs.Common.{ap, ◌∙◌, arith, length-set}
use Rattle.std.proofs.Math.ListN.{get_or}
use Rattle.std.proofs.Math.Seq.{length-sets}
use Rattle.flash.specs.Moments.{cost}
use Rattle.flash.specs.Listed.{cost_none, cost_++}
use Rattle.flash.specs.Lengths.{Lengths}
use Rattle.scope.specs.Geometry.{Geometry, Accepted}
use Rattle.scope.specs.Lent.{State, Request}
use Rattle.scope.specs.Sound.{Sound}
use Rattle.scope.specs.Operations.{Outcome, give, ◌>>=◌}
use Rattle.scope.specs.Calls.{RunReplied, part, no_request, answer_record, serve_record, serve_records}
use Rattle.promises.specs.Remembered.{held}
use Rattle.promises.proofs.Records.{record_stores}
use Rattle.promises.proofs.RunStands.{record_stands}
use Rattle.words.specs.Runs.{length_part}
use Rattle.geometry.specs.Sizes.{piece_inside}
use Rattle.admission.specs.Room.{most_cost, write_few}

record Keeps {A : Type 0} (g : Geometry) (bound : ℕ) (o : Outcome A) : Type 0 where
  sound : Sound g o.after
  lengths : Lengths g o.after
  few : cost o.did ≤ bound

-- The same of what is lent: `words` and `answers` stand for lists as long.
pub record KeepsLent (g : Geometry) (words answers : List ℕ) (bound : ℕ) (o : Outcome RunReplied) : Type 0 where
  pub sound : Sound g o.after
  pub lengths : Lengths g o.after
  pub few : cost o.did ≤ bound
  pub words_long : length o.value.words ≡ length words
  pub answers_long : length o.value.answers ≡ length answers

module _ {g : Geometry} (ok : Accepted g) where
  -- ---- one request

  answer_keeps : (q : Request) (buffer : List ℕ) (s : State) → Lengths g s → Sound g s → length buffer ≡ g.W
      → Keeps g most_cost (answer_record g q buffer s)
  answer_keeps q buffer s len sound long =
      let stands = record_stands ok q buffer {store = held g s} (record { sound = sound; lengths = len; holds = λ l h. refl }) long in
      let after = stands.leaves.stands in
      record { sound = after.sound; lengths = after.lengths; few = omega (arith, stands.costs, write_few ok) }

  record_keeps : (i : ℕ) (q : Request) (lent : RunReplied) (s : State) → Lengths g s → Sound g s
      → i * g.W + g.W ≤ length lent.words
      → KeepsLent g lent.words lent.answers most_cost (serve_record g i q lent s)
  record_keeps i q lent s len sound fits =
      let a = answer_record g q (part g i lent.words) s in
      let kept = answer_keeps q (part g i lent.words) s len sound (length_part lent.words (i * g.W) g.W fits) in
      let stored = record_stores g i q lent s in
      record {
        sound = rw stored.state kept.sound;
        lengths = rw stored.state kept.lengths;
        few = rw stored.operations (omega (arith, cost_++ a.did [], cost_none, kept.few));
        words_long = ap length stored.words ∙ length-sets lent.words (i * g.W) a.value.buffer;
        answers_long = ap length stored.answers ∙ length-set lent.answers i a.value.reply;
      }

  -- ---- the first n

  module _ (requests : List Request) (lent : RunReplied) (s : State) (len : Lengths g s) (sound : Sound g s) (m : ℕ)
      (fits : length lent.words ≡ m * g.W) where
    pub records_keep : (n : ℕ) → n ≤ m
        → KeepsLent g lent.words lent.answers (n * most_cost) (serve_records g requests n lent s)
    unfolding serve_records give ◌>>=◌
    records_keep zero h =
        record { sound = sound; lengths = len; few = omega (arith, cost_none); words_long = refl; answers_long = refl }
    records_keep (suc n) h =
        let before = records_keep n (omega arith) in
        let b = serve_records g requests n lent s in
        let q = get_or requests n no_request in
        let one = record_keeps n q b.value b.after before.lengths before.sound
        (omega (arith, before.words_long, piece_inside g.W m n h)) in
        record {
          sound = one.sound;
          lengths = one.lengths;
          few = omega (arith, cost_++ b.did (serve_record g n q b.value b.after).did, before.few, one.few);
          words_long = one.words_long ∙ before.words_long;
          answers_long = one.answers_long ∙ before.answers_long;
        }
