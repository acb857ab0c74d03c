-- A request's steps, whatever its kind: what they hand back from any state, and what they promise from a sound one. The demands go by these
-- two laws alone, for a record of a run and for the request that a single call is, so that a kind more is a case of them and of nothing else.
use Rattle.std.specs.Prelude.{ℕ, zero, suc, ◌+◌, ◌*◌, ◌≤◌, ◌<◌, ◌≡◌, refl, ◌≢◌, ◌⊎◌, List, eqb, length}
use Rattle.std.proofs.Common.{inl, inr, ⊎_elim, arith, length-take}
use borrow.Author.Tests.{eqb-true, eqb-false, eq-eqb, ne_eqb}
use Rattle.scope.specs.Geometry.{Geometry, Accepted}
use Rattle.scope.specs.Lent.{Entry, Place, Nowhere, decode, State, Request, physical_at}
use Rattle.scope.specs.Sound.{Sound}
use Rattle.scope.specs.Operations.{Operation, Outcome, give, look, ◌>>=◌}
use Rattle.scope.specs.Room.{read_page}
use Rattle.scope.specs.Steps.{translate}
use Rattle.scope.specs.Replies.{DONE, UNWRITTEN}
use Rattle.scope.specs.Requests.{Replied, read_place, read_steps, write_steps}
use Rattle.scope.specs.Calls.{kinds, serve}
use Rattle.flash.specs.Cases.{on, same?}
use Rattle.flash.specs.Lengths.{Lengths}
use Rattle.flash.specs.Moments.{cost}
use Rattle.region.specs.Done.{Done}
use Rattle.promises.specs.Remembered.{Store, with_words, noted_record, held, Tells}
use Rattle.promises.specs.Bounds.{write_bound, ServesWell}
use Rattle.promises.specs.Keeping.{Kept, kept_contents}
use Rattle.promises.specs.HeldWords.{held_same}
use Rattle.promises.specs.Read.{read_law}
use Rattle.promises.specs.Write.{write_law}

-- ---- from any state

-- "The words of an UNWRITTEN or refused read stay", and so do a write's.
pub record HandsBack (g : Geometry) (q : Request) (buffer : List ℕ) (r : Replied) : Type 0 where
  pub within : r.reply ≤ UNWRITTEN
  pub at_most : length buffer ≤ g.W → length r.buffer ≤ g.W
  pub keeps : (r.reply ≢ DONE) ⊎ (q.kind ≢ 0) → r.buffer ≡ buffer
  pub write_done : q.kind ≡ 1 → r.reply ≡ DONE

place_hands_back : (g : Geometry) (q : Request) (buffer : List ℕ) (e : Entry) (s : State) → q.kind ≡ 0
    → HandsBack g q buffer (read_place g buffer e s).value
unfolding read_place read_page give look ◌>>=◌
place_hands_back g q buffer (Place p) s kind =
    record {
      within = omega arith;
      at_most = λ h. simp length-take (omega arith);
      keeps = ⊎_elim (λ n. absurd (n refl)) (λ n. absurd (n kind));
      write_done = λ k. absurd (omega arith);
    }
place_hands_back g q buffer Nowhere s kind =
    record { within = omega arith; at_most = λ h. h; keeps = λ _. refl; write_done = λ k. absurd (omega arith) }

read_hands_back : (g : Geometry) (q : Request) (buffer : List ℕ) (s : State) → q.kind ≡ 0
    → HandsBack g q buffer (read_steps g q.page buffer s).value
unfolding read_steps look ◌>>=◌
read_hands_back g q buffer s kind =
    let t = translate g q.page s in
    place_hands_back g q buffer (decode (physical_at t.value t.after.cache)) t.after kind

write_hands_back : (g : Geometry) (q : Request) (buffer : List ℕ) (s : State)
    → HandsBack g q buffer (write_steps g q.page buffer s).value
unfolding write_steps give ◌>>=◌
write_hands_back g q buffer s =
    record { within = omega arith; at_most = λ h. h; keeps = λ _. refl; write_done = λ _. refl }

pub serve_hands_back : (g : Geometry) (q : Request) (buffer : List ℕ) (s : State) → HandsBack g q buffer (serve g q buffer s).value
unfolding serve
serve_hands_back g q buffer s =
    on (eqb q.kind 0)
    (λ e. rw e (read_hands_back g q buffer s (eqb-true q.kind 0 e)))
    (λ e. rw e (write_hands_back g q buffer s))

-- ---- from a sound state

-- The state stays sound, each operation is allowed at its moment, there are at most as many as a write may make, a read tells what its page
-- holds, and each page then holds what is noted of the answer.
pub record Serves (g : Geometry) (q : Request) (buffer : List ℕ) (s : State) (o : Outcome Replied) : Type 0 where
  pub sound : Sound g o.after
  pub lengths : Lengths g o.after
  pub done : Done g s o.did o.after
  pub costs : cost o.did ≤ write_bound g
  pub well : ServesWell g q o.value.reply o.did
  pub tells : q.kind ≡ 0 → Tells (held g s q.page) o.value.reply o.value.buffer
  pub holds : (l : ℕ) → l < g.L → held g o.after l ≡ noted_record q buffer o.value.reply (held g s) l

-- Of a kind that is none demand 3 asks nothing.
pub no_kind_well : (g : Geometry) (q : Request) (reply : ℕ) (did : List Operation) → kinds ≤ q.kind → ServesWell g q reply did
no_kind_well g q reply did h = record { as_read = λ k. absurd (omega arith); as_write = λ k. absurd (omega arith) }

-- What an answer does to the store: nothing, but for a write that answered DONE.
not_noted : (q : Request) (words : List ℕ) (reply : ℕ) (store : Store) → q.kind ≢ 1 → noted_record q words reply store ≡ store
not_noted q words reply store k = rw (ne_eqb q.kind 1 k)

is_noted : (q : Request) (words : List ℕ) (reply : ℕ) (store : Store) → q.kind ≡ 1 → reply ≡ DONE
    → noted_record q words reply store ≡ with_words q.page words store
is_noted q words reply store k e = rw (eq-eqb q.kind 1 k, eq-eqb reply DONE e)

-- A read costs at most what a write does.
read_within_write : (P : ℕ) → 1 ≤ P → 2 * P + 3 ≤ (2 * P + 1) * (P + 1)
read_within_write zero h = absurd (omega arith)
read_within_write (suc p) h = omega arith

module _ {g : Geometry} (ok : Accepted g) (q : Request) (buffer : List ℕ) (s : State) (len : Lengths g s) (sound : Sound g s)
    (below : q.page < g.L) where
  -- Steps that keep every page where it is keep what it holds.
  kept_held : {A : Type 0} {bound : ℕ} {o : Outcome A} → Kept g bound s o → (l : ℕ) → l < g.L → held g o.after l ≡ held g s l
  kept_held {o = o} kept l h = held_same ok s o.after len kept.lengths sound kept.sound l h (kept_contents sound kept l h)

  read_serves : q.kind ≡ 0 → Serves g q buffer s (read_steps g q.page buffer s)
  read_serves kind =
      let o = read_steps g q.page buffer s in
      let law = read_law ok q.page buffer s len sound below in
      let kept = law.kept in
      record {
        sound = kept.sound;
        lengths = kept.lengths;
        done = kept.done;
        costs = omega (arith, kept.costs, read_within_write g.P ok.P_from);
        well = record {
          as_read = λ _. (⊎_elim (λ d. inl d.0) (λ d. inr d.0) law.tells, kept.costs);
          as_write = λ k. absurd (omega arith);
        };
        tells = λ _. law.tells;
        holds = λ l h. rw (not_noted q buffer o.value.reply (held g s) (omega arith)) (kept_held kept l h);
      }

  write_serves : q.kind ≡ 1 → length buffer ≡ g.W → Serves g q buffer s (write_steps g q.page buffer s)
  write_serves kind long =
      let o = write_steps g q.page buffer s in
      let law = write_law ok q.page buffer s len sound below long in
      let is_done = (write_hands_back g q buffer s).write_done kind in
      record {
        sound = law.sound;
        lengths = law.lengths;
        done = law.done;
        costs = law.costs;
        well = record { as_read = λ k. absurd (omega arith); as_write = λ _. (is_done, law.costs) };
        tells = λ k. absurd (omega arith);
        holds = λ l h. rw (is_noted q buffer o.value.reply (held g s) kind is_done)
            (same? l q.page
            (λ e. rw (eq-eqb l q.page e, e) law.written)
            (λ e. rw (ne_eqb l q.page e) (law.keeps l h e)));
      }

  pub serve_law : q.kind < kinds → length buffer ≡ g.W → Serves g q buffer s (serve g q buffer s)
  unfolding serve
  serve_law kind long =
      on (eqb q.kind 0)
      (λ e. rw e (read_serves (eqb-true q.kind 0 e)))
      (λ e. rw e (write_serves (omega (arith, eqb-false q.kind 0 e)) long))
