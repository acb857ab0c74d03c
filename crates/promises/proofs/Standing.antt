-- A store stands by a state: the state is sound, its lists are long enough, and each logical page holds what the store says. Every
-- request and every call keeps that, with the store that its answer tells of.
use Rattle.std.specs.Prelude.{ℕ, ◌<◌, ◌≡◌, refl, ◌≢◌, cond, ◌&&◌, List, eqb, length}
use Rattle.std.proofs.Common.{sym, ◌∙◌, ap, subst, arith}
use borrow.Author.Tests.{ne_eqb}
use Rattle.scope.specs.Geometry.{Geometry, Accepted}
use Rattle.scope.specs.Lent.{decode, State, Request}
use Rattle.scope.specs.Operations.{Outcome, give, ◌>>=◌}
use Rattle.scope.specs.Replies.{DONE, UNWRITTEN, Size}
use Rattle.scope.specs.Requests.{replied, format_steps}
use Rattle.scope.specs.Calls.{state_sizes, read_of, write_of, serve, format, check, read, write}
use Rattle.scope.specs.Sound.{Sound}
use Rattle.flash.specs.Cases.{on, below?}
use Rattle.flash.specs.Lengths.{Lengths}
use Rattle.scope.specs.Laws.Applied.{flash_refl}
use Rattle.scope.proofs.AppliedSteps.{format_steps_applied}
use Rattle.region.specs.Done.{Done, done_none}
use Rattle.promises.specs.Grounds.{Right, AllPassed, request_grounds}
use Rattle.promises.specs.Remembered.{Nothing, Store, with_words, noted_record, words_at, held, Tells}
use Rattle.promises.specs.GroundsDecided.{kind_passed, page_passed, buffer_passed, own_passed}
use Rattle.promises.proofs.Refusals.{format_by_grounds, check_by_grounds, read_by_grounds, write_by_grounds}
use Rattle.promises.proofs.Serve.{Serves, serve_law}
use Rattle.promises.specs.Formatted.{format_sound, format_lengths, format_allowed, unwritten}

pub record Standing (g : Geometry) (s : State) (store : Store) : Type 0 where
  pub sound : Sound g s
  pub lengths : Lengths g s
  pub holds : (l : ℕ) → l < g.L → store l ≡ held g s l

-- What a call leaves, with its operations, each allowed at its moment.
pub record Leaves {A : Type 0} (g : Geometry) (s : State) (o : Outcome A) (store : Store) : Type 0 where
  pub stands : Standing g o.after store
  pub done : Done g s o.did o.after

-- The lengths that the calls test.
pub right_lengths : (g : Geometry) (s : State) → Right (state_sizes g s) → Lengths g s
right_lengths g s r = record { chip_fits = r.0; spare_fits = r.1.0; directory_fits = r.1.1.0; cache_fits = r.1.1.1.0 }

pub lengths_right : (g : Geometry) (s : State) → Lengths g s → Right (state_sizes g s)
lengths_right g s len = (len.chip_fits, (len.spare_fits, (len.directory_fits, (len.cache_fits, tt))))

-- A page's words, once an answer is noted, are those of a store that says the same of it.
noted_same : (q : Request) (words : List ℕ) (reply : ℕ) (store store' : Store) (l : ℕ) → store l ≡ store' l
    → noted_record q words reply store l ≡ noted_record q words reply store' l
noted_same q words reply store store' l e =
    on (eqb q.kind 1 && eqb reply DONE)
    (λ noted. rw noted (on (eqb l q.page) (λ k. rw k refl) (λ k. rw k e)))
    (λ noted. rw noted e)

module _ {g : Geometry} (ok : Accepted g) where
  -- ---- the requests' steps

  module _ (q : Request) (buffer : List ℕ) {s : State} {store : Store} (stands : Standing g s store)
      (passed : AllPassed (request_grounds g s.small q)) (long : length buffer ≡ g.W) where
    pub serves : Serves g q buffer s (serve g q buffer s)
    serves = serve_law ok q buffer s stands.lengths stands.sound (page_passed g s.small q passed)
        (kind_passed g s.small q passed) long

    -- They leave the store as their answer is noted in it.
    pub serve_leaves : Leaves g s (serve g q buffer s) (noted_record q buffer (serve g q buffer s).value.reply store)
    serve_leaves =
        record {
          stands = record {
            sound = serves.sound;
            lengths = serves.lengths;
            holds = λ l h. noted_same q buffer (serve g q buffer s).value.reply store (held g s) l (stands.holds l h) ∙ sym (serves.holds l h);
          };
          done = serves.done;
        }

    -- A read answers with what the store says.
    pub serve_tells : q.kind ≡ 0 → Tells (store q.page) (serve g q buffer s).value.reply (serve g q buffer s).value.buffer
    serve_tells kind =
        subst (λ h. Tells h (serve g q buffer s).value.reply (serve g q buffer s).value.buffer)
        (sym (stands.holds q.page (page_passed g s.small q passed))) (serves.tells kind)

  -- After a format nothing is held.
  pub format_stands : (s : State) → Lengths g s → Standing g (format_steps g s).after (λ l. Nothing)
  format_stands s len =
      record {
        sound = format_sound g ok s len;
        lengths = format_lengths g ok s len;
        holds = λ l h. ap (λ (x : ℕ). words_at g (format_steps g s).after.chip (decode x)) (sym (unwritten g ok s len l h));
      }

  -- ---- the calls

  -- A refusal leaves the state and the store.
  pub refusal_leaves : {A : Type 0} {s : State} {store : Store} (store' : Store) (x : A) (o : Outcome A) (n : ℕ)
      → Standing g s store → o ≡ give x s → n ≢ DONE
      → Leaves g s o (cond (eqb n DONE) store' store)
  unfolding give
  refusal_leaves store' x o n stands e refused =
      rw (e, ne_eqb n DONE refused) (record { stands = stands; done = done_none g flash_refl })

  module _ {s : State} {store : Store} (stands : Standing g s store) where
    pub format_leaves : (others : List Size)
        → Leaves g s (format g others s) (cond (eqb (format g others s).value DONE) (λ l. Nothing) store)
    unfolding format_steps give ◌>>=◌
    format_leaves others =
        let t = format_by_grounds g others s in
        below? UNWRITTEN (format g others s).value
        (λ h. refusal_leaves (λ l. Nothing) (format g others s).value (format g others s)
        (format g others s).value stands (t.refuses h) (omega arith))
        (λ h. rw (t.served h).1
        (record {
          stands = format_stands s stands.lengths;
          done = record { flash = format_steps_applied.law s; allowed = format_allowed g s };
        }))

    pub check_leaves : (others : List Size) → Leaves g s (check g others s) store
    unfolding give
    check_leaves others =
        let t = check_by_grounds g others s in
        below? UNWRITTEN (check g others s).value
        (λ h. rw (t.refuses h) (record { stands = stands; done = done_none g flash_refl }))
        (λ h. rw (t.served h).1 (record { stands = stands; done = done_none g flash_refl }))

    module _ (others : List Size) (l : ℕ) (buffer : List ℕ) where
      pub read_leaves : Leaves g s (read g others l buffer s) store
      unfolding give
      read_leaves =
          let t = read_by_grounds g others l buffer s in
          below? UNWRITTEN (read g others l buffer s).value.reply
          (λ h. rw (t.refuses h) (record { stands = stands; done = done_none g flash_refl }))
          (λ h.
          let passed = (t.served h).0 in
          rw (t.served h).1
          (serve_leaves (read_of l) buffer stands (own_passed g others (read_of l) buffer s passed) (buffer_passed g others (read_of l) buffer s passed)))

      pub write_leaves : Leaves g s (write g others l buffer s)
          (cond (eqb (write g others l buffer s).value.reply DONE) (with_words l buffer store) store)
      write_leaves =
          let t = write_by_grounds g others l buffer s in
          below? UNWRITTEN (write g others l buffer s).value.reply
          (λ h. refusal_leaves (with_words l buffer store) (replied buffer (write g others l buffer s).value.reply)
          (write g others l buffer s) (write g others l buffer s).value.reply stands (t.refuses h) (omega arith))
          (λ h.
          let passed = (t.served h).0 in
          rw (t.served h).1
          (serve_leaves (write_of l) buffer stands (own_passed g others (write_of l) buffer s passed) (buffer_passed g others (write_of l) buffer s passed)))
