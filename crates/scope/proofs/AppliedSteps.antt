-- Every step of 01 and every call: chip and spare after are its operations applied in their order (Applied.antt). Each law has the
-- shape of its definition.
use Prim.Native.Nat.{ℕ, zero, suc}
use mathlib.Core.List.{List, [], ◌∷◌}
use Rattle.std.specs.Prelude.{ltb, eqb, leb}
use Rattle.scope.specs.Geometry.{Geometry}
use Rattle.scope.specs.Regions.{Region, Data, Translation}
use Rattle.scope.specs.Lent.{Entry, Place, Nowhere, Mapping, Request}
use Rattle.scope.specs.Operations.{Read, Program, Mark, Erase, Step}
use Rattle.scope.specs.Room.{Following, read_page, program_next, move_page, move_if_valid, move_pages, open_lowest, collect, open_or_collect, make_room}
use Rattle.scope.specs.Cache.{touch, enter, forget, become_unchanged, set_entry}
use Rattle.scope.specs.Steps.{directory_names_it, directory_follows, begun, mark_old, update, of_page, update_touched, cache_or_wait, update_all, cache_follows, write_back, drop_entry, drop_if_full, word_for, fetch, translate}
use Rattle.scope.specs.Replies.{DONE, Test, Size, first_applying, admit}
use Rattle.scope.specs.Requests.{read_place, read_steps, write_steps, format_steps}
use Rattle.scope.specs.Calls.{RunReplied, format, check, read, write, serve, answer_record, serve_record, serve_records, run}
use Rattle.scope.specs.Laws.Applied.{Applied, AppliedFollowing, applied_bind, applied_give, applied_look, applied_perform, applied_set_directory, applied_set_cache, applied_set_small, applied_cond, applied_for}

module _ {g : Geometry} where
  read_page_applied : (p : ℕ) → Applied g (read_page g p)
  unfolding read_page
  read_page_applied p = applied_bind (applied_perform (Read p)) (λ _. applied_look _)

  program_next_applied : (r : Region) (owner : ℕ) (words : List ℕ) → Applied g (program_next g r owner words)
  unfolding program_next
  program_next_applied r owner words =
      applied_bind (applied_look _) (λ q.
      applied_bind (applied_perform (Program q owner words)) (λ _.
      applied_bind (applied_set_small _) (λ _. applied_give q)))

  module _ {follow : Following} (r : Region) (a : AppliedFollowing g follow) where
    move_page_applied : (p : ℕ) → Applied g (move_page g r follow p)
    unfolding move_page
    move_page_applied p =
        applied_bind (applied_look _) (λ owner.
        applied_bind (read_page_applied p) (λ words.
        applied_bind (program_next_applied r owner words) (λ q.
        applied_bind (applied_perform (Mark p)) (λ _. a.moved owner q))))

    move_if_valid_applied : (p : ℕ) → Applied g (move_if_valid g r follow p)
    unfolding move_if_valid
    move_if_valid_applied p =
        applied_bind (applied_look _) (λ v. applied_cond v (move_page_applied p) (applied_give []))

    move_pages_applied : (v n : ℕ) → Applied g (move_pages g r follow v n)
    unfolding move_pages
    move_pages_applied v zero = applied_give []
    move_pages_applied v (suc n) =
        applied_bind (move_pages_applied v n) (λ waiting.
        applied_bind (move_if_valid_applied _) (λ more. applied_give _))

    open_lowest_applied : Applied g (open_lowest g r)
    unfolding open_lowest
    open_lowest_applied = applied_bind (applied_look _) (λ b. applied_set_small _)

    collect_applied : Applied g (collect g r follow)
    unfolding collect
    collect_applied =
        applied_bind (applied_look _) (λ v.
        applied_bind open_lowest_applied (λ _.
        applied_bind (move_pages_applied v g.P) (λ waiting.
        applied_bind (a.settled waiting) (λ _. applied_perform (Erase v)))))

    open_or_collect_applied : Applied g (open_or_collect g r follow)
    unfolding open_or_collect
    open_or_collect_applied =
        applied_bind (applied_look _) (λ n. applied_cond (leb 2 n) open_lowest_applied collect_applied)

    pub make_room_applied : Applied g (make_room g r follow)
    unfolding make_room
    make_room_applied =
        applied_bind (applied_look _) (λ offset.
        applied_cond (ltb offset g.P) (applied_give tt) open_or_collect_applied)

  directory_names_it_applied : (t p : ℕ) → Applied g (directory_names_it t p)
  unfolding directory_names_it
  directory_names_it_applied t p = applied_set_directory _

  directory_follows_applied : AppliedFollowing g directory_follows
  directory_follows_applied =
      record {
        moved = λ t p. applied_bind (directory_names_it_applied t p) (λ _. applied_give []);
        settled = λ waiting. applied_give tt;
      }

  begun_applied : (e : Entry) → Applied g (begun g e)
  unfolding begun
  begun_applied (Place p) = read_page_applied p
  begun_applied Nowhere = applied_give _

  mark_old_applied : (e : Entry) → Applied g (mark_old g e)
  unfolding mark_old
  mark_old_applied (Place p) = applied_perform (Mark p)
  mark_old_applied Nowhere = applied_give tt

  pub update_applied : (t : ℕ) (ms : List Mapping) → Applied g (update g t ms)
  unfolding update
  update_applied t ms =
      applied_bind (make_room_applied Translation directory_follows_applied) (λ _.
      applied_bind (applied_look _) (λ former.
      applied_bind (begun_applied former) (λ words.
      applied_bind (program_next_applied Translation t _) (λ q.
      applied_bind (mark_old_applied former) (λ _. directory_names_it_applied t q)))))

  update_touched_applied : (t : ℕ) (ms : List Mapping) → Applied g (update_touched g t ms)
  unfolding update_touched
  update_touched_applied t [] = applied_give tt
  update_touched_applied t (m ∷ ms) = update_applied t (m ∷ ms)

  set_entry_applied : (i p : ℕ) → Applied g (set_entry i p)
  unfolding set_entry
  set_entry_applied i p = applied_set_cache _

  cache_follows_applied : AppliedFollowing g (cache_follows g)
  unfolding cache_or_wait update_all
  cache_follows_applied =
      record {
        moved = λ l p.
            applied_bind (applied_look _) (λ i.
            applied_cond (ltb i g.C) (applied_bind (set_entry_applied i p) (λ _. applied_give [])) (applied_give _));
        settled = λ waiting. applied_for _ (λ t. update_touched_applied t (of_page g t waiting));
      }

  touch_applied : (i : ℕ) → Applied g (touch g i)
  unfolding touch
  touch_applied i = applied_bind (applied_set_cache _) (λ _. applied_bind (applied_set_small _) (λ _. applied_give 0))

  enter_applied : (l p : ℕ) → Applied g (enter l p)
  unfolding enter
  enter_applied l p = applied_bind (applied_set_cache _) (λ _. applied_bind (applied_set_small _) (λ _. applied_look _))

  forget_applied : (i : ℕ) → Applied g (forget i)
  unfolding forget
  forget_applied i = applied_bind (applied_set_cache _) (λ _. applied_set_small _)

  become_unchanged_applied : (t : ℕ) → Applied g (become_unchanged g t)
  unfolding become_unchanged
  become_unchanged_applied t = applied_set_cache _

  write_back_applied : (i : ℕ) → Applied g (write_back g i)
  unfolding write_back
  write_back_applied i =
      applied_bind (applied_look _) (λ t.
      applied_bind (applied_look _) (λ ms.
      applied_bind (update_applied t ms) (λ _. become_unchanged_applied t)))

  drop_entry_applied : Applied g (drop_entry g)
  unfolding drop_entry
  drop_entry_applied =
      applied_bind (applied_look _) (λ i.
      applied_bind (applied_look _) (λ changed.
      applied_bind (applied_cond changed (write_back_applied i) (applied_give tt)) (λ _. forget_applied i)))

  drop_if_full_applied : Applied g (drop_if_full g)
  unfolding drop_if_full
  drop_if_full_applied =
      applied_bind (applied_look _) (λ used. applied_cond (ltb used g.C) (applied_give tt) drop_entry_applied)

  word_for_applied : (l : ℕ) (e : Entry) → Applied g (word_for g l e)
  unfolding word_for
  word_for_applied l (Place q) = applied_bind (read_page_applied q) (λ words. applied_give _)
  word_for_applied l Nowhere = applied_give _

  fetch_applied : (l : ℕ) → Applied g (fetch g l)
  unfolding fetch
  fetch_applied l =
      applied_bind (applied_look _) (λ page. applied_bind (word_for_applied l page) (λ place. enter_applied l place))

  pub translate_applied : (l : ℕ) → Applied g (translate g l)
  unfolding translate
  translate_applied l =
      applied_bind (applied_look _) (λ i.
      applied_cond (ltb i g.C) (touch_applied i) (applied_bind drop_if_full_applied (λ _. fetch_applied l)))

  read_place_applied : (buffer : List ℕ) (e : Entry) → Applied g (read_place g buffer e)
  unfolding read_place
  read_place_applied buffer (Place p) = applied_bind (read_page_applied p) (λ words. applied_give _)
  read_place_applied buffer Nowhere = applied_give _

  pub read_steps_applied : (l : ℕ) (buffer : List ℕ) → Applied g (read_steps g l buffer)
  unfolding read_steps
  read_steps_applied l buffer =
      applied_bind (translate_applied l) (λ i. applied_bind (applied_look _) (λ place. read_place_applied buffer place))

  pub write_steps_applied : (l : ℕ) (buffer : List ℕ) → Applied g (write_steps g l buffer)
  unfolding write_steps
  write_steps_applied l buffer =
      applied_bind (translate_applied l) (λ i.
      applied_bind (make_room_applied Data cache_follows_applied) (λ _.
      applied_bind (program_next_applied Data l buffer) (λ q.
      applied_bind (applied_look _) (λ old.
      applied_bind (mark_old_applied old) (λ _.
      applied_bind (set_entry_applied i q) (λ _. applied_give _))))))

  pub format_steps_applied : Applied g (format_steps g)
  unfolding format_steps
  format_steps_applied =
      applied_bind (applied_for _ (λ b. applied_perform (Erase b))) (λ _.
      applied_bind (applied_set_directory _) (λ _.
      applied_bind (applied_set_cache _) (λ _. applied_bind (applied_set_small _) (λ _. applied_give _))))

  -- The calls.
  admit_applied : {A : Type 0} {m : Step A} (tests : List Test) (refused : ℕ → A) → Applied g m → Applied g (admit tests refused m)
  unfolding admit
  admit_applied tests refused a =
      applied_cond (eqb (first_applying tests) DONE) a (applied_give (refused (first_applying tests)))

  pub format_applied : (others : List Size) → Applied g (format g others)
  unfolding format
  format_applied others = applied_bind (applied_look _) (λ sizes. admit_applied _ _ format_steps_applied)

  pub check_applied : (others : List Size) → Applied g (check g others)
  unfolding check
  check_applied others = applied_bind (applied_look _) (λ tests. admit_applied _ _ (applied_give _))

  pub read_applied : (others : List Size) (l : ℕ) (buffer : List ℕ) → Applied g (read g others l buffer)
  unfolding read
  read_applied others l buffer = applied_bind (applied_look _) (λ tests. admit_applied _ _ (read_steps_applied l buffer))

  pub write_applied : (others : List Size) (l : ℕ) (buffer : List ℕ) → Applied g (write g others l buffer)
  unfolding write
  write_applied others l buffer = applied_bind (applied_look _) (λ tests. admit_applied _ _ (write_steps_applied l buffer))

  serve_applied : (q : Request) (buffer : List ℕ) → Applied g (serve g q buffer)
  unfolding serve
  serve_applied q buffer = applied_cond (eqb q.kind 0) (read_steps_applied _ buffer) (write_steps_applied _ buffer)

  answer_record_applied : (q : Request) (buffer : List ℕ) → Applied g (answer_record g q buffer)
  unfolding answer_record
  answer_record_applied q buffer = applied_bind (applied_look _) (λ tests. admit_applied _ _ (serve_applied q buffer))

  serve_records_applied : (requests : List Request) (n : ℕ) (lent : RunReplied) → Applied g (serve_records g requests n lent)
  unfolding serve_records serve_record
  serve_records_applied requests zero lent = applied_give lent
  serve_records_applied requests (suc n) lent =
      applied_bind (serve_records_applied requests n lent) (λ lent'.
      applied_bind (answer_record_applied _ _) (λ r. applied_give _))

  pub run_applied : (others : List Size) (requests : List Request) (words answers : List ℕ)
      → Applied g (run g others requests words answers)
  unfolding run
  run_applied others requests words answers =
      applied_bind (applied_look _) (λ tests. admit_applied _ _ (serve_records_applied requests _ _))
