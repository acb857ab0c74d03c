-- What the demands come to at one call, and at two in a row, in the very words of C's contracts. 01: "A call that refuses everything breaks
-- demand 3" (`write_is_done`, `read_is_answered`). "One that gives a fixed answer, or does nothing, breaks demand 2 at a read after a
-- write" (`write_then_read`, `no_fixed_words`). "A run that serves its first record and feigns the others breaks demand 2 at the second"
-- (`second_record_reads`). "An invented count breaks the equality with the listed steps" (`write_counts_are_listed`). And what a crew that
-- loads an image stands on: `checked_is_sound`.
use Rattle.std.specs.Prelude.{ℕ, ◌+◌, ◌*◌, ◌≤◌, ◌≡◌, ◌≢◌, ◌⊎◌, cond, eqb, length, get_or}
use Rattle.std.proofs.Math.Path.{refl}
use Rattle.std.proofs.Common.{sym, ◌∙◌, ap, subst, inl, inr, arith}
use mathlib.Core.List.{List, [], ◌∷◌, ◌++◌}
use borrow.Author.Tests.{eq-eqb, ne_eqb}
use Rattle.scope.specs.Geometry.{Geometry}
use Rattle.scope.specs.SmallRecord.{record_words}
use Rattle.scope.specs.Lent.{none, Request}
use Rattle.scope.specs.Operations.{Counts, counted}
use Rattle.scope.specs.Requests.{replied}
use Rattle.scope.specs.Replies.{DONE, UNWRITTEN, Size}
use Rattle.scope.specs.Calls.{buffer_sizes, run_sizes, read_of, write_of, part, run_replied, write}
use Rattle.scope.specs.Boundary.{Words, from_words, word_sizes, counts_words, put_counts, words_of_counts, tf_check, tf_read, tf_write, tf_run, requests_of}
use Rattle.scope.specs.Holding.{Gives}
use Rattle.flash.specs.Moments.{total, cost}
use Rattle.promises.specs.Call.{Call, Format, Check, ReadPage, WritePage, Run, Answer}
use Rattle.promises.specs.Grounds.{Right, Refusal}
use Rattle.promises.specs.EachRecord.{before_record}
use Rattle.promises.specs.Remembered.{Held, Holding, Nothing, held, Tells}
use Rattle.promises.specs.Bounds.{BelowLimit, write_bound, read_bound}
use Rattle.promises.specs.GroundsDecided.{read_below, page_below}
use Rattle.contracts.specs.Made.{Lent, AsWords, counts_at_entry, counts_at_exit, Made, ByContract}
use Rattle.contracts.specs.Ensured.{by_number, by_page, by_run, tf_check_made, tf_read_made, tf_write_made, tf_run_made, run_word_sizes}
use Rattle.contracts.specs.Demands.{Node, DemandsAfter, did}
use Rattle.contracts.proofs.Theorems.{calls_meet}

-- What tells of words that were written is DONE, with those words.
abbrev words_in : List ℕ → Held → List ℕ
words_in other (Holding words) = words
words_in other Nothing = other

abbrev IsWords : Held → Type 0
IsWords (Holding words) = Unit {0}
IsWords Nothing = ⊥

told_words : (words : List ℕ) {content : Held} (reply : ℕ) (buffer : List ℕ) → content ≡ Holding words → Tells content reply buffer
    → (reply ≡ DONE) × (buffer ≡ words)
told_words words reply buffer e (inl (done, is)) = (done, sym (ap (words_in words) (sym e ∙ is)))
told_words words reply buffer e (inr (unwritten, is)) = absurd (subst IsWords (sym e ∙ is) tt)

not_refused : {reply : ℕ} → (reply ≡ DONE) ⊎ (reply ≡ UNWRITTEN) → ¬ (Refusal reply)
not_refused (inl e) h = omega arith
not_refused (inr e) h = omega arith

-- Three words hold the counts, and their sum is what demand 3 bounds.
abbrev sum : List ℕ → ℕ
sum [] = 0
sum (k ∷ ks) = k + sum ks

module _ (counts counts' : List ℕ) (c : Counts) (three : length counts ≡ counts_words) (is : counts' ≡ put_counts counts c) where
  put_three : counts' ≡ words_of_counts c
  put_three = is ∙ rw (eq-eqb (length counts) counts_words three) refl

  sum_three : sum counts' ≡ total c
  sum_three = ap sum put_three ∙ omega arith

abbrev IsCheck : Call → Type 0
IsCheck (Format others) = ⊥
IsCheck (Check others) = Unit {0}
IsCheck (ReadPage others l buffer) = ⊥
IsCheck (WritePage others l buffer) = ⊥
IsCheck (Run others requests words answers) = ⊥

abbrev made_in_words : Call → Answer → Words → Words → Made
made_in_words c a w w' = record { call = c; answer = a; lent = AsWords w w' }

module _ {g : Geometry} where
  -- ---- check, and what it found

  pub checked_is_sound : (w w' : Words) → Gives (tf_check g w) DONE w' → Node g (from_words w)
  checked_is_sound w w' gave =
      (calls_meet g).checked (made_in_words (Check (word_sizes w)) (by_number DONE) w w') (tf_check_made g w gave)
      (λ others e. subst IsCheck e tt) (λ h. omega arith)

  -- ---- one call

  module _ (w : Words) (node : Node g (from_words w)) (whole : length w.small ≡ record_words)
      (three : length w.counts ≡ counts_words) (l : ℕ) (buffer : List ℕ) (long : length buffer ≡ g.W) (reply : ℕ) (w' : Words) where
    right : Right (buffer_sizes g buffer ++ word_sizes w)
    right = (long, (whole, (three, tt)))

    -- Before any other call.
    first : DemandsAfter g (from_words w) [] (from_words w)
    first = (calls_meet g).demands_after (from_words w) [] (from_words w) node refl

    -- What a call cost, by its count words.
    costs : (m : Made) → ByContract g m → m.lent ≡ AsWords w w' → sum w'.counts ≡ cost (did g m)
    costs m contract e =
        sum_three w.counts w'.counts (counted (did g m)) three
        (subst (λ (lent : Lent). counts_at_exit lent ≡ put_counts (counts_at_entry lent) (counted (did g m))) e
        ((calls_meet g).done_as_listed m contract).counted)

    abbrev wrote : Made
    wrote = made_in_words (WritePage (word_sizes w) l buffer) (by_page (replied buffer reply)) w w'

    pub write_is_done : BelowLimit g (from_words w).small (write_of l) → Gives (tf_write g l w buffer) (replied buffer reply) w'
        → (reply ≡ DONE) × (sum w'.counts ≤ write_bound g)
    write_is_done below gave =
        let contract = tf_write_made g w l buffer gave in
        let (done, bound) = ((first.demand_3 wrote contract refl).writes_well (word_sizes w) l buffer refl right below).as_write refl in
        (done, omega (arith, costs wrote contract refl, bound))

    pub write_counts_are_listed : Gives (tf_write g l w buffer) (replied buffer reply) w'
        → w'.counts ≡ words_of_counts (counted (write g (word_sizes w) l buffer (from_words w)).did)
    write_counts_are_listed gave =
        put_three w.counts w'.counts (counted (did g wrote)) three
        ((calls_meet g).done_as_listed wrote (tf_write_made g w l buffer gave)).counted

    pub read_is_answered : (buffer' : List ℕ) → BelowLimit g (from_words w).small (read_of l)
        → Gives (tf_read g l w buffer) (replied buffer' reply) w'
        → ((reply ≡ DONE) ⊎ (reply ≡ UNWRITTEN)) × (sum w'.counts ≤ read_bound g)
    read_is_answered buffer' below gave =
        let contract = tf_read_made g w l buffer gave in
        let read_it = made_in_words (ReadPage (word_sizes w) l buffer) (by_page (replied buffer' reply)) w w' in
        let (answers, bound) = ((first.demand_3 read_it contract refl).reads_well (word_sizes w) l buffer refl right below).as_read refl in
        (answers, omega (arith, costs read_it contract refl, bound))

  -- ---- a write, and then a read

  module _ (w : Words) (node : Node g (from_words w)) (whole : length w.small ≡ record_words)
      (three : length w.counts ≡ counts_words) (l : ℕ) (below : BelowLimit g (from_words w).small (write_of l))
      (buffer : List ℕ) (long : length buffer ≡ g.W) (reply : ℕ) (w' : Words)
      (gave : Gives (tf_write g l w buffer) (replied buffer reply) w')
      (v : Words) (same : from_words v ≡ from_words w') (v_whole : length v.small ≡ record_words)
      (v_three : length v.counts ≡ counts_words)
      (k : ℕ) (page page' : List ℕ) (reply' : ℕ) (v' : Words) (read_gave : Gives (tf_read g k v page) (replied page' reply') v')
      (k_below : BelowLimit g (from_words v).small (read_of k)) (page_long : length page ≡ g.W) where
    abbrev written : Made
    written = made_in_words (WritePage (word_sizes w) l buffer) (by_page (replied buffer reply)) w w'

    after_write : DemandsAfter g (from_words w) (written ∷ []) (from_words w')
    after_write =
        (calls_meet g).demands_after (from_words w) (written ∷ []) (from_words w') node
        (from_words w', tf_write_made g w l buffer gave, inl (refl, whole, refl), refl)

    told : Tells (cond (eqb k l) (Holding buffer) (held g (from_words w) k)) reply' page'
    told =
        let (answered, _) = read_is_answered v (subst (Node g) (sym same) after_write.node) v_whole v_three k page page_long reply' v'
        page' k_below read_gave in
        let (done, _) = write_is_done w node whole three l buffer long reply w' below gave in
        rw (eq-eqb reply DONE done) at
        ((after_write.demand_2 (made_in_words (ReadPage (word_sizes v) k page) (by_page (replied page' reply')) v v')
        (tf_read_made g v k page read_gave) same).read_tells (word_sizes v) k page refl (not_refused answered))

    -- The words that were written are read.
    pub write_then_read : k ≡ l → (reply' ≡ DONE) × (page' ≡ buffer)
    write_then_read e = told_words buffer reply' page' (rw (eq-eqb k l e) refl) told

    -- So nothing fixed is: not the words that were lent, as where nothing is done.
    pub no_fixed_words : k ≡ l → (fixed : List ℕ) → fixed ≢ buffer → page' ≢ fixed
    no_fixed_words e fixed differ is = differ (sym is ∙ (told_words buffer reply' page' (rw (eq-eqb k l e) refl) told).1)

    -- Every other page reads as it did.
    pub write_leaves_others : k ≢ l → Tells (held g (from_words w) k) reply' page'
    write_leaves_others e = rw (ne_eqb k l e) at told

  -- ---- a run of two records: write l, and then read l

  module _ (w : Words) (node : Node g (from_words w)) (whole : length w.small ≡ record_words)
      (three : length w.counts ≡ counts_words) (l : ℕ) (below : BelowLimit g (from_words w).small (write_of l))
      (words answers : List ℕ) (words_long : length words ≡ 2 * g.W) (answers_long : length answers ≡ 2)
      (reply : ℕ) (words' answers' : List ℕ) (w' : Words)
      (ran : Gives (tf_run g w (1 ∷ l ∷ 0 ∷ l ∷ []) words answers) (run_replied words' answers' reply) w') where
    abbrev requests : List Request
    requests = requests_of (1 ∷ l ∷ 0 ∷ l ∷ [])

    abbrev sizes : List Size
    sizes = run_word_sizes w (1 ∷ l ∷ 0 ∷ l ∷ [])

    pub second_record_reads : (reply ≡ DONE) × (get_or answers' 0 none ≡ DONE) × (get_or answers' 1 none ≡ DONE)
        × (part g 1 words' ≡ part g 0 words)
    unfolding requests_of
    second_record_reads =
        let m = made_in_words (Run sizes requests words answers) (by_run (run_replied words' answers' reply)) w w' in
        let contract = tf_run_made g w (1 ∷ l ∷ 0 ∷ l ∷ []) words answers ran in
        let first = (calls_meet g).demands_after (from_words w) [] (from_words w) node refl in
        let d3 = first.demand_3 m contract refl in
        let right : Right (run_sizes g requests words answers ++ sizes) = (words_long, (answers_long, (refl, (whole, (three, tt))))) in
        let done = d3.runs_well sizes requests words answers refl right (omega arith) in
        let wrote = ((d3.records_well sizes requests words answers 0 refl done (omega arith) below).as_write refl).0 in
        let now = (before_record g requests words (from_words w) 1).small in
        let again = read_below g now l (page_below g (from_words w).small (write_of l) below) in
        let second = ((d3.records_well sizes requests words answers 1 refl done (omega arith) again).as_read refl).0 in
        let tells = (first.demand_2 m contract refl
        ).record_tells sizes requests words answers 1 refl done (omega arith) refl (not_refused second) in
        let (read_done, same) = told_words (part g 0 words) (get_or answers' 1 none) (part g 1 words')
        (rw (eq-eqb (get_or answers' 0 none) DONE wrote, eq-eqb l l refl) refl) tells in
        (done, wrote, read_done, same)
