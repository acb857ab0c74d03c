-- A run is its records in order: what a record stores of its own answer, and that the records after it leave its answer and its
-- words as it left them. So what a run hands back is what its records answered.
use Prim.Native.Nat.{ℕ, zero, suc, ◌+◌, ◌*◌, ◌≤◌, ◌<◌}
use Rattle.std.specs.Prelude.{◌≡◌, ◌≢◌, ◌⊎◌, get_or, take, drop, set}
use Rattle.std.proofs.Math.Path.{refl, ap, ap₂}
use Rattle.std.proofs.Common.{◌∙◌, arith, length-take, drop_of_length-le, length-take-le, drop-cons, take_at, drop_at, get_or-set_same, get_or-set_other}
use mathlib.Core.List.{List, [], ◌++◌, append_assoc}
use Rattle.std.proofs.Math.ListN.{length, length-set}
use Rattle.std.proofs.lemmas.List.Edits.{sets, sets-eq}
use Rattle.std.proofs.lemmas.List.{set-get_or}
use Rattle.std.proofs.Math.Seq.{length-sets}
use Rattle.scope.specs.Geometry.{Geometry}
use Rattle.scope.specs.Lent.{none, State, Request}
use Rattle.scope.specs.Operations.{Outcome, give, ◌>>=◌}
use Rattle.scope.specs.Replies.{DONE, UNWRITTEN}
use Rattle.scope.specs.Requests.{Replied}
use Rattle.scope.specs.Calls.{RunReplied, run_replied, part, no_request, answer_record, serve_record, serve_records}
use Rattle.flash.specs.Cases.{last, below?}
use Rattle.flash.specs.Stores.{getD_sets_outside, slot_same}
use Rattle.flash.specs.Lengths.{words_same}
use Rattle.promises.specs.EachRecord.{before_record, record_outcome}
use Rattle.promises.proofs.Serve.{serve_hands_back}
use Rattle.promises.proofs.Refusals.{record_by_grounds}

-- ---- one record

-- What is lent and the state once the first i records are served, and then record i's turn, as the definition of a run has them.
abbrev pub so_far : Geometry → List Request → List ℕ → List ℕ → State → ℕ → Outcome RunReplied
so_far g requests words answers s i = serve_records g requests i (run_replied words answers DONE) s

abbrev pub one_more : Geometry → List Request → List ℕ → List ℕ → State → ℕ → Outcome RunReplied
one_more g requests words answers s i =
    let before = so_far g requests words answers s i in
    serve_record g i (get_or requests i no_request) before.value before.after

-- Record i's own answer, from what is lent and the state before it.
abbrev pub answer_of : Geometry → List Request → List ℕ → List ℕ → State → ℕ → Outcome Replied
answer_of g requests words answers s i =
    let before = so_far g requests words answers s i in
    answer_record g (get_or requests i no_request) (part g i before.value.words) before.after

-- A record stores its answer and the words of its buffer, and adds its operations.
pub record Stored (g : Geometry) (i : ℕ) (lent : RunReplied) (a : Outcome Replied) (o : Outcome RunReplied) : Type 0 where
  pub words : o.value.words ≡ sets lent.words (i * g.W) a.value.buffer
  pub answers : o.value.answers ≡ set lent.answers i a.value.reply
  pub state : o.after ≡ a.after
  pub operations : o.did ≡ a.did ++ []

pub record_stores : (g : Geometry) (i : ℕ) (q : Request) (lent : RunReplied) (s : State)
    → Stored g i lent (answer_record g q (part g i lent.words) s) (serve_record g i q lent s)
unfolding serve_record give ◌>>=◌
record_stores g i q lent s = record { words = refl; answers = refl; state = refl; operations = refl }

-- Its buffer has at most W words, and so lies in its own part.
part_at_most : (g : Geometry) (i : ℕ) (words : List ℕ) → length (part g i words) ≤ g.W
part_at_most g i words = simp length-take (omega arith)

answer_at_most : (g : Geometry) (q : Request) (buffer : List ℕ) (s : State) → length buffer ≤ g.W
    → length (answer_record g q buffer s).value.buffer ≤ g.W
unfolding give
answer_at_most g q buffer s k =
    let t = record_by_grounds g q buffer s in
    below? UNWRITTEN (answer_record g q buffer s).value.reply
    (λ h. rw (t.refuses h) k)
    (λ h. rw (t.served h).1 ((serve_hands_back g q buffer s).at_most k))

answer_keeps : (g : Geometry) (q : Request) (buffer : List ℕ) (s : State)
    → ((answer_record g q buffer s).value.reply ≢ DONE) ⊎ (q.kind ≢ 0) → (answer_record g q buffer s).value.buffer ≡ buffer
unfolding give
answer_keeps g q buffer s h =
    let t = record_by_grounds g q buffer s in
    below? UNWRITTEN (answer_record g q buffer s).value.reply
    (λ k. ap (λ o. o.value.buffer) (t.refuses k))
    (λ k. rw (t.served k).1 ((serve_hands_back g q buffer s).keeps (rw (t.served k).1 at h)))

-- ---- parts of the data buffer

-- A list with a part of itself stored where it stands.
sets_same : (n : ℕ) (l : List ℕ) (i : ℕ) → sets l i (take n (drop i l)) ≡ l
sets_same zero l i = refl
sets_same (suc n) l i =
    below? i (length l)
    (λ h.
    ap (λ (vs : List ℕ). sets l i (take (suc n) vs)) (drop-cons l i none h)
    ∙ ap (λ (m : List ℕ). sets m (suc i) (take n (drop (suc i) l))) (set-get_or l i none)
    ∙ sets_same n l (suc i))
    (λ h. ap (λ (vs : List ℕ). sets l i (take (suc n) vs)) (drop_of_length-le l h))

-- Words stored in part j, at most W, leave the other parts.
part_elsewhere : (g : Geometry) (i j : ℕ) (words buffer : List ℕ) → i ≢ j → length buffer ≤ g.W
    → part g i (sets words (j * g.W) buffer) ≡ part g i words
part_elsewhere g i j words buffer ne h =
    words_same g i words (sets words (j * g.W) buffer) (length-sets words (j * g.W) buffer)
    (λ k l. getD_sets_outside words (j * g.W) buffer (i * g.W + k) none
    (λ m n e. ne (slot_same g.W i j k m l (omega arith) e)))

-- W words stored in part i are that part.
pub part_here : (g : Geometry) (i : ℕ) (words buffer : List ℕ) → length buffer ≡ g.W → i * g.W + g.W ≤ length words
    → part g i (sets words (i * g.W) buffer) ≡ buffer
part_here g i words buffer h k =
    rw (
      sets-eq buffer words (i * g.W) (omega arith),
      append_assoc (take (i * g.W) words) buffer (drop (i * g.W + length buffer) words),
    )
    (rw (drop_at (take (i * g.W) words) (buffer ++ drop (i * g.W + length buffer) words) (i * g.W)
    (length-take-le (i * g.W) words (omega arith)))
    (take_at buffer (drop (i * g.W + length buffer) words) g.W h))

-- ---- the records before and after

module _ (g : Geometry) (requests : List Request) (words answers : List ℕ) (s : State) where
  -- What is lent and the state, once record n has answered.
  next_record : (n : ℕ) → (so_far g requests words answers s (suc n)).value ≡ (one_more g requests words answers s n).value
  unfolding serve_records ◌>>=◌
  next_record n = refl

  own_stores : (n : ℕ) → Stored g n (so_far g requests words answers s n).value (answer_of g requests words answers s n)
      (one_more g requests words answers s n)
  own_stores n =
      let before = so_far g requests words answers s n in
      record_stores g n (get_or requests n no_request) before.value before.after

  own_at_most : (n : ℕ) → length (answer_of g requests words answers s n).value.buffer ≤ g.W
  own_at_most n =
      let before = so_far g requests words answers s n in
      answer_at_most g (get_or requests n no_request) (part g n before.value.words) before.after
      (part_at_most g n before.value.words)

  pub length_answers : (n : ℕ) → length (so_far g requests words answers s n).value.answers ≡ length answers
  unfolding serve_records give
  length_answers zero = refl
  length_answers (suc n) =
      ap (λ r. length r.answers) (next_record n) ∙ ap length (own_stores n).answers
      ∙ length-set (so_far g requests words answers s n).value.answers n
      (answer_of g requests words answers s n).value.reply
      ∙ length_answers n

  pub length_words : (n : ℕ) → length (so_far g requests words answers s n).value.words ≡ length words
  unfolding serve_records give
  length_words zero = refl
  length_words (suc n) =
      ap (λ r. length r.words) (next_record n) ∙ ap length (own_stores n).words
      ∙ length-sets (so_far g requests words answers s n).value.words (n * g.W)
      (answer_of g requests words answers s n).value.buffer
      ∙ length_words n

  -- A record's answer is the one that it gave.
  pub final_answer : (n i : ℕ) → i < n → n ≤ length answers
      → get_or (so_far g requests words answers s n).value.answers i none ≡ (answer_of g requests words answers s i).value.reply
  final_answer zero i h k = absurd (omega arith)
  final_answer (suc n) i h k =
      let lent = (so_far g requests words answers s n).value in
      let a = (answer_of g requests words answers s n).value in
      ap (λ r. get_or r.answers i none) (next_record n) ∙ ap (λ (l : List ℕ). get_or l i none) (own_stores n).answers
      ∙ last i n h
      (λ b. get_or-set_other lent.answers n i a.reply none (omega arith) ∙ final_answer n i b (omega arith))
      (λ e. rw e (get_or-set_same lent.answers n a.reply none (omega (arith, length_answers n))))

  -- A record's words are as lent until it answers, and then as it left them.
  pub words_before : (n i : ℕ) → n ≤ i → part g i (so_far g requests words answers s n).value.words ≡ part g i words
  unfolding serve_records give
  words_before zero i h = refl
  words_before (suc n) i h =
      let lent = (so_far g requests words answers s n).value in
      let a = (answer_of g requests words answers s n).value in
      ap (λ r. part g i r.words) (next_record n) ∙ ap (part g i) (own_stores n).words
      ∙ part_elsewhere g i n lent.words a.buffer (omega arith) (own_at_most n)
      ∙ words_before n i (omega arith)

  pub final_words : (n i : ℕ) → i < n
      → part g i (so_far g requests words answers s n).value.words ≡ part g i
      (one_more g requests words answers s i).value.words
  final_words zero i h = absurd (omega arith)
  final_words (suc n) i h =
      let lent = (so_far g requests words answers s n).value in
      let a = (answer_of g requests words answers s n).value in
      ap (λ r. part g i r.words) (next_record n)
      ∙ last i n h
      (λ b.
      ap (part g i) (own_stores n).words
      ∙ part_elsewhere g i n lent.words a.buffer (omega arith) (own_at_most n)
      ∙ final_words n i b)
      (λ e. rw e)

  -- A record that keeps its words leaves the data buffer, and so has the words that were lent.
  pub own_keeps : (i : ℕ) → ((answer_of g requests words answers s i).value.reply ≢ DONE) ⊎ ((get_or requests i no_request).kind ≢ 0)
      → (one_more g requests words answers s i).value.words ≡ (so_far g requests words answers s i).value.words
  own_keeps i k =
      let before = so_far g requests words answers s i in
      (own_stores i).words
      ∙ ap (λ (buffer : List ℕ). sets before.value.words (i * g.W) buffer)
      (answer_keeps g (get_or requests i no_request) (part g i before.value.words) before.after k)
      ∙ sets_same g.W before.value.words (i * g.W)

  pub kept_words : (n i : ℕ) → i < n
      → ((answer_of g requests words answers s i).value.reply ≢ DONE) ⊎ ((get_or requests i no_request).kind ≢ 0)
      → part g i (so_far g requests words answers s n).value.words ≡ part g i words
  kept_words n i h k = final_words n i h ∙ ap (part g i) (own_keeps i k) ∙ words_before i i (omega arith)

  -- Record by record: the state is what the records before left, and the answer that of a request of its own on the words that were lent.
  pub state_so_far : (n : ℕ) → (so_far g requests words answers s n).after ≡ before_record g requests words s n
  unfolding serve_records give ◌>>=◌
  state_so_far zero = refl
  state_so_far (suc n) =
      (own_stores n).state
      ∙ ap₂ (λ (buffer : List ℕ) (t : State). (answer_record g (get_or requests n no_request) buffer t).after)
      (words_before n n (omega arith)) (state_so_far n)

  pub answer_is_outcome : (n : ℕ) → answer_of g requests words answers s n ≡ record_outcome g requests words s n
  answer_is_outcome n =
      ap₂ (answer_record g (get_or requests n no_request)) (words_before n n (omega arith)) (state_so_far n)
