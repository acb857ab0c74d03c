-- What the `ensures` of each public call says, in its own words, as a call that was made: so the demands speak of it. First the calls for
-- Rattle, then those for C, which test the sizes of the record's words and of the counts; a run in words those of its requests too.
use Rattle.std.specs.Prelude.{ℕ, ◌%◌, List, [], ◌∷◌, length}
use Rattle.std.proofs.Common.{ap}
use Rattle.scope.specs.Geometry.{Geometry}
use Rattle.scope.specs.Lent.{State, Request}
use Rattle.scope.specs.Operations.{Outcome, Step}
use Rattle.scope.specs.Replies.{Size}
use Rattle.scope.specs.Requests.{Replied, replied}
use Rattle.scope.specs.Calls.{RunReplied, run_replied, format, check, read, write, run}
use Rattle.scope.specs.Boundary.{Words, word_sizes, requests_of, in_words, tf_format, tf_check, tf_read, tf_write, tf_run}
use Rattle.scope.specs.Holding.{Answers, Gives}
use Rattle.promises.specs.Call.{Format, Check, ReadPage, WritePage, Run, Answer, answer}
use Rattle.contracts.specs.Made.{Numbers, AsWords, ContractAllows}

-- What a call hands back, as an answer.
abbrev pub by_number : ℕ → Answer
by_number n = record { reply = n; words = []; answers = [] }

abbrev pub by_page : Replied → Answer
by_page r = record { reply = r.reply; words = r.buffer; answers = [] }

abbrev pub by_run : RunReplied → Answer
by_run r = record { reply = r.reply; words = r.words; answers = r.answers }

-- The same outcome, handed back as an answer.
answers_as : {A : Type 0} (f : A → Answer) {o : Outcome A} {counts counts' : List ℕ} {x : A} {s' : State}
    → Answers o counts x s' counts' → Answers (answer o f) counts (f x) s' counts'
answers_as f h = record { value = ap f h.value; after = h.after; counted = h.counted }

gives_as : {A : Type 0} (f : A → Answer) (call : Step A) (w : Words) {x : A} {w' : Words} → Gives (in_words w call) x w'
    → Gives (in_words w (λ s. answer (call s) f)) (f x) w'
unfolding in_words
gives_as f call w h = record { answer = ap f h.answer; lent = h.lent }

module _ (g : Geometry) (others : List Size) (s : State) {s' : State} {counts counts' : List ℕ} where
  pub format_made : {r : ℕ} → Answers (format g others s) counts r s' counts'
      → ContractAllows g (Format others) (by_number r) (Numbers s counts s' counts')
  format_made h = answers_as by_number h

  pub check_made : {r : ℕ} → Answers (check g others s) counts r s' counts'
      → ContractAllows g (Check others) (by_number r) (Numbers s counts s' counts')
  check_made h = answers_as by_number h

  module _ (l : ℕ) (buffer : List ℕ) {r : ℕ} where
    pub read_made : {buffer' : List ℕ} → Answers (read g others l buffer s) counts (replied buffer' r) s' counts'
        → ContractAllows g (ReadPage others l buffer) (by_page (replied buffer' r)) (Numbers s counts s' counts')
    read_made h = answers_as by_page h

    pub write_made : Answers (write g others l buffer s) counts (replied buffer r) s' counts'
        → ContractAllows g (WritePage others l buffer) (by_page (replied buffer r)) (Numbers s counts s' counts')
    write_made h = answers_as by_page h

  pub run_made : (requests : List Request) (words answers : List ℕ) {words' answers' : List ℕ} {r : ℕ}
      → Answers (run g others requests words answers s) counts (run_replied words' answers' r) s' counts'
      → ContractAllows g (Run others requests words answers) (by_run (run_replied words' answers' r)) (Numbers s counts s' counts')
  run_made requests words answers h = answers_as by_run h

-- The sizes that a run in words tests.
abbrev pub run_word_sizes : Words → List ℕ → List Size
run_word_sizes w requests = record { has = length requests % 2; should = 0 } ∷ word_sizes w

module _ (g : Geometry) (w : Words) {w' : Words} where
  pub tf_format_made : {r : ℕ} → Gives (tf_format g w) r w' → ContractAllows g (Format (word_sizes w)) (by_number r) (AsWords w w')
  unfolding tf_format
  tf_format_made h = gives_as by_number (format g (word_sizes w)) w h

  pub tf_check_made : {r : ℕ} → Gives (tf_check g w) r w' → ContractAllows g (Check (word_sizes w)) (by_number r) (AsWords w w')
  unfolding tf_check
  tf_check_made h = gives_as by_number (check g (word_sizes w)) w h

  module _ (l : ℕ) (buffer : List ℕ) {r : ℕ} where
    pub tf_read_made : {buffer' : List ℕ} → Gives (tf_read g l w buffer) (replied buffer' r) w'
        → ContractAllows g (ReadPage (word_sizes w) l buffer) (by_page (replied buffer' r)) (AsWords w w')
    unfolding tf_read
    tf_read_made h = gives_as by_page (read g (word_sizes w) l buffer) w h

    pub tf_write_made : Gives (tf_write g l w buffer) (replied buffer r) w'
        → ContractAllows g (WritePage (word_sizes w) l buffer) (by_page (replied buffer r)) (AsWords w w')
    unfolding tf_write
    tf_write_made h = gives_as by_page (write g (word_sizes w) l buffer) w h

  pub tf_run_made : (requests words answers : List ℕ) {words' answers' : List ℕ} {r : ℕ}
      → Gives (tf_run g w requests words answers) (run_replied words' answers' r) w'
      → ContractAllows g (Run (run_word_sizes w requests) (requests_of requests) words answers) (by_run (run_replied words' answers' r)) (AsWords w w')
  unfolding tf_run
  tf_run_made requests words answers h = gives_as by_run (run g (run_word_sizes w requests) (requests_of requests) words answers) w h
