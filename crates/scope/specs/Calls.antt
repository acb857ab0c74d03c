-- The five public calls as total functions: for any geometry numbers, page number and lists, the reply, the operations, whose
-- counts are the answer's, and every lent list after. `others` are the sizes of what a call lends beside the state and its buffers, which
-- LENGTH tests with theirs: the small record's and the counts' (Boundary.antt).
use Rattle.std.specs.Prelude.{ℕ, zero, suc, ◌*◌, Bool, not, cond, ◌&&◌, List, [], ◌∷◌, ◌++◌, eqb, leb, length, get_or, take, drop, set}
use Rattle.std.proofs.lemmas.List.Edits.{sets}
use Rattle.scope.specs.Geometry.{Geometry, accepted}
use Rattle.scope.specs.SmallRecord.{SmallRecord}
use Rattle.scope.specs.Lent.{none, State, Request, most_requests, chip_size, spare_size, directory_size, cache_size}
use Rattle.scope.specs.Decisions.{sound}
use Rattle.scope.specs.Operations.{Step, give, look, ◌>>=◌}
use Rattle.scope.specs.Replies.{DONE, GEOMETRY, LENGTH, DAMAGED, KIND, PAGE, Test, Size, admit, right_sizes}
use Rattle.scope.specs.Requests.{Replied, replied, read_steps, write_steps, format_steps}

-- The sizes that every call tests: those of the state's four lists.
abbrev pub state_sizes : Geometry → State → List Size
state_sizes g s =
    record { has = length s.chip; should = chip_size g }
    ∷ record { has = length s.spare; should = spare_size g }
    ∷ record { has = length s.directory; should = directory_size g }
    ∷ record { has = length s.cache; should = cache_size g }
    ∷ []

-- "Page buffer of W words for read and write."
abbrev pub buffer_sizes : Geometry → List ℕ → List Size
buffer_sizes g buffer = record { has = length buffer; should = g.W } ∷ []

-- "A data buffer of n·W words; n answer words are lent too."
abbrev pub run_sizes : Geometry → List Request → List ℕ → List ℕ → List Size
run_sizes g requests words answers =
    record { has = length words; should = length requests * g.W }
    ∷ record { has = length answers; should = length requests }
    ∷ []

-- The tests, each list in number order. Format's: "The old state isn't tested."
abbrev pub size_tests : Geometry → Bool → List Test
size_tests g sizes = record { number = GEOMETRY; applies = not (accepted g) } ∷ record { number = LENGTH; applies = not sizes } ∷ []

-- "DAMAGED: the state isn't sound."
abbrev pub state_tests : Geometry → Bool → State → List Test
state_tests g sizes s = size_tests g sizes ++ record { number = DAMAGED; applies = not (sound g s) } ∷ []

-- "Kind 0 read or 1 write."
abbrev pub kinds : ℕ
kinds = 2

-- What is tested of a request, be it a single call's or a record's, with the small record as it is then. "PAGE: the logical page is L or
-- more."
abbrev pub request_tests : Geometry → SmallRecord → Request → List Test
request_tests g small q =
    record { number = KIND; applies = leb kinds q.kind } ∷ record { number = PAGE; applies = leb g.L q.page } ∷ []

-- The request that a read, and a write, of page l is.
abbrev pub read_of : ℕ → Request
read_of l = record { kind = 0; page = l }

abbrev pub write_of : ℕ → Request
write_of l = record { kind = 1; page = l }

-- Those of a single request: the state's, and then its own.
abbrev pub single_tests : Geometry → List Size → Request → List ℕ → State → List Test
single_tests g others q buffer s =
    state_tests g (right_sizes (state_sizes g s ++ buffer_sizes g buffer ++ others)) s ++ request_tests g s.small q

unfoldable pub format : Geometry → List Size → Step ℕ
format g others = do
  sizes ← look (λ s. right_sizes (state_sizes g s ++ others))
  admit (size_tests g sizes) (λ n. n) (format_steps g)

-- "Check: DONE if sound, counts 0, 0, 0, nothing changed."
unfoldable pub check : Geometry → List Size → Step ℕ
check g others = do
  tests ← look (λ s. state_tests g (right_sizes (state_sizes g s ++ others)) s)
  admit tests (λ n. n) (give DONE)

unfoldable pub read : Geometry → List Size → ℕ → List ℕ → Step Replied
read g others l buffer = do
  tests ← look (λ s. single_tests g others (read_of l) buffer s)
  admit tests (replied buffer) (read_steps g l buffer)

unfoldable pub write : Geometry → List Size → ℕ → List ℕ → Step Replied
write g others l buffer = do
  tests ← look (λ s. single_tests g others (write_of l) buffer s)
  admit tests (replied buffer) (write_steps g l buffer)

-- What a run has lent beside the state: its data buffer and its answers.
pub record RunReplied : Type 0 where
  pub reply : ℕ
  pub words : List ℕ
  pub answers : List ℕ

abbrev pub run_replied : List ℕ → List ℕ → ℕ → RunReplied
run_replied words answers n = record { reply = n; words = words; answers = answers }

-- "Record i uses words i·W to i·W+W-1 of a data buffer."
abbrev pub part : Geometry → ℕ → List ℕ → List ℕ
part g i words = take g.W (drop (i * g.W) words)

-- A request that has passed its tests: kind 0 reads, kind 1 writes.
unfoldable pub serve : Geometry → Request → List ℕ → Step Replied
serve g q buffer = cond (eqb q.kind 0) (read_steps g q.page buffer) (write_steps g q.page buffer)

-- A record with its own tests.
unfoldable pub answer_record : Geometry → Request → List ℕ → Step Replied
answer_record g q buffer = do
  tests ← look (λ s. request_tests g s.small q)
  admit tests (replied buffer) (serve g q buffer)

-- "Then each record gets its own number": record i; its answer is stored, and its words where it gives any.
unfoldable pub serve_record : Geometry → ℕ → Request → RunReplied → Step RunReplied
serve_record g i q lent = do
  r ← answer_record g q (part g i lent.words)
  give (run_replied (sets lent.words (i * g.W) r.buffer) (set lent.answers i r.reply) DONE)

abbrev pub no_request : Request
no_request = record { kind = none; page = none }

-- "And the run goes on": the first n records, in order.
unfoldable pub serve_records : Geometry → List Request → ℕ → RunReplied → Step RunReplied
serve_records g requests zero lent = give lent
serve_records g requests (suc n) lent = do
  lent' ← serve_records g requests n lent
  serve_record g n (get_or requests n no_request) lent'

-- "A run tests 2, 3, 4 once"; LENGTH too where it "has over 1,024 records". "The run itself answers DONE with the sums of its
-- records' counts; an empty run changes nothing."
unfoldable pub run : Geometry → List Size → List Request → List ℕ → List ℕ → Step RunReplied
run g others requests words answers = do
  tests ← look (λ s. state_tests g
      (right_sizes (state_sizes g s ++ run_sizes g requests words answers ++ others) && leb (length requests) most_requests) s)
  admit tests (run_replied words answers) (serve_records g requests (length requests) (run_replied words answers DONE))
