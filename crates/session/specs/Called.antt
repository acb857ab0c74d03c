-- What the program prints of a call in words is what the definitions print: the laws that the proofs of `serve` cite.
use Rattle.std.specs.Prelude.{ℕ, ◌<◌, ◌≡◌, refl, ◌≢◌, List, [], ◌∷◌, length, get_or, take, replicate, None}
use Rattle.std.proofs.Common.{arith, sym, ap, ap₂, ◌∙◌, subst, eq-eqb, ne_eqb}
use Rattle.scope.specs.SmallRecord.{SmallRecord, record_words}
use Rattle.scope.specs.Lent.{State, with_small}
use Rattle.scope.specs.Operations.{Step, Outcome, counted}
use Rattle.scope.specs.Requests.{Replied}
use Rattle.scope.specs.Replies.{DONE, Size, right_sizes}
use Rattle.scope.specs.Calls.{format, read, write}
use Rattle.scope.specs.Boundary.{counts_words, call_sizes, words_of_counts, put_counts, Words, InWords, from_words, to_words, word_sizes}
use Rattle.scope.specs.Boundary.{in_words, tf_format, tf_read, tf_write}
use Rattle.scope.specs.Holding.{Answers, Gives}
use Rattle.scope.specs.Laws.SmallRecord.{record_stored}
use Rattle.scope.specs.Tables.Play.{computed, Line, W, R, formatted, made, first_word, printed}
use Rattle.scope.specs.Tables.Session.{G}
use Rattle.lines.specs.Digits.{numbers, Prints}
use Rattle.session.specs.Serves.{answered, shown, Serves}

-- Where the record has all its words and the counts are three, a call in words is the call on numbers and lists.
gives_answers : {A : Type 0} (call : List Size → Step A) (w w' : Words) (x : A) → length w.small ≡ record_words
    → length w.counts ≡ counts_words → Gives (in_words w (call (word_sizes w))) x w'
    → Answers (call (call_sizes record_words counts_words) (from_words w)) w.counts x (from_words w') w'.counts
unfolding in_words
gives_answers {A = A} call w w' x whole three gives =
    record {
      value = ap (λ zs. (call zs s).value) right ∙ gives.answer;
      after =
          ap (λ (r : SmallRecord). with_small r o.after) (sym (record_stored w.small o.after.small whole))
          ∙ ap (λ zs. from_words (to_words w (call zs s))) right
          ∙ ap from_words gives.lent;
      counted = sym (ap (λ (v : Words). v.counts) (ap (λ zs. to_words w (call zs s)) right ∙ gives.lent));
    }
  where
    s : State
    s = from_words w

    o : Outcome A
    o = call (call_sizes record_words counts_words) s

    right : call_sizes record_words counts_words ≡ word_sizes w
    right = ap₂ call_sizes (sym whole) (sym three)

-- The numbers that the program prints are those that the definitions print.
as_printed : (l : Line) (o : Outcome Replied) {x : Replied} {s' : State} {counts counts' : List ℕ} → length counts ≡ counts_words
    → Answers o counts x s' counts' → numbers x.reply counts' (first_word l x) ≡ printed l o
unfolding printed
as_printed l o {counts = counts} three a =
    ap₂ (λ (x : Replied) (k : List ℕ). numbers x.reply k (first_word l x)) (sym a.value) (a.counted ∙ written)
  where
    written : put_counts counts (counted o.did) ≡ words_of_counts (counted o.did)
    written = rw (eq-eqb _ _ three)

-- The program's arrays before its first call, and the state that its format leaves: the one that 01's session begins from.
abbrev unwritten : Words
unwritten =
    record {
      chip = replicate 24 0;
      spare = replicate 24 0;
      directory = replicate 2 0;
      cache = replicate 3 0;
      small = replicate 6 0;
      counts = replicate 3 0;
    }

pub format_begins : (w : Words) (x : ℕ) → Gives (tf_format G unwritten) x w → from_words w ≡ formatted G
unfolding computed tf_format
format_begins w x gives = sym (gives_answers (λ (zs : List Size). format G zs) unwritten w x refl refl gives).after ∙ same
  where
    same : (format G (call_sizes record_words counts_words) (from_words unwritten)).after ≡ formatted G
    same = refl

-- The call in words that a line asks for.
abbrev called : Line → Words → InWords Replied
called (W page value) w = tf_write G page w (replicate 2 value)
called (R page) w = tf_read G page w (replicate 2 0)

called_answers : (l : Line) (w w' : Words) (x : Replied) → length w.small ≡ record_words → length w.counts ≡ counts_words
    → Gives (called l w) x w' → Answers (made G l (from_words w)) w.counts x (from_words w') w'.counts
unfolding tf_read tf_write made read write right_sizes
called_answers (W page value) w w' x = gives_answers (λ (zs : List Size). write G zs page (replicate 2 value)) w w' x
called_answers (R page) w w' x = gives_answers (λ (zs : List Size). read G zs page (replicate 2 0)) w w' x

-- A line whose call was made, and whose numbers were printed, is served.
pub call_serves : (l : Line) (w w' : Words) (x : Replied) {more out out' : List ℕ} {n : ℕ} → length w.small ≡ record_words
    → length w.counts ≡ counts_words → Gives (called l w) x w' → more ≡ first_word l x
    → Prints out (numbers x.reply w'.counts more) out' n → Serves (answered l (from_words w)) (from_words w') out out' n
call_serves l w w' x {more} {out} {out'} {n} whole three gives e prints =
    let a = called_answers l w w' x whole three gives in
    let numbered = ap (numbers x.reply w'.counts) e ∙ as_printed l (made G l (from_words w)) three a in
    let shown = subst (λ (ns : List ℕ). Prints out ns out' n) numbered prints in
    record { puts = shown.puts; left = a.after; within = shown.within; counted = shown.counted }

-- "For a DONE read, the first word", and for no other answer.
pub done_word : (page : ℕ) (x : Replied) → x.reply ≡ DONE → 0 < length x.buffer
    → get_or x.buffer 0 0 ∷ [] ≡ first_word (R page) x
unfolding first_word
done_word page x e some = rw e (sole x.buffer some)
  where
    sole : (words : List ℕ) → 0 < length words → get_or words 0 0 ∷ [] ≡ take 1 words
    sole [] h = absurd (omega arith)
    sole (word ∷ words) h = refl

pub no_word : (page : ℕ) (x : Replied) → x.reply ≢ DONE → [] ≡ first_word (R page) x
unfolding first_word
no_word page x h = rw (ne_eqb x.reply DONE h)

-- Another line prints nothing and changes nothing.
pub other_serves : (s : State) (out : List ℕ) → Serves (shown None s) s out out 0
other_serves s out = record { puts = record { stored = refl; ends = refl }; left = refl; within = omega arith; counted = refl }
