-- 01, "Holding each call to its answer": "each public call has a contract that settles reply, counts and every lent word for each input,
-- refusals too". What the `ensures` of a public call says beside naming the call's definition: one form for the calls on numbers and
-- lists, one for the calls in words. And "any two outcomes allowed by it are equal".
use Rattle.std.specs.Prelude.{ℕ, ◌≡◌, List}
use Rattle.std.proofs.Common.{sym, ◌∙◌}
use Rattle.scope.specs.Lent.{State}
use Rattle.scope.specs.Operations.{Outcome, counted}
use Rattle.scope.specs.Boundary.{put_counts, Words, InWords}

-- A call whose definition gives the outcome o answered x and left the state s'; the slice `counts` holds counts' after it.
pub record Answers {A : Type 0} (o : Outcome A) (counts : List ℕ) (x : A) (s' : State) (counts' : List ℕ) : Type 0 where
  pub value : o.value ≡ x
  pub after : o.after ≡ s'
  pub counted : counts' ≡ put_counts counts (counted o.did)

pub answers_one_outcome : {A : Type 0} {o : Outcome A} {counts : List ℕ} {x y : A} {s' s'' : State} {counts' counts'' : List ℕ}
    → Answers o counts x s' counts' → Answers o counts y s'' counts'' → (x ≡ y) × (s' ≡ s'') × (counts' ≡ counts'')
answers_one_outcome a b = (sym a.value ∙ b.value, sym a.after ∙ b.after, a.counted ∙ sym b.counted)

-- A call in words answered x and left the words w, those of the record and of the counts among them.
pub record Gives {A : Type 0} (call : InWords A) (x : A) (w : Words) : Type 0 where
  pub answer : call.answer ≡ x
  pub lent : call.lent ≡ w

pub gives_one_outcome : {A : Type 0} {call : InWords A} {x y : A} {w v : Words} → Gives call x w → Gives call y v → (x ≡ y) × (w ≡ v)
gives_one_outcome a b = (sym a.answer ∙ b.answer, sym a.lent ∙ b.lent)
