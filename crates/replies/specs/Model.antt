-- The struct of a request as document 01's request, and the two kinds as its numbers.
use Rattle.std.specs.Prelude.{ℕ, ◌≤◌, ◌≡◌, Result, MatchResult}
use Rattle.scope.specs.Lent.{Request}
use Rattle.scope.specs.Calls.{kinds}
use Rattle.lent.specs.declared.reply.Refusal.{Refusal}
use Rattle.replies.specs.declared.Request.{Request as Asked}
use Rattle.replies.specs.declared.Kind.{Kind}
use Rattle.replies.specs.declared.Kind.TheVariants.{Read, Write}

abbrev pub request : Asked → Request
request q = record { kind = q.kind; page = q.page }

abbrev pub kind : Kind → ℕ
kind Read = 0
kind Write = 1

-- The kind of this number, or the refusal of a number that no kind has.
abbrev pub Decodes : ℕ → Result Kind Refusal → Type 0
Decodes n r = MatchResult r (λ k. kind k ≡ n) (λ e. (e ≡ Refusal.Kind) × (kinds ≤ n))
