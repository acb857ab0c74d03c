-- Where no more may follow, no bytes; else whole fields of tags above the last.
use Rattle.std.proofs.Common.{sym, ap, ◌∙◌}
use Rattle.std.specs.Prelude.{ℕ}
use Rattle.settings.specs.Fields.{whole_fields}
use Rattle.fields.proofs.after.may_follow.Goals as goal

pub returns-then-not-more : goal.returns-then-not-more
returns-then-not-more c = λ v m l. rw (m ∙ c.if-not-more.true) c.is_empty.ensures

pub returns : goal.returns
returns c = λ v m l. rw (m ∙ c.if-not-more.false) (c.whole_fields.ensures ∙ ap (λ (n : ℕ). whole_fields n 0 c.args.bytes.now) (sym l))
