-- `serving::serve` meets its contract.
use Prim.Native.Nat.{◌+◌, ◌*◌, ◌-◌}
use mathlib.Core.Path.{◌≡◌, refl, sym, ◌∙◌}
use borrow.Author.Rules.{rules}
use native.Mathlib.Omega.{arith}
use Rattle.lent.specs.Model.{geometry, small}
use Rattle.lent.specs.DoesLaws.{does_ends}
use Rattle.requests.specs.Node.{held_is, node_noted}
use Rattle.lent.specs.Reply.{refused_not_done}
use Rattle.scope.specs.Calls.{serve_record}
use Rattle.words.specs.Runs.{length_part}
use Rattle.replies.specs.Model.{request}
use Rattle.admission.specs.Tested.{request_below}
use Rattle.running.specs.Ends.{is_done, not_done}
use Rattle.running.specs.Serve.{not_admitted}
use Rattle.running.proofs.Serve.{request_refused, request_served}
use Rattle.serving.proofs.serve.Goals as goal

pub returns-then-is_err : goal.returns-then-is_err
returns-then-is_err c = let a = c.args in
    let not_admitted_here = not_done a.cur.answer (sym c.is_err.ensures.value ∙ c.if-is_err.true) in
    record { runs = not_admitted (serve_record (geometry a.g) a.i (request a.q)) not_admitted_here; noted = λ x. x }

pub returns-in-Err : goal.returns-in-Err
returns-in-Err c = let a = c.args in
    let admitted = is_done a.cur.answer (sym c.is_err.ensures.value ∙ c.if-is_err.false) in
    let serving = c.requires admitted in
    record {
      runs = rw c.into.ensures
          (request_refused (geometry a.g) a.i (request a.q) a.cur _ a.words.now a.answers.now
          admitted serving.part_fits c.in-Err.ensures.first (refused_not_done c.in-Err.refusal));
      noted = λ x. x;
    }

pub serve_request-done-requires-clause-ready_for : goal.serve_request-done-requires-clause-ready_for
serve_request-done-requires-clause-ready_for c = let a = c.args in
    let serving = c.requires (is_done a.cur.answer (sym c.is_err.ensures.value ∙ c.if-is_err.false)) in
    let at : a.i * a.g.w + a.g.w - a.i * a.g.w ≡ a.g.w = omega arith in (
      record {
        ready = serving.asks.ready;
        below = request_below (geometry a.g) (small a.cur.rec) (request a.q) c.in-Ok.ensures.first;
      },
      rw at (length_part a.words.now (a.i * a.g.w) a.g.w serving.part_fits),
    )

pub returns : goal.returns
returns c = let a = c.args in
    let admitted = is_done a.cur.answer (sym c.is_err.ensures.value ∙ c.if-is_err.false) in
    let serving = c.requires admitted in
    let at : a.i * a.g.w + a.g.w - a.i * a.g.w ≡ a.g.w = omega arith in
    let node = c.serve_request-done.new.node in
    let served = c.serve_request-done.ensures.does in
    record {
      runs = rw c.into-2.ensures
          (request_served (geometry a.g) a.i (request a.q) a.cur _ a.words.now a.answers.now
          admitted serving.part_fits refl at
          c.in-Ok.ensures.first
          (does_ends served.does
          (held_is node (search rules) (search rules) (search rules) (search rules) refl) refl)
          c.serve_request-done.auto.buffer);
      noted = λ _. node_noted node served.same.0.geometry_kept (search rules) (search rules) (search rules) refl (search rules);
    }
