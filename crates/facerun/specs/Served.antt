-- The laws by which `serve_all` and `run` go from what is ensured to them to what they ensure. They are laws of a run in its parts, by the
-- names of the functions that they serve.
pub use Rattle.running.proofs.Ran.{request_at, ran_none as serve_all_none, ran_more as serve_all_more, ran_ready as serve_all_ready, ran_answers as run_by}
pub use Rattle.running.specs.Ran.{begun_admits as run_before_serve_all}
