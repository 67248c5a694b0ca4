use Rattle.std.proofs.Common.{◌≡◌, ◌++◌, ℕ, ◌<◌, ◌≤◌, length, vec_capacity}
use Rattle.std.specs.{Prelude.slice_index_or, Vec.Iter.{into_iter_items, into_iter_len}}
use Rattle.shm_team.specs.Jobs.{AreJobs}
use Rattle.shm_morgue.specs.{Crew.IsTask, Entries.first_porters}
use Rattle.shm_morgue.proofs.run.tasks_in.Given as goal

abbrev pub invariant-loop-job : goal.invariant-loop-job
invariant-loop-job g l = record {
  items : l.yielded ++ into_iter_items l.job-iterator ≡ l.fn.jobs.items;
  len : into_iter_len l.job-iterator ≡ length (into_iter_items l.job-iterator);
  many : length l.tasks.items ≡ length l.yielded;
  jobs : AreJobs l.trace l.pool (length l.tasks.items) (into_iter_items l.job-iterator);
  porters : into_iter_items l.rest ≡ first_porters l.morgue (length l.tasks.items) (length (into_iter_items l.job-iterator));
  whole : into_iter_len l.rest ≡ length (into_iter_items l.rest);
  room : length l.fn.jobs.items ≤ vec_capacity l.tasks;
  tasks : (i : ℕ) (d : _) → i < length l.tasks.items → let k = slice_index_or l.tasks.items i d in (k.job.token.account.who ≡ i) × IsTask l.trace l.pool l.morgue k.job k.porter;
}
