-- many word steps of a machine on a pool, one after the other: where they end, and what is noted of them
use Rattle.std.specs.Prelude.{ℕ, zero, suc, Option, Some, None, List}
use Rattle.shm_graph.specs.{declared.{ask.Turn.{Turn, TheVariants.{Done, Died}}, memo.Step.Step}, Asks.words_set}
use Rattle.shm_graph.specs.{Laws.Control, ManySteps.Stop}
use Rattle.shm_plain.specs.{declared.track.Track.Track, Pools.{Pool, next_of, readied, turn_on, turned}}
use Rattle.shm_plain.specs.Tracks.{noted_at}

-- by what a machine answers after a word step: one thing where it goes on, and one for each answer
abbrev pub by_answer : {A B : Type 0} → Option A → B → (A → B) → B
by_answer None b f = b
by_answer (Some a) b f = f a

-- what they told: the answer of the last one, or none where no life was left
abbrev pub answer_in : {A : Type 0} → Turn A → Option A
answer_in (Done a) = Some a
answer_in _ = None

module _ {M A : Type 0} (k : Control M A) (c : ℕ) where
  -- where so many word steps of c end, or those until the machine has answered, from this machine and this pool
  abbrev pub stop_of : ℕ → M → Pool → Stop M Pool A
  stop_of zero m p = record { left = 0; machine = m; words = p; turn = Died }
  stop_of (suc n) m p =
      let t : Step = turn_on (readied p c) k m in
      let q : Pool = turned (readied p c) t in
      by_answer (k.turns m t.seen) (stop_of n (k.after m t.seen) q) (λ a. record { left = n; machine = k.after m t.seen; words = q; turn = Done a })

  -- what is noted of the same word steps, on these words
  abbrev pub noted_steps : ℕ → M → List ℕ → Track → Track
  noted_steps zero m ws r = r
  noted_steps (suc n) m ws r =
      let t : Step = next_of k m ws in
      by_answer (k.turns m t.seen) (noted_steps n (k.after m t.seen) (words_set t.ask ws) (noted_at c t r)) (λ a. noted_at c t r)
