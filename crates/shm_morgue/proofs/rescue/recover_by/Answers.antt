use Rattle.std.proofs.{Common.{◌≡◌, ◌<◌, ◌≤◌, ℕ, List, length, sym, ap, ◌∙◌, arith}, lemmas.List.take_all}
use Rattle.std.specs.Prelude.{Some, slice_get, slice_index}
use Rattle.shm_agents.specs.Turns.{lives_of}
use Rattle.shm_morgue.proofs.{Lives.index_get, Recovered.dead_finish}
use Rattle.shm_morgue.proofs.rescue.recover_by.Goals as goal

-- a number of the life line that was read
life_read : (ns ms : List ℕ) (i n : ℕ) → ms ≡ ns → i < length (lives_of ns) → n ≡ slice_index (lives_of ns) i → slice_get (lives_of ms) i ≡ Some n
life_read ns ms i n same l is = ap (λ (xs : List ℕ). slice_get (lives_of xs) i) same ∙ (index_get (lives_of ns) i l ∙ ap Some (sym is))

pub returns-in-Vacant : goal.returns-in-Vacant
returns-in-Vacant g c = λ s l is h.
    let long = c.agents_of-agent-end.ensures in
    let inside : c.loop-agent.agent < length (lives_of c.args.life.now) = omega arith in
    c.in-Vacant.ensures.next s c.loop-agent.agent l (life_read c.args.life.now s.life c.loop-agent.agent c.life_at.result is inside c.life_at.ensures) (c.loop-agent.invariant.dead s l is h)

pub loop-agent-preserved : goal.loop-agent-preserved
loop-agent-preserved g c = record {
  of = c.in-Corpse.ensures.of;
  dead = λ s l is h.
      let long = c.agents_of-agent-end.ensures in
      let inside : c.loop-agent.agent < length (lives_of c.args.life.now) = omega arith in
      c.in-Corpse.ensures.next s c.loop-agent.agent l (life_read c.args.life.now s.life c.loop-agent.agent c.life_at.result is inside c.life_at.ensures) (c.loop-agent.invariant.dead s l is h);
}

pub returns : goal.returns
returns g c = λ s l is h.
    let long = c.agents_of-agent-end.ensures in
    let same : length (lives_of s.life) ≡ length (lives_of c.args.life.now) = ap (λ (xs : List ℕ). length (lives_of xs)) is in
    let over : length (lives_of s.life) ≤ c.loop-agent.agent = omega arith in
    dead_finish c.args.pool.now s c.loop-agent.agent l c.loop-agent.last (c.loop-agent.invariant.dead s l is h) (take_all c.loop-agent.agent (lives_of s.life) over)
