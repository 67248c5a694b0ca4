use Rattle.std.proofs.Common.{◌≡◌, ℕ, zero, suc, ◌<◌, ◌⊎◌, Bool, true, false, inl, inr, refl, sym, ◌∙◌, subst, arith}
use Rattle.shm_graph.specs.declared.ask.Me.{Me}
use Rattle.shm_agents.specs.Agents.{AgentsStand, is_client}
use Rattle.shm_pool.specs.{Posts.IsPosted, Tokens.Its}
use Rattle.shm_morgue.specs.Dead.{HasParted}
use Rattle.shm_morgue.proofs.Parting.{parts_on}
use Rattle.shm_morgue.proofs.worker.work.Goals as goal
use Rattle.shm_replay.proofs.Seating.{client_here}

by_life : (n : ℕ) (P : Type 0) → (0 < n → (k : ℕ) × P) → (n ≡ 0 → P) → P
by_life zero P some none = none refl
by_life (suc n) P some none = (some (omega arith)).1

has_parted : (b : Bool) (P : Type 0) → (b ≡ true) ⊎ P → b ≡ false → P
has_parted b P (inl at) over = absurd (let z : true ≡ false = sym at ∙ over in cc)
has_parted b P (inr parted) over = parted

pub loop-agents-init : goal.loop-agents-init
loop-agents-init g c = record {
  work = record { of = refl; posted = c.requires.posted; me = refl; script = refl; stands = c.requires.stands };
  parts = inl c.requires.client;
}

pub turn-requires-clause-has : goal.turn-requires-clause-has
turn-requires-clause-has g c = let i = c.loop-agents.invariant.work in
    subst (λ (m : Me). IsPosted c.loop-agents.post m.who) (sym i.me) i.posted

pub turn-requires-clause-stands : goal.turn-requires-clause-stands
turn-requires-clause-stands g c = let i = c.loop-agents.invariant.work in
    subst (λ (p : Its). AgentsStand p.start c.args.script.now c.loop-agents.agents c.loop-agents.post.account) (sym i.of) i.stands

pub turn-requires-clause-here : goal.turn-requires-clause-here
turn-requires-clause-here g c = let client : is_client c.loop-agents.agents ≡ true = cc in (client_here c.loop-agents.agents client).0

pub loop-agents-preserved : goal.loop-agents-preserved
loop-agents-preserved g c =
    let i = c.loop-agents.invariant.work in
    let e = c.turn.ensures in
    let client : is_client c.loop-agents.agents ≡ true = cc in
    let of : c.turn.new.pool.of ≡ c.args.post.now.of = by_life c.loop-agents.agents.life.left (c.turn.new.pool.of ≡ c.loop-agents.post.of) e.stepped e.fell ∙ i.of in
    let stands = subst (λ (p : Its). AgentsStand p.start c.args.script.now c.turn.new.self c.turn.new.pool.account) of e.stands in
    record {
      work = record {
        of = of;
        posted = subst (λ (m : Me). IsPosted c.turn.new.pool m.who) i.me e.has;
        me = e.me ∙ i.me;
        script = e.script ∙ i.script;
        stands = stands;
      };
      parts = parts_on c.args.post.now.of.start c.args.script.now c.loop-agents.agents c.turn.new.self c.loop-agents.post.account c.turn.new.pool.account i.stands client stands e.given;
    }

pub returns-clause-parted : goal.returns-clause-parted
returns-clause-parted g c = has_parted (is_client c.loop-agents.agents) (HasParted c.args.script.now c.loop-agents.agents c.loop-agents.post.account) c.loop-agents.invariant.parts (let over : is_client c.loop-agents.agents ≡ false = cc in over)
