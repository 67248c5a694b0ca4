-- rounds in which the agents of one identity alone have something to do, one after the other
use Rattle.std.proofs.Common.{◌≡◌, ◌≢◌, ℕ, zero, suc, ◌+◌, ◌<◌, false, refl, sym, ap, ◌∙◌, subst}
use Rattle.std.specs.Prelude.{Some, slice_get}
use Rattle.shm_graph.specs.{declared.ask.Me.Me, Runs.account_at}
use Rattle.shm_plain.specs.Pools.{Pool, after_fall}
use Rattle.shm_script.specs.Values.{Scripted, Traced}
use Rattle.shm_agents.specs.{Agents.{AgentsStand, Playing}, Rows.{AreTurns, OneTurn}}
use Rattle.shm_replay.specs.{Orders.rounds_of, Seats.IsSeat, Turns.{given, in_a_row, is_busy, worked}}
use Rattle.shm_replay.proofs.{Giving.rounds_more, Lone.{lone_round, rounds_on, same_busy}}
use Rattle.shm_replay.proofs.{Seating.{seat_after, seat_of, seat_turn}, Worked.{worked_by, worked_others}}

module _ (t : Traced) (c : ℕ) (few : c < t.clients) (s : Scripted) where
  -- x are the agents of c, which have this script, and no other identity has anything to do
  pub record AreLone (p : Pool) (x : Playing) : Type 0 where
    pub seat : IsSeat t p c x
    pub at : slice_get t.scripts x.script ≡ Some s
    pub who : x.me.who ≡ c
    pub idle : (d : ℕ) → d ≢ c → is_busy t p d ≡ false

  -- rounds led from p and x to q and y
  pub record Rounds (p : Pool) (x : Playing) (q : Pool) (y : Playing) : Type 0 where
    pub lone : AreLone q y
    pub many : ℕ
    pub turns : q ≡ given t p (rounds_of t.clients many)
    pub others : (d : ℕ) → d ≢ c → account_at q.accounts d ≡ account_at p.accounts d
    pub start : q.start ≡ p.start
    pub me : y.me ≡ x.me
    pub script : y.script ≡ x.script

  -- a turn of the agents is a round
  one_round : (p : Pool) (x : Playing) (q : Pool) (y : Playing) → AreLone p x → OneTurn s p x q y → Rounds p x q y
  one_round p x q y h o =
      let of = seat_of t p c x h.seat o.here in
      let took : q ≡ worked (Some x.work) x.life.left c p = worked_by p q c x.life.left x.work (ap (λ (m : Me). m.who) of.0) o.stepped (subst (λ (k : ℕ). x.life.left ≡ 0 → q ≡ after_fall p k) h.who o.fell) in
      let row : q ≡ in_a_row t p c 1 = seat_turn t p c x h.seat q o.here took in
      let others : (d : ℕ) → d ≢ c → account_at q.accounts d ≡ account_at p.accounts d = λ d n. ap (λ (z : Pool). account_at z.accounts d) took ∙ worked_others p c d x.life.left x.work of n in
      let idle : (d : ℕ) → d ≢ c → is_busy t q d ≡ false = λ d n. same_busy t p q d o.start (others d n) ∙ h.idle d n in
      record {
        lone = record {
          seat = seat_after t p q c x y s h.seat h.at o.start o.me o.script (subst (λ (k : ℕ). AgentsStand q.start s y (account_at q.accounts k)) h.who o.stands);
          at = ap (slice_get t.scripts) o.script ∙ h.at;
          who = ap (λ (m : Me). m.who) o.me ∙ h.who;
          idle = idle;
        };
        many = 1;
        turns = rounds_more t p p q 0 refl (lone_round t p q c few row h.idle idle);
        others = others;
        start = o.start;
        me = o.me;
        script = o.script;
      }

  no_round : (p : Pool) (x : Playing) → AreLone p x → Rounds p x p x
  no_round p x h = record { lone = h; many = 0; turns = refl; others = λ d n. refl; start = refl; me = refl; script = refl }

  pub rounds : (n : ℕ) (p : Pool) (x : Playing) (q : Pool) (y : Playing) → AreLone p x → AreTurns s n p x q y → Rounds p x q y
  rounds zero p x q y h e = subst (λ (r : Pool). Rounds p x r y) (sym e.0) (subst (Rounds p x p) (sym e.1) (no_round p x h))
  rounds (suc n) p x q y h e =
      let a : Rounds p x e.0 e.1 = one_round p x e.0 e.1 h e.2 in
      let b : Rounds e.0 e.1 q y = rounds n e.0 e.1 q y a.lone e.3 in
      record {
        lone = b.lone;
        many = a.many + b.many;
        turns = rounds_on t p e.0 q a.many b.many a.turns b.turns;
        others = λ d n. b.others d n ∙ a.others d n;
        start = b.start ∙ a.start;
        me = b.me ∙ a.me;
        script = b.script ∙ a.script;
      }
