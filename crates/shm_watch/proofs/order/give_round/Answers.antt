use Rattle.std.proofs.Common.{◌≡◌, ◌+◌, ℕ, false, sym, ap, ◌∙◌, subst, arith, inl, inr}
use Rattle.std.proofs.lemmas.Bool.{cases_eq, cases_lt, true≢false}
use Rattle.shm_plain.specs.Pools.{Pool}
use Rattle.shm_script.specs.Values.{Traced}
use Rattle.shm_replay.specs.{Orders.from_on, Turns.{given, is_busy}}
use Rattle.shm_replay.proofs.{Gathering.script_beyond, Seating.no_script_busy}
use Rattle.shm_watch.proofs.Giving.{from_given, idle_row}
use Rattle.shm_watch.proofs.order.give_round.Goals.{else-give_one, then-give_one}
use Rattle.shm_watch.proofs.order.give_round.Goals as goal

pub loop-who-preserved : goal.loop-who-preserved
loop-who-preserved g c =
    let l = c.loop-who in
    let h = l.invariant in
    let t = c.args.trace.now in
    let p = c.args.pool.now in
    let q = c.give_one.new.pool in
    let got = c.give_one.ensures in
    let turns : q ≡ given t p (from_on 0 (l.who + 1)) = from_given t p l.pool q l.who h.turns got.given in
    elim c.if-give_one.branch [
      | then-give_one w ↦
          let fell = got.some w.if-give_one.true in
          let less = h.less in
          record {
            seated = got.seated;
            turns = turns;
            life = λ e. omega arith;
            less = omega arith;
            still = λ e. absurd (true≢false (sym w.some-is ∙ e));
            idle = λ e k few. absurd (true≢false (sym w.some-is ∙ e));
            start = got.start ∙ h.start;
          }
      | else-give_one w ↦
          let same = got.none w.if-give_one.false in
          let idle : is_busy t l.pool l.who ≡ false = sym got.busy ∙ w.if-give_one.false in
          let less = h.less in
          record {
            seated = got.seated;
            turns = turns;
            life = λ e. let fell = h.life (sym w.some-is ∙ e) in omega arith;
            less = omega arith;
            still = λ e. got.given ∙ (idle_row t l.pool l.who 1 idle ∙ h.still (sym w.some-is ∙ e));
            idle = λ e k few. elim (cases_eq k l.who) [
              | inl f ↦ subst (λ (n : ℕ). is_busy t p n ≡ false) (sym f) (subst (λ (x : Pool). is_busy t x l.who ≡ false) (h.still (sym w.some-is ∙ e)) idle)
              | inr o ↦ h.idle (sym w.some-is ∙ e) k (omega arith)
            ];
            start = got.start ∙ h.start;
          }
    ]

pub returns-clause-given : goal.returns-clause-given
returns-clause-given g c =
    let l = c.loop-who in
    let clients : c.args.trace.now.clients ≡ c.trace.inside.clients = (let v = ap (λ (x : Traced). x.clients) c.trace.view_is in cc) in
    let all : l.who ≡ c.args.trace.now.clients = omega arith in
    subst (λ (n : ℕ). l.pool ≡ given c.args.trace.now c.args.pool.now (from_on 0 n)) all l.invariant.turns

pub returns-clause-done : goal.returns-clause-done
returns-clause-done g c none k =
    let l = c.loop-who in
    let h = l.invariant in
    let t = c.args.trace.now in
    let clients : t.clients ≡ c.trace.inside.clients = (let v = ap (λ (x : Traced). x.clients) c.trace.view_is in cc) in
    elim (cases_lt k t.clients) [
      | inl few ↦ subst (λ (x : Pool). is_busy t x k ≡ false) (sym (h.still none)) (h.idle none k (let z = c.loop-who-test.false in omega arith))
      | inr far ↦ no_script_busy t l.pool k (script_beyond t.clients t.scripts k c.in_grammar.ensures.scripts far)
    ]
