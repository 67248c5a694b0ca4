use Rattle.std.proofs.Common.{◌≡◌, ◌<◌, ℕ, sym, ap, ◌∙◌, subst, arith}
use Rattle.shm_graph.specs.declared.ask.Me.{Me}
use Rattle.shm_count.specs.{Roots.root_word, Step.Control.IsInside}
use Rattle.shm_count.proofs.RootSpots.{roots_reached}
use Rattle.shm_recover.specs.Leave.{MayLeave}
use Rattle.shm_pool.specs.Tokens.{me_of}
use Rattle.shm_pool.proofs.{Keeping.alloc_may_leave, Replied.ready}
use Rattle.shm_pool.proofs.laws.alloc_gives.Goals as goal

pub returns-clause-made : goal.returns-clause-made
returns-clause-made c = λ n before left xs t t' x h.
    let m = h.machine in
    let e = t'.account in
    let same : m.me ≡ me_of t'.of e = h.asked.of ∙ (λ j. record { geometry = (sym h.done.same.0 j).start.geometry; who = sym h.done.same.1 j }) in
    let who = ap (λ (z : Me). z.who) same in
    let l = h.done.left_so in
    let idle = (h.done.between tt).idle in
    let is = ready t'.of e h.done.stood idle m.me same in
    let low : x.root < 16 = c.alloc_keeps.ensures.number m t.account.memo e.memo _ _ _ l in
    let named : root_word e.who e.memo x.root ≡ x.block = subst (λ (i : ℕ). root_word i e.memo x.root ≡ x.block) who (c.alloc_keeps.ensures.named m t.account.memo e.memo _ _ _ l) in
    let inside : IsInside m.me x.block = c.alloc_keeps.ensures.inside m t.account.memo e.memo _ _ _ l is.who is.held in
    let least = inside.0 in
    record { low = low; named = named; reached = roots_reached e.who e.memo idle.op x.root x.block low (λ z. absurd (omega arith)) named }

pub returns-clause-leaves : goal.returns-clause-leaves
returns-clause-leaves c = λ n before left xs t t' a h may.
    let same : me_of t'.of t'.account ≡ me_of t.of t.account = (λ j. record { geometry = (h.done.same.0 j).start.geometry; who = h.done.same.1 j }) in
    (alloc_may_leave (me_of t'.of t'.account) h.machine t.account.memo t'.account.memo _ _ a (subst (λ (x : Me). MayLeave x t.account.memo) (sym same) may.0) (h.asked.of ∙ sym same) h.done.left_so, h.done.told.over)
