use Rattle.std.proofs.Common.{◌≡◌, List, length, sym, ap, ◌∙◌, subst, arith}
use Rattle.std.proofs.lemmas.Result.{IfOk-weaker}
use Rattle.std.specs.{Prelude.slice_index_or, List.Contains}
use Rattle.shm_pool.specs.Tokens.{Its}
use Rattle.shm_morgue.specs.{Entries.all_taken, Slots.{AreEnough, AreRescued}}
use Rattle.shm_morgue.proofs.{Loops.take_front, Slotting.{enough, single, worked_long, worked_of}}
use Rattle.shm_morgue.proofs.run.all_closed.Goals as goal

pub close-requires-clause-porters : goal.close-requires-clause-porters
close-requires-clause-porters g c = worked_of c.args.trace.now c.args.pool.now c.args.morgue 0 c.in_ok-porters.porters.items c.in_ok-porters.outcomes.items c.in_ok-porters.ensures.worked

pub close-requires-clause-all : goal.close-requires-clause-all
close-requires-clause-all g c = (c.in_ok-porters.ensures.many ∙ (c.requires.all.0 ∙ sym c.requires.all.1), c.in_ok-medics.ensures.many ∙ c.requires.all.2)

pub rescue_all-requires-clause-of : goal.rescue_all-requires-clause-of
rescue_all-requires-clause-of g c = λ k d l.
    let of = (slice_index_or c.in_ok-left.left.items k d).corpse.of in
    single c.args.pool.now of (subst (λ (ps : List Its). Contains ps of) c.requires.pools (c.in_ok-left.ensures.of k d l))

pub all_done-requires-clause-many : goal.all_done-requires-clause-many
all_done-requires-clause-many g c =
    let t = c.args.trace.now in
    let p = c.args.pool.now in
    let taken = all_taken c.in_ok-medics.medics.items in
    let news = c.rescue_all.new.slots in
    let before = c.in_ok-medics.ensures.rescued in
    let after = c.rescue_all.ensures taken (subst (AreRescued t p taken) (sym c.deref_mut.ensures.value) before) in
    let was = before.many in
    let is = after.many in
    let whole = c.in_ok-medics.slots.ok.0 in
    let same : c.in_ok-medics.slots.len ≡ length news = omega arith in
    let back = ap length (c.deref_mut-2.ensures.value ∙ take_front news _ c.in_ok-medics.slots.len same) in
    let clients = c.requires.clients in
    let works = c.requires.all.0 in
    let porters = c.in_ok-porters.ensures.many in
    let long = worked_long t p c.args.morgue 0 c.in_ok-porters.porters.items c.in_ok-porters.outcomes.items c.in_ok-porters.ensures.worked in
    omega arith

pub all_done-requires-clause-enough : goal.all_done-requires-clause-enough
all_done-requires-clause-enough g c =
    let t = c.args.trace.now in
    let p = c.args.pool.now in
    let taken = all_taken c.in_ok-medics.medics.items in
    let news = c.rescue_all.new.slots in
    let before = c.in_ok-medics.ensures.rescued in
    let after = c.rescue_all.ensures taken (subst (AreRescued t p taken) (sym c.deref_mut.ensures.value) before) in
    let was = before.many in
    let is = after.many in
    let whole = c.in_ok-medics.slots.ok.0 in
    let same : c.in_ok-medics.slots.len ≡ length news = omega arith in
    let back = c.deref_mut-2.ensures.value ∙ take_front news _ c.in_ok-medics.slots.len same in
    subst (AreEnough t p 0 c.in_ok-porters.outcomes.items) (sym back)
    (enough t p c.args.morgue c.in_ok-porters.porters.items c.in_ok-porters.outcomes.items c.in_ok-porters.ensures.worked c.in_ok-medics.medics.items c.in_ok-left.left.items news c.in_ok-left.ensures.carried after)

pub returns-clause-many : goal.returns-clause-many
returns-clause-many g c =
    let works = c.requires.all.0 in
    let porters = c.in_ok-porters.ensures.many in
    let long = worked_long c.args.trace.now c.args.pool.now c.args.morgue 0 c.in_ok-porters.porters.items c.in_ok-porters.outcomes.items c.in_ok-porters.ensures.worked in
    let all : length c.in_ok-porters.outcomes.items ≡ c.args.trace.now.clients = omega arith in
    IfOk-weaker c.all_done.result _ _ (λ v e. e ∙ all) c.all_done.ensures.many
