-- what a join leaves
use Rattle.std.proofs.Common.{◌≡◌, ◌<◌, ◌+◌, ℕ, false, List, [], ◌∷◌, ◌++◌, length, ap, ◌∙◌, subst, sym, inl, inr, refl, eq-eqb, arith, true≢false}
use Rattle.std.specs.Prelude.{slice_index}
use Rattle.shm_words.specs.Layout.{GeometryFits}
use Rattle.shm_graph.specs.declared.{memo.{Kind.TheVariants.Client, Memo.Memo, Step.Step}, run.Account.Account}
use Rattle.shm_graph.specs.{declared.run.Start.Start, Asks.Trail, Laws.GoneNow, Runs.{account_entered, memos_of, Stood}}
use Rattle.shm_graph.specs.Tells.{machine_steps}
use Rattle.shm_graph.specs.declared.spot.Spot.TheVariants as spot
use Rattle.shm_recover.specs.{declared.join.JoinState.JoinState, Join.{JoinFits, JoinGives, join_control, join_fresh}}
use Rattle.shm_recover.specs.{Leave.MayLeave, Proved.Leave.Gone.idle_may_leave}
use Rattle.shm_pool.specs.{Calls.{Drives, Ending, Going, Shown, fresh_after, pairs, shown}, Tokens.{Its, IsOut, me_of}}

-- an identity that is new or gone has nothing to finish
pub out_gone : (s : Start) (e : Account) → Stood s e → e.who < s.geometry.clients → IsOut e.memo → GoneNow e.who e.memo
out_gone s e x l out = subst (GoneNow e.who) there (by (subst IsOut (sym there) out))
  where
    c : ℕ
    c = e.who

    there : memos_of x.accounts c ≡ e.memo
    there = ap (λ (a : Account). a.memo) x.here.1

    by : IsOut (memos_of x.accounts c) → GoneNow c (memos_of x.accounts c)
    by (inl n) = (let q = x.held.at.fresh c l n in record { roots = λ k. q.words (spot.Root c k) (eq-eqb c c refl) (λ z. cc); hold = q.words (spot.Hold c) (eq-eqb c c refl) (λ z. cc); idle = q.idle; latched = q.latched; segments = q.segments; dyings = q.dyings; sends = q.sends; takes = q.takes })
    by (inr n) = x.held.at.gone c l n

-- a client that has joined may leave
pub joined_may_leave : (p : Its) (e : Account) (r : Memo) (tr : Trail) → Stood p.start e → GeometryFits p.start.geometry → e.who < p.start.geometry.clients → IsOut e.memo → JoinGives (join_fresh (me_of p e)) (account_entered Client e).memo r tr tt → MayLeave (me_of p e) r
joined_may_leave p e r tr stood fits below out j =
    let h : GoneNow e.who e.memo = out_gone p.start e stood below out in
    idle_may_leave (me_of p e) r (record { geometry = fits; who = below }) j.idle
    (ap (λ (x : Memo). x.latch) j.rest ∙ h.latched)
    (ap (λ (x : Memo). x.dying) j.rest ∙ h.dyings)
    (λ i. ap (λ (x : Memo). slice_index x.unsent i) j.rest ∙ h.sends i)
    (λ i. ap (λ (x : Memo). slice_index x.untaken i) j.rest ∙ h.takes i)

first_is : (t u : Step) (ts us : List Step) → t ∷ ts ≡ u ∷ us → t ≡ u
first_is t u ts us e = cc

-- a join answers with its first word step: one that was cut off made none
pub joins_once : (m m' : JoinState) (e q : Account) (before left : ℕ) → Drives join_control JoinFits m m' e q false before left → left ≡ before
joins_once m m' e q before left d = go d.call.steps d.call.last d.call.going d.call.ends d.driven.steps d.call.life
  where
    s : Shown
    s = shown join_control m

    go : (steps last : List Step) → Going s s.fresh steps → Ending s (fresh_after s.fresh steps) false last → steps ++ last ≡ machine_steps join_control m (pairs (steps ++ last)) → left + length (steps ++ last) ≡ before → left ≡ before
    go [] [] g n is l = omega arith
    go [] (u ∷ us) g n is l = absurd n
    go (t ∷ ts) last g n is l = absurd (true≢false (sym (ap (λ (x : Step). x.ends) (first_is t _ _ _ is)) ∙ g.1))
