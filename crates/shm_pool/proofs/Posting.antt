-- the agents of a post
use Rattle.std.proofs.{Common.{◌≡◌, Bool, true, false, cond, List, refl, sym, ap, ◌∙◌}, lemmas.Bool.true≢false}
use Rattle.std.specs.{Prelude.{Option, Some, None}, Option.is_some}
use Rattle.shm_graph.specs.declared.memo.{Agent.Agent, Kind.TheVariants.{Client, Recoverer}, Step.Step, Fate.Fate}
use Rattle.shm_graph.specs.declared.{memo.Fate.TheVariants.{Acts, Died, Ended}, run.Account.Account}
use Rattle.shm_graph.specs.Agents.{acts, acts_by, ended, is_acting, last_agent, stepped, with_last}
use Rattle.shm_graph.specs.{Changes.asked_spot, Runs.{account_after, account_died, account_entered, fell_by, is_dead}}
use Rattle.shm_graph.proofs.Memos.MemoSteps.{acts-died, agents_after, ends_agent, fell-died, last-with_last, memo_agents, with_some}
use Rattle.shm_plain.specs.{Tracks.kind_next, Working.ready_account}
use Rattle.shm_pool.specs.Posts.{PostKnows, account_seen}

-- ---- what begins

pub dead_ready : (e : Account) → acts e.memo ≡ true → ready_account (account_died e) ≡ account_entered Recoverer (account_died e)
dead_ready e h =
    let d : Account = account_died e in
    ap (λ (b : Bool). cond b d (account_entered (kind_next d.memo) d)) (acts-died e.memo)
    ∙ ap (λ (b : Bool). account_entered (cond b Recoverer Client) d) (fell-died e.memo h)

pub acting_ready : (e : Account) → acts e.memo ≡ true → ready_account e ≡ e
acting_ready e h = ap (λ (b : Bool). cond b e (account_entered (kind_next e.memo) e)) h

-- ---- after a step

fate_whole : (f : Fate) → is_acting f ≡ true → is_dead f ≡ false
fate_whole Acts e = refl
fate_whole Ended e = refl
fate_whole Died e = absurd (true≢false (sym e))

lasts : (o : Option Agent) → acts_by o ≡ true → (b : Bool) → let u = cond b (with_some ended (with_some stepped o)) (with_some stepped o) in (is_some u ≡ true) × (fell_by u ≡ false)
lasts None e b = absurd (true≢false (sym e))
lasts (Some a) e true = (refl, refl)
lasts (Some a) e false = (refl, fate_whole a.fate e)

last_is : (b : Bool) (xs : List Agent) → last_agent (agents_after b xs) ≡ cond b (with_some ended (with_some stepped (last_agent xs))) (with_some stepped (last_agent xs))
last_is true xs = last-with_last ended (with_last stepped xs) ∙ ap (with_some ended) (last-with_last stepped xs)
last_is false xs = last-with_last stepped xs

pub stepped_knows : (e : Account) (t : Step) → acts e.memo ≡ true → PostKnows true false (account_after e t).memo
stepped_knows e t h =
    let b = ends_agent e.memo t (asked_spot e.memo t) in
    let is = ap last_agent (memo_agents e.memo t (asked_spot e.memo t)) ∙ last_is b e.memo.agents in
    let l = lasts (last_agent e.memo.agents) h b in
    record { some = ap is_some is ∙ l.0; whole = ap fell_by is ∙ l.1; acting = λ z. absurd (true≢false (sym z)) }

-- ---- what is seen of an account

pub seen_same : (b : Bool) (e : Account) → acts (account_seen b e).memo ≡ true → account_seen b e ≡ e
seen_same true e h = absurd (true≢false (sym h ∙ acts-died e.memo))
seen_same false e h = refl

pub seen_who : (b : Bool) (e : Account) → (account_seen b e).who ≡ e.who
seen_who true e = refl
seen_who false e = refl

pub ready_who : (e : Account) → (ready_account e).who ≡ e.who
ready_who e = go (acts e.memo)
  where
    go : (b : Bool) → (cond b e (account_entered (kind_next e.memo) e)).who ≡ e.who
    go true = refl
    go false = refl

-- where nobody fell, the account is the seat's
pub seen_whole : (b : Bool) (e : Account) → (b ≡ true → acts e.memo ≡ true) → fell_by (last_agent (account_seen b e).memo.agents) ≡ false → account_seen b e ≡ e
seen_whole true e h w = absurd (true≢false (sym (fell-died e.memo (h refl)) ∙ w))
seen_whole false e h w = refl
