-- what a turn of a client adds to its entries: one at most
use Rattle.std.proofs.Common.{◌≡◌, ℕ, zero, suc, ◌+◌, ◌<◌, ◌≤◌, Bool, true, false, cond, List, [], ◌∷◌, ◌++◌, length, refl, sym, ap, ◌∙◌, subst, arith, inl, inr}
use Rattle.std.proofs.lemmas.{Bool.true≢false, List.{get_or-set_same, length-append, length-set}}
use Rattle.std.specs.Prelude.{◌⊎◌, Some, slice_set}
use Rattle.shm_graph.specs.declared.{ask.Me.Me, memo.{Agent.Agent, Step.Step}, run.{Account.Account, Start.Start}}
use Rattle.shm_graph.specs.Agents.{acts, acts_by, fallen, last_agent, with_last}
use Rattle.shm_graph.specs.Runs.{account_after, account_at, account_died, account_entered, accounts_after, begun_by, changed, fell_by}
use Rattle.shm_plain.specs.{Pools.{IsRun, Pool, memo_of, readied, turn_on}, Tracks.kind_next}
use Rattle.shm_script.specs.{declared.log.Entry.Entry, Values.{Scripted, Traced}}
use Rattle.shm_agents.specs.declared.agents.Standing.TheVariants.{AtWork}
use Rattle.shm_agents.specs.{Agents.{IsFresh, IsPlaying, Playing, is_client}, Turns.begun_last}
use Rattle.shm_agents.specs.Work.{Work, work_control}
use Rattle.shm_agents.proofs.Standing.{client_stage, playing_begun}
use Rattle.shm_replay.specs.{Seats.IsSeat, Turns.worked}
use Rattle.shm_replay.proofs.Seating.{client_here}

-- ---- the account of an identity after its turn

module _ (p : Pool) (c : ℕ) (there : c < length p.accounts) where
  abbrev before : Account
  before = account_at p.accounts c

  ready_account : (b : Bool) → acts before.memo ≡ b → account_at (readied p c).accounts c ≡ cond b before (account_entered (kind_next before.memo) before)
  ready_account true e = ap (λ (b : Bool). account_at (cond b p.accounts (changed (account_entered (kind_next before.memo)) p.accounts c)) c) e
  ready_account false e = ap (λ (b : Bool). account_at (cond b p.accounts (changed (account_entered (kind_next before.memo)) p.accounts c)) c) e ∙ get_or-set_same p.accounts c (account_entered (kind_next before.memo) before) _ there

  ready_there : c < length (readied p c).accounts
  ready_there = go (acts before.memo)
    where
      go : (b : Bool) → c < length (cond b p.accounts (changed (account_entered (kind_next (account_at p.accounts c).memo)) p.accounts c))
      go true = there
      go false = let k = length-set p.accounts c (account_entered (kind_next (account_at p.accounts c).memo) (account_at p.accounts c)) in omega arith

  step_account : (m : Work) → (work_control.me m).who ≡ c → account_at (accounts_after (readied p c).accounts (turn_on (readied p c) work_control m)) c ≡ account_after (account_at (readied p c).accounts c) (turn_on (readied p c) work_control m)
  step_account m who =
      ap (λ (k : ℕ). account_at (slice_set (readied p c).accounts k (account_after (account_at (readied p c).accounts k) (turn_on (readied p c) work_control m))) c) who
      ∙ get_or-set_same (readied p c).accounts c (account_after (account_at (readied p c).accounts c) (turn_on (readied p c) work_control m)) _ ready_there

-- as many as before
worked_length : (p : Pool) (c life : ℕ) (m : Work) → length (worked (Some m) life c p).accounts ≡ length p.accounts
worked_length p c zero m = go (acts (memo_of p c))
  where
    go : (b : Bool) → length (cond b (changed account_died p.accounts c) p.accounts) ≡ length p.accounts
    go true = length-set p.accounts c _
    go false = refl
worked_length p c (suc life) m = length-set (readied p c).accounts (work_control.me m).who _ ∙ go (acts (memo_of p c))
  where
    go : (b : Bool) → length (cond b p.accounts (changed (account_entered (kind_next (memo_of p c))) p.accounts c)) ≡ length p.accounts
    go true = refl
    go false = length-set p.accounts c _

-- the pieces of work begun after a word step
stepped_begun : (e : Account) (t : Step) (b : List (List ℕ)) → e.begun ≡ b ∷ [] → begun_last (account_after e t).begun ≡ length b + cond t.fresh 1 0
stepped_begun e t b is = go t.fresh
  where
    go : (f : Bool) → begun_last (cond f (begun_by t.line e.begun) e.begun) ≡ length b + cond f 1 0
    go true = ap (λ bs. begun_last (begun_by t.line bs)) is ∙ length-append b (t.line ∷ [])
    go false = ap begun_last is ∙ (let k : length b ≡ length b + 0 = omega arith in k)

one_at_most : (b : Bool) → cond b 1 0 ≤ 1
one_at_most true = omega arith
one_at_most false = omega arith

-- ---- a turn of a client that has not begun, and of one that plays

module _ (start : Start) (s : Scripted) (x : Playing) (p : Pool) (c : ℕ) (there : c < length p.accounts) (who : (work_control.me x.work).who ≡ c) where
  abbrev e : Account
  e = account_at p.accounts c

  abbrev after : ℕ → Account
  after life = account_at (worked (Some x.work) life c p).accounts c

  fresh_after : IsFresh start s x (account_at p.accounts c) → (life : ℕ) → begun_last (after life).begun ≤ 1
  fresh_after h zero =
      let quiet : acts e.memo ≡ false = ap (λ (a : Account). acts a.memo) h.account in
      let same : after 0 ≡ e = ap (λ (b : Bool). account_at (cond b (changed account_died p.accounts c) p.accounts) c) quiet in
      let none : begun_last (after 0).begun ≡ 0 = ap (λ (a : Account). begun_last a.begun) (same ∙ h.account) in
      omega arith
  fresh_after h (suc life) =
      let quiet : acts e.memo ≡ false = ap (λ (a : Account). acts a.memo) h.account in
      let entered : account_at (readied p c).accounts c ≡ account_entered (kind_next e.memo) e = ready_account p c there false quiet in
      let begun : (account_at (readied p c).accounts c).begun ≡ [] ∷ [] = ap (λ (a : Account). a.begun) entered ∙ ap (λ (a : Account). a.begun ++ [] ∷ []) h.account in
      let one : begun_last (after (suc life)).begun ≡ 0 + cond (work_control.fresh x.work) 1 0 = ap (λ (a : Account). begun_last a.begun) (step_account p c there x.work who) ∙ stepped_begun (account_at (readied p c).accounts c) (turn_on (readied p c) work_control x.work) [] begun in
      let few = one_at_most (work_control.fresh x.work) in
      omega arith

  playing_acting : IsPlaying s x (account_at p.accounts c) → acts e.memo ≡ true
  playing_acting h = ap (λ (xs : List Agent). acts_by (last_agent xs)) h.agents

  playing_dies : IsPlaying s x (account_at p.accounts c) → fell_by (last_agent (after 0).memo.agents) ≡ true
  playing_dies h =
      ap (λ (b : Bool). fell_by (last_agent (account_at (cond b (changed account_died p.accounts c) p.accounts) c).memo.agents)) (playing_acting h)
      ∙ (ap (λ (a : Account). fell_by (last_agent a.memo.agents)) (get_or-set_same p.accounts c (account_died e) _ there)
      ∙ ap (λ (xs : List Agent). fell_by (last_agent (with_last fallen xs))) h.agents)

  playing_goes : IsPlaying s x (account_at p.accounts c) → (life : ℕ) → begun_last (after (suc life)).begun ≡ length x.entries + 2
  playing_goes h life =
      let same : account_at (readied p c).accounts c ≡ e = ready_account p c there true (playing_acting h) in
      let begun : (account_at (readied p c).accounts c).begun ≡ h.begun ∷ [] = ap (λ (a : Account). a.begun) same ∙ h.is_begun in
      let more : begun_last (after (suc life)).begun ≡ length h.begun + cond (work_control.fresh x.work) 1 0 = ap (λ (a : Account). begun_last a.begun) (step_account p c there x.work who) ∙ stepped_begun (account_at (readied p c).accounts c) (turn_on (readied p c) work_control x.work) h.begun begun in
      more ∙ go (work_control.fresh x.work) h.many
    where
      go : (f : Bool) → length h.begun ≡ cond f (length x.entries + 1) (length x.entries + 2) → length h.begun + cond f 1 0 ≡ length x.entries + 2
      go true m = omega arith
      go false m = omega arith

-- ---- one entry more at most

-- one that has begun so many pieces of work, and noted m entries
abbrev Few : ℕ → ℕ → Type 0
Few m b = ((m ≡ 0) × (b ≡ 0)) ⊎ ((b ≡ m + 1) ⊎ (b ≡ m + 2))

abbrev Near : ℕ → ℕ → Type 0
Near n m = (m ≡ n) ⊎ (m ≡ n + 1)

near_fresh : (n m b : ℕ) → n ≡ 0 → b ≤ 1 → Few m b → Near n m
near_fresh n m b z few (inl f) = inl (f.0 ∙ sym z)
near_fresh n m b z few (inr (inl f)) = inl (omega arith)
near_fresh n m b z few (inr (inr f)) = absurd (omega arith)

near_playing : (n m b : ℕ) → b ≡ n + 2 → Few m b → Near n m
near_playing n m b is (inl f) = absurd (let z = f.1 in omega arith)
near_playing n m b is (inr (inl f)) = inr (omega arith)
near_playing n m b is (inr (inr f)) = inl (omega arith)

-- a client at work has noted as many as it has begun, but one or two, and did not die
client_few : (start : Start) (s : Scripted) (y : Playing) (e : Account) → IsFresh start s y e ⊎ IsPlaying s y e → Few (length y.entries) (begun_last e.begun) × (fell_by (last_agent e.memo.agents) ≡ false)
client_few start s y e (inl h) = (inl (ap (λ (es : List Entry). length es) h.entries, ap (λ (a : Account). begun_last a.begun) h.account), ap (λ (a : Account). fell_by (last_agent a.memo.agents)) h.account)
client_few start s y e (inr h) = (inr (go (work_control.fresh y.work) refl), ap (λ (xs : List Agent). fell_by (last_agent xs)) h.agents)
  where
    go : (f : Bool) → work_control.fresh y.work ≡ f → (begun_last e.begun ≡ length y.entries + 1) ⊎ (begun_last e.begun ≡ length y.entries + 2)
    go true f = inl (playing_begun s y e h true f)
    go false f = inr (playing_begun s y e h false f)

-- of a client that is at work before its turn and after it
pub turn_grows : (t : Traced) (p q : Pool) (c : ℕ) (x y : Playing) → IsSeat t p c x → IsSeat t q c y → is_client x ≡ true → is_client y ≡ true → q.start ≡ p.start → q ≡ worked (Some x.work) x.life.left c p → IsRun q → (length y.entries ≡ length x.entries) ⊎ (length y.entries ≡ length x.entries + 1)
turn_grows t p q c x y hx hy clientx clienty start is run = by_stage (client_stage p.start hx.script x (account_at p.accounts c) hx.stands isx.0 isx.1)
  where
    isx : (x.standing ≡ AtWork) × (x.agent ≡ 0)
    isx = client_here x clientx

    isy : (y.standing ≡ AtWork) × (y.agent ≡ 0)
    isy = client_here y clienty

    same : x.me.who ≡ c
    same = ap (λ (m : Me). m.who) hx.me

    there : c < length p.accounts
    there =
        let inside = hx.stands.may.who in
        let as_many = run.held.accounts in
        let clients = ap (λ (z : Start). z.geometry.clients) start in
        let long = ap (λ (z : Pool). length z.accounts) is ∙ worked_length p c x.life.left x.work in
        let w = same in
        omega arith

    few : Few (length y.entries) (begun_last (account_at q.accounts c).begun) × (fell_by (last_agent (account_at q.accounts c).memo.agents) ≡ false)
    few = client_few q.start hy.script y (account_at q.accounts c) (client_stage q.start hy.script y (account_at q.accounts c) hy.stands isy.0 isy.1)

    plays : (h : IsPlaying hx.script x (account_at p.accounts c)) (life : ℕ) → x.life.left ≡ life → Near (length x.entries) (length y.entries)
    plays h zero l =
        let now : q ≡ worked (Some x.work) 0 c p = is ∙ ap (λ (n : ℕ). worked (Some x.work) n c p) l in
        let dead : fell_by (last_agent (account_at q.accounts c).memo.agents) ≡ true = ap (λ (z : Pool). fell_by (last_agent (account_at z.accounts c).memo.agents)) now ∙ playing_dies p.start hx.script x p c there (ap (λ (m : Me). m.who) h.me ∙ same) h in
        absurd (true≢false (sym dead ∙ few.1))
    plays h (suc life) l =
        let now : q ≡ worked (Some x.work) (suc life) c p = is ∙ ap (λ (n : ℕ). worked (Some x.work) n c p) l in
        near_playing (length x.entries) (length y.entries) (begun_last (account_at q.accounts c).begun)
        (ap (λ (z : Pool). begun_last (account_at z.accounts c).begun) now ∙ playing_goes p.start hx.script x p c there (ap (λ (m : Me). m.who) h.me ∙ same) h life)
        few.0

    by_stage : IsFresh p.start hx.script x (account_at p.accounts c) ⊎ IsPlaying hx.script x (account_at p.accounts c) → Near (length x.entries) (length y.entries)
    by_stage (inr h) = plays h x.life.left refl
    by_stage (inl h) =
        let who : (work_control.me x.work).who ≡ c = ap (λ (m : Work). (work_control.me m).who) h.work ∙ same in
        near_fresh (length x.entries) (length y.entries) (begun_last (account_at q.accounts c).begun) (ap (λ (es : List Entry). length es) h.entries)
        (subst (λ (z : Pool). begun_last (account_at z.accounts c).begun ≤ 1) (sym is) (fresh_after p.start hx.script x p c there who h x.life.left)) few.0
