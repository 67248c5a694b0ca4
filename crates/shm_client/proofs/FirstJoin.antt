-- an identity of a pool that nobody has joined may join
use Rattle.std.proofs.Common.{◌≡◌, ℕ, ◌+◌, ◌<◌, ◌&&◌, Bool, true, false, refl, sym, ap, ◌∙◌, subst, arith, inl, cond, length}
use Rattle.std.proofs.lemmas.Bool.{eq-eqb}
use Rattle.shm_words.specs.Layout.{GeometryFits}
use Rattle.shm_graph.specs.declared.{ask.Me.Me, memo.Memo.Memo, run.{Account.Account, Start.Start}}
use Rattle.shm_graph.specs.{declared.spot.Spot.TheVariants.Era, Views.own_word, Asks.{Trail, call_before}}
use Rattle.shm_graph.specs.{Agents.{acts, entered, steps_made}, Runs.{MayBegin, first_account, first_memo}}
use Rattle.shm_graph.proofs.{Memos.MemoSteps.steps_entered, States.FirstHeld.{at-accounts_from, length-accounts_from}}
use Rattle.shm_recover.specs.declared.join.JoinPoint.{JoinPoint, TheVariants.{Over, Start as Begun}}
use Rattle.shm_recover.specs.{declared.join.JoinState.JoinState, Join.{JoinFits, is_over, is_start, join_fresh}}
use Rattle.shm_recover.specs.Proved.Join.Keeps.{join_begins}
use Rattle.shm_plain.specs.{Calls.Ran, Pools.{Pool, first_pool, memo_of, readied, MayStep}, Tracks.kind_next}
use Rattle.shm_plain.proofs.Turning.{ready_memo}

pub memo_first : (s : Start) (c : ℕ) → c < s.geometry.clients → memo_of (first_pool s) c ≡ first_memo s c
memo_first s c l = let z : 0 + c ≡ c = omega arith in ap (λ (x : Account). x.memo) (at-accounts_from s 0 s.geometry.clients c _ l ∙ ap (first_account s) z)

pub may_first : (s : Start) (c : ℕ) → c < s.geometry.clients → MayStep (first_pool s) c
may_first s c l = subst (λ (m : Memo). acts m ≡ false → MayBegin (kind_next m) m) (sym (memo_first s c l)) (λ _. inl refl)

pub ready_first : (s : Start) (c : ℕ) → c < s.geometry.clients → let m = first_memo s c in memo_of (readied (first_pool s) c) c ≡ entered (kind_next m) m
ready_first s c l =
    ready_memo (first_pool s) c (subst (λ (n : ℕ). c < n) (sym (length-accounts_from s 0 s.geometry.clients)) l)
    ∙ ap (λ (m : Memo). cond (acts m) m (entered (kind_next m) m)) (memo_first s c l)

-- the own era is the only word that it has stored
pub first_own_era : (s : Start) (c : ℕ) → own_word (first_memo s c).own (Era c c) ≡ s.first_era
first_own_era s c = ap (λ (b : Bool). cond (b && b) s.first_era 0) (eq-eqb c c refl)

pub join_fits : (s : Start) (c : ℕ) → GeometryFits s.geometry → c < s.geometry.clients → let r = memo_of (readied (first_pool s) c) c in let me : Me = record { geometry = s.geometry; who = c } in JoinFits (join_fresh me) r r (call_before (is_start (join_fresh me).point) r.call)
join_fits s c fits l =
    let me : Me = record { geometry = s.geometry; who = c } in
    join_begins me (memo_of (readied (first_pool s) c) c) (record { member = record { geometry = fits; who = l }; status = inl (ap (λ (m : Memo). m.status) (ready_first s c l)) })

pub long_first : (s : Start) (c : ℕ) → c < s.geometry.clients → c < length (first_pool s).accounts
long_first s c l = subst (λ (n : ℕ). c < n) (sym (length-accounts_from s 0 s.geometry.clients)) l

-- the agent that begins has made no word step
ready_steps : (p : Pool) (c : ℕ) → c < length p.accounts → steps_made (memo_of (readied p c) c) ≡ steps_made (memo_of p c)
ready_steps p c l = ap steps_made (ready_memo p c l) ∙ by (acts (memo_of p c))
  where
    by : (b : Bool) → let m = memo_of p c in steps_made (cond b m (entered (kind_next m) m)) ≡ steps_made m
    by true = refl
    by false = steps_entered (kind_next (memo_of p c)) (memo_of p c)

-- a join that isn't over has made no word step, so that none was left
pub join_over : (c : ℕ) (p q : Pool) (x y : ℕ) (fresh : Bool) (m : JoinState) (tr : Trail) → c < length p.accounts → c < length q.accounts → Ran c fresh false p q x y → is_over m.point ≡ false → JoinFits m (memo_of (readied p c) c) (memo_of (readied q c) c) tr → x ≡ 0
join_over c p q x y fresh m tr before after ran going fits =
    let same : steps_made (memo_of (readied q c) c) ≡ steps_made (memo_of (readied p c) c) = ap steps_made (fits.start (started m.point going)).0 in
    let old = ready_steps p c before in
    let new = ready_steps q c after in
    let made = ran.made in
    let none = ran.died refl in
    omega (arith, same, old, new, made, none)
  where
    started : (z : JoinPoint) → is_over z ≡ false → z ≡ Begun
    started Begun e = refl
    started Over e = cc
