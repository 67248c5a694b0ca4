-- a recovery that came to an end before it was done: the map of its identity is what it was
use Rattle.std.proofs.Common.{◌≡◌, ℕ, zero, suc, ◌<◌, Bool, false, List, [], ◌∷◌, ◌++◌, refl, sym, ap, ◌∙◌, subst, append-nil, arith}
use Rattle.std.proofs.lemmas.Bool.{true≢false}
use Rattle.std.specs.Prelude.{Option, None, Some}
use Rattle.shm_words.specs.declared.geometry.Geometry.{Geometry}
use Rattle.plans.specs.{CallsControl.calls_of, CallsFit.{CallsFits, CallsGives}, Plans.PlanLaws}
use Rattle.plans.specs.Proved.CallsKeep.{calls_laws}
use Rattle.shm_graph.specs.declared.{ask.Me.Me, memo.{Kind.TheVariants.Recoverer, Memo.Memo, Step.Step}}
use Rattle.shm_graph.specs.declared.{run.Account.Account, table.Part.Part}
use Rattle.shm_graph.specs.Laws.{Control, Laws, Outcome, Steady, is_some, step_of}
use Rattle.shm_graph.specs.Runs.{Held, Stood, account_after, account_at, account_died}
use Rattle.shm_graph.specs.{Tells.{after_all, machine_steps}, Whole.{WholeKeeps, fits_now, gives_now}}
use Rattle.shm_graph.proofs.{Machines.Wholes.whole_keeps, Memos.MemoSteps.recovers-entered}
use Rattle.shm_graph.proofs.Runs.Going.{Is, learns-step}
use Rattle.kind_parts.specs.Reparting.{map_in}
use Rattle.shm_count.specs.Steady.{SameMap}
use Rattle.shm_ref.specs.Proved.DropRoots.Laws.{roots_laws}
use Rattle.shm_recover.specs.{Machines.Recovering.recover, Mend.MayMend}
use Rattle.shm_recover.specs.Recover.{Control.{recover_parts, recover_steered, recovering}, recover_plan}
use Rattle.shm_recover.specs.Proved.{FinishTakes.Laws.finish_laws, GiveUp.Laws.give_laws, Mend.Laws.mend_laws}
use Rattle.shm_recover.specs.Proved.{Recover.Laws.recover_laws, Scan.Laws.scan_laws, TakeBack.Laws.back_laws}
use Rattle.shm_recover.proofs.Steady.{recover_steady}
use Rattle.shm_pool.specs.Calls.{AreMade, Ending, Going, Shown, accounts_by, fresh_after, pairs, shown}
use Rattle.shm_pool.specs.{Endings.{HasDied, HasNotRecovered}, Proved.Lasts.recovery_last, Rules.IsMade}
use Rattle.shm_pool.specs.declared.token.Cause.{Cause, TheVariants.{Died, EraSpent}}
use Rattle.shm_pool.specs.Tokens.{Its, Token, begun_account, me_of, recovering_account}
use Rattle.shm_pool.proofs.Lasting.{fits_first, is_mine, unfinished}
use Rattle.lojarnek.specs.Standing.{KeepsMap}
use Rattle.lojarnek.proofs.Parts.{recovering_part, recovering_who}

-- ---- steps of a machine that fits

-- none of these steps is its machine's last
abbrev pub AreOn : List Step → Type 0
AreOn [] = Unit {0}
AreOn (t ∷ ts) = (t.ends ≡ false) × AreOn ts

none_then : {A P : Type 0} (Q : A → Type 0) (o : Option A) → is_some o ≡ false → Outcome o P Q → P
none_then Q None e h = h
none_then Q (Some a) e h = absurd (true≢false e)

module _ {S A : Type 0} (k : Control S A) (fits : S → Memo → Memo → Type 0) (gives : S → Memo → Memo → A → Type 0) (keeps : WholeKeeps k fits gives) (steady : Steady k) (g : Geometry) (r0 : Memo) where
  step_fits : (m : S) (e : Account) (n : ℕ) → IsMade e (step_of k m n) → k.finished (k.after m n) ≡ false → k.me m ≡ record { geometry = g; who = e.who } → e.who < g.clients → k.finished m ≡ false → fits m r0 e.memo
      → fits (k.after m n) r0 (account_after e (step_of k m n)).memo
  step_fits m e n made on me low going fit =
      let ws : List ℕ = made.words in
      let es : List Account = made.accounts in
      let there : account_at es e.who ≡ e = made.here.1 in
      let is : Is k fits gives g e.who m = record { me = me; below = low; going = going } in
      let y = learns-step k fits gives keeps g ws es e.who m (subst (λ (z : Me). Held z.geometry ws es) me made.held) is r0 (subst (λ (a : Account). fits m r0 a.memo) (sym there) fit) in
      none_then (gives m r0 (account_after e (step_of k m n)).memo) (k.turns m n) (sym (steady m n going).ends ∙ on)
      (subst (λ (a : Account). Outcome (k.turns m n) (fits (k.after m n) r0 (account_after a (step_of k m n)).memo) (gives m r0 (account_after a (step_of k m n)).memo)) there
      (subst (λ (z : ℕ). Outcome (k.turns m z) (fits (k.after m z) r0 (account_after (account_at es e.who) (step_of k m z)).memo) (gives m r0 (account_after (account_at es e.who) (step_of k m z)).memo)) (sym made.move.0) y))

  pub fits_after : (ts : List Step) (m : S) (e : Account) → ts ≡ machine_steps k m (pairs ts) → AreMade e ts → AreOn ts → k.me m ≡ record { geometry = g; who = e.who } → e.who < g.clients → k.finished m ≡ false → fits m r0 e.memo
      → (k.me (after_all k m (pairs ts)) ≡ record { geometry = g; who = e.who }) × (k.finished (after_all k m (pairs ts)) ≡ false) × fits (after_all k m (pairs ts)) r0 (accounts_by e ts).memo
  fits_after [] m e is made on me low going fit = (me, going, fit)
  fits_after (t ∷ ts) m e is made on me low going fit =
      let first : t ≡ step_of k m t.seen = (cc) in
      let rest : ts ≡ machine_steps k (k.after m t.seen) (pairs ts) = (cc) in
      let ends : k.finished (k.after m t.seen) ≡ false = sym (ap (λ (s : Step). s.ends) first) ∙ on.0 in
      fits_after ts (k.after m t.seen) (account_after e t) rest made.1 on.1 ((steady m t.seen going).same_me ∙ me) low ends
      (subst (λ (s : Step). fits (k.after m t.seen) r0 (account_after e s).memo) (sym first) (step_fits m e t.seen (subst (IsMade e) first made.0) ends me low going fit))

-- ---- a recovery

recovering_laws : PlanLaws recover_parts recover_plan
recovering_laws = recover_laws mend_laws roots_laws back_laws finish_laws scan_laws give_laws

laws : Laws recover (CallsFits recover_parts recover_plan) (CallsGives recover_parts recover_plan)
laws = calls_laws recover_parts recover_plan recovering_laws

pub going_on : (s : Shown) (fresh : Bool) (ts : List Step) → Going s fresh ts → AreOn ts
going_on s fresh [] h = tt
going_on s fresh (t ∷ ts) h = (h.1, going_on s false ts h.2)

pub none_last : (s : Shown) (fresh : Bool) (ts : List Step) → Ending s fresh false ts → ts ≡ []
none_last s fresh [] h = refl
none_last s fresh (t ∷ ts) h = absurd h

module _ (p : Its) (e : Account) (stood : Stood p.start e) where
  abbrev e0 : Account
  e0 = recovering_account e

  abbrev shows : Shown
  shows = shown recover (calls_of recover_steered (recovering (me_of p e)))

  low : e0.who < p.start.geometry.clients
  low = subst (λ (n : ℕ). n < p.start.geometry.clients) (sym (recovering_who e)) (subst (λ (n : ℕ). e.who < n) stood.held.accounts stood.here.0)

  may : MayMend (me_of p e) e0.memo
  may = record { geometry = stood.held.at.fits; who = subst (λ (n : ℕ). e.who < n) stood.held.accounts stood.here.0; recoverer = recovers-entered Recoverer (account_died (begun_account e)).memo }

  died_map : (before left : ℕ) (f : Account) → HasDied recover (CallsFits recover_parts recover_plan) (gives_now (CallsGives recover_parts recover_plan)) (calls_of recover_steered (recovering (me_of p e))) p e0 before left f → KeepsMap e f
  died_map before left f d key =
      let whole : d.call.steps ++ d.call.last ≡ d.call.steps = ap (λ (ts : List Step). d.call.steps ++ ts) (none_last shows (fresh_after shows.fresh d.call.steps) d.call.last d.call.ends) ∙ append-nil d.call.steps in
      let x = fits_after recover (fits_now recover (CallsFits recover_parts recover_plan)) (gives_now (CallsGives recover_parts recover_plan)) (whole_keeps recover (CallsFits recover_parts recover_plan) (CallsGives recover_parts recover_plan) laws) laws.steady p.start.geometry e0.memo
      (d.call.steps ++ d.call.last) (calls_of recover_steered (recovering (me_of p e))) e0 d.driven.steps d.driven.made
      (subst AreOn (sym whole) (going_on shows shows.fresh d.call.steps d.call.going))
      (is_mine recover_parts recover_plan recovering_laws recovering MayMend recovery_last (me_of p e) ∙ ap (λ (n : ℕ). record { geometry = p.start.geometry; who = n }) (sym (recovering_who e)))
      low (unfinished recover_parts recover_plan recovering_laws recovering MayMend recovery_last (me_of p e))
      (fits_first recover_parts recover_plan recovering_laws recovering MayMend recovery_last (me_of p e) e0.memo may) in
      let same : SameMap e0.memo (accounts_by e0 (d.call.steps ++ d.call.last)).memo = recover_steady _ e0.memo _ _ x.1 x.2 in
      ap (λ (a : Account). map_in a.memo.part key) d.call.account ∙ (ap (λ (h : ℕ → Option (ℕ × ℕ)). h key) same.0 ∙ ap (λ (q : Part). map_in q key) (recovering_part e))

  pub stopped_map : (before left : ℕ) (x : Cause) (t : Token) → HasNotRecovered p e before left x t → KeepsMap e t.account
  stopped_map before left Died t h key = died_map before left t.account h.by key
  stopped_map before left (EraSpent n) t h key = ap (λ (f : ℕ → Option (ℕ × ℕ)). f key) h.by.gave.leaves.map ∙ ap (λ (q : Part). map_in q key) (recovering_part e)

-- the identity is the same one, and its map is what it was; with no life the recovery didn't begin
pub still_there : (c : Token) (stood : Stood c.of.start c.account) (before left : ℕ) (x : Cause) (t : Token) → (0 < before → HasNotRecovered c.of c.account before left x t) → (before ≡ 0 → t ≡ c)
    → (t.of ≡ c.of) × (t.account.who ≡ c.account.who) × KeepsMap c.account t.account
still_there c stood zero left x t h same = let is : t ≡ c = same refl in (ap (λ (z : Token). z.of) is, ap (λ (z : Token). z.account.who) is, λ key. ap (λ (z : Token). map_in z.account.memo.part key) is)
still_there c stood (suc n) left x t h same =
    let it : HasNotRecovered c.of c.account (suc n) left x t = h (omega arith) in
    (it.same.0, it.same.1 ∙ recovering_who c.account, stopped_map c.of c.account stood (suc n) left x t it)
