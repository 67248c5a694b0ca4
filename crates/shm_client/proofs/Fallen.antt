-- calls on a pool of an identity whose agent is dead, by the recoverer that begins
use Rattle.std.proofs.Common.{◌≡◌, ℕ, ◌<◌, Bool, true, false, cond, [], refl, sym, ap, ◌∙◌, subst, length}
use Rattle.std.proofs.lemmas.{Bool.true≢false, List.get_or-set_same}
use Rattle.std.specs.{Prelude.{Option, Some, None, IfSome}, Option.is_some}
use Rattle.shm_graph.specs.declared.memo.{Agent.Agent, Fate.{Fate, TheVariants.{Acts, Ended, Died}}, Kind.Kind}
use Rattle.shm_graph.specs.declared.{memo.{Kind.TheVariants.{Client, Recoverer}, Memo.Memo}, run.Account.Account}
use Rattle.shm_graph.specs.{Agents.{acts, acts_by, died, entered, is_acting, last_agent}, Asks.{Trail, call_before}}
use Rattle.shm_graph.specs.{Events.Event, Laws.Control}
use Rattle.shm_graph.specs.Runs.{MayBegin, account_died, changed, fell_by, is_dead, memos_of}
use Rattle.shm_graph.specs.{Tells.{Tells, happens_along}, Whole.{fits_now, gives_now}}
use Rattle.shm_graph.proofs.{Memos.MemoSteps.fell-died, Runs.Lists.length-changed}
use Rattle.shm_plain.specs.{Pools.{Pool, IsRun, MayStep, after_fall, memo_of, readied}, Calls.{Did, Ran}}
use Rattle.shm_plain.specs.Tracks.{kind_next}
use Rattle.shm_plain.proofs.{Turning.ready_memo, Called.{Called, ran_fresh}}
use Rattle.kind_parts.specs.Reparting.{map_in}

-- an agent that is dead doesn't act
fate_still : (f : Fate) → is_dead f ≡ true → is_acting f ≡ false
fate_still Acts e = absurd (true≢false (sym e))
fate_still Ended e = refl
fate_still Died e = refl

agent_still : (o : Option Agent) → fell_by o ≡ true → acts_by o ≡ false
agent_still None e = refl
agent_still (Some a) e = fate_still a.fate e

module _ (p : Pool) (c : ℕ) (run : IsRun p) (who : c < p.start.geometry.clients) (fell : fell_by (last_agent (memo_of p c).agents) ≡ true) where
  -- a recoverer begins
  pub next_kind : kind_next (memo_of p c) ≡ Recoverer
  next_kind = ap (λ (z : Bool). cond z Recoverer Client) fell

  pub may_begin : MayStep p c
  may_begin e = subst (λ (k : Kind). MayBegin k (memo_of p c)) (sym next_kind) fell

  pub begun_memo : memo_of (readied p c) c ≡ entered Recoverer (memo_of p c)
  begun_memo =
      let m = memo_of p c in
      ready_memo p c (subst (λ (n : ℕ). c < n) (sym run.held.accounts) who)
      ∙ (ap (λ (z : Bool). cond z m (entered (kind_next m) m)) (agent_still (last_agent m.agents) fell) ∙ ap (λ (k : Kind). entered k m) next_kind)

  module _ {M A : Type 0} (k : Control M A) (fits : M → Memo → Memo → Trail → Type 0) (gives : M → Memo → Memo → Trail → A → Type 0) (m : M) (fresh : k.fresh m ≡ true) (fit : let r : Memo = entered Recoverer (memo_of p c) in fits m r r []) (n : M) (is : n ≡ m) where
    abbrev r0 : Memo
    r0 = entered Recoverer (memo_of p c)

    fits_then : fits_now k fits m r0 (memo_of (readied p c) c)
    fits_then = subst (λ (z : Memo). fits_now k fits m r0 z) (sym begun_memo) (subst (λ (b : Bool). fits m r0 r0 (call_before b r0.call)) (sym fresh) fit)

    -- the machine fits its memo
    pub fallen_first : fits_now k fits n r0 (memo_of (readied p c) c)
    fallen_first = subst (λ (z : M). fits_now k fits z r0 (memo_of (readied p c) c)) (sym is) fits_then

    pub fallen_fits : (r : Memo) × fits_now k fits n r (memo_of (readied p c) c)
    fallen_fits = (r0, fallen_first)

    module _ (q : Pool) (x y : ℕ) (o : Option A) (say : Called k fits gives c p n q x y o) where
      call : Called k fits gives c p m q x y o
      call = subst (λ (z : M). Called k fits gives c p z q x y o) is say

      pub fallen_ran : Ran c true (is_some o) p q x y
      fallen_ran = ran_fresh k fits gives c p m q x y o call fresh

      pub fallen_gave : IfSome o (λ a. gives_now gives m r0 (memo_of q c) a)
      fallen_gave = call.gave r0 fits_then

      -- what follows from what it gives and from its events
      pub fallen_told : (does : M → ℕ → Event) → Tells k fits does → (P : A → Type 0) → ((a : A) → gives_now gives m r0 (memo_of q c) a → Did c p q (happens_along k does m (memo_of q c).call) → P a) → IfSome o P
      fallen_told does tells P f = go o fallen_gave fallen_ran
        where
          go : (b : Option A) → IfSome b (λ a. gives_now gives m r0 (memo_of q c) a) → Ran c true (is_some b) p q x y → IfSome b P
          go None g ran = tt
          go (Some a) g ran = f a g (call.events (ran.some refl) fresh does tells)

-- ---- the death of an agent

module _ (p : Pool) (c : ℕ) (accounts : length (after_fall p c).accounts ≡ p.start.geometry.clients) (who : c < p.start.geometry.clients) (act : acts (memo_of p c) ≡ true) where
  there : c < length p.accounts
  there =
      let same = ap (λ (b : Bool). length (cond b (changed account_died p.accounts c) p.accounts)) (sym act) in
      subst (λ (n : ℕ). c < n) (sym (sym (length-changed account_died p.accounts c) ∙ (same ∙ accounts))) who

  dead_memo : memo_of (after_fall p c) c ≡ died (memo_of p c)
  dead_memo = ap (λ (b : Bool). memos_of (cond b (changed account_died p.accounts c) p.accounts) c) act ∙ ap (λ (x : Account). x.memo) (get_or-set_same p.accounts c _ _ there)

  pub dead_fell : fell_by (last_agent (memo_of (after_fall p c) c).agents) ≡ true
  dead_fell = ap (λ (x : Memo). fell_by (last_agent x.agents)) dead_memo ∙ fell-died (memo_of p c) act

  pub dead_map : map_in (memo_of (after_fall p c) c).part ≡ map_in (memo_of p c).part
  dead_map = ap (λ (x : Memo). map_in x.part) dead_memo
