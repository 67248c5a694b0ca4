-- What the closing of a forest leaves where its references fall: no block is live.
use Rattle.std.proofs.Common.{◌≡◌, ℕ, zero, suc, ◌<◌, ◌≤◌, Bool, true, false, cond, List, [], ◌∷◌, length, refl, sym, ap, ◌∙◌, subst, arith, inl, inr}
use Rattle.std.proofs.lemmas.{Bool.cases_Bool, List.Elements.{All-contains, Contains-append_cases}}
use Rattle.std.specs.{Prelude.Ok, List.Contains}
use Rattle.shm_graph.specs.declared.{run.{Account.Account, Start.Start}, spot.Spot.Spot}
use Rattle.shm_graph.specs.{declared.spot.Spot.TheVariants.{Body, Home, Root}, Agents.acts, Blocks.headers}
use Rattle.shm_graph.specs.{Events.{Event, Down, ChangeDown, Free}, Runs.{account_at, account_died, changed, memos_of}}
use Rattle.shm_graph.specs.{Spots.see, Views.{View, targets, view}}
use Rattle.shm_graph.proofs.Runs.{Lists.memos_of-changed, Running.view-at1}
use Rattle.shm_plain.specs.{Closings.IsClosedRun, Pools.{IsRun, Pool, after_fall, memo_of}}
use Rattle.shm_plain.proofs.Turning.{fall_run}
use Rattle.shm_recover.specs.{Recover.{Losses.IsLoss, OnlyLoses}, Proved.Recover.Losses.roots_losses}
use Rattle.shm_tree.specs.{Ending.{HasEnded, HasParted, IsRevived}, Falling.AreFalling, Keeping.is_live}
use Rattle.shm_tree.proofs.{Drops.each, Falls.{OnlyFalls, falling_kept}, Named.upward}
use Rattle.shm_tree.proofs.Nodes.{IsCalm, names, root_is, root_names}

-- ---- events that lose references

loss_keeps : (r : ℕ → ℕ) (n : ℕ) (e : Event) → IsLoss 0 e → OnlyFalls r n e
loss_keeps r n (Down c s b) h = tt
loss_keeps r n (Free c b) h = tt
loss_keeps r n _ h = absurd h

lost_keeps : (r : ℕ → ℕ) (n : ℕ) (es : List Event) → OnlyLoses 0 es → (e : Event) → Contains es e → OnlyFalls r n e
lost_keeps r n es h e c =
    elim (Contains-append_cases h.half h.losses e (subst (λ (xs : List Event). Contains xs e) h.split c)) [
      | inl y ↦ elim h.first [
        | inl none ↦ absurd (let z : Contains [] e = subst (λ (xs : List Event). Contains xs e) none y in let l = z.1 in omega (arith, l))
        | inr (a, one) ↦ subst (OnlyFalls r n) (only (ChangeDown 0 a) (subst (λ (xs : List Event). Contains xs e) one y)) tt
      ]
      | inr y ↦ loss_keeps r n e (All-contains (IsLoss 0) h.losses e h.others y)
    ]
  where
    only : (x : Event) → Contains (x ∷ []) e → x ≡ e
    only x (zero, l, is) = is
    only x (suc k, l, is) = absurd (omega arith)

-- ---- blocks that nothing names

none_live : (q : Pool) → IsCalm q → AreFalling q → ((b : ℕ) → is_live q b ≡ true → 0 < (headers (see q.start.geometry q.words) b).count) → ((k : ℕ) → names q (Root 0 k) ≡ 0) → (b : ℕ) → is_live q b ≡ false
none_live q cq falling counted roots b =
    elim (cases_Bool (is_live q b)) [
      | inr e ↦ e
      | inl live ↦ absurd (upward q cq falling counted (λ d. ⊥) (λ k d low some e. some (sym e ∙ roots k)) (λ d i x some e l h. h) b live)
    ]

-- ---- a death

module _ (p : Pool) (run : IsRun p) (one : p.start.geometry.clients ≡ 1) (act : acts (memo_of p 0) ≡ true) where
  -- it changes nothing that a word names
  pub fall_names : (s : Spot) → names (after_fall p 0) s ≡ names p s
  fall_names s =
      let long : 0 < length p.accounts = let n = run.held.accounts in omega (arith, n, one) in
      let fell : (after_fall p 0).accounts ≡ changed account_died p.accounts 0 = ap (λ (b : Bool). cond b (changed account_died p.accounts 0) p.accounts) act in
      ap (λ (u : View). targets p.start.geometry (see p.start.geometry p.words) u s)
      (ap (λ (xs : List Account). view (memos_of xs)) fell ∙ (ap view (memos_of-changed account_died p.accounts 0 long) ∙ view-at1 (memos_of p.accounts) 0 (account_died (account_at p.accounts 0)).memo refl))

  pub fall_falling : AreFalling p → AreFalling (after_fall p 0)
  fall_falling h =
      record {
        home = fall_names (Home 0) ∙ h.home;
        rank = h.rank;
        most = h.most;
        falls = λ d i some. subst (λ (z : ℕ). (h.rank z < h.rank d) × (h.rank d ≤ h.most)) (sym (fall_names (Body d i))) (h.falls d i (λ e. some (fall_names (Body d i) ∙ e)));
      }

  -- ---- a closing

  module _ (q : Pool) (falling : AreFalling p) (start : q.start ≡ p.start) (closed : IsClosedRun q) where
    clients : q.start.geometry.clients ≡ 1
    clients = ap (λ (s : Start). s.geometry.clients) start ∙ one

    parted_empty : HasParted p q (Ok tt) → (b : ℕ) → is_live q b ≡ false
    parted_empty h =
        let gone = h.leaves in
        let cq : IsCalm q = record { run = closed.run; one = clients; idle = gone.left.idle } in
        let after : AreFalling q = falling_kept p q h.told run closed.run start h.did falling (each (OnlyFalls falling.rank falling.most) h.told (λ e c. loss_keeps falling.rank falling.most e (All-contains (IsLoss 0) h.told e (roots_losses 0 (memo_of p 0) 16 h.told gone.events) c))) in
        none_live q cq after (λ b live. (closed.clean.counts b live).0) (λ k. root_names q cq k ∙ (sym (root_is q cq k) ∙ gone.left.roots k))

    revived_empty : IsRevived (after_fall p 0) q (Ok tt) → (b : ℕ) → is_live q b ≡ false
    revived_empty h =
        let gone = h.leaves in
        let cq : IsCalm q = record { run = closed.run; one = clients; idle = gone.left.idle } in
        let fell : AreFalling (after_fall p 0) = fall_falling falling in
        let after : AreFalling q = falling_kept (after_fall p 0) q h.told (fall_run p 0 run (omega (arith, one))) closed.run start h.did fell (each (OnlyFalls fell.rank fell.most) h.told (lost_keeps fell.rank fell.most h.told gone.events)) in
        none_live q cq after (λ b live. (closed.clean.counts b live).0) (λ k. root_names q cq k ∙ (sym (root_is q cq k) ∙ gone.left.roots k))

    -- no block is live once the client has left, or was recovered
    pub ended_empty : (died : Bool) → HasEnded died p q (Ok tt) → (b : ℕ) → is_live q b ≡ false
    ended_empty died (inl h) = revived_empty h.1
    ended_empty died (inr h) = parted_empty h.2
