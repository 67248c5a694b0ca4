-- what shares and drops of roots leave, in the words of roots
use Rattle.std.proofs.Common.{◌≡◌, ◌≢◌, ℕ, ◌-◌, ◌^◌, ◌<◌, Bool, false, List, Result, Ok, Err, refl, ap, ◌∙◌, arith}
use Rattle.std.proofs.lemmas.Bool.{cond-false}
use Rattle.std.specs.Prelude.{slice_index}
use Rattle.shm_graph.specs.{declared.{ask.Me.Me, memo.Memo.Memo, spot.Spot.TheVariants.{Era, Root}}, Asks.Trail}
use Rattle.shm_graph.specs.{Events.Event, Views.own_word}
use Rattle.shm_count.specs.declared.answer.{EraSpent.EraSpent as ASpent, ShareFault.ShareFault}
use Rattle.shm_count.specs.{Proved.UpRoot.AsPart.rooted_root, Roots.root_word, UpRoot.Control.{rooting, rooting_parts}}
use Rattle.shm_count.specs.UpRoot.{Rooted, UpRootLeaves, rooting_plan}
use Rattle.shm_count.specs.declared.answer.ShareFault.TheVariants as share
use Rattle.shm_ref.specs.DropRoot.{Control.{drop_parts, dropping}, drop_plan}
use Rattle.shm_ref.proofs.RootKeeps.{drop_queues, drop_roots, share_left}
use Rattle.shm_queue.proofs.Queues.{other_root}
use Rattle.shm_table.specs.Staying.{IsSpent}
use Rattle.shm_pool.specs.{declared.reply.Reply.TheVariants.{Died, Done}, Called.HasCalled, Tokens.{Acting, me_of}}
use Rattle.lojarnek.specs.Blocks.{Denies, HasCome, HasLearnt, IsRooted, KeepsRoots, OnlyRoot, Spent, WhyNotShared, names}
use Rattle.lojarnek.specs.{Refusing.{is_death, share_error}, Roots.{IsAtBlocks, KnowsRoots}, Standing.{Acts, acts_of}}
use Rattle.lojarnek.specs.Tables.{SameClient}
use Rattle.lojarnek.specs.declared.error.Error.TheVariants as error
use Rattle.lojarnek.proofs.{Comes.{err_came, named_here, ok_came, roots_kept, still_at}, Done.{done_lives, done_same}}
use Rattle.lojarnek.proofs.{Learning.{learnt_roots, spent_died, spent_learnt}, Naming.{knows_kept, knows_set}}

-- ---- a share

module _ (me : Me) (b : ℕ) (r0 r : Memo) (tr : Trail) (es : List Event) where
  pub share_others : (k : ℕ) → Rooted me b k r0 r tr es → (j : ℕ) → j ≢ k → root_word me.who r j ≡ root_word me.who r0 j
  share_others k h j n = h.filled.own (Root me.who j) refl ∙ cond-false _ _ _ (other_root me.who k j n)

  pub share_same : (f : ShareFault) → UpRootLeaves me b r0 r tr es (Err f) → (j : ℕ) → root_word me.who r j ≡ root_word me.who r0 j
  share_same (share.EraSpent e) h j = ap (λ (x : Memo). root_word me.who x j) h.same
  share_same share.RootsFull h j = ap (λ (x : Memo). root_word me.who x j) h.same
  share_same (share.CountFull d n) h j = h.untouched.own (Root me.who j) refl

  pub share_spent : (e : ℕ) → UpRootLeaves me b r0 r tr es (Err (share.EraSpent e)) → IsSpent me.who e r
  share_spent e h =
      let own : own_word r.own (Era me.who me.who) ≡ own_word r0.own (Era me.who me.who) = ap (λ (x : Memo). own_word x.own (Era me.who me.who)) h.same in
      let era : e ≡ own_word r0.own (Era me.who me.who) = h.era in
      let spent : 2 ^ 47 - 3 < e = h.spent in
      (omega arith, omega arith)

share_lives : (T : Type 0) (f : ShareFault) → false ≡ is_death {T = T} (Err (share_error f))
share_lives T (share.EraSpent e) = refl
share_lives T share.RootsFull = refl
share_lives T (share.CountFull b n) = refl

module _ (t t' : Acting) (before left block : ℕ) (at : IsAtBlocks t) where
  abbrev c : Acts
  c = acts_of t before

  abbrev c' : Acts
  c' = acts_of t' left

  shared_here : (root : ℕ) → HasCalled rooting_parts rooting_plan (rooting (me_of t.of t.account) block) t t' before left (Done (Ok root)) → names c' root ≡ block
  shared_here root h = named_here t t' h.done.same.1 root ∙ rooted_root (me_of t.of t.account) block root t.account.memo t'.account.memo _ _ h.done.left_so

  shared_others : (root : ℕ) → HasCalled rooting_parts rooting_plan (rooting (me_of t.of t.account) block) t t' before left (Done (Ok root)) → OnlyRoot root c c'
  shared_others root h j n = named_here t t' h.done.same.1 j ∙ share_others (me_of t.of t.account) block t.account.memo t'.account.memo _ _ root h.done.left_so j n

  pub shared_came : (root : ℕ) (bs bs' : List ℕ) → KnowsRoots t bs → slice_index bs' root ≡ block → ((j : ℕ) → j ≢ root → slice_index bs' j ≡ slice_index bs j)
      → HasCalled rooting_parts rooting_plan (rooting (me_of t.of t.account) block) t t' before left (Done (Ok root)) → HasCome (λ (k : ℕ). IsRooted k block c c') (WhyNotShared block) c c' bs' (Ok root)
  shared_came root bs bs' knows here others h =
      let same : SameClient c c' = done_same (Done (Ok root)) at.alive h.done in
      ok_came (λ (k : ℕ). IsRooted k block c c') (WhyNotShared block) c c' bs' root same
      (still_at t t' before left at same (done_lives (Ok root) h.done) h.rests (share_left (me_of t.of t.account) block t.account.memo t'.account.memo _ _ (Ok root) h.done.left_so))
      (knows_set t t' bs bs' root block at.kind at.alive knows (shared_here root h) (shared_others root h) here others)
      (record { low = h.done.left_so.low; empty = h.done.left_so.empty; least = h.done.left_so.before; named = shared_here root h; others = shared_others root h })

  shared_same : (f : ShareFault) → HasCalled rooting_parts rooting_plan (rooting (me_of t.of t.account) block) t t' before left (Done (Err f)) → KeepsRoots c c'
  shared_same f h = roots_kept t t' h.done.same.1 (share_same (me_of t.of t.account) block t.account.memo t'.account.memo _ _ f h.done.left_so)

  shared_denied : (f : ShareFault) → HasCalled rooting_parts rooting_plan (rooting (me_of t.of t.account) block) t t' before left (Done (Err f)) → Denies (WhyNotShared block) c c' (share_error f)
  shared_denied (share.EraSpent e) h = ((share_spent (me_of t.of t.account) block t.account.memo t'.account.memo _ _ e h.done.left_so, shared_same (share.EraSpent e) h), done_lives (Err (share.EraSpent e)) h.done)
  shared_denied share.RootsFull h = (h.done.left_so.all, record { alive = done_lives (Err share.RootsFull) h.done; roots = shared_same share.RootsFull h }, tt)
  shared_denied (share.CountFull b n) h = (h.done.left_so.full, record { alive = done_lives (Err (share.CountFull b n)) h.done; roots = shared_same (share.CountFull b n) h }, (h.done.left_so.block, h.done.left_so.read))

  pub unshared_came : (f : ShareFault) (bs : List ℕ) → KnowsRoots t bs
      → HasCalled rooting_parts rooting_plan (rooting (me_of t.of t.account) block) t t' before left (Done (Err f)) → HasCome (λ (k : ℕ). IsRooted k block c c') (WhyNotShared block) c c' bs (Err (share_error f))
  unshared_came f bs knows h =
      let same : SameClient c c' = done_same (Done (Err f)) at.alive h.done in
      err_came (λ (k : ℕ). IsRooted k block c c') (WhyNotShared block) c c' bs (share_error f) same
      (still_at t t' before left at same (done_lives (Err f) h.done) h.rests (share_left (me_of t.of t.account) block t.account.memo t'.account.memo _ _ (Err f) h.done.left_so))
      (knows_kept t t' bs at.kind at.alive knows (shared_same f h)) (share_lives ℕ f) (shared_denied f h)

-- ---- a drop

module _ (t t' : Acting) (before left root : ℕ) (at : IsAtBlocks t) where
  abbrev d : Acts
  d = acts_of t before

  abbrev d' : Acts
  d' = acts_of t' left

  dropped_others : (a : Result Bool ASpent) → HasCalled drop_parts drop_plan (dropping (me_of t.of t.account) root) t t' before left (Done a) → OnlyRoot root d d'
  dropped_others a h j n = named_here t t' h.done.same.1 j ∙ drop_roots (dropping (me_of t.of t.account) root) t.account.memo t'.account.memo _ _ a h.done.left_so j n

  pub dropped_at : (a : Result Bool ASpent) → HasCalled drop_parts drop_plan (dropping (me_of t.of t.account) root) t t' before left (Done a) → IsAtBlocks t'
  dropped_at a h = still_at t t' before left at (done_same (Done a) at.alive h.done) (done_lives a h.done) h.rests (drop_queues (dropping (me_of t.of t.account) root) t.account.memo t'.account.memo _ _ a h.done.left_so)

  dropped_here : (z : Bool) → HasCalled drop_parts drop_plan (dropping (me_of t.of t.account) root) t t' before left (Done (Ok z)) → names d' root ≡ 0
  dropped_here z h = named_here t t' h.done.same.1 root ∙ h.done.left_so.root

  pub dropped_came : (z : Bool) (bs bs' : List ℕ) → KnowsRoots t bs → slice_index bs' root ≡ 0 → ((j : ℕ) → j ≢ root → slice_index bs' j ≡ slice_index bs j)
      → HasCalled drop_parts drop_plan (dropping (me_of t.of t.account) root) t t' before left (Done (Ok z)) → HasCome {T = Unit {0}} (λ u. (names d' root ≡ 0) × OnlyRoot root d d') (Spent (OnlyRoot root)) d d' bs' (Ok tt)
  dropped_came z bs bs' knows here others h =
      ok_came (λ (u : Unit {0}). (names d' root ≡ 0) × OnlyRoot root d d') (Spent (OnlyRoot root)) d d' bs' tt (done_same (Done (Ok z)) at.alive h.done) (dropped_at (Ok z) h)
      (knows_set t t' bs bs' root 0 at.kind at.alive knows (dropped_here z h) (dropped_others (Ok z) h) here others)
      (dropped_here z h, dropped_others (Ok z) h)

  -- its eras are spent, as it was found, and the other roots name what they named
  dropped_spent : (e : ASpent) → HasCalled drop_parts drop_plan (dropping (me_of t.of t.account) root) t t' before left (Done (Err e)) → IsSpent t.account.who e.era t'.account.memo × OnlyRoot root d d'
  dropped_spent e h = let g = h.done.left_so in ((let s : 2 ^ 47 - 3 < e.era = g.1.stopped.spent in omega arith, g.1.most), dropped_others (Err e) h)

  -- and the roots were read again, or it died
  module _ (e : ASpent) (u : Acting) (after : ℕ) (bs : List ℕ) (h : HasCalled drop_parts drop_plan (dropping (me_of t.of t.account) root) t t' before left (Done (Err e))) where
    abbrev f : Acts
    f = acts_of u after

    abbrev Dropped : Unit {0} → Type 0
    Dropped x = (names f root ≡ 0) × OnlyRoot root d f

    pub redropped_came : HasLearnt d' f bs (Done tt) → HasCome Dropped (Spent (OnlyRoot root)) d f bs (Err (error.EraSpent e.era))
    redropped_came x = let s = dropped_spent e h in spent_learnt Dropped (Spent (OnlyRoot root)) d d' f bs (done_same (Done (Err e)) at.alive h.done) e.era s.0 x (λ it. (it, λ j n. learnt_roots d' f bs x j ∙ s.1 j n))

    pub redropped_died : HasLearnt d' f bs Died → HasCome Dropped (Spent (OnlyRoot root)) d f bs (Err (error.Died false))
    redropped_died x = spent_died Dropped (Spent (OnlyRoot root)) d d' f bs (done_same (Done (Err e)) at.alive h.done) x
