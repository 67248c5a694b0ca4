-- what reads of plain words leave
use Rattle.std.proofs.Common.{◌≡◌, ℕ, ◌+◌, ◌<◌, Bool, List, [], ◌∷◌, Result, Ok, Err, refl, sym, ap, subst, arith}
use Rattle.std.proofs.lemmas.List.Elements.{Contains-append_right}
use Rattle.std.specs.{List.{Contains, filter}, Prelude.slice_index}
use Rattle.shm_words.specs.Tags.{tag_plain, tag_refs}
use Rattle.shm_graph.specs.declared.{ask.Me.Me, memo.{Memo.Memo, Stored.Stored}, spot.Spot.TheVariants.{Body, Tag}}
use Rattle.shm_graph.specs.{Asks.Trail, Core.core, Events.Event, Held.is_loose, Reach.{learnt, not_at}}
use Rattle.kind_laws.proofs.Lists.{Contains-filter}
use Rattle.plans.specs.Words.{word_control}
use Rattle.shm_count.specs.{Roots.root_word, Tear.Memos.Knows, Waiting.LeavesQueues}
use Rattle.shm_ref.specs.declared.answer.NoSuchWord.{NoSuchWord as Fault}
use Rattle.shm_ref.specs.Read.{ReadLeaves, WasRead, read_plan, reading}
use Rattle.shm_pool.specs.{declared.reply.Reply.TheVariants.Done, Called.HasCalled, Tokens.{Acting, Its, me_of}}
use Rattle.lojarnek.specs.declared.error.Error.TheVariants.{NoSuchWord}
use Rattle.lojarnek.specs.{Blocks.{HasCome, IsWord, KeepsRoots, WhyNotRead}, Roots.{IsAtBlocks, KnowsRoots}}
use Rattle.lojarnek.specs.Standing.{Acts, acts_of}
use Rattle.lojarnek.proofs.{Comes.{err_came, ok_came, roots_kept, still_at}, Done.{done_lives, done_same}}
use Rattle.lojarnek.proofs.Naming.{knows_kept}

-- ---- in the memo

-- where words came to be known alone, the queues and the roots are what they were
pub known_queues : (ks : List Stored) (m r : Memo) → core r ≡ core (record m { known = ks }) → LeavesQueues m r
known_queues ks m r e =
    record {
      latch = ap (λ (x : Memo). x.latch) e;
      unsent = λ j. ap (λ (x : Memo). slice_index x.unsent j) e;
      untaken = λ j. ap (λ (x : Memo). slice_index x.untaken j) e;
      loose = ap (λ (x : Memo). is_loose x.part) e;
    }

module _ (me : Me) (b j : ℕ) (r0 r : Memo) (tr : Trail) (es : List Event) where
  read_queues : (a : Result ℕ Fault) → ReadLeaves (reading me b j) r0 r tr es a → LeavesQueues r0 r
  read_queues (Ok v) h = known_queues (learnt (Body b (tag_refs me.geometry.wide h.x + j)) v (learnt (Tag b) h.x r0.known)) r0 r h.memo
  read_queues (Err e) h = known_queues (learnt (Tag b) h.x r0.known) r0 r h.memo

  read_roots : (a : Result ℕ Fault) → ReadLeaves (reading me b j) r0 r tr es a → (k : ℕ) → root_word me.who r k ≡ root_word me.who r0 k
  read_roots (Ok v) h k = ap (λ (x : Memo). root_word me.who x k) h.memo
  read_roots (Err e) h k = ap (λ (x : Memo). root_word me.who x k) h.memo

  -- the word is what it was known to be
  read_known : (v : ℕ) → WasRead me b j r0 r tr es v → (t x : ℕ) → Knows r0 (Tag b) t → Knows r0 (Body b (tag_refs me.geometry.wide t + j)) x → v ≡ x
  read_known v h t x tag word =
      let is : h.x ≡ t = h.tag t tag in
      h.word x (subst (λ (g : ℕ). Contains (learnt (Tag b) h.x r0.known) (record { spot = Body b (tag_refs me.geometry.wide g + j); value = x })) (sym is)
      (Contains-append_right (record { spot = Tag b; value = h.x } ∷ []) (filter (not_at (Tag b)) r0.known) _ (Contains-filter (not_at (Tag b)) r0.known _ word refl)))

  -- and it is known now
  read_now : (v : ℕ) → WasRead me b j r0 r tr es v → (t : ℕ) × Knows r (Tag b) t × (j < tag_plain me.geometry.wide t) × Knows r (Body b (tag_refs me.geometry.wide t + j)) v
  read_now v h =
      let known : r.known ≡ learnt (Body b (tag_refs me.geometry.wide h.x + j)) v (learnt (Tag b) h.x r0.known) = ap (λ (x : Memo). x.known) h.memo in (
        h.x,
        subst (λ (ks : List Stored). Contains ks (record { spot = Tag b; value = h.x })) (sym known) (1, omega arith, refl),
        h.low,
        subst (λ (ks : List Stored). Contains ks (record { spot = Body b (tag_refs me.geometry.wide h.x + j); value = v })) (sym known) (0, omega arith, refl),
      )

-- ---- in the client

module _ (t t' : Acting) (before left block word : ℕ) (at : IsAtBlocks t) where
  abbrev c : Acts
  c = acts_of t before

  abbrev c' : Acts
  c' = acts_of t' left

  abbrev Called : Result ℕ Fault → Type 0
  Called a = HasCalled word_control read_plan (reading (me_of t.of t.account) block word) t t' before left (Done a)

  kept : (a : Result ℕ Fault) → Called a → KeepsRoots c c'
  kept a h = roots_kept t t' h.done.same.1 (read_roots (me_of t.of t.account) block word t.account.memo t'.account.memo _ _ a h.done.left_so)

  still : (a : Result ℕ Fault) → Called a → IsAtBlocks t'
  still a h = still_at t t' before left at (done_same (Done a) at.alive h.done) (done_lives a h.done) h.rests (read_queues (me_of t.of t.account) block word t.account.memo t'.account.memo _ _ a h.done.left_so)

  is_word : (v : ℕ) → Called (Ok v) → IsWord block word v c c'
  is_word v h =
      record {
        as_known = λ x it. read_known (me_of t.of t.account) block word t.account.memo t'.account.memo _ _ v h.done.left_so it.0 x it.1 it.3;
        known = subst (λ (z : Bool). (g : ℕ) × Knows t'.account.memo (Tag block) g × (word < tag_plain z g) × Knows t'.account.memo (Body block (tag_refs z g + word)) v) (ap (λ (p : Its). p.start.geometry.wide) (sym h.done.same.0))
            (read_now (me_of t.of t.account) block word t.account.memo t'.account.memo _ _ v h.done.left_so);
      }

  pub read_came : (v : ℕ) (bs : List ℕ) → KnowsRoots t bs → Called (Ok v) → HasCome (λ (x : ℕ). IsWord block word x c c' × KeepsRoots c c') (WhyNotRead word) c c' bs (Ok v)
  read_came v bs knows h =
      ok_came (λ (x : ℕ). IsWord block word x c c' × KeepsRoots c c') (WhyNotRead word) c c' bs v (done_same (Done (Ok v)) at.alive h.done) (still (Ok v) h)
      (knows_kept t t' bs at.kind at.alive knows (kept (Ok v) h)) (is_word v h, kept (Ok v) h)

  pub unread_came : (e : Fault) (bs : List ℕ) → KnowsRoots t bs → Called (Err e) → HasCome (λ (x : ℕ). IsWord block word x c c' × KeepsRoots c c') (WhyNotRead word) c c' bs (Err (NoSuchWord word e.plain))
  unread_came e bs knows h =
      err_came (λ (x : ℕ). IsWord block word x c c' × KeepsRoots c c') (WhyNotRead word) c c' bs (NoSuchWord word e.plain) (done_same (Done (Err e)) at.alive h.done) (still (Err e) h)
      (knows_kept t t' bs at.kind at.alive knows (kept (Err e) h)) refl (h.done.left_so.high, record { alive = done_lives (Err e) h.done; roots = kept (Err e) h }, refl)
