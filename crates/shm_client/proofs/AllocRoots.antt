-- what an allocation says of the roots of its identity
use Rattle.std.proofs.Common.{◌≡◌, ◌≢◌, ℕ, ◌<◌, refl, sym, ap, ◌∙◌, subst, List, Result}
use Rattle.std.proofs.lemmas.Bool.{cond-true, cond-false, eq-eqb, ne_eqb}
use Rattle.std.specs.Prelude.{Ok, Err, IfOk, IfErr}
use Rattle.shm_words.specs.declared.geometry.Geometry.{Geometry}
use Rattle.shm_graph.specs.{declared.{ask.Me.Me, memo.{Memo.Memo, Stored.Stored}, run.Start.Start}, Asks.Trail}
use Rattle.shm_graph.specs.{Held.HeldAt, Runs.memos_of, Spots.see, Views.{own_word, view}}
use Rattle.shm_graph.specs.declared.spot.Spot.TheVariants as spot
use Rattle.shm_plain.specs.Pools.{Pool, IsRun, memo_of}
use Rattle.shm_count.specs.{declared.answer.Made.Made, Step.Control.IsInside, Roots.{member, root_word}}
use Rattle.shm_alloc.proofs.{MadeBlocks.block_inside, MadeRoots.made_word}
use Rattle.shm_alloc.specs.declared.{alloc.AllocFault.AllocFault, point.AllocState.AllocState}
use Rattle.shm_alloc.specs.Alloc.{AllocGives, MadeGives}

module _ (g : Geometry) (c : ℕ) (x : AllocState) (is : x.me ≡ member g c) (r0 r : Memo) (tr : Trail) where
  pub alloc_number : (a : Result Made AllocFault) → AllocGives x r0 r tr a → IfOk a (λ m. m.root < 16)
  alloc_number (Ok m) h = h.holds.gives.root
  alloc_number (Err f) h = tt

  pub alloc_root : (a : Result Made AllocFault) → AllocGives x r0 r tr a → IfOk a (λ m. root_word c r m.root ≡ m.block)
  alloc_root (Ok m) h = subst (λ (y : Me). root_word y.who r m.root ≡ m.block) is (made_word x.me x.request r0 r m m.root h.holds.gives ∙ cond-true _ _ _ (eq-eqb m.root m.root refl))
  alloc_root (Err f) h = tt

  pub alloc_others : (a : Result Made AllocFault) → AllocGives x r0 r tr a → IfOk a (λ m. (k : ℕ) → k ≢ m.root → root_word c r k ≡ root_word c r0 k)
  alloc_others (Ok m) h = λ k n. subst (λ (y : Me). root_word y.who r k ≡ root_word y.who r0 k) is (made_word x.me x.request r0 r m k h.holds.gives ∙ cond-false _ _ _ (ne_eqb m.root k (λ e. n (sym e))))
  alloc_others (Err f) h = tt

  pub alloc_refused : (a : Result Made AllocFault) → AllocGives x r0 r tr a → IfErr a (λ f. (k : ℕ) → root_word c r k ≡ root_word c r0 k)
  alloc_refused (Ok m) h = tt
  alloc_refused (Err f) h = λ k. ap (λ (o : List Stored). own_word o (spot.Root c k)) h.holds.gives.0.own

-- in the pool after it
pub alloc_inside : (p : Pool) (s : Start) (c : ℕ) (x : AllocState) (r0 : Memo) (tr : Trail) → IsRun p → p.start ≡ s → c < s.geometry.clients → x.me ≡ member s.geometry c → (a : Result Made AllocFault) → AllocGives x r0 (memo_of p c) tr a → IfOk a (λ m. IsInside (member s.geometry c) m.block)
alloc_inside p s c x r0 tr run start l is (Err f) h = tt
alloc_inside p s c x r0 tr run start l is (Ok m) h =
    let held : HeldAt s.geometry (see s.geometry p.words) (view (memos_of p.accounts)) = subst (λ (t : Start). HeldAt t.geometry (see t.geometry p.words) (view (memos_of p.accounts))) start run.held.at in
    block_inside (member s.geometry c) x.request r0 m (see s.geometry p.words) (memos_of p.accounts) held l
    (subst (λ (y : Me). MadeGives y x.request r0 (memo_of p c) m) is h.holds.gives)
