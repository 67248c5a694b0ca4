-- which operation on single blocks a call begins, and that it may
use Rattle.std.proofs.Common.{◌≡◌, ◌≢◌, ℕ, ◌<◌, ◌==◌, Bool, true, false, cond, refl, sym, ap, ◌∙◌, subst, arith, ltb-true, nat_lt, Result, Ok, Err}
use Rattle.std.proofs.lemmas.Bool.{eqb-false}
use Rattle.std.specs.Prelude.{None, Option, Some}
use Rattle.shm_graph.specs.declared.{ask.Me.Me, memo.Memo.Memo}
use Rattle.shm_alloc.specs.{declared.request.Request.Request, Alloc.Control.RequestFits}
use Rattle.shm_session.specs.declared.said.{Call.Call, Misuse.Misuse, Stage.{Stage, TheVariants.{Dead, Live, Vacant}}}
use Rattle.shm_sessions.specs.Logs.{IsCall}
use Rattle.shm_singles.specs.declared.script.{Deed.Deed, Point.TheVariants.{Named, Only}, ScriptState.ScriptState}
use Rattle.shm_singles.specs.{Parts.part_control, Scripts.{begun, first_of, is_first, part, script_steered, started}}
use Rattle.shm_singles.specs.Steering.{steering_of}
use Rattle.shm_singles.specs.Singles.{Work, allocating, alone, another, at_root, begins, below, dropping, joins, leaves, near_of, other_than, recovers, request, requested, rooted_at, runs, script_of, with_peer, word}
use Rattle.shm_singles.specs.declared.script.Deed.TheVariants as deed
use Rattle.shm_shared.proofs.BlockWays.{AtBlock, HasPeer, HasRequest, IsInRange, IsOn, KnowsAt, block_live, stage_of}

-- the operation s of a call: it is the identity's, has made no step, and may begin between two operations
pub record IsScript (me : Me) (c : Call) (s : ScriptState) : Type 0 where
  pub own : s.me ≡ me
  pub first : is_first s.point ≡ true
  pub start : started s ≡ s
  pub fresh : part_control.fresh (part s s.point) ≡ true
  pub live : stage_of s.deed ≡ Live
  pub may : me.who < me.geometry.clients → IsCall c → (r : Memo) → IsOn me None r → IsInRange s × KnowsAt s s.point r

some_is : {A : Type 0} (x y : A) → (let o : Option A = Some x in o ≡ Some y) → x ≡ y
some_is x y e = cc

none_is : {A : Type 0} (y : A) → (let o : Option A = None in o ≡ Some y) → ⊥
none_is y e = cc

-- ---- numbers

-- a number is none, or is below its bound
below_so : (n b k : ℕ) → below n b ≡ Some k → k < b
below_so n b k = go (nat_lt n b) (ltb-true n b)
  where
    go : (q : Bool) → (q ≡ true → n < b) → cond q (Some n) None ≡ Some k → k < b
    go true l e = subst (λ (i : ℕ). i < b) (some_is n k e) (l refl)
    go false l e = absurd (none_is k e)

another_so : (me : Me) (n k : ℕ) → another me n ≡ Some k → (k < me.geometry.clients) × (me.who ≢ k)
another_so me n k = go (below n me.geometry.clients) refl
  where
    go : (o : Option ℕ) → below n me.geometry.clients ≡ o → other_than me.who o ≡ Some k → (k < me.geometry.clients) × (me.who ≢ k)
    go None e z = absurd (none_is k z)
    go (Some i) e z = by (i == me.who) (eqb-false i me.who) z
      where
        by : (q : Bool) → (q ≡ false → i ≢ me.who) → cond q None (Some i) ≡ Some k → (k < me.geometry.clients) × (me.who ≢ k)
        by true other y = absurd (none_is k y)
        by false other y =
            let same : i ≡ k = some_is i k y in
            (below_so n me.geometry.clients k (e ∙ ap (λ (j : ℕ). let o : Option ℕ = Some j in o) same), λ x. other refl (same ∙ sym x))

requests : (c : Call) (q : Request) → IsCall c → request c ≡ Some q → RequestFits q
requests c q sized = go (nat_lt c.first 17) (nat_lt c.second 9) (nat_lt c.third 4294967296) (ltb-true c.first 17) (ltb-true c.second 9)
  where
    go : (x y z : Bool) → (x ≡ true → c.first < 17) → (y ≡ true → c.second < 9) → requested c (cond x (Some c.first) None) (cond y (Some c.second) None) z ≡ Some q → RequestFits q
    go true true true l k e =
        let a = l refl in
        let b = k refl in
        subst RequestFits (some_is (record { refs = c.first; count = c.second; plain = c.words; near = near_of c.third }) q e) (record { refs = omega arith; count = omega arith; small = sized.4 })
    go true true false l k e = absurd (none_is q e)
    go true false z l k e = absurd (none_is q e)
    go false y z l k e = absurd (none_is q e)

-- ---- operations

module _ (me : Me) (c : Call) where
  allocates : (s : ScriptState) (o : Option Request) → ((q : Request) → o ≡ Some q → IsCall c → RequestFits q) → allocating me o ≡ Some s → IsScript me c s
  allocates s None fits e = absurd (none_is s e)
  allocates s (Some q) fits e =
      subst (IsScript me c) (some_is (record (begun me deed.Alloc Only) { request = q }) s e)
      (record { own = refl; first = refl; start = refl; fresh = refl; live = refl; may = λ who sized r h. (record { request = fits q refl sized; root = omega arith; other = omega arith; peer = who; another = tt; author = who }, h) })

  drops : (s : ScriptState) (o : Option ℕ) → ((k : ℕ) → o ≡ Some k → k < 16) → dropping me o ≡ Some s → IsScript me c s
  drops s None low e = absurd (none_is s e)
  drops s (Some k) low e =
      subst (IsScript me c) (some_is (record (begun me deed.Drop Only) { root = k }) s e)
      (record { own = refl; first = refl; start = refl; fresh = refl; live = refl; may = λ who sized r h. (record { request = tt; root = low k refl; other = omega arith; peer = who; another = tt; author = who }, h) })

  receives : (s : ScriptState) (o : Option ℕ) → ((k : ℕ) → o ≡ Some k → (k < me.geometry.clients) × (me.who ≢ k)) → with_peer o (Some (begun me deed.Receive Only)) ≡ Some s → IsScript me c s
  receives s None other e = absurd (none_is s e)
  receives s (Some k) other e =
      subst (IsScript me c) (some_is (record (begun me deed.Receive Only) { peer = k }) s e)
      (record { own = refl; first = refl; start = refl; fresh = refl; live = refl; may = λ who sized r h. (record { request = tt; root = omega arith; other = omega arith; peer = (other k refl).0; another = (other k refl).1; author = who }, h) })

  drains : (s : ScriptState) → (let o : Option ScriptState = Some (begun me deed.Drain Only) in o ≡ Some s) → IsScript me c s
  drains s e =
      subst (IsScript me c) (some_is (begun me deed.Drain Only) s e)
      (record { own = refl; first = refl; start = refl; fresh = refl; live = refl; may = λ who sized r h. (record { request = tt; root = omega arith; other = omega arith; peer = who; another = tt; author = who }, h) })

  -- an operation at a block begins with its root
  named_first : (d : Deed) → AtBlock d → first_of d ≡ Named
  named_first deed.Share b = refl
  named_first deed.Read b = refl
  named_first deed.Set b = refl
  named_first deed.Clear b = refl
  named_first deed.Send b = refl
  named_first deed.Follow b = refl
  named_first deed.Join b = absurd b
  named_first deed.Leave b = absurd b
  named_first deed.Recover b = absurd b
  named_first deed.Alloc b = absurd b
  named_first deed.Drop b = absurd b
  named_first deed.Receive b = absurd b
  named_first deed.Drain b = absurd b

  no_request : (d : Deed) (q : Request) → AtBlock d → HasRequest d q
  no_request deed.Share q b = tt
  no_request deed.Read q b = tt
  no_request deed.Set q b = tt
  no_request deed.Clear q b = tt
  no_request deed.Send q b = tt
  no_request deed.Follow q b = tt
  no_request deed.Join q b = absurd b
  no_request deed.Leave q b = absurd b
  no_request deed.Recover q b = absurd b
  no_request deed.Alloc q b = absurd b
  no_request deed.Drop q b = absurd b
  no_request deed.Receive q b = absurd b
  no_request deed.Drain q b = absurd b

  at_block : (d : Deed) (k i o p : ℕ) → AtBlock d → k < 16 → o < 16 → (me.who < me.geometry.clients → p < me.geometry.clients) → HasPeer d me.who p → IsScript me c (record (begun me d Named) { root = k; index = i; other = o; peer = p })
  at_block d k i o p b low high peer another =
      record {
        own = refl;
        first = refl;
        start = ap (λ y. record (begun me d y) { root = k; index = i; other = o; peer = p }) (named_first d b);
        fresh = refl;
        live = block_live d b;
        may = λ who sized r h. (record { request = no_request d _ b; root = low; other = high; peer = peer who; another = another; author = who }, (h, refl, b));
      }

  -- where it begins, by its numbers
  roots : (d : Deed) (s : ScriptState) (a i o : Option ℕ) → AtBlock d → ((k : ℕ) → a ≡ Some k → k < 16) → ((k : ℕ) → o ≡ Some k → k < 16) → HasPeer d me.who me.who → rooted_at me d a i o ≡ Some s → IsScript me c s
  roots d s None i o b low high another e = absurd (none_is s e)
  roots d s (Some k) None o b low high another e = absurd (none_is s e)
  roots d s (Some k) (Some i) None b low high another e = absurd (none_is s e)
  roots d s (Some k) (Some i) (Some o) b low high another e =
      subst (IsScript me c) (some_is (record (begun me d Named) { root = k; index = i; other = o }) s e) (at_block d k i o me.who b (low k refl) (high o refl) (λ who. who) another)

  sends : (s : ScriptState) (p a i o : Option ℕ) → ((k : ℕ) → p ≡ Some k → (k < me.geometry.clients) × (me.who ≢ k)) → ((k : ℕ) → a ≡ Some k → k < 16) → ((k : ℕ) → o ≡ Some k → k < 16) → with_peer p (rooted_at me deed.Send a i o) ≡ Some s → IsScript me c s
  sends s None a i o other low high e = absurd (none_is s e)
  sends s (Some p) None i o other low high e = absurd (none_is s e)
  sends s (Some p) (Some k) None o other low high e = absurd (none_is s e)
  sends s (Some p) (Some k) (Some i) None other low high e = absurd (none_is s e)
  sends s (Some p) (Some k) (Some i) (Some o) other low high e =
      subst (IsScript me c) (some_is (record (begun me deed.Send Named) { root = k; index = i; other = o; peer = p }) s e) (at_block deed.Send k i o p tt (low k refl) (high o refl) (λ who. (other p refl).0) (other p refl).1)

  lows : (n k : ℕ) → below n 16 ≡ Some k → k < 16
  lows n k e = below_so n 16 k e

  pub script_so : (s : ScriptState) → script_of me c ≡ Some s → IsScript me c s
  script_so s = go (c.op == 20) (c.op == 21) (c.op == 22) (c.op == 23) (c.op == 24) (c.op == 25) (c.op == 26) (c.op == 27) (c.op == 28) (c.op == 29)
    where
      go : (x0 x1 x2 x3 x4 x5 x6 x7 x8 x9 : Bool) → cond x0 (allocating me (request c)) (cond x1 (at_root me deed.Share c.first 0 0) (cond x2 (at_root me deed.Read c.first c.second 0) (cond x3 (at_root me deed.Set c.first c.second c.third) (cond x4 (at_root me deed.Clear c.first c.second 0) (cond x5 (dropping me (below c.first 16))
          (cond x6 (with_peer (another me c.first) (at_root me deed.Send c.second 0 0)) (cond x7 (with_peer (another me c.first) (Some (begun me deed.Receive Only))) (cond x8 (Some (begun me deed.Drain Only)) (cond x9 (at_root me deed.Follow c.first c.second 0) None))))))))) ≡ Some s → IsScript me c s
      go true x1 x2 x3 x4 x5 x6 x7 x8 x9 e = allocates s (request c) (λ q z sized. requests c q sized z) e
      go false true x2 x3 x4 x5 x6 x7 x8 x9 e = roots deed.Share s (below c.first 16) (word 0) (below 0 16) tt (lows c.first) (lows 0) tt e
      go false false true x3 x4 x5 x6 x7 x8 x9 e = roots deed.Read s (below c.first 16) (word c.second) (below 0 16) tt (lows c.first) (lows 0) tt e
      go false false false true x4 x5 x6 x7 x8 x9 e = roots deed.Set s (below c.first 16) (word c.second) (below c.third 16) tt (lows c.first) (lows c.third) tt e
      go false false false false true x5 x6 x7 x8 x9 e = roots deed.Clear s (below c.first 16) (word c.second) (below 0 16) tt (lows c.first) (lows 0) tt e
      go false false false false false true x6 x7 x8 x9 e = drops s (below c.first 16) (lows c.first) e
      go false false false false false false true x7 x8 x9 e = sends s (another me c.first) (below c.second 16) (word 0) (below 0 16) (another_so me c.first) (lows c.second) (lows 0) e
      go false false false false false false false true x8 x9 e = receives s (another me c.first) (another_so me c.first) e
      go false false false false false false false false true x9 e = drains s e
      go false false false false false false false false false true e = roots deed.Follow s (below c.first 16) (word c.second) (below 0 16) tt (lows c.first) (lows 0) tt e
      go false false false false false false false false false false e = absurd (none_is s e)

-- ---- what a call begins

-- a join, a leaving, a recovery, or an operation of one that has joined
pub data IsBegun (me : Me) (t : Stage) (c : Call) (m : Work) : Type 0 where
  Joins : (at : t ≡ Vacant) (is : alone me deed.Join ≡ m) → IsBegun me t c m
  Leaves : (at : t ≡ Live) (is : alone me deed.Leave ≡ m) → IsBegun me t c m
  Recovers : (at : t ≡ Dead) (is : alone me deed.Recover ≡ m) → IsBegun me t c m
  Runs : (at : t ≡ Live) (s : ScriptState) (script : IsScript me c s) (is : steering_of script_steered s ≡ m) → IsBegun me t c m

ok_is : (x y : Work) → (let r : Result Work Misuse = Ok x in r ≡ Ok y) → x ≡ y
ok_is x y e = cc

err_is : (x : Misuse) (y : Work) → (let r : Result Work Misuse = Err x in r ≡ Ok y) → ⊥
err_is x y e = cc

joined : (me : Me) (t : Stage) (c : Call) (m : Work) → joins me t ≡ Ok m → IsBegun me t c m
joined me Vacant c m e = Joins refl (ok_is _ _ e)
joined me Live c m e = absurd (err_is _ _ e)
joined me Dead c m e = absurd (err_is _ _ e)

left : (me : Me) (t : Stage) (c : Call) (m : Work) → leaves me t ≡ Ok m → IsBegun me t c m
left me Vacant c m e = absurd (err_is _ _ e)
left me Live c m e = Leaves refl (ok_is _ _ e)
left me Dead c m e = absurd (err_is _ _ e)

recovered : (me : Me) (t : Stage) (c : Call) (m : Work) → recovers me t ≡ Ok m → IsBegun me t c m
recovered me Vacant c m e = absurd (err_is _ _ e)
recovered me Live c m e = absurd (err_is _ _ e)
recovered me Dead c m e = Recovers refl (ok_is _ _ e)

ran : (me : Me) (t : Stage) (c : Call) (m : Work) (o : Option ScriptState) → script_of me c ≡ o → runs t o ≡ Ok m → IsBegun me t c m
ran me t c m None z e = absurd (err_is _ _ e)
ran me Vacant c m (Some s) z e = absurd (err_is _ _ e)
ran me Live c m (Some s) z e = Runs refl s (script_so me c s z) (ok_is _ _ e)
ran me Dead c m (Some s) z e = absurd (err_is _ _ e)

pub block_begun : (me : Me) (t : Stage) (c : Call) (m : Work) → begins me t c ≡ Ok m → IsBegun me t c m
block_begun me t c m = go (c.op == 1) (c.op == 2) (c.op == 3)
  where
    go : (x y z : Bool) → cond x (joins me t) (cond y (leaves me t) (cond z (recovers me t) (runs t (script_of me c)))) ≡ Ok m → IsBegun me t c m
    go true y z e = joined me t c m e
    go false true z e = left me t c m e
    go false false true e = recovered me t c m e
    go false false false e = ran me t c m (script_of me c) refl e
