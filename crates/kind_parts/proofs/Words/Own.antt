-- word steps at own words as parts: what each needs of the memo
use Rattle.std.proofs.Common.{◌≡◌, ◌≢◌, ℕ, ◌+◌, ◌<◌, refl, sym, ap, ◌∙◌, subst, arith, Bool, true, false, not, cond, eqb, ◌&&◌, [], ◌∷◌}
use Rattle.std.proofs.lemmas.Bool.{and_from, and_parts, cond-false, cond-true, eq-eqb, eqb-true, lt-ltb, ne_eqb}
use Rattle.std.specs.{Prelude.{None, Option}, List.Contains}
use Rattle.shm_words.specs.{declared.place.Place.Place, Layout.address}
use Rattle.shm_words.specs.declared.place.Place.TheVariants as place
use Rattle.shm_graph.specs.declared.{ask.{Ask.{Ask, TheVariants.{Load, Store}}, Me.Me}, spot.Spot.Spot}
use Rattle.shm_graph.specs.declared.spot.Spot.TheVariants.{Spare, Status, Redo, Hold, Home, Era, Root, Tail, QueueHead}
use Rattle.shm_graph.specs.declared.memo.{Fact.TheVariants.Counter, Memo.Memo, Op.TheVariants.Nothing, Step.Step}
use Rattle.shm_graph.specs.{declared.memo.Test.Test, Agents.recovers, Blocks.classes, Changes.{called, test_before}}
use Rattle.shm_graph.specs.{Core.core, Held.status_word, Laws.{GoneNow, KeptAt, MayEnd, framed}, Ops.IsUncommitted}
use Rattle.shm_graph.specs.{MemoAfterRead.{read_on, row_read}, Spots.{is_in_body, spot_at}}
use Rattle.shm_graph.specs.MemoAfterStore.{era_stored, is_lowering, op_closed, stored_on, with_own, without_looks, written}
use Rattle.shm_graph.specs.Views.{own_word, owner_is}
use Rattle.shm_graph.specs.declared.memo.Status.TheVariants as status
use Rattle.shm_graph.proofs.{Machines.Calling.called_by, StepKinds.{Keeping.live_kept, Loads.choice}}
use Rattle.shm_graph.proofs.{StepKinds.StatusKeeping.{dead_kept, gone_kept}, Spots.SpotPlaces.spot-place}
use Rattle.shm_graph.proofs.Memos.MemoSteps.{recovers_called}
use Rattle.plans.specs.{declared.word.Word.Word, Words.IsWord, Proved.Words.word_more}
use Rattle.plans.specs.Proved.WordSteps.{KindKept, load_at, word_at}
use Rattle.kind_parts.specs.{Conditions.MayWrite, OwnWords.{MayShow, MayHold, MayClose}}
use Rattle.kind_parts.specs.WordParts.{OwnLoaded, StatusLoaded, HoldLoaded, HoldStored, LiveStored, DeadStored, GoneStored, RowStored, EraClosed, EraClosedLowering, EraStored, CountLoaded, Makes, NamedStored}
use Rattle.kind_parts.proofs.{Cores.{called_core, core_cond}, OwnStores.{hold_stored, row_stored}}
use Rattle.kind_parts.proofs.{OwnStoresEra.era_closed, SlotStores.{home_stored, root_stored}}

-- a word step as it is made
abbrev pub word_for : Me → Ask → Word
word_for me a = record { me = me; ask = a; over = false }

-- the memo at a step has the core of the memo before
pub at_step : (r : ℕ → Memo) (c : ℕ) (m : Memo) (t : Step) → r c ≡ m → core (called (r c) t) ≡ core m
at_step r c m t same = called_core (r c) t ∙ ap core same

module _ (first : Bool) (me : Me) (m : Memo) (l : me.who < me.geometry.clients) where
  abbrev c : ℕ
  c = me.who

  -- ---- loads

  -- the place is that of a spot outside the bodies
  abbrev pub IsPlaced : Place → Spot → Type 0
  IsPlaced q p = ((class : ℕ → ℕ → ℕ) → spot_at me.geometry class (address me.geometry q) ≡ p) × (p ≢ Spare) × (is_in_body p ≡ false)

  -- of an own word of which nothing else comes
  own_load : (q : Place) (p : Spot) → IsPlaced q p → owner_is c p ≡ true → MayEnd c m p
      → ((x : Memo) (test : Option Test) (n : ℕ) → recovers x ≡ recovers m → core x ≡ core m → core (read_on me.geometry c true x test p n) ≡ core m)
      → IsWord first me (Load (address me.geometry q)) (OwnLoaded p) (word_for me (Load (address me.geometry q))) m
  own_load q p at mine may left =
      load_at first me (address me.geometry q) (OwnLoaded p) m p at.0 at.1 at.2 may
      (λ w r f st stands same. let t : Step = framed me (Load (address me.geometry q)) f (w p) in
      record {
        found = sym (st.held.mine c st.who p mine) ∙ ap (λ (x : Memo). own_word x.own p) same;
        left = left (called (r c) t) (test_before (r c) t) (w p) (recovers_called (r c) t ∙ ap recovers same) (at_step r c m t same);
        read = tt;
      })

  pub redo_load : IsWord first me (Load (address me.geometry (place.Redo c))) (OwnLoaded (Redo c)) (word_for me (Load (address me.geometry (place.Redo c)))) m
  redo_load = own_load (place.Redo c) (Redo c) (λ class. spot-place me.geometry class (place.Redo c) (lt-ltb c me.geometry.clients l), λ e. cc, refl) (eq-eqb c c refl) tt (λ x test n a e. e)

  pub root_load : (k : ℕ) → k < 16 → IsWord first me (Load (address me.geometry (place.Root c k))) (OwnLoaded (Root c k)) (word_for me (Load (address me.geometry (place.Root c k)))) m
  root_load k low = own_load (place.Root c k) (Root c k) (λ class. spot-place me.geometry class (place.Root c k) (and_from _ _ (lt-ltb c me.geometry.clients l) (lt-ltb k 16 low)), λ e. cc, refl) (eq-eqb c c refl) tt (λ x test n a e. e)

  -- the hold word, where no step is in progress that it could end
  pub hold_load : (recovers m ≡ true → m.op ≡ Nothing) → IsWord first me (Load (address me.geometry (place.Hold c))) (OwnLoaded (Hold c)) (word_for me (Load (address me.geometry (place.Hold c)))) m
  hold_load idle =
      own_load (place.Hold c) (Hold c) (λ class. spot-place me.geometry class (place.Hold c) (lt-ltb c me.geometry.clients l), λ e. cc, refl) (eq-eqb c c refl) (λ e same. subst IsUncommitted (sym (idle e)) tt)
      (λ x test n a e. choice (λ (y : Memo). core y ≡ core m) (recovers x && eqb c c) (record x { op = Nothing }) x
      (λ z. let o : m.op ≡ Nothing = idle (sym a ∙ (and_parts (recovers x) (eqb c c) z).0) in ap (λ (y : Memo). record y { op = Nothing }) e ∙ ap (λ o. core (record m { op = o })) (sym o))
      (λ z. e))

  -- the hold word by a recoverer: a step that isn't committed ends
  pub hold_end : (recovers m ≡ true → IsUncommitted m.op) → IsWord first me (Load (address me.geometry (place.Hold c))) (HoldLoaded c) (word_for me (Load (address me.geometry (place.Hold c)))) m
  hold_end may =
      let at : ℕ = address me.geometry (place.Hold c) in
      load_at first me at (HoldLoaded c) m (Hold c) (λ class. spot-place me.geometry class (place.Hold c) (lt-ltb c me.geometry.clients l)) (λ e. cc) refl (λ e same. may e)
      (λ w r f st stands same. let t : Step = framed me (Load at) f (w (Hold c)) in let x : Memo = called (r c) t in
      record {
        found = sym (st.held.mine c st.who (Hold c) (eq-eqb c c refl)) ∙ ap (λ (y : Memo). own_word y.own (Hold c)) same;
        left =
            subst (λ z. core (cond (recovers x && z) (record x { op = Nothing }) x) ≡ core (cond (recovers m) (record m { op = Nothing }) m)) (sym (eq-eqb c c refl))
            (subst (λ z. core (cond (z && true) (record x { op = Nothing }) x) ≡ core (cond (recovers m) (record m { op = Nothing }) m)) (sym (recovers_called (r c) t ∙ ap recovers same))
            (by (recovers m) x (at_step r c m t same)));
        read = tt;
      })
    where
      by : (z : Bool) (x : Memo) → core x ≡ core m → core (cond (z && true) (record x { op = Nothing }) x) ≡ core (cond z (record m { op = Nothing }) m)
      by true x e = ap (λ (y : Memo). record y { op = Nothing }) e
      by false x e = e

  -- ---- counters

  -- an era of a row, which may be the own era
  pub era_load : (i j : ℕ) → i < me.geometry.clients → j < me.geometry.clients → IsWord first me (Load (address me.geometry (place.Era i j))) (CountLoaded c (Era i j)) (word_for me (Load (address me.geometry (place.Era i j)))) m
  era_load i j li lj =
      let at : ℕ = address me.geometry (place.Era i j) in
      load_at first me at (CountLoaded c (Era i j)) m (Era i j) (λ class. spot-place me.geometry class (place.Era i j) (and_from _ _ (lt-ltb i me.geometry.clients li) (lt-ltb j me.geometry.clients lj))) (λ e. cc) refl tt
      (λ w r f st stands same. let t : Step = framed me (Load at) f (w (Era i j)) in let x : Memo = called (r c) t in let n : ℕ = w (Era i j) in
      record {
        found = λ mine. sym (st.held.mine c st.who (Era i j) mine) ∙ ap (λ (y : Memo). own_word y.own (Era i j)) same;
        left = choice (λ (y : Memo). core y ≡ core m) (eqb j c && not (eqb i c)) (row_read c x (test_before (r c) t) i n) (record x { facts = Counter (Era i j) n ∷ x.facts }) (λ z. at_step r c m t same) (λ z. at_step r c m t same);
        read =
            choice (λ (y : Memo). Contains y.facts (Counter (Era i j) n)) (eqb j c && not (eqb i c)) (row_read c x (test_before (r c) t) i n) (record x { facts = Counter (Era i j) n ∷ x.facts })
            (λ z. subst (λ k. Contains (Counter (Era i k) n ∷ x.facts) (Counter (Era i j) n)) (eqb-true j c (and_parts (eqb j c) (not (eqb i c)) z).0) (0, omega arith, refl))
            (λ z. (0, omega arith, refl));
      })

  -- a tail
  pub tail_load : (s i : ℕ) → s < me.geometry.clients → i < me.geometry.clients → IsWord first me (Load (address me.geometry (place.Tail s i))) (CountLoaded c (Tail s i)) (word_for me (Load (address me.geometry (place.Tail s i)))) m
  tail_load s i ls li =
      let at : ℕ = address me.geometry (place.Tail s i) in
      load_at first me at (CountLoaded c (Tail s i)) m (Tail s i) (λ class. spot-place me.geometry class (place.Tail s i) (and_from _ _ (lt-ltb s me.geometry.clients ls) (lt-ltb i me.geometry.clients li))) (λ e. cc) refl tt
      (λ w r f st stands same. record { found = λ mine. sym (st.held.mine c st.who (Tail s i) mine) ∙ ap (λ (y : Memo). own_word y.own (Tail s i)) same; left = at_step r c m (framed me (Load at) f (w (Tail s i))) same; read = (0, omega arith, refl) })

  -- a head
  pub head_load : (s i : ℕ) → s < me.geometry.clients → i < me.geometry.clients → IsWord first me (Load (address me.geometry (place.Head s i))) (CountLoaded c (QueueHead s i)) (word_for me (Load (address me.geometry (place.Head s i)))) m
  head_load s i ls li =
      let at : ℕ = address me.geometry (place.Head s i) in
      load_at first me at (CountLoaded c (QueueHead s i)) m (QueueHead s i) (λ class. spot-place me.geometry class (place.Head s i) (and_from _ _ (lt-ltb s me.geometry.clients ls) (lt-ltb i me.geometry.clients li))) (λ e. cc) refl tt
      (λ w r f st stands same. record { found = λ mine. sym (st.held.mine c st.who (QueueHead s i) mine) ∙ ap (λ (y : Memo). own_word y.own (QueueHead s i)) same; left = at_step r c m (framed me (Load at) f (w (QueueHead s i))) same; read = (0, omega arith, refl) })

  -- ---- stores

  -- a store outside the bodies, of which this is made
  module _ (q : Place) (p : Spot) (v : ℕ) (F : Memo → Memo) (at : IsPlaced q p) where
    abbrev ask : Ask
    ask = Store (address me.geometry q) v

    pub store_at : KindKept first me ask (Makes F) m p → ((x : Memo) → core x ≡ core m → core (stored_on me.geometry c x p v) ≡ core (F m)) → IsWord first me ask (Makes F) (word_for me ask) m
    store_at kind left =
        word_at first me ask (Makes F) m p at.0 at.1 at.2 kind
        (λ w r f st stands same. record { found = tt; left = left (called (r c) (framed me ask f 0)) (at_step r c m (framed me ask f 0) same); read = tt })

  hold_placed : IsPlaced (place.Hold c) (Hold c)
  hold_placed = (λ class. spot-place me.geometry class (place.Hold c) (lt-ltb c me.geometry.clients l), λ e. cc, refl)

  status_placed : IsPlaced (place.Status c) (Status c)
  status_placed = (λ class. spot-place me.geometry class (place.Status c) (lt-ltb c me.geometry.clients l), λ e. cc, refl)

  -- the status is loaded
  pub status_load : IsWord first me (Load (address me.geometry (place.Status c))) StatusLoaded (word_for me (Load (address me.geometry (place.Status c)))) m
  status_load =
      load_at first me (address me.geometry (place.Status c)) StatusLoaded m (Status c) status_placed.0 status_placed.1 status_placed.2 tt
      (λ w r f st stands same. record { found = sym (st.held.state c st.who) ∙ ap (λ (x : Memo). status_word x.status) same; left = at_step r c m (framed me (Load (address me.geometry (place.Status c))) f (w (Status c))) same; read = tt })

  -- the hold word, as a first word step too
  pub hold_store : (v : ℕ) → MayHold me.geometry.clients m v → IsWord first me (Store (address me.geometry (place.Hold c)) v) (HoldStored c v) (word_for me (Store (address me.geometry (place.Hold c)) v)) m
  hold_store v may =
      store_at (place.Hold c) (Hold c) v (λ x. with_own x (Hold c) v) hold_placed
      (λ w r f st stands same. hold_stored me w r f [] (address me.geometry (place.Hold c)) v st (hold_placed.0 (classes w)) (subst (λ (x : Memo). MayHold me.geometry.clients x v) (sym same) may))
      (λ x e. ap (λ (y : Memo). core (with_own y (Hold c) v)) e)

  -- the statuses, as first word steps too
  pub live_store : IsWord first me (Store (address me.geometry (place.Status c)) 1) LiveStored (word_for me (Store (address me.geometry (place.Status c)) 1)) m
  live_store =
      store_at (place.Status c) (Status c) 1 (λ x. record x { status = status.Live }) status_placed
      (λ w r f st stands same. live_kept me w r f [] (address me.geometry (place.Status c)) (λ n x. Unit {0}) st (status_placed.0 (classes w)) tt)
      (λ x e. ap (λ (y : Memo). core (record y { status = status.Live })) e)

  pub dead_store : IsWord first me (Store (address me.geometry (place.Status c)) 2) DeadStored (word_for me (Store (address me.geometry (place.Status c)) 2)) m
  dead_store =
      store_at (place.Status c) (Status c) 2 (λ x. record x { status = status.Dead; making = None; known = []; values = [] }) status_placed
      (λ w r f st stands same. dead_kept me w r f [] (address me.geometry (place.Status c)) (λ n x. Unit {0}) st (status_placed.0 (classes w)) tt)
      (λ x e. ap (λ (y : Memo). core (record y { status = status.Dead; making = None; known = []; values = [] })) e)

  -- an identity of which nothing is left to finish is gone
  pub gone_store : GoneNow c m → IsWord first me (Store (address me.geometry (place.Status c)) 3) (GoneStored c) (word_for me (Store (address me.geometry (place.Status c)) 3)) m
  gone_store done =
      let at : ℕ = address me.geometry (place.Status c) in
      let gone : (r : ℕ → Memo) → r c ≡ m → GoneNow c (r c) = λ r same. subst (GoneNow c) (sym same) done in
      word_at first me (Store at 3) (GoneStored c) m (Status c) status_placed.0 status_placed.1 status_placed.2
      (λ w r f st may same. gone_kept me w r f [] at (λ n x. Unit {0}) st (status_placed.0 (classes w)) (gone r same) tt)
      (λ w r f st stands same. let t : Step = framed me (Store at 3) f 0 in
      record { found = tt; left = ap (λ (y : Memo). core (record y { status = status.Gone })) (at_step r c m t same); read = called_by (GoneNow c) (r c) t (gone r same) (gone r same) })

  -- the own row, after an own word step
  pub row_store : first ≡ false → (j v : ℕ) → j < me.geometry.clients → MayShow c m j v → IsWord first me (Store (address me.geometry (place.Era c j)) v) (RowStored c j v) (word_for me (Store (address me.geometry (place.Era c j)) v)) m
  row_store going j v lj may =
      let at : IsPlaced (place.Era c j) (Era c j) = (λ class. spot-place me.geometry class (place.Era c j) (and_from _ _ (lt-ltb c me.geometry.clients l) (lt-ltb j me.geometry.clients lj)), λ e. cc, refl) in
      store_at (place.Era c j) (Era c j) v (λ x. with_own x (Era c j) v) at
      (λ w r f st stands same. row_stored me w r f [] (address me.geometry (place.Era c j)) j v st (stands going) (at.0 (classes w)) (subst (λ (x : Memo). MayShow c x j v) (sym same) may))
      (λ x e. ap (λ z. core (cond z (era_stored c x (Era c j) v) (with_own x (Era c j) v))) (ne_eqb j c (λ z. may.other (sym z))) ∙ ap (λ (y : Memo). core (with_own y (Era c j) v)) e)

  -- what the store of the own era makes of a memo is in its core
  era_of_core : (v : ℕ) (x : Memo) → core (era_stored c x (Era c c) v) ≡ core (era_stored c (core x) (Era c c) v)
  era_of_core v x = core_cond (is_lowering x.op) _ _ _ _ refl refl

  -- the own era: a step that is written closes, or a half of a change that is done
  pub era_store : first ≡ false → MayClose m (own_word m.own (Era c c) + 1)
      → IsWord first me (Store (address me.geometry (place.Era c c)) (own_word m.own (Era c c) + 1)) (EraStored c) (word_for me (Store (address me.geometry (place.Era c c)) (own_word m.own (Era c c) + 1))) m
  era_store going may =
      let v : ℕ = own_word m.own (Era c c) + 1 in
      let here : ℕ = address me.geometry (place.Era c c) in
      let at : IsPlaced (place.Era c c) (Era c c) = (λ class. spot-place me.geometry class (place.Era c c) (and_from _ _ (lt-ltb c me.geometry.clients l) (lt-ltb c me.geometry.clients l)), λ e. cc, refl) in
      store_at (place.Era c c) (Era c c) v (λ x. era_stored c x (Era c c) (own_word x.own (Era c c) + 1)) at
      (λ w r f st stands same. subst (λ (x : Memo). KeptAt me w r (Store here (own_word x.own (Era c c) + 1)) f (λ n y. Unit {0}) (spot_at me.geometry (classes w) here)) same
      (era_closed me w r f [] here st (stands going) (at.0 (classes w)) (subst (λ (x : Memo). MayClose x (own_word x.own (Era c c) + 1)) (sym same) may)))
      (λ x e. ap core (cond-true (eqb c c) (era_stored c x (Era c c) v) (with_own x (Era c c) v) (eq-eqb c c refl)) ∙ (era_of_core v x ∙ (ap (λ (y : Memo). core (era_stored c y (Era c c) v)) e ∙ sym (era_of_core v m))))

  -- so of a step that lowers nothing, and of one that lowers
  abbrev era_ask : Ask
  era_ask = Store (address me.geometry (place.Era c c)) (own_word m.own (Era c c) + 1)

  abbrev closed : Memo
  closed = record (with_own m (Era c c) (own_word m.own (Era c c) + 1)) { op = op_closed m.op (own_word m.own (Era c c) + 1) }

  pub era_close : first ≡ false → is_lowering m.op ≡ false → MayClose m (own_word m.own (Era c c) + 1) → IsWord first me era_ask (EraClosed c) (word_for me era_ask) m
  era_close going lowers may =
      word_more first me era_ask (EraStored c) (EraClosed c) (word_for me era_ask) m
      (λ n x h. record { found = tt; left = h.left ∙ ap core (cond-false (is_lowering m.op) (without_looks c closed) closed lowers); read = tt })
      (era_store going may)

  pub era_close_lowering : first ≡ false → is_lowering m.op ≡ true → MayClose m (own_word m.own (Era c c) + 1) → IsWord first me era_ask (EraClosedLowering c) (word_for me era_ask) m
  era_close_lowering going lowers may =
      word_more first me era_ask (EraStored c) (EraClosedLowering c) (word_for me era_ask) m
      (λ n x h. record { found = tt; left = h.left ∙ ap core (cond-true (is_lowering m.op) (without_looks c closed) closed lowers); read = tt })
      (era_store going may)

  -- the slot of a step in progress: a root, and the home
  pub root_store : first ≡ false → (k v : ℕ) → k < 16 → MayWrite m (Root c k) v → IsWord first me (Store (address me.geometry (place.Root c k)) v) (NamedStored (Root c k) v) (word_for me (Store (address me.geometry (place.Root c k)) v)) m
  root_store going k v low may =
      let at : IsPlaced (place.Root c k) (Root c k) = (λ class. spot-place me.geometry class (place.Root c k) (and_from _ _ (lt-ltb c me.geometry.clients l) (lt-ltb k 16 low)), λ e. cc, refl) in
      store_at (place.Root c k) (Root c k) v (λ x. written (with_own x (Root c k) v)) at
      (λ w r f st stands same. root_stored me w r f [] (address me.geometry (place.Root c k)) k v st (stands going) (at.0 (classes w)) (subst (λ (x : Memo). MayWrite x (Root c k) v) (sym same) may))
      (λ x e. ap (λ (y : Memo). core (written (with_own y (Root c k) v))) e)

  pub home_store : first ≡ false → (v : ℕ) → MayWrite m (Home c) v → IsWord first me (Store (address me.geometry (place.Home c)) v) (NamedStored (Home c) v) (word_for me (Store (address me.geometry (place.Home c)) v)) m
  home_store going v may =
      let at : IsPlaced (place.Home c) (Home c) = (λ class. spot-place me.geometry class (place.Home c) (lt-ltb c me.geometry.clients l), λ e. cc, refl) in
      store_at (place.Home c) (Home c) v (λ x. written (with_own x (Home c) v)) at
      (λ w r f st stands same. home_stored me w r f [] (address me.geometry (place.Home c)) v st (stands going) (at.0 (classes w)) (subst (λ (x : Memo). MayWrite x (Home c) v) (sym same) may))
      (λ x e. ap (λ (y : Memo). core (written (with_own y (Home c) v))) e)
