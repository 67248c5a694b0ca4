-- what stays where nothing is done, over one part after another, over latches, reading, allocations, steps at the own home, refused steps and drops of roots: what is proved of it
use Rattle.std.proofs.Common.{◌≡◌, ◌≢◌, ℕ, ◌<◌, ◌≤◌, refl, sym, ap, ◌∙◌, subst, arith, Bool, true, false, eqb, append-nil, List, [], Option, Some, None, inl, inr}
use Rattle.std.proofs.lemmas.Bool.{cases_Bool, cond-false, cond-true, eq-eqb, eqb-true, false≢true, ne_eqb, true≢false}
use Rattle.std.specs.{Prelude.{◌⊎◌, ◌==◌, Result, Ok, Err}, List.{Contains, list_any}}
use Rattle.kind_laws.proofs.Lists.{Contains-filter}
use Rattle.shm_graph.specs.declared.{ask.Me.Me, spot.Spot.{Spot, TheVariants.{Hold, Home, Era, Root, Tag, Body}}}
use Rattle.shm_graph.specs.declared.{memo.{Memo.Memo, Op.TheVariants.Nothing, Stored.Stored}, table.Part.Part}
use Rattle.shm_graph.specs.{Asks.Trail, Core.core, Events.Event, Held.{is_loose, is_slot}, Idle.{IsIdle, hold_word}}
use Rattle.shm_graph.specs.Ops.{cover, Cover.On}
use Rattle.shm_graph.specs.{Reach.{binds_unlatched, is_latch_of, is_named, named_blocks, unlatched}, Spots.same_spot}
use Rattle.shm_graph.specs.Views.{own_word}
use Rattle.shm_graph.proofs.Spots.Spotting.{same_spot_self}
use Rattle.kind_parts.specs.Reparting.{sight, map_in, IsValue}
use Rattle.kind_parts.proofs.{PartsSet.loose_stays, Reaching.root_reached, UnlatchedValue.value_unlatched}
use Rattle.plans.specs.Parts.{IsHeld}
use Rattle.shm_count.specs.declared.{answer.{EraSpent.EraSpent, Made.Made, UpFault.UpFault}, point.Aim.Aim}
use Rattle.shm_count.specs.{declared.point.Aim.TheVariants.{Up, Down, Change}, Proved.Retaining.slot_known}
use Rattle.shm_count.specs.{Roots.{rest, root_word}, Slots.{Filled, StepCause, Untouched}, Step.Parts.part_after}
use Rattle.shm_count.specs.{Lasting.is_lasting, Tear.Memos.{Knows, Remains}}
use Rattle.shm_count.specs.declared.answer.UpFault.TheVariants as up
use Rattle.shm_alloc.specs.{declared.{alloc.AllocFault.AllocFault, request.Request.Request}, Alloc.AnswerHolds}
use Rattle.shm_alloc.specs.declared.alloc.AllocFault.TheVariants as alloc
use Rattle.shm_ref.specs.{declared.drop_root.DropState.DropState, DropRoot.DropLeaves, Hold.wants}
use Rattle.shm_ref.specs.{Proved.Leaving.left_root, Lefts.{Left, is_root_of}}
use Rattle.shm_table.specs.declared.answer.PutFault.{PutFault, TheVariants.{EraSpent as Spent, RootsFull, Full}}
use Rattle.shm_table.specs.{Answers.{made_fault, raised_fault}, Find.OnlyReads}
use Rattle.shm_table.specs.Staying.{Cleared, Ended, IsSpent, Keeps, Latched, PutCause, SameMap, is_set}
use Rattle.shm_table.specs.Staying.Laws.{KeepsRest, c, keeps_block}

-- ---- own words that are kept

not_root : (c : ℕ) (e : ℕ → Bool) (p : Spot) → is_set p ≡ false → is_root_of c e p ≡ false
not_root c e (Root d j) n = absurd (true≢false n)
not_root c e _ n = refl

not_hold : (c : ℕ) (p : Spot) → is_set p ≡ false → same_spot (Hold c) p ≡ false
not_hold c (Hold d) n = absurd (true≢false n)
not_hold c _ n = refl

not_home : (c : ℕ) (p : Spot) → is_set p ≡ false → same_spot (Home c) p ≡ false
not_home c (Home d) n = absurd (true≢false n)
not_home c _ n = refl

-- ---- what is known of value blocks

pub value_by : (c : ℕ) (m r : Memo) (v n : ℕ) → (Contains m.values v → Contains r.values v) → (Knows m (Body v 0) n → Knows r (Body v 0) n) → IsValue (sight c m) v n → IsValue (sight c r) v n
value_by c m r v n values known a = record { value = values a.value; word = known a.word }

-- where neither what is known nor the value blocks changed
pub value_same : (c : ℕ) (m r : Memo) (v n : ℕ) → r.known ≡ m.known → r.values ≡ m.values → IsValue (sight c m) v n → IsValue (sight c r) v n
value_same c m r v n known values = value_by c m r v n (subst (λ vs. Contains vs v) (sym values)) (subst (λ ks. Contains ks (record { spot = Body v 0; value = n })) (sym known))

-- a block that an own root names is named
pub root_named : (c : ℕ) (m : Memo) (b k : ℕ) → k < 16 → m.op ≡ Nothing → root_word c m k ≡ b → b ≢ 0 → is_named c m b ≡ true
root_named c m b k low idle root some = ap (list_any (eqb b)) (sym (append-nil (named_blocks c m))) ∙ root_reached c (record m { looks = [] }) b k low idle root some

-- ---- what is shown one by one

-- the latch is l now and the partition o
pub keeps_rest : (c : ℕ) (m r : Memo) (l : Option ℕ) (o : Part) → IsIdle c m → rest r ≡ rest (record m { latch = l; part = o }) → r.op ≡ Nothing → own_word r.own (Hold c) ≡ hold_word l → is_loose o ≡ is_loose m.part
    → ((p : Spot) → is_lasting c p ≡ true → is_set p ≡ false → own_word r.own p ≡ own_word m.own p) → own_word m.own (Era c c) ≤ own_word r.own (Era c c)
    → ((j : ℕ) → (root_word c r j ≡ root_word c m j) ⊎ (root_word c m j ≡ 0))
    → ((p : Spot) (x : ℕ) → is_slot p ≡ true → Knows m p x → Knows r p x)
    → ((k v n : ℕ) → k < 16 → v ≢ 0 → root_word c m k ≡ v → IsValue (sight c m) v n → IsValue (sight c r) v n)
    → Keeps c m r
keeps_rest c m r l o idle same op hold loose own era roots slots values =
    record {
      idle = record { live = ap (λ (x : Memo). x.status) same ∙ idle.live; op = op; making = ap (λ (x : Memo). x.making) same ∙ idle.making; hold = hold ∙ ap hold_word (sym (ap (λ (x : Memo). x.latch) same)) };
      sent = ap (λ (x : Memo). x.sent) same;
      received = ap (λ (x : Memo). x.received) same;
      unsent = ap (λ (x : Memo). x.unsent) same;
      untaken = ap (λ (x : Memo). x.untaken) same;
      loose = ap (λ (x : Memo). is_loose x.part) same ∙ loose;
      own = own;
      era = era;
      roots = roots;
      slots = slots;
      values = values;
    }

pub keeps_self : (c : ℕ) (m : Memo) → IsIdle c m → Keeps c m m
keeps_self c m idle = keeps_rest c m m m.latch m.part idle refl idle.op idle.hold refl (λ p l s. refl) (omega arith) (λ j. inl refl) (λ p x s k. k) (λ k v n l some root a. a)

-- a root that named a block names it still
pub root_kept : (c : ℕ) (m r : Memo) (k v : ℕ) → Keeps c m r → v ≢ 0 → root_word c m k ≡ v → root_word c r k ≡ v
root_kept c m r k v a some root = elim (a.roots k) [ inl e ↦ e ∙ root | inr z ↦ absurd (some (sym root ∙ z)) ]

-- one part after another
pub keeps_more : (c : ℕ) (m x r : Memo) → Keeps c m x → Keeps c x r → Keeps c m r
keeps_more c m x r a b =
    record {
      idle = b.idle;
      sent = b.sent ∙ a.sent;
      received = b.received ∙ a.received;
      unsent = b.unsent ∙ a.unsent;
      untaken = b.untaken ∙ a.untaken;
      loose = b.loose ∙ a.loose;
      own = λ p l s. b.own p l s ∙ a.own p l s;
      era = let u = a.era in let v = b.era in omega arith;
      roots = λ j. elim (a.roots j) [ inl e ↦ elim (b.roots j) [ inl u ↦ inl (u ∙ e) | inr z ↦ inr (sym e ∙ z) ] | inr z ↦ inr z ];
      slots = λ p y s k. b.slots p y s (a.slots p y s k);
      values = λ k v n l some root y. b.values k v n l some (root_kept c m x k v a some root) (a.values k v n l some root y);
    }

-- ---- what is as it was

pub rests_more : (c : ℕ) (m x r : Memo) → KeepsRest c m x → KeepsRest c x r → KeepsRest c m r
rests_more c m x r a b =
    record {
      latch = b.latch ∙ a.latch;
      home = b.home ∙ a.home;
      part = b.part ∙ a.part;
      cleared = record { roots = λ j. b.cleared.roots j ∙ a.cleared.roots j; dying = b.cleared.dying ∙ a.cleared.dying };
    }

pub same_map : (m r : Memo) → r.part ≡ m.part → SameMap m r
same_map m r e k = ap (λ (o : Part). map_in o k) e

pub cleared_more : (c : ℕ) (m x r : Memo) → Cleared c m x → Cleared c x r → Cleared c m r
cleared_more c m x r a b = record { roots = λ j. b.roots j ∙ a.roots j; dying = b.dying ∙ a.dying }

-- ---- reading

pub keeps_core : (c : ℕ) (m r : Memo) → IsIdle c m → core r ≡ core m → Keeps c m r
keeps_core c m r idle e =
    keeps_rest c m r m.latch m.part idle (ap rest e) (ap (λ (x : Memo). x.op) e ∙ idle.op) (ap (λ (x : Memo). own_word x.own (Hold c)) e ∙ idle.hold) refl
    (λ p l s. ap (λ (x : Memo). own_word x.own p) e)
    (let u = ap (λ (x : Memo). own_word x.own (Era c c)) e in omega arith)
    (λ j. inl (ap (λ (x : Memo). root_word c x j) e))
    (λ p x s k. subst (λ (ks : List Stored). Contains ks (record { spot = p; value = x })) (sym (ap (λ (y : Memo). y.known) e)) k)
    (λ k v n l some root a. value_same c m r v n (ap (λ (y : Memo). y.known) e) (ap (λ (y : Memo). y.values) e) a)

pub rests_core : (c : ℕ) (m r : Memo) → core r ≡ core m → KeepsRest c m r
rests_core c m r e =
    record {
      latch = ap (λ (x : Memo). x.latch) e;
      home = ap (λ (x : Memo). own_word x.own (Home c)) e;
      part = ap (λ (x : Memo). x.part) e;
      cleared = record { roots = λ j. ap (λ (x : Memo). root_word c x j) e; dying = ap (λ (x : Memo). x.dying) e };
    }

pub keeps_read : (c : ℕ) (m r : Memo) → IsIdle c m → OnlyReads m r → Keeps c m r
keeps_read c m r idle h =
    keeps_rest c m r m.latch m.part idle (ap rest h.memo) (ap (λ (x : Memo). x.op) h.memo ∙ idle.op) (ap (λ (x : Memo). own_word x.own (Hold c)) h.memo ∙ idle.hold) refl
    (λ p l s. ap (λ (x : Memo). own_word x.own p) h.memo)
    (let u = ap (λ (x : Memo). own_word x.own (Era c c)) h.memo in omega arith)
    (λ j. inl (ap (λ (x : Memo). root_word c x j) h.memo))
    (λ p x s k. h.known (record { spot = p; value = x }) k)
    (λ k v n l some root a. value_by c m r v n (subst (λ vs. Contains vs v) (sym (ap (λ (y : Memo). y.values) h.memo))) (λ z. h.known (record { spot = Body v 0; value = n }) z) a)

pub rests_read : (c : ℕ) (m r : Memo) → OnlyReads m r → KeepsRest c m r
rests_read c m r h =
    record {
      latch = ap (λ (x : Memo). x.latch) h.memo;
      home = ap (λ (x : Memo). own_word x.own (Home c)) h.memo;
      part = ap (λ (x : Memo). x.part) h.memo;
      cleared = record { roots = λ j. ap (λ (x : Memo). root_word c x j) h.memo; dying = ap (λ (x : Memo). x.dying) h.memo };
    }

-- ---- latches

pub keeps_latched : (c a : ℕ) (m r : Memo) → IsIdle c m → Latched c a m r → Keeps c m r
keeps_latched c a m r idle h =
    keeps_rest c m r (Some a) m.part idle (ap rest h.memo) (ap (λ (x : Memo). x.op) h.memo ∙ idle.op) h.hold refl
    (λ p l s. h.own p (not_hold c p s))
    (let u = h.own (Era c c) refl in omega arith)
    (λ j. inl (h.own (Root c j) refl))
    (λ p x s k. subst (λ (ks : List Stored). Contains ks (record { spot = p; value = x })) (sym (ap (λ (y : Memo). y.known) h.memo)) k)
    (λ k v n l some root y. value_same c m r v n (ap (λ (x : Memo). x.known) h.memo) (ap (λ (x : Memo). x.values) h.memo) y)

-- all but the latch is as it was
pub latched_else : (c a : ℕ) (m r : Memo) → Latched c a m r → (r.latch ≡ Some a) × (own_word r.own (Home c) ≡ own_word m.own (Home c)) × (r.part ≡ m.part) × Cleared c m r
latched_else c a m r h = (ap (λ (x : Memo). x.latch) h.memo, h.own (Home c) refl, ap (λ (x : Memo). x.part) h.memo, record { roots = λ j. h.own (Root c j) refl; dying = ap (λ (x : Memo). x.dying) h.memo })

slot_binds : (wide : Bool) (b : Bool) (c : ℕ) (m : Memo) (p : Spot) → is_slot p ≡ true → binds_unlatched wide b c m p ≡ true
slot_binds wide b c m (Tag d) e = absurd (false≢true e)
slot_binds wide b c m (Body d i) e = absurd (false≢true e)
slot_binds wide b c m _ e = refl

value_left : (me : Me) (m : Memo) (v n k : ℕ) → IsHeld me m → me.who < me.geometry.clients → m.op ≡ Nothing → k < 16 → root_word me.who m k ≡ v → v ≢ 0 → IsValue (sight me.who m) v n → IsValue (sight me.who (unlatched me.geometry.wide me.who m)) v n
value_left me m v n k (w, rs, h, same) who idle low root some a =
    subst (λ (x : Memo). IsValue (sight me.who (unlatched me.geometry.wide me.who x)) v n) same
    (value_unlatched me.geometry w rs me.who v n k h who (ap (λ (x : Memo). x.op) same ∙ idle) low (ap (λ (x : Memo). root_word me.who x k) same ∙ root) some (subst (λ (x : Memo). IsValue (sight me.who x) v n) (sym same) a))

pub keeps_unlatched : (me : Me) (m r : Memo) → IsIdle me.who m → IsHeld me m → me.who < me.geometry.clients → core r ≡ core (wants me.who 0 (unlatched me.geometry.wide me.who m)) → Keeps me.who m r
keeps_unlatched me m r idle held who e =
    let c = me.who in
    keeps_rest c m r None m.part idle (ap rest e) (ap (λ (x : Memo). x.op) e ∙ idle.op)
    (ap (λ (x : Memo). own_word x.own (Hold c)) e ∙ cond-true _ _ _ (same_spot_self (Hold c)))
    refl
    (λ p l s. ap (λ (x : Memo). own_word x.own p) e ∙ cond-false _ _ _ (not_hold c p s))
    (let u = ap (λ (x : Memo). own_word x.own (Era c c)) e in omega arith)
    (λ j. inl (ap (λ (x : Memo). root_word c x j) e))
    (λ p x s k. let free : Memo = record m { latch = None; looks = [] } in
    subst (λ (ks : List Stored). Contains ks (record { spot = p; value = x })) (sym (ap (λ (y : Memo). y.known) e))
    (Contains-filter (λ (y : Stored). binds_unlatched me.geometry.wide (is_latch_of c m.latch) c free y.spot) m.known (record { spot = p; value = x }) k (slot_binds me.geometry.wide (is_latch_of c m.latch) c free p s)))
    (λ k v n l some root a. value_same c (unlatched me.geometry.wide c m) r v n (ap (λ (x : Memo). x.known) e) (ap (λ (x : Memo). x.values) e) (value_left me m v n k held who idle.op l root some a))

pub unlatched_else : (wide : Bool) (c : ℕ) (m r : Memo) → core r ≡ core (wants c 0 (unlatched wide c m)) → (r.latch ≡ None) × (own_word r.own (Home c) ≡ own_word m.own (Home c)) × (r.part ≡ m.part) × Cleared c m r
unlatched_else wide c m r e = (ap (λ (x : Memo). x.latch) e, ap (λ (x : Memo). own_word x.own (Home c)) e, ap (λ (x : Memo). x.part) e, record { roots = λ j. ap (λ (x : Memo). root_word c x j) e; dying = ap (λ (x : Memo). x.dying) e })

-- ---- allocations

pub keeps_made : (me : Me) (q : Request) (m r : Memo) (a : Result Made AllocFault) → me.who < 64 → AnswerHolds me q m r a → Keeps me.who m r
keeps_made me q m r (Ok a) who h = keeps_block me q m r a h who
keeps_made me q m r (Err f) who h =
    let c = me.who in
    let own : r.own ≡ m.own = h.gives.0.own in
    record {
      idle = h.idle;
      sent = h.stays.sent;
      received = h.stays.received;
      unsent = h.stays.unsent;
      untaken = h.stays.untaken;
      loose = ap is_loose h.stays.part;
      own = λ p l s. ap (λ (ss : List Stored). own_word ss p) own;
      era = let u = ap (λ (ss : List Stored). own_word ss (Era c c)) own in omega arith;
      roots = λ j. inl (ap (λ (ss : List Stored). own_word ss (Root c j)) own);
      slots = λ p x s k. subst (λ (ks : List Stored). Contains ks (record { spot = p; value = x })) (sym h.gives.0.known) k;
      values = λ k v n l some root y. value_same c m r v n h.gives.0.known h.gives.0.values y;
    }

pub rests_unmade : (me : Me) (q : Request) (m r : Memo) (f : AllocFault) → AnswerHolds me q m r (Err f) → KeepsRest me.who m r
rests_unmade me q m r f h =
    let own : r.own ≡ m.own = h.gives.0.own in
    record {
      latch = h.stays.latch;
      home = ap (λ (ss : List Stored). own_word ss (Home me.who)) own;
      part = h.stays.part;
      cleared = record { roots = λ j. ap (λ (ss : List Stored). own_word ss (Root me.who j)) own; dying = h.stays.dying };
    }

-- ---- the own home

pub keeps_home : (c b : ℕ) (m r : Memo) → IsIdle c m → Filled c (Home c) b m r → Keeps c m r
keeps_home c b m r idle h =
    keeps_rest c m r m.latch (part_after c (sight c m) (Home c) b) idle (ap rest h.rest) (ap (λ (x : Memo). x.op) h.rest ∙ idle.op) (h.own (Hold c) refl ∙ idle.hold)
    (loose_stays m.known c (cover (On (Home c) b) (Home c) (own_word m.own (Home c))) (Home c) b m.part)
    (λ p l s. h.own p l ∙ cond-false _ _ _ (not_home c p s))
    (h.rows c)
    (λ j. inl (h.own (Root c j) refl))
    (λ p x s k. subst (λ (ks : List Stored). Contains ks (record { spot = p; value = x })) (sym (ap (λ (y : Memo). y.known) h.rest)) k)
    (λ k v n l some root a. value_same c m r v n (ap (λ (y : Memo). y.known) h.rest) (ap (λ (y : Memo). y.values) h.rest) a)

-- it names the block, and the latch, the roots and the zero-count blocks are as they were
pub home_else : (c b : ℕ) (m r : Memo) → Filled c (Home c) b m r → (r.latch ≡ m.latch) × (own_word r.own (Home c) ≡ b) × (r.part ≡ part_after c (sight c m) (Home c) b) × Cleared c m r
home_else c b m r h = (
  ap (λ (x : Memo). x.latch) h.rest,
  h.own (Home c) refl ∙ cond-true _ _ _ (same_spot_self (Home c)),
  ap (λ (x : Memo). x.part) h.rest,
  record { roots = λ j. h.own (Root c j) refl; dying = ap (λ (x : Memo). x.dying) h.rest },
)

-- ---- steps that were refused

pub keeps_untouched : (c : ℕ) (m r : Memo) → IsIdle c m → Untouched c m r → Keeps c m r
keeps_untouched c m r idle h =
    keeps_rest c m r m.latch m.part idle (ap rest h.rest) (ap (λ (x : Memo). x.op) h.rest ∙ idle.op) (h.own (Hold c) refl ∙ idle.hold) refl
    (λ p l s. h.own p l)
    (h.rows c)
    (λ j. inl (h.own (Root c j) refl))
    (λ p x s k. subst (λ (ks : List Stored). Contains ks (record { spot = p; value = x })) (sym (ap (λ (y : Memo). y.known) h.rest)) k)
    (λ k v n l some root a. value_same c m r v n (ap (λ (y : Memo). y.known) h.rest) (ap (λ (y : Memo). y.values) h.rest) a)

pub rests_untouched : (c : ℕ) (m r : Memo) → Untouched c m r → KeepsRest c m r
rests_untouched c m r h =
    record {
      latch = ap (λ (x : Memo). x.latch) h.rest;
      home = h.own (Home c) refl;
      part = ap (λ (x : Memo). x.part) h.rest;
      cleared = record { roots = λ j. h.own (Root c j) refl; dying = ap (λ (x : Memo). x.dying) h.rest };
    }

-- ---- a root that was empty, was set and is dropped

module _ (c k : ℕ) (m x r : Memo) (a : Keeps c m x) (empty : root_word c m k ≡ 0) (left : Left c (λ j. k == j) x r) where
  other_of : (j v : ℕ) → v ≢ 0 → root_word c m j ≡ v → eqb k j ≡ false
  other_of j v some root = ne_eqb k j (λ e. some (sym root ∙ subst (λ i. root_word c m i ≡ 0) e empty))

  pub keeps_dropped : Remains c x r → Keeps c m r
  keeps_dropped remains =
      record {
        idle = record {
          live = ap (λ (y : Memo). y.status) left.rest ∙ a.idle.live;
          op = left.op;
          making = ap (λ (y : Memo). y.making) left.rest ∙ a.idle.making;
          hold = left.own (Hold c) refl refl ∙ (a.idle.hold ∙ ap hold_word (sym (ap (λ (y : Memo). y.latch) left.rest)));
        };
        sent = ap (λ (y : Memo). y.sent) left.rest ∙ a.sent;
        received = ap (λ (y : Memo). y.received) left.rest ∙ a.received;
        unsent = ap (λ (y : Memo). y.unsent) left.rest ∙ a.unsent;
        untaken = ap (λ (y : Memo). y.untaken) left.rest ∙ a.untaken;
        loose = ap (λ (y : Memo). is_loose y.part) left.rest ∙ a.loose;
        own = λ p l s. left.own p l (not_root c (λ j. k == j) p s) ∙ a.own p l s;
        era = let u = a.era in let v = left.rows c in omega arith;
        roots = λ j. elim (cases_Bool (eqb k j)) [
          | inl e ↦ inr (subst (λ i. root_word c m i ≡ 0) (eqb-true k j e) empty)
          | inr n ↦ elim (a.roots j) [ inl u ↦ inl (left_root c (λ i. k == i) x r j left n ∙ u) | inr z ↦ inr z ]
        ];
        slots = λ p y s h. slot_known x r p y remains.slots s (a.slots p y s h);
        values = λ j v n l some root h.
            let here : root_word c r j ≡ v = left_root c (λ i. k == i) x r j left (other_of j v some root) ∙ root_kept c m x j v a some root in
            let named : is_named c r v ≡ true = root_named c r v j l left.op here some in
            value_by c x r v n (remains.values v named) (remains.words v (Body v 0) n named (eq-eqb v v refl)) (a.values j v n l some root h);
      }

-- the latch, the own home, the partition and the other roots are as they were before the drop
pub dropped_else : (c k : ℕ) (x r : Memo) → Left c (λ j. k == j) x r → (r.latch ≡ x.latch) × (own_word r.own (Home c) ≡ own_word x.own (Home c)) × (r.part ≡ x.part) × ((j : ℕ) → k ≢ j → root_word c r j ≡ root_word c x j)
dropped_else c k x r left = (ap (λ (y : Memo). y.latch) left.rest, left.own (Home c) refl refl, ap (λ (y : Memo). y.part) left.rest, λ j n. left_root c (λ i. k == i) x r j left (ne_eqb k j n))

module _ (d : DropState) (m x r : Memo) (tr : Trail) (es : List Event) where
  -- by the answer of the drop
  pub left_by : (a : Result Bool EraSpent) → DropLeaves d x r tr es a → Left d.me.who (λ j. d.root == j) x r × Remains d.me.who x r
  left_by (Ok z) h = (h.left, h.remains)
  left_by (Err e) (vs, h) = (h.left, h.remains)

  pub keeps_drop : (a : Result Bool EraSpent) → Keeps d.me.who m x → root_word d.me.who m d.root ≡ 0 → DropLeaves d x r tr es a → Keeps d.me.who m r
  keeps_drop a k empty h = let y = left_by a h in keeps_dropped d.me.who d.root m x r k empty y.0 y.1

  -- roots and zero-count blocks are as they were before the root was set
  pub cleared_drop : (z : Bool) → root_word d.me.who m d.root ≡ 0 → ((j : ℕ) → d.root ≢ j → root_word d.me.who x j ≡ root_word d.me.who m j) → x.dying ≡ m.dying → DropLeaves d x r tr es (Ok z) → Cleared d.me.who m r
  cleared_drop z empty others dying h =
      record {
        roots = λ j. elim (cases_Bool (eqb d.root j)) [
          | inl e ↦ subst (λ i. root_word d.me.who r i ≡ root_word d.me.who m i) (eqb-true d.root j e) (h.root ∙ sym empty)
          | inr n ↦ left_root d.me.who (λ i. d.root == i) x r j h.left n ∙ others j (λ e. false≢true (sym n ∙ eq-eqb d.root j e))
        ];
        dying = h.dying ∙ dying;
      }

  -- or the own era was spent
  pub ended_drop : (a : Result Bool EraSpent) → root_word d.me.who m d.root ≡ 0 → ((j : ℕ) → d.root ≢ j → root_word d.me.who x j ≡ root_word d.me.who m j) → x.dying ≡ m.dying → DropLeaves d x r tr es a → Ended d.me.who m r
  ended_drop (Ok z) empty others dying h = inl (cleared_drop z empty others dying h)
  ended_drop (Err e) empty others dying (vs, h) = inr (e.era, (let u = h.stopped.spent in omega arith, h.most))

  pub spent_drop : (e : EraSpent) → DropLeaves d x r tr es (Err e) → IsSpent d.me.who e.era r
  spent_drop e (vs, h) = (let u = h.stopped.spent in omega arith, h.most)

-- ---- why it was refused

-- the own era is spent still
pub spent_later : (c e : ℕ) (x r : Memo) → own_word x.own (Era c c) ≤ own_word r.own (Era c c) → IsSpent c e x → IsSpent c e r
spent_later c e x r l (a, b) = (a, omega arith)

pub cause_later : (me : Me) (m x r : Memo) (f : PutFault) → own_word x.own (Era me.who me.who) ≤ own_word r.own (Era me.who me.who) → PutCause me m x f → PutCause me m r f
cause_later me m x r (Spent e) l h = spent_later me.who e x r l h
cause_later me m x r _ l h = h

-- where the roots before it were the same
pub cause_before : (me : Me) (m x r : Memo) (f : PutFault) → ((j : ℕ) → root_word me.who x j ≡ root_word me.who m j) → PutCause me x r f → PutCause me m r f
cause_before me m x r RootsFull same h = λ j l z. h j l (same j ∙ z)
cause_before me m x r (Full s b) same h = (h.0, h.1, sym (same h.0) ∙ h.2)
cause_before me m x r _ same h = h

pub made_cause : (me : Me) (q : Request) (m r : Memo) (f : AllocFault) → AnswerHolds me q m r (Err f) → PutCause me m r (made_fault f)
made_cause me q m r (alloc.EraSpent e) h = let y = h.gives.1.0 in let z = h.gives.1.1 in let u = ap (λ (ss : List Stored). own_word ss (Era me.who me.who)) h.gives.0.own in (omega arith, omega arith)
made_cause me q m r _ h = h.gives.1.1

pub raised_cause : (me : Me) (x : Aim) (m0 m r : Memo) (f : UpFault) → Untouched me.who m r → StepCause me x m f → PutCause me m0 r (raised_fault f)
raised_cause me (Up b) m0 m r (up.EraSpent e) h (y, z) = let u = h.rows me.who in (omega arith, omega arith)
raised_cause me (Down b) m0 m r (up.EraSpent e) h (y, z) = let u = h.rows me.who in (omega arith, omega arith)
raised_cause me (Change a b) m0 m r (up.EraSpent e) h (y, z) = let u = h.rows me.who in (omega arith, omega arith)
raised_cause me x m0 m r (up.CountFull b n) h c = c.0
