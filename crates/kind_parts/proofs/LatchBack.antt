-- the store that gives a latch back, as machines use it
use Rattle.std.proofs.Common.{◌≡◌, ℕ, ◌<◌, refl, sym, ap, ◌∙◌, Bool, true, false, subst, inl, inr, None, [], List, arith, Option, cond, leb, eqb, ◌&&◌, ◌||◌, ◌∷◌, ◌≤◌, ◌⊎◌}
use Rattle.std.proofs.lemmas.{List.Elements.{All-contains, Contains-append_right}, Map.Views.Contains-from_any}
use Rattle.std.proofs.lemmas.Bool.{and_parts, eqb-true, leb-true, or_cases}
use Rattle.std.specs.{List.{Contains, filter}, Prelude.Some}
use Rattle.kind_laws.proofs.{Lists.All-kept, Latches.back_kept, Quiet.back_quiet}
use Rattle.kind_laws.specs.Latches.{BackNeeds, back_view}
use Rattle.shm_graph.specs.declared.{spot.Spot.{TheVariants.{Body, QueueHead, Latch, Slot, Tag, Tail}, Spot}, ask.Me.Me}
use Rattle.shm_graph.specs.declared.{ask.Ask.TheVariants.Store, memo.{Memo.Memo, Stored.Stored}}
use Rattle.shm_graph.specs.{Laws.{Frame, KeptAt, Stands}, Held.{HeldAt, KnownAt, reach_of}, Asks.Trail}
use Rattle.shm_graph.specs.Views.{View, at1, targets, view}
use Rattle.shm_graph.specs.Reach.{binds_unlatched, is_at, is_dying, is_free_of_latch, is_latch_of, is_reached, known_at}
use Rattle.shm_graph.specs.{Blocks.classes, Tables.contents_of, Spots.spot_at}
use Rattle.shm_graph.proofs.States.{Holders.InReach, Reached.{Names, names_here, reached_sound}}
use Rattle.shm_graph.proofs.Memos.{KnownChange.{KnownHolds, ValueHolds}, MemoParts.put_same}
use Rattle.shm_graph.proofs.StepKinds.{KindKeeping.{in_frame, kept_from}, Keeping.told_fixed}
use Rattle.shm_graph.proofs.Spots.Spotting.{same_spot_is}
use Rattle.shm_words.specs.{declared.geometry.Geometry.Geometry, Tags.{tag_author, tag_refs}}
use Rattle.kind_parts.specs.Unlatching.{MayUnlatch}
use Rattle.kind_parts.proofs.{Sifting.sift_values, Naming.names_same, BlockTold.dying_listed}

-- what is known of a word is among what is known
pub known_at_has : (q : Spot) (ks : List Stored) (x : ℕ) → known_at q ks ≡ Some x → Contains ks (record { spot = q; value = x })
known_at_has q [] x e = cc
known_at_has q (s ∷ ss) x e = go (is_at q s) refl e
    (λ z. Contains-append_right (s ∷ []) ss (record { spot = q; value = x }) (known_at_has q ss x z))
  where
    go : (b : Bool) → is_at q s ≡ b → cond b (Some s.value) (known_at q ss) ≡ Some x → (known_at q ss ≡ Some x → Contains (s ∷ ss) (record { spot = q; value = x })) → Contains (s ∷ ss) (record { spot = q; value = x })
    go true i z later = (0, omega arith, here (same_spot_is q s.spot i) (Some-value z))
      where
        Some-value : Some s.value ≡ Some x → s.value ≡ x
        Some-value y = cc

        here : q ≡ s.spot → s.value ≡ x → s ≡ record { spot = q; value = x }
        here y u = λ j. record { spot = sym y j; value = u j }
    go false i z later = later z

module _ (g : Geometry) (w : Spot → ℕ) (r : ℕ → Memo) (h : HeldAt g w (view r)) (c : ℕ) (l : c < g.clients) where
  abbrev v : View
  v = view r

  abbrev m : Memo
  m = r c

  -- the memo without the latch and the looks
  abbrev without : Memo
  without = record m { latch = None; looks = [] }

  without_names : Names (targets g w v) (λ i j. w (Tail i j)) (λ i j. w (QueueHead i j)) c without
  without_names = names_same (targets g w v) (λ i j. w (Tail i j)) (λ i j. w (QueueHead i j)) c m without (names_here g w r h c l) refl refl (names_here g w r h c l).slots

  -- a block in reach without looks
  abbrev InReachWithout : ℕ → Type 0
  InReachWithout = reach_of (targets g w v) (λ i j. w (Tail i j)) (λ i j. w (QueueHead i j)) (λ d. []) c

  reached : (b : ℕ) → is_reached c without b ≡ true → InReachWithout b
  reached b e = reached_sound (targets g w v) (λ i j. w (Tail i j)) (λ i j. w (QueueHead i j)) c without without_names b e

  -- a word that is free of the latch is a plain word, or one of a block of c
  free_word : (b i : ℕ) (o : Option ℕ) → known_at (Tag b) m.known ≡ o → is_free_of_latch g.wide c without b i o ≡ true → (tag_refs g.wide (w (Tag b)) ≤ i) ⊎ (tag_author g.wide (w (Tag b)) ≡ c)
  free_word b i None e f =
      let y : ValueHolds g w v c b = All-contains (ValueHolds g w v c) m.values b (h.values c l) (Contains-from_any eqb-true b m.values f) in
      let z = y.0.names in inl (omega arith)
  free_word b i (Some t) e f =
      let y : KnownHolds g w v c (record { spot = Tag b; value = t }) = All-contains (KnownHolds g w v c) m.known (record { spot = Tag b; value = t }) (h.known c l) (known_at_has (Tag b) m.known t e) in
      elim (or_cases (leb (tag_refs g.wide t) i) (eqb (tag_author g.wide t) c) f) [
        | inl u ↦ inl (let z = leb-true (tag_refs g.wide t) i u in let n = ap (tag_refs g.wide) y.0 in omega arith)
        | inr u ↦ inr (ap (tag_author g.wide) y.0 ∙ eqb-true (tag_author g.wide t) c u)
      ]

  abbrev KnownWithout : Spot → ℕ → Type 0
  KnownWithout q x = KnownAt g.wide c (λ i. w (Tag i)) (λ i j. w (Body i j)) (λ i j k. w (Slot i j k)) (λ i j. w (Tail i j)) (λ i j. w (QueueHead i j)) (v.untaken c) None InReachWithout (v.dying c) q x

  -- whether the latch is the identity's own
  abbrev own : Bool
  own = is_latch_of c m.latch

  -- under the own latch no other author's reference word is known
  own_word_known : (b i : ℕ) (o : Option ℕ) → is_latch_of c o ≡ true → (tag_refs g.wide (w (Tag b)) ≤ i) ⊎ ((tag_author g.wide (w (Tag b)) ≡ c) ⊎ (o ≡ Some (tag_author g.wide (w (Tag b))))) → (tag_refs g.wide (w (Tag b)) ≤ i) ⊎ (tag_author g.wide (w (Tag b)) ≡ c)
  own_word_known b i o e (inl k) = inl k
  own_word_known b i o e (inr (inl k)) = inr k
  own_word_known b i None e (inr (inr k)) = absurd (cc)
  own_word_known b i (Some a) e (inr (inr k)) = inr (let z : a ≡ tag_author g.wide (w (Tag b)) = cc in sym z ∙ eqb-true a c e)

  -- a word of a block in reach is free of the latch
  settled_word : (b i x : ℕ) → KnownHolds g w v c (record { spot = Body b i; value = x }) → (own || is_free_of_latch g.wide c without b i (known_at (Tag b) m.known)) ≡ true → (Contains m.dying b) ⊎ ((tag_refs g.wide (w (Tag b)) ≤ i) ⊎ (tag_author g.wide (w (Tag b)) ≡ c))
  settled_word b i x k e = elim (or_cases own (is_free_of_latch g.wide c without b i (known_at (Tag b) m.known)) e) [
    | inl u ↦ elim k.1 [ inl d ↦ inl d | inr y ↦ inr (own_word_known b i m.latch u y.1) ]
    | inr u ↦ inr (free_word b i (known_at (Tag b) m.known) refl u)
  ]

  known_without : (q : Spot) (x : ℕ) → binds_unlatched g.wide own c without q ≡ true → KnownHolds g w v c (record { spot = q; value = x }) → KnownWithout q x
  known_without (Tag b) x e k = (k.0, elim (or_cases (is_reached c without b) (is_dying without b) e) [ inl u ↦ inr (reached b u) | inr u ↦ inl (dying_listed without b u) ])
  known_without (Body b i) x e k = (
    k.0,
    elim (or_cases (is_dying without b) (is_reached c without b && (own || is_free_of_latch g.wide c without b i (known_at (Tag b) m.known))) e) [
      | inl u ↦ inl (dying_listed without b u)
      | inr u ↦ (let y = and_parts (is_reached c without b) (own || is_free_of_latch g.wide c without b i (known_at (Tag b) m.known)) u in
          elim (settled_word b i x k y.1) [ inl d ↦ inl d | inr z ↦ inr (reached b y.0, elim z [ inl z ↦ inl z | inr z ↦ inr (inl z) ]) ])
    ],
  )
  known_without (Slot s i k) x e y = y
  known_without _ x e k = absurd k

  abbrev pub kept : List Stored
  kept = filter (λ s. binds_unlatched g.wide own c without s.spot) m.known

  abbrev pub values : List ℕ
  values = filter (is_reached c without) m.values

  pub back_step : (a : ℕ) → MayUnlatch m a → BackNeeds g w v c a kept values
  back_step a may =
      record {
        inside = l;
        acts = may.here.joined;
        here = may.here.stays;
        op = may.op;
        latch = may.latch;
        knows = All-kept (KnownHolds g w v c) (λ (s : Stored). KnownWithout s.spot s.value) (λ s. binds_unlatched g.wide own c without s.spot) (λ s e y. known_without s.spot s.value e y) m.known (h.known c l);
        valued = sift_values (contents_of g.wide w (targets g w v)) (contents_of g.wide w (targets g w v)) c without (InReach w g v c) InReachWithout (λ b y. y) reached m.values (h.values c l);
      }

-- the latch is given back
pub latch_back : (me : Me) (w : Spot → ℕ) (r : ℕ → Memo) (f : Frame) (tr : Trail) (at a : ℕ) → Stands me w r f tr → f.fresh ≡ false → spot_at me.geometry (classes w) at ≡ Latch a → MayUnlatch (r me.who) a
    → KeptAt me w r (Store at 0) f (λ n m. Unit {0}) (spot_at me.geometry (classes w) at)
latch_back me w r f tr at a s going e may =
    let g = me.geometry in
    let c = me.who in
    let v : View = view r in
    let ks = kept g w r s.held c s.who in
    let vs = values g w r s.held c s.who in
    let step : BackNeeds g w v c a ks vs = back_step g w r s.held c s.who a may in
    subst (KeptAt me w r (Store at 0) f (λ n m. Unit {0})) (sym e)
    (in_frame (λ h. KeptAt me w r (Store at 0) h (λ n m. Unit {0}) (Latch a)) f going
    (kept_from me w r (Store at 0) (record f { fresh = false }) (λ n m. Unit {0}) (Latch a) (back_view v c ks vs)
    (told_fixed g (classes w) c (r c) (Store at 0) (Latch a) e refl)
    (sym (ap (λ (u : View). record u { latch = at1 v.latch c None; looks = at1 v.looks c []; known = at1 v.known c ks; values = at1 v.values c vs; test = at1 v.test c None }) (put_same v c)))
    (back_kept g w v c a ks vs s.held step)
    (back_quiet g w v c a ks vs s.held step)
    ((s.held.latch c s.who).some a may.latch).0 tt tt tt))
