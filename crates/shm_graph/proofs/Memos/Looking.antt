-- a block joins the looks
use Rattle.std.proofs.Common.{Bool, ◌≡◌, ◌≢◌, ℕ, ◌<◌, refl, sym, ◌∙◌, subst, arith, List, [], ◌∷◌, ◌++◌, ◌⊎◌, inl, inr, Option}
use Rattle.std.proofs.lemmas.List.Elements.{All-weaker, Contains-append_left, Contains-append_right, Contains-append_cases}
use Rattle.std.specs.Prelude.{None, Some}
use Rattle.shm_words.specs.{declared.{geometry.Geometry.Geometry, header.Header.Header}, Headers.header_of}
use Rattle.shm_words.specs.Tags.{tag_author}
use Rattle.shm_graph.specs.declared.spot.Spot.{Spot, TheVariants.{Home, Root, Tail, QueueHead, Slot, Tag, Body, Head}}
use Rattle.shm_graph.specs.{declared.memo.{Look.Look, Stored.Stored}, Tables.contents_of, Ops.slot_of}
use Rattle.shm_graph.specs.Views.{View, at1, targets}
use Rattle.shm_graph.specs.Held.{HeldAt, LooksSound, LookAt, InLooks, SlotOf, KnownAt, ValueAt, named_by, reach_of}
use Rattle.shm_graph.proofs.{Memos.{Frames.at1_all, RecallHeld.memo_held}, Runs.Lists.at1_other}
use Rattle.shm_graph.proofs.States.HomeTarget.{home_target}

-- ---- a longer reach

pub look_more : (home : ℕ → ℕ) (body : ℕ → ℕ → ℕ) (author : ℕ → ℕ) (latch : Option ℕ) (near far : ℕ → Type 0) → ((b : ℕ) → near b → far b) → (p : Spot) (x : ℕ) → LookAt home body author latch near p x → LookAt home body author latch far p x
look_more home body author latch near far f (Home a) x h = h
look_more home body author latch near far f (Body b i) x h = (h.0, h.1, h.2, f b h.3)
look_more home body author latch near far f _ x h = absurd h

pub slot_more : (wide : Bool) (c : ℕ) (head : ℕ → Header) (tag : ℕ → ℕ) (latch : Option ℕ) (tail queue_head : ℕ → ℕ → ℕ) (near far : ℕ → Type 0) → ((b : ℕ) → near b → far b) → (p : Spot) → SlotOf wide c head tag latch tail queue_head near p → SlotOf wide c head tag latch tail queue_head far p
slot_more wide c head tag latch tail queue_head near far f (Root d k) h = h
slot_more wide c head tag latch tail queue_head near far f (Home d) h = h
slot_more wide c head tag latch tail queue_head near far f (Slot s r k) h = h
slot_more wide c head tag latch tail queue_head near far f (Body b i) h = (h.0, h.1, elim h.2 [ inl x ↦ inl x | inr x ↦ inr (x.0, x.1, f b x.2) ])
slot_more wide c head tag latch tail queue_head near far f _ h = absurd h

pub known_more : (wide : Bool) (c : ℕ) (tag : ℕ → ℕ) (body : ℕ → ℕ → ℕ) (slot : ℕ → ℕ → ℕ → ℕ) (tail queue_head : ℕ → ℕ → ℕ) (untaken : ℕ → ℕ) (latch : Option ℕ) (near far : ℕ → Type 0) (dying : List ℕ) → ((b : ℕ) → near b → far b)
    → (p : Spot) (x : ℕ) → KnownAt wide c tag body slot tail queue_head untaken latch near dying p x → KnownAt wide c tag body slot tail queue_head untaken latch far dying p x
known_more wide c tag body slot tail queue_head untaken latch near far dying f (Tag b) x h = (h.0, elim h.1 [ inl y ↦ inl y | inr y ↦ inr (f b y) ])
known_more wide c tag body slot tail queue_head untaken latch near far dying f (Body b i) x h = (h.0, elim h.1 [ inl y ↦ inl y | inr y ↦ inr (f b y.0, y.1) ])
known_more wide c tag body slot tail queue_head untaken latch near far dying f (Slot s r k) x h = h
known_more wide c tag body slot tail queue_head untaken latch near far dying f _ x h = absurd h

-- ---- one more look

in_push : (ks : List Look) (k : Look) (b : ℕ) → InLooks ks b → InLooks (ks ++ k ∷ []) b
in_push ks k b h = (h.0, Contains-append_left ks (k ∷ []) h.0 h.1, h.2)

in_first : (earlier ks : List Look) (k : Look) (b : ℕ) → InLooks earlier b ⊎ InLooks (k ∷ ks) b → InLooks (k ∷ earlier) b ⊎ InLooks ks b
in_first earlier ks k b (inl h) = inl (h.0, Contains-append_right (k ∷ []) earlier h.0 h.1, h.2)
in_first earlier ks k b (inr h) =
    elim (Contains-append_cases (k ∷ []) ks h.0 h.1) [
      | inl e ↦ inl (h.0, Contains-append_left (k ∷ []) earlier h.0 e, h.2)
      | inr e ↦ inr (h.0, e, h.2)
    ]

-- no block is one of no looks
pub not_empty : (b : ℕ) → InLooks [] b → ⊥
not_empty b h = let l = h.1.1 in omega arith

module _ (home : ℕ → ℕ) (body : ℕ → ℕ → ℕ) (author : ℕ → ℕ) (latch : Option ℕ) (named : ℕ → Type 0) where
  pub looks_push : (ks : List Look) (earlier : List Look) (k : Look) → LooksSound home body author latch named earlier ks
      → LookAt home body author latch (λ b. named b ⊎ (InLooks earlier b ⊎ InLooks ks b)) k.from k.block → LooksSound home body author latch named earlier (ks ++ k ∷ [])
  looks_push [] earlier k h new = (look_more home body author latch (λ b. named b ⊎ (InLooks earlier b ⊎ InLooks [] b)) (λ b. named b ⊎ InLooks earlier b) (λ b x. elim x [ inl y ↦ inl y | inr y ↦ inr (elim y [ inl z ↦ z | inr z ↦ absurd (not_empty b z) ]) ]) k.from k.block new, tt)
  looks_push (j ∷ ks) earlier k h new = (
    h.0,
    looks_push ks (j ∷ earlier) k h.1 (look_more home body author latch (λ b. named b ⊎ (InLooks earlier b ⊎ InLooks (j ∷ ks) b)) (λ b. named b ⊎ (InLooks (j ∷ earlier) b ⊎ InLooks ks b))
        (λ b x. elim x [ inl y ↦ inl y | inr y ↦ inr (in_first earlier ks j b y) ]) k.from k.block new),
  )

-- a block that a word names, under the latch of the word's author
pub look_held : (g : Geometry) (w : Spot → ℕ) (v : View) (c a : ℕ) (k : Look) → HeldAt g w v → c < g.clients → v.latch c ≡ Some a
    → LookAt (λ b. targets g w v (Home b)) (λ b i. targets g w v (Body b i)) (λ b. tag_author g.wide (w (Tag b))) (v.latch c) (reach_of (targets g w v) (λ s r. w (Tail s r)) (λ s r. w (QueueHead s r)) v.looks c) k.from k.block
    → HeldAt g w (record v { looks = at1 v.looks c (v.looks c ++ k ∷ []) })
look_held g w v c a k h l latched new =
    memo_held g w v _ h refl (record {
      making = h.making;
      slots = λ d m o. slot_more g.wide d (λ b. header_of (w (Head b))) (λ b. w (Tag b)) (v.latch d) (λ s r. w (Tail s r)) (λ s r. w (QueueHead s r)) (near d) (far d) (more d) (slot_of (v.op d)) (h.slots d m o);
      looks = λ d. at1_all (λ (i : ℕ) (x : List Look). i < g.clients → LooksSound (λ b. targets g w v (Home b)) (λ b i. targets g w v (Body b i)) (λ b. tag_author g.wide (w (Tag b))) (v.latch i) (named_by (targets g w v) (λ s r. w (Tail s r)) (λ s r. w (QueueHead s r)) i) [] x)
          v.looks c (v.looks c ++ k ∷ []) d
          (λ m. looks_push (λ b. targets g w v (Home b)) (λ b i. targets g w v (Body b i)) (λ b. tag_author g.wide (w (Tag b))) (v.latch c) (named_by (targets g w v) (λ s r. w (Tail s r)) (λ s r. w (QueueHead s r)) c) (v.looks c) [] k (h.looks c m)
          (look_more (λ b. targets g w v (Home b)) (λ b i. targets g w v (Body b i)) (λ b. tag_author g.wide (w (Tag b))) (v.latch c) (near c) (λ b. named_by (targets g w v) (λ s r. w (Tail s r)) (λ s r. w (QueueHead s r)) c b ⊎ (InLooks [] b ⊎ InLooks (v.looks c) b))
          (λ b x. elim x [ inl y ↦ inl y | inr y ↦ inr (inr y) ]) k.from k.block new))
          (λ n. h.looks d);
      known = λ d m. All-weaker (λ (s : Stored). KnownAt g.wide d (λ b. w (Tag b)) (λ b i. w (Body b i)) (λ s r k. w (Slot s r k)) (λ s r. w (Tail s r)) (λ s r. w (QueueHead s r)) (v.untaken d) (v.latch d) (near d) (v.dying d) s.spot s.value)
          (λ (s : Stored). KnownAt g.wide d (λ b. w (Tag b)) (λ b i. w (Body b i)) (λ s r k. w (Slot s r k)) (λ s r. w (Tail s r)) (λ s r. w (QueueHead s r)) (v.untaken d) (v.latch d) (far d) (v.dying d) s.spot s.value)
          (λ s. known_more g.wide d (λ b. w (Tag b)) (λ b i. w (Body b i)) (λ s r k. w (Slot s r k)) (λ s r. w (Tail s r)) (λ s r. w (QueueHead s r)) (v.untaken d) (v.latch d) (near d) (far d) (v.dying d) (more d) s.spot s.value) (v.known d) (h.known d m);
      facts = h.facts;
      zeros = h.zeros;
      test = h.test;
      fresh = λ d m e. let f = h.fresh d m e in record {
        words = f.words;
        idle = f.idle;
        latched = f.latched;
        looked = at1_other v.looks c (v.looks c ++ k ∷ []) d (λ q. let u : v.latch c ≡ None = subst (λ i. v.latch i ≡ None) (sym q) f.latched in let z : Some a ≡ None = sym latched ∙ u in cc) ∙ f.looked;
        made = f.made;
        segments = f.segments;
        dyings = f.dyings;
        sends = f.sends;
        takes = f.takes;
      };
      values = λ d m. All-weaker (ValueAt (contents_of g.wide w (targets g w v)) (near d)) (ValueAt (contents_of g.wide w (targets g w v)) (far d)) (λ b x. (x.0, more d b x.1)) (v.values d) (h.values d m);
      made = h.made;
    })
  where
    near : ℕ → ℕ → Type 0
    near = reach_of (targets g w v) (λ s r. w (Tail s r)) (λ s r. w (QueueHead s r)) v.looks

    far : ℕ → ℕ → Type 0
    far = reach_of (targets g w v) (λ s r. w (Tail s r)) (λ s r. w (QueueHead s r)) (at1 v.looks c (v.looks c ++ k ∷ []))

    more : (d b : ℕ) → near d b → far d b
    more d b (inl x) = inl x
    more d b (inr x) = inr (at1_all (λ (i : ℕ) (y : List Look). InLooks (v.looks i) b → InLooks y b) v.looks c (v.looks c ++ k ∷ []) d (in_push (v.looks c) k b) (λ n y. y) x)

-- a block in a home, under the latch of its author
pub home_held : (g : Geometry) (w : Spot → ℕ) (v : View) (c a : ℕ) → HeldAt g w v → c < g.clients → v.latch c ≡ Some a → w (Home a) ≢ 0
    → HeldAt g w (record v { looks = at1 v.looks c (v.looks c ++ record { block = w (Home a); from = Home a } ∷ []) })
home_held g w v c a h l latched some = look_held g w v c a (record { block = w (Home a); from = Home a }) h l latched (some, latched, home_target g w v a h some)
