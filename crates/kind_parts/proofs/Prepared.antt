-- the stores of the words of a free block that is prepared, as machines use them
use Rattle.std.proofs.Common.{◌≡◌, ◌≢◌, ℕ, ◌+◌, ◌-◌, ◌/◌, ◌%◌, ◌<◌, refl, sym, ap, ◌∙◌, subst, arith, false, ◌&&◌, List, Option, Some, None, inl, inr}
use Rattle.std.proofs.lemmas.{Bool.cond-false, List.Elements.All-contains}
use Rattle.shm_words.specs.declared.geometry.Geometry.{Geometry}
use Rattle.shm_words.specs.Layout as layout
use Rattle.shm_words.proofs.Words.{live_not_zero}
use Rattle.shm_graph.specs.declared.{ask.{Ask.TheVariants.Store, Me.Me}, memo.{Making.Making, Fact.Fact, Memo.Memo}}
use Rattle.shm_graph.specs.declared.{memo.Step.Step, spot.Spot.Spot}
use Rattle.shm_graph.specs.declared.spot.Spot.TheVariants.{Era, Tail, QueueHead, Segment, Head, Tag, Body}
use Rattle.shm_graph.specs.{Spots.{spot_at, same_spot, upd, class_at, segment_of}, Blocks.{classes, IsBlock}}
use Rattle.shm_graph.specs.{Views.{View, view, at1, ons}, Held.{HeldAt, MakingTie, MakingSound, ZeroAt}}
use Rattle.shm_graph.specs.{Ops.{is_op, slot_of}, Asks.Trail, Reach.is_dying}
use Rattle.shm_graph.specs.MemoAfterStore.{stored_on, making_with, class_told}
use Rattle.shm_graph.specs.{Telling.{spot_told, prepared, word_of_block}, Changes.called}
use Rattle.shm_graph.specs.{Controllers.{IsController, IsEraRaised}, Events.{Event, Nothing, graph_of, Happens}}
use Rattle.shm_graph.specs.Laws.{Frame, framed, Stands, KeptAt, event_on}
use Rattle.shm_graph.specs.declared.memo.Op.TheVariants as op
use Rattle.shm_graph.proofs.Spots.Spotting.{tag_block, body_block, tag_spot, block_within, in_pool, spot_there}
use Rattle.shm_graph.proofs.Memos.{BodyTold.told_in_body, MemoParts.{parts, put_parts, put_same}}
use Rattle.shm_graph.proofs.StepKinds.KindKeeping.{in_frame, kept_from}
use Rattle.kind_laws.specs.Preparing.{IsMaking, PrepareNeeds, prepare_view, words_with}
use Rattle.kind_laws.proofs.PrepareStore.{prepare_kept, prepare_quiet}
use Rattle.kind_parts.specs.Preparing.{MayTag, MayBody}
use Rattle.kind_parts.proofs.BlockTold.{dying_false, dying_block, no_dying_at, stored_prepared, tag_prepared, body_prepared, class_is_read}

-- ---- what the memo tells of the block

-- what the invariant says of the block that is prepared
abbrev pub MakingHolds : (Spot → ℕ) → Geometry → ℕ → Making → Type 0
MakingHolds w g c k = MakingSound g (classes w) (λ s. w (Segment s)) (λ b. w (Head b)) (λ b. w (Tag b)) (λ b i. w (Body b i)) c k

-- it says so of the block that the memo prepares
pub making_holds : (g : Geometry) (w : Spot → ℕ) (r : ℕ → Memo) (c : ℕ) (k : Making) → HeldAt g w (view r) → c < g.clients → (r c).making ≡ Some k → MakingHolds w g c k
making_holds g w r c k h l e =
    let q : MakingTie g (classes w) (λ s. w (Segment s)) (λ b. w (Head b)) (λ b. w (Tag b)) (λ b i. w (Body b i)) c (Some k) =
    subst (MakingTie g (classes w) (λ s. w (Segment s)) (λ b. w (Head b)) (λ b. w (Tag b)) (λ b i. w (Body b i)) c) e (h.making c l) in
    q

-- the class of the block's page, as it was read
class_holds : (g : Geometry) (w : Spot → ℕ) (r : ℕ → Memo) (c b : ℕ) → HeldAt g w (view r) → c < g.clients → class_told g (r c).facts b ≢ 0 → class_at g (classes w) b ≡ class_told g (r c).facts b
class_holds g w r c b h l n =
    class_is_read g.clients (λ i j. w (Era i j)) (ons (view r)) (λ s q. w (Tail s q)) (λ s q. w (QueueHead s q)) (classes w) (r c).facts (segment_of g b) ((b - layout.bodies g) / 128 % 16) (h.facts c l) n

-- a word of the block joins those that were stored
making_more : (g : Geometry) (fs : List Fact) (mk : Option Making) (k : Making) (b : ℕ) (p : Spot) (x : ℕ) → mk ≡ Some k → k.block ≡ b → Some (record { block = b; class = k.class; words = words_with p x mk }) ≡ making_with g fs mk b p x
making_more g fs mk k b p x e o =
    subst (λ z. Some (record { block = b; class = k.class; words = words_with p x z }) ≡ making_with g fs z b p x) (sym e)
    (ap (λ z. Some (record { block = z; class = k.class; words = words_with p x (Some k) })) (sym o))

-- a first word of a block is stored
making_new : (g : Geometry) (fs : List Fact) (mk : Option Making) (b : ℕ) (p : Spot) (x : ℕ) → mk ≡ None → Some (record { block = b; class = class_told g fs b; words = words_with p x mk }) ≡ making_with g fs mk b p x
making_new g fs mk b p x e = subst (λ z. Some (record { block = b; class = class_told g fs b; words = words_with p x z }) ≡ making_with g fs z b p x) (sym e) refl

-- ---- in the shape of a kind

-- the word at p, which the memo tells, is stored, and the block is prepared
stored_at : (me : Me) (w : Spot → ℕ) (r : ℕ → Memo) (f : Frame) (tr : Trail) (at b k : ℕ) (p : Spot) (x : ℕ) → Stands me w r f tr → f.fresh ≡ false → spot_at me.geometry (classes w) at ≡ p
    → let t : Step = framed me (Store at x) (record f { fresh = false }) 0 in
    let n : Memo = called (r me.who) t in
    PrepareNeeds me.geometry w (view r) me.who b k p x
    → spot_told me.geometry me.who (r me.who) (Store at x) ≡ p
    → Some (record { block = b; class = k; words = words_with p x (r me.who).making }) ≡ making_with me.geometry (r me.who).facts (r me.who).making b p x
    → record n { making = making_with me.geometry (r me.who).facts (r me.who).making b p x } ≡ stored_on me.geometry me.who n p x
    → event_on (r me.who) t p ≡ Nothing
    → IsController me.geometry w (view r) me.who p
    → IsEraRaised w (Store at x) p
    → KeptAt me w r (Store at x) f (λ n m. Unit {0}) (spot_at me.geometry (classes w) at)
stored_at me w r f tr at b k p x st going e step told made memo event mine era =
    let g = me.geometry in
    let c = me.who in
    let v : View = view r in
    let t : Step = framed me (Store at x) (record f { fresh = false }) 0 in
    let n : Memo = called (r c) t in
    let y : Option Making = Some (record { block = b; class = k; words = words_with p x (r c).making }) in
    subst (KeptAt me w r (Store at x) f (λ n m. Unit {0})) (sym e)
    (in_frame (λ h. KeptAt me w r (Store at x) h (λ n m. Unit {0}) p) f going
    (kept_from me w r (Store at x) (record f { fresh = false }) (λ n m. Unit {0}) p (prepare_view v c b k p x)
    told
    (sym (ap (λ (u : View). record u { making = at1 v.making c y; test = at1 v.test c None }) (put_same v c))
    ∙ (ap (λ (z : Option Making). put_parts v c (parts (record n { making = z }))) made ∙ ap (λ (z : Memo). put_parts v c (parts z)) memo))
    (prepare_kept g w v c b k p x st.held step)
    (subst (λ (z : Event). Happens g w z (graph_of g w v) (graph_of g (upd w p x) (prepare_view v c b k p x))) (sym event) (prepare_quiet g w v c b k p x st.held step))
    mine tt era tt))

-- ---- the tag

-- a tag of a free block, of which the memo says that it is prepared or begins to be
tag_at : (me : Me) (w : Spot → ℕ) (r : ℕ → Memo) (f : Frame) (tr : Trail) (at b k x : ℕ) → Stands me w r f tr → f.fresh ≡ false → spot_at me.geometry (classes w) at ≡ Tag b
    → PrepareNeeds me.geometry w (view r) me.who b k (Tag b) x
    → (r me.who).op ≡ op.Nothing
    → prepared (r me.who).making at ≡ Tag b
    → Some (record { block = b; class = k; words = words_with (Tag b) x (r me.who).making }) ≡ making_with me.geometry (r me.who).facts (r me.who).making b (Tag b) x
    → KeptAt me w r (Store at x) f (λ n m. Unit {0}) (spot_at me.geometry (classes w) at)
tag_at me w r f tr at b k x st going e step idle told made =
    let g = me.geometry in
    let c = me.who in
    let v : View = view r in
    let n : Memo = called (r c) (framed me (Store at x) (record f { fresh = false }) 0) in
    let free : is_dying (r c) b ≡ false = dying_false (r c) b (λ q. live_not_zero (w (Head b)) ((st.held.dying c st.who).listed b q).0 step.free) in
    let before : at - 1 ≡ b = (let q : b + 1 ≡ at = (tag_block g (classes w) at b e).1 in omega arith) in
    stored_at me w r f tr at b k (Tag b) x st going e step
    (told_in_body g (classes w) c (r c) (Store at x) (Tag b) e refl
    ∙ stored_prepared g (r c) at x (Tag b) idle (no_dying_at g w r c at (Tag b) st.held st.who e (λ z. cc)) (ap (is_dying (r c)) before ∙ free) told)
    made
    (sym (cond-false _ _ _ free))
    refl
    (inl (step.free, step.mine)) tt

-- a tag is stored, of the block that is prepared or of one that is prepared from here on
pub tag_prepares : (me : Me) (w : Spot → ℕ) (r : ℕ → Memo) (f : Frame) (tr : Trail) (at b x : ℕ) → Stands me w r f tr → f.fresh ≡ false → spot_at me.geometry (classes w) at ≡ Tag b → MayTag me.geometry (r me.who) b x
    → KeptAt me w r (Store at x) f (λ n m. Unit {0}) (spot_at me.geometry (classes w) at)
tag_prepares me w r f tr at b x st going e (inl (k, a)) =
    let g = me.geometry in
    let c = me.who in
    let m = making_holds g w r c k st.held st.who a.making in
    let step : PrepareNeeds g w (view r) c b k.class (Tag b) x = record {
      inside = st.who;
      acts = a.here.joined;
      here = a.here.stays;
      word = refl;
      place = spot_there g (classes w) at (Tag b) e (λ z. cc);
      block = (tag_block g (classes w) at b e).0;
      free = ap (λ d. w (Head d)) (sym a.of) ∙ m.free;
      mine = ap (λ d. w (Segment (segment_of g d))) (sym a.of) ∙ m.mine;
      sized = ap (class_at g (classes w)) (sym a.of) ∙ m.sized;
      small = a.small;
      making = subst (IsMaking b) (sym a.making) a.of;
    } in
    tag_at me w r f tr at b k.class x st going e step a.idle
    (ap (λ z. prepared z at) a.making ∙ (ap (λ d. word_of_block d at) a.of ∙ tag_prepared g (classes w) at b e))
    (making_more g (r c).facts (r c).making k b (Tag b) x a.making a.of)
tag_prepares me w r f tr at b x st going e (inr a) =
    let g = me.geometry in
    let c = me.who in
    let zero : (w (Head b) ≡ 0) × IsBlock g (classes w) b × (w (Segment (segment_of g b)) ≡ c + 1) = All-contains (ZeroAt g (classes w) (λ i. w (Segment i)) (λ i. w (Head i)) c) (r c).zeros (Head b) (st.held.zeros c st.who) a.begin.read in
    let step : PrepareNeeds g w (view r) c b (class_told g (r c).facts b) (Tag b) x = record {
      inside = st.who;
      acts = a.here.joined;
      here = a.here.stays;
      word = refl;
      place = spot_there g (classes w) at (Tag b) e (λ z. cc);
      block = zero.1;
      free = zero.0;
      mine = zero.2;
      sized = class_holds g w r c b st.held st.who a.begin.told;
      small = a.small;
      making = subst (IsMaking b) (sym a.begin.none) tt;
    } in
    let before : at - 1 ≡ b = (let q : b + 1 ≡ at = (tag_block g (classes w) at b e).1 in omega arith) in
    tag_at me w r f tr at b (class_told g (r c).facts b) x st going e step a.idle
    (ap (λ z. prepared z at) a.begin.none ∙ ap Tag before)
    (making_new g (r c).facts (r c).making b (Tag b) x a.begin.none)

-- ---- another word

-- another word of the block that is prepared is stored
pub body_prepares : (me : Me) (w : Spot → ℕ) (r : ℕ → Memo) (f : Frame) (tr : Trail) (at b i x : ℕ) → Stands me w r f tr → f.fresh ≡ false → spot_at me.geometry (classes w) at ≡ Body b i → MayBody (r me.who) b i x
    → KeptAt me w r (Store at x) f (λ n m. Unit {0}) (spot_at me.geometry (classes w) at)
body_prepares me w r f tr at b i x st going e (k, a, room) =
    let g = me.geometry in
    let c = me.who in
    let m = making_holds g w r c k st.held st.who a.making in
    let step : PrepareNeeds g w (view r) c b k.class (Body b i) x = record {
      inside = st.who;
      acts = a.here.joined;
      here = a.here.stays;
      word = (refl, room);
      place = spot_there g (classes w) at (Body b i) e (λ z. cc);
      block = (body_block g (classes w) at b i e).0;
      free = ap (λ d. w (Head d)) (sym a.of) ∙ m.free;
      mine = ap (λ d. w (Segment (segment_of g d))) (sym a.of) ∙ m.mine;
      sized = ap (class_at g (classes w)) (sym a.of) ∙ m.sized;
      small = a.small;
      making = subst (IsMaking b) (sym a.making) a.of;
    } in
    stored_at me w r f tr at b k.class (Body b i) x st going e step
    (told_in_body g (classes w) c (r c) (Store at x) (Body b i) e refl
    ∙ stored_prepared g (r c) at x (Body b i) a.idle (no_dying_at g w r c at (Body b i) st.held st.who e (λ z. cc)) before
    (ap (λ z. prepared z at) a.making ∙ (ap (λ d. word_of_block d at) a.of ∙ body_prepared g (classes w) at b i e)))
    (making_more g (r c).facts (r c).making k b (Body b i) x a.making a.of)
    (sym (cond-false _ _ _ (ap (λ o. is_op o && same_spot (slot_of o) (Body b i)) a.idle)))
    refl
    (inl (step.free, step.mine)) tt
  where
    -- the address before a word of a block isn't that of a header, for the tag follows a header
    before : is_dying (r me.who) (at - 1) ≡ false
    before = dying_false (r me.who) (at - 1) (λ q. no_tag (dying_block me.geometry w r me.who (at - 1) st.held st.who q))
      where
        no_tag : IsBlock me.geometry (classes w) (at - 1) → ⊥
        no_tag y =
            let z : at - 1 + 1 ≡ at = (let q = in_pool me.geometry (classes w) at (Body b i) e (λ z. cc) in omega arith) in
            let s = tag_spot me.geometry (classes w) (at - 1) y (st.held.sizes.classes _ _ (block_within me.geometry (classes w) (at - 1) y).2) in
            let u : Body b i ≡ Tag (at - 1) = sym e ∙ (ap (spot_at me.geometry (classes w)) (sym z) ∙ s) in
            cc
