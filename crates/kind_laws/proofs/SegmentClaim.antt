-- the exchange by which a segment becomes the identity's keeps the invariant, and leaves the graph
use Rattle.std.proofs.Common.{◌≡◌, ℕ, ◌+◌, ◌^◌, ◌<◌, ◌≤◌, refl, ap, ◌∙◌, arith, List, [], ◌∷◌, Option, Some, None}
use Rattle.std.proofs.lemmas.List.Elements.{All-cons, All-weaker, All-contains, All-contains_itself, Contains-append_right}
use Rattle.std.proofs.lemmas.Bool.{ne_eqb}
use Rattle.std.specs.List.{Contains}
use Rattle.shm_words.specs.declared.geometry.Geometry.{Geometry}
use Rattle.shm_graph.specs.declared.{spot.Spot.{Spot, TheVariants.{Era, Segment, Page, Head}}, memo.Making.Making}
use Rattle.shm_graph.specs.{declared.memo.Test.Test, Views.{at1, View, ons}, Spots.{upd, IsAt, segment_of}}
use Rattle.shm_graph.specs.{Events.{Nothing, graph_of, Happens}, Held.{HeldAt, MakingTie, SegmentTie, TestAt, ZeroAt}}
use Rattle.shm_graph.specs.Blocks.{classes}
use Rattle.shm_graph.proofs.{Memos.Frames.at1_all, Runs.Lists.{at1_here, at1_other}}
use Rattle.kind_laws.proofs.{Owns.{mine_other, small_stored, there_stored}, Quiet.quiet, Lists.newest, Keep.others}
use Rattle.kind_laws.proofs.Readings.{bodies, head_words, segments, tags}
use Rattle.kind_laws.specs.Segments.{ClaimNeeds, claim_view}

-- what a list has it has with an element in front
behind : (xs : List ℕ) (x y : ℕ) → Contains xs y → Contains (x ∷ xs) y
behind xs x y = Contains-append_right (x ∷ []) xs y

-- what holds of the element in front and of each of the list
each_of : (P : ℕ → Type 0) (xs : List ℕ) (x : ℕ) → P x → ((y : ℕ) → Contains xs y → P y) → (y : ℕ) → Contains (x ∷ xs) y → P y
each_of P xs x here rest y at = All-contains P (x ∷ xs) y (All-cons P x xs here (All-weaker (Contains xs) P rest xs (All-contains_itself xs))) at

pub claim_kept : (g : Geometry) (w : Spot → ℕ) (v : View) (c s : ℕ) → HeldAt g w v → ClaimNeeds g w v c s → HeldAt g (upd w (Segment s) (c + 1)) (claim_view v c s)
claim_kept g w v c s h a =
    record {
      fits = h.fits;
      small = small_stored w (Segment s) (c + 1) (2 ^ 64) (let x = a.inside in let y = h.fits.clients in omega arith) h.small;
      there = there_stored (IsAt g (classes w)) w (Segment s) (c + 1) a.place h.there;
      spare = h.spare;
      unused = h.unused;
      sizes = record { holds = h.sizes.holds; latches = h.sizes.latches; segments = λ i. at1_all (λ (j x : ℕ). x ≤ g.clients) (segments w) s (c + 1) i (let x = a.inside in omega arith) (λ _. h.sizes.segments i); classes = h.sizes.classes };
      mine = mine_other w v.own g.clients (Segment s) (c + 1) (λ d. refl) h.mine;
      state = h.state;
      latch = h.latch;
      segments = λ d. at1_all (λ (j : ℕ) (x : List ℕ). j < g.clients → SegmentTie segment' j x) v.owned c (s ∷ v.owned c) d
          (λ l. record {
            listed = each_of (λ i. segment' i ≡ c + 1) (v.owned c) s (at1_here (segments w) s (c + 1)) (λ i x. stays c i ((h.segments c l).listed i x));
            all = λ i. at1_all (λ (j x : ℕ). x ≡ c + 1 → Contains (s ∷ v.owned c) j) (segments w) s (c + 1) i (λ _. newest s (v.owned c)) (λ _ e. behind (v.owned c) s i ((h.segments c l).all i e));
          })
          (λ n l. record {
            listed = λ i x. stays d i ((h.segments d l).listed i x);
            all = λ i. at1_all (λ (j x : ℕ). x ≡ d + 1 → Contains (v.owned d) j) (segments w) s (c + 1) i (λ e. absurd (n (omega arith))) (λ _. (h.segments d l).all i);
          });
      dying = h.dying;
      making = λ d l. making d (v.making d) (h.making d l);
      blocks = h.blocks;
      era = h.era;
      own = h.own;
      op = h.op;
      redo = h.redo;
      allowed = h.allowed;
      count = h.count;
      slots = h.slots;
      looks = h.looks;
      lanes = h.lanes;
      known = h.known;
      facts = h.facts;
      zeros = λ d l. All-weaker _ _ (zero d) (v.zeros d) (h.zeros d l);
      test = λ d. at1_all (λ (i : ℕ) (x : Option Test). i < g.clients → TestAt g.clients (λ i j. w (Era i j)) (ons v i) i x) v.test c None d (λ l. tt) (λ m. h.test d);
      fresh = others _ _ v.status g.clients c h.fresh a.acts (λ d n x. rw (ne_eqb c d n) x);
      gone = others _ _ v.status g.clients c h.gone a.here (λ d n x. rw (ne_eqb c d n) x);
      self_lanes = h.self_lanes;
      no_queue = h.no_queue;
      tails = h.tails;
      parts = h.parts;
      part = h.part;
      queued = h.queued;
      values = h.values;
      made = h.made;
    }
  where
    segment' : ℕ → ℕ
    segment' = at1 (segments w) s (c + 1)

    -- what an identity owned is another segment, and stays its own
    stays : (d i : ℕ) → segments w i ≡ d + 1 → segment' i ≡ d + 1
    stays d i e = at1_other (segments w) s (c + 1) i (λ z. let q : segments w s ≡ d + 1 = ap (segments w) z ∙ e in let f = a.free in absurd (omega arith)) ∙ e

    making : (d : ℕ) (x : Option Making) → MakingTie g (classes w) (segments w) (head_words w) (tags w) (bodies w) d x → MakingTie g (classes w) segment' (head_words w) (tags w) (bodies w) d x
    making d None y = tt
    making d (Some m) y = record { free = y.free; block = y.block; mine = stays d (segment_of g m.block) y.mine; sized = y.sized; stored = y.stored }

    zero : (d : ℕ) (p : Spot) → ZeroAt g (classes w) (segments w) (head_words w) d p → ZeroAt g (classes w) segment' (head_words w) d p
    zero d (Page i j) z = (z.0, stays d i z.1)
    zero d (Head b) z = (z.0, z.1, stays d (segment_of g b) z.2)
    zero d _ z = absurd z

-- live bits, tags and targets are read by spots, and a segment word's spot is none of theirs
pub claim_quiet : (g : Geometry) (w : Spot → ℕ) (v : View) (c s : ℕ) → HeldAt g w v → ClaimNeeds g w v c s → Happens g w Nothing (graph_of g w v) (graph_of g (upd w (Segment s) (c + 1)) (claim_view v c s))
claim_quiet g w v c s h a = quiet g w (upd w (Segment s) (c + 1)) v (claim_view v c s) (λ b. refl) (λ b. refl) refl refl
