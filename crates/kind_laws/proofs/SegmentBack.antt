-- the store that gives an own segment up keeps the invariant, and leaves the graph
use Rattle.std.proofs.Common.{◌≡◌, ◌≢◌, ℕ, ◌+◌, ◌^◌, ◌<◌, ◌≤◌, refl, sym, ap, ◌∙◌, arith, true, false, eqb, eq-eqb, inl, inr, lit<, List, Option, Some, None}
use Rattle.std.proofs.lemmas.{List.Elements.All-weaker, Bool.{cases_eq, ne_eqb, true≢false}}
use Rattle.std.specs.List.{All, Contains, filter}
use Rattle.shm_words.specs.declared.geometry.Geometry.{Geometry}
use Rattle.shm_graph.specs.declared.{spot.Spot.{Spot, TheVariants.{Era, Segment, Page, Head}}, memo.Making.Making}
use Rattle.shm_graph.specs.{declared.memo.Test.Test, Views.{at1, View, ons}, Spots.{upd, IsAt, segment_of}}
use Rattle.shm_graph.specs.{Events.{Nothing, graph_of, Happens}, Held.{HeldAt, MakingTie, SegmentTie, TestAt, ZeroAt}}
use Rattle.shm_graph.specs.{MemoAfterStore.{not_segment, outside_of}, Blocks.classes}
use Rattle.shm_graph.proofs.{Memos.Frames.at1_all, Runs.Lists.at1_other}
use Rattle.kind_laws.proofs.Owns.{mine_other, small_stored, there_stored}
use Rattle.kind_laws.proofs.{Lists.{All-kept, Contains-filter, filter_from}, Keep.others, Quiet.quiet}
use Rattle.kind_laws.proofs.Readings.{bodies, head_words, segments, tags}
use Rattle.kind_laws.specs.Segments.{SegmentBackNeeds, segment_back_view}

pub segment_back_kept : (g : Geometry) (w : Spot → ℕ) (v : View) (c s : ℕ) → HeldAt g w v → SegmentBackNeeds g v c s → HeldAt g (upd w (Segment s) 0) (segment_back_view g v c s)
segment_back_kept g w v c s h a =
    record {
      fits = h.fits;
      small = small_stored w (Segment s) 0 (2 ^ 64) (lit< tt) h.small;
      there = there_stored (IsAt g (classes w)) w (Segment s) 0 (h.there (Segment s) (λ z. let x = mine in absurd (omega arith))) h.there;
      spare = h.spare;
      unused = h.unused;
      sizes = record { holds = h.sizes.holds; latches = h.sizes.latches; segments = λ i. at1_all (λ (j x : ℕ). x ≤ g.clients) (segments w) s 0 i (omega arith) (λ _. h.sizes.segments i); classes = h.sizes.classes };
      mine = mine_other w v.own g.clients (Segment s) 0 (λ d. refl) h.mine;
      state = h.state;
      latch = h.latch;
      segments = λ d. at1_all (λ (j : ℕ) (x : List ℕ). j < g.clients → SegmentTie segment' j x) v.owned c (filter (not_segment s) (v.owned c)) d
          (λ l. record {
            listed = λ i x. let q = filter_from (not_segment s) (v.owned c) i x in apart i (other i q.1) ∙ (h.segments c l).listed i q.0;
            all = λ i. at1_all (λ (j x : ℕ). x ≡ c + 1 → Contains (filter (not_segment s) (v.owned c)) j) (segments w) s 0 i (λ e. absurd (omega arith)) (λ n e. Contains-filter (not_segment s) (v.owned c) i ((h.segments c l).all i e) (let u : eqb s i ≡ false = ne_eqb s i n in rw u refl));
          })
          (λ n l. record {
            listed = λ i x. stays d n i ((h.segments d l).listed i x);
            all = λ i. at1_all (λ (j x : ℕ). x ≡ d + 1 → Contains (v.owned d) j) (segments w) s 0 i (λ e. absurd (omega arith)) (λ _. (h.segments d l).all i);
          });
      dying = h.dying;
      making = λ d l. elim (cases_eq c d) [
        | inl e ↦ rw (sym (ap v.making e) ∙ a.making) tt
        | inr n ↦ making d n (v.making d) (h.making d l)
      ];
      blocks = h.blocks;
      era = h.era;
      own = h.own;
      op = h.op;
      redo = h.redo;
      allowed = h.allowed;
      count = h.count;
      slots = h.slots;
      looks = h.looks;
      lanes = h.lanes;
      known = h.known;
      facts = h.facts;
      zeros = λ d. at1_all (λ (i : ℕ) (x : List Spot). i < g.clients → All (ZeroAt g (classes w) segment' (head_words w) i) x) v.zeros c (filter (outside_of g s) (v.zeros c)) d
          (λ l. All-kept _ (ZeroAt g (classes w) segment' (head_words w) c) (outside_of g s) zero_own (v.zeros c) (h.zeros c l))
          (λ n l. All-weaker _ (ZeroAt g (classes w) segment' (head_words w) d) (zero_other d n) (v.zeros d) (h.zeros d l));
      test = λ d. at1_all (λ (i : ℕ) (x : Option Test). i < g.clients → TestAt g.clients (λ i j. w (Era i j)) (ons v i) i x) v.test c None d (λ l. tt) (λ m. h.test d);
      fresh = others _ _ v.status g.clients c h.fresh a.acts (λ d n x. rw (ne_eqb c d n) x);
      gone = others _ _ v.status g.clients c h.gone a.here (λ d n x. rw (ne_eqb c d n) x);
      self_lanes = h.self_lanes;
      no_queue = h.no_queue;
      tails = h.tails;
      parts = h.parts;
      part = h.part;
      queued = h.queued;
      values = h.values;
      made = h.made;
    }
  where
    segment' : ℕ → ℕ
    segment' = at1 (segments w) s 0

    mine : w (Segment s) ≡ c + 1
    mine = (h.segments c a.inside).listed s a.owned

    other : (i : ℕ) → not_segment s i ≡ true → s ≢ i
    other i t e = let u : eqb s i ≡ true = eq-eqb s i e in let b : false ≡ true = rw u at t in absurd (true≢false (sym b))

    -- another segment keeps its word
    apart : (i : ℕ) → s ≢ i → segment' i ≡ segments w i
    apart i n = at1_other (segments w) s 0 i n

    -- what another identity owns is another segment
    stays : (d : ℕ) → c ≢ d → (i : ℕ) → segments w i ≡ d + 1 → segment' i ≡ d + 1
    stays d n i e = apart i (λ z. let q : c + 1 ≡ d + 1 = sym mine ∙ (ap (segments w) z ∙ e) in n (omega arith)) ∙ e

    making : (d : ℕ) → c ≢ d → (x : Option Making) → MakingTie g (classes w) (segments w) (head_words w) (tags w) (bodies w) d x → MakingTie g (classes w) segment' (head_words w) (tags w) (bodies w) d x
    making d n None y = tt
    making d n (Some m) y = record { free = y.free; block = y.block; mine = stays d n (segment_of g m.block) y.mine; sized = y.sized; stored = y.stored }

    zero_own : (p : Spot) → outside_of g s p ≡ true → ZeroAt g (classes w) (segments w) (head_words w) c p → ZeroAt g (classes w) segment' (head_words w) c p
    zero_own (Page i j) o z = (z.0, apart i (other i o) ∙ z.1)
    zero_own (Head b) o z = (z.0, z.1, apart (segment_of g b) (other (segment_of g b) o) ∙ z.2)
    zero_own _ o z = absurd z

    zero_other : (d : ℕ) → c ≢ d → (p : Spot) → ZeroAt g (classes w) (segments w) (head_words w) d p → ZeroAt g (classes w) segment' (head_words w) d p
    zero_other d n (Page i j) z = (z.0, stays d n i z.1)
    zero_other d n (Head b) z = (z.0, z.1, stays d n (segment_of g b) z.2)
    zero_other d n _ z = absurd z

-- live bits, tags and targets are read by spots, and a segment word's spot is none of theirs
pub segment_back_quiet : (g : Geometry) (w : Spot → ℕ) (v : View) (c s : ℕ) → HeldAt g w v → SegmentBackNeeds g v c s → Happens g w Nothing (graph_of g w v) (graph_of g (upd w (Segment s) 0) (segment_back_view g v c s))
segment_back_quiet g w v c s h a = quiet g w (upd w (Segment s) 0) v (segment_back_view g v c s) (λ b. refl) (λ b. refl) refl refl
