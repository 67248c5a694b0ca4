-- in format 2 the store of the second word of a redo record keeps the invariant, and leaves the graph
use Rattle.std.proofs.Common.{ℕ, ◌^◌, ◌<◌, refl, sym, eq-eqb, subst, inl, inr, Option, None}
use Rattle.std.proofs.lemmas.Bool.{cases_eq, ne_eqb}
use Rattle.shm_words.specs.declared.geometry.Geometry.{Geometry}
use Rattle.shm_graph.specs.declared.{spot.Spot.{Spot, TheVariants.{Redo, RedoMore, Era, Page}}, memo.Test.Test}
use Rattle.shm_graph.specs.{Views.{at1, View, ons}, Spots.{upd, IsAt}, References.words_of}
use Rattle.shm_graph.specs.{Events.{Nothing, graph_of, Happens}, Held.{HeldAt, OpTie, RedoTie, TestAt}, Blocks.classes}
use Rattle.shm_graph.proofs.{Memos.Frames.at1_all, Runs.Lists.at1_other}
use Rattle.kind_laws.proofs.{Owns.{mine_stored, small_stored, there_stored}, Quiet.quiet, Readings.seconds, Keep.others}
use Rattle.kind_laws.specs.OwnWords.{MoreNeeds, more_view}

pub more_kept : (g : Geometry) (w : Spot → ℕ) (v : View) (c x : ℕ) → HeldAt g w v → MoreNeeds g w v c x → HeldAt g (upd w (RedoMore c) x) (more_view v c x)
more_kept g w v c x h a =
    record {
      fits = h.fits;
      small = small_stored w (RedoMore c) x (2 ^ 64) a.small h.small;
      there = there_stored (IsAt g (λ s q. w (Page s q))) w (RedoMore c) x a.place h.there;
      spare = h.spare;
      unused = h.unused;
      sizes = h.sizes;
      mine = mine_stored w v.own c g.clients (RedoMore c) x (eq-eqb c c refl) a.inside h.mine;
      state = h.state;
      latch = h.latch;
      segments = h.segments;
      dying = h.dying;
      making = h.making;
      blocks = h.blocks;
      era = h.era;
      own = h.own;
      op = λ d l. elim (cases_eq c d) [
        | inl e ↦ subst (λ j. OpTie g (classes w) (w (Redo j)) (at1 (seconds w) c x j) (w (Era j j)) (words_of g.wide w) (v.op j)) e
            (subst (OpTie g (classes w) (w (Redo c)) (at1 (seconds w) c x c) (w (Era c c)) (words_of g.wide w)) (sym a.op) (subst (OpTie g (classes w) (w (Redo c)) (w (RedoMore c)) (w (Era c c)) (words_of g.wide w)) a.op (h.op c a.inside)))
        | inr n ↦ subst (λ z. OpTie g (classes w) (w (Redo d)) z (w (Era d d)) (words_of g.wide w) (v.op d)) (sym (at1_other (seconds w) c x d n)) (h.op d l)
      ];
      redo = λ d. at1_all (λ (i : ℕ) (z : ℕ). i < g.clients → RedoTie g (classes w) (w (Redo i)) z) (seconds w) c x d (λ l. record { second = a.second; first = (h.redo c l).first }) (λ n. h.redo d);
      allowed = h.allowed;
      count = h.count;
      slots = h.slots;
      looks = h.looks;
      lanes = h.lanes;
      known = h.known;
      facts = h.facts;
      zeros = h.zeros;
      test = λ d. at1_all (λ (i : ℕ) (y : Option Test). i < g.clients → TestAt g.clients (λ i j. w (Era i j)) (ons v i) i y) v.test c None d (λ l. tt) (λ m. h.test d);
      fresh = others _ _ v.status g.clients c h.fresh a.acts (λ d n x. rw (ne_eqb c d n) x);
      gone = others _ _ v.status g.clients c h.gone a.here (λ d n x. rw (ne_eqb c d n) x);
      self_lanes = h.self_lanes;
      no_queue = h.no_queue;
      tails = h.tails;
      parts = h.parts;
      part = h.part;
      queued = h.queued;
      values = h.values;
      made = h.made;
    }

-- live bits, tags and targets are read by spots, and the second word's spot is none of theirs
pub more_quiet : (g : Geometry) (w : Spot → ℕ) (v : View) (c x : ℕ) → HeldAt g w v → MoreNeeds g w v c x → Happens g w Nothing (graph_of g w v) (graph_of g (upd w (RedoMore c) x) (more_view v c x))
more_quiet g w v c x h a = quiet g w (upd w (RedoMore c) x) v (more_view v c x) (λ b. refl) (λ b. refl) refl refl
