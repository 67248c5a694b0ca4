-- the store of the own hold word keeps the invariant, and leaves the graph
use Rattle.std.proofs.Common.{◌≡◌, ℕ, ◌^◌, ◌<◌, ◌≤◌, refl, sym, ◌∙◌, arith, eq-eqb, subst, inl, inr, Option, Some, None}
use Rattle.std.proofs.lemmas.Bool.{cases_eq, ne_eqb}
use Rattle.shm_words.specs.declared.geometry.Geometry.{Geometry}
use Rattle.shm_graph.specs.declared.{spot.Spot.{Spot, TheVariants.{Hold, Latch, Era, Page}}, memo.Test.Test}
use Rattle.shm_graph.specs.{Views.{at1, View, ons}, Spots.{upd, IsAt}, Events.{Nothing, graph_of, Happens}}
use Rattle.shm_graph.specs.Held.{HeldAt, LatchTie, TestAt}
use Rattle.shm_graph.proofs.{Memos.Frames.at1_all, Runs.Lists.at1_other}
use Rattle.kind_laws.proofs.{Owns.{mine_stored, small_stored, there_stored}, Quiet.quiet, Readings.holds, Keep.others}
use Rattle.kind_laws.specs.OwnWords.{HoldNeeds, hold_view}

pub hold_kept : (g : Geometry) (w : Spot → ℕ) (v : View) (c x : ℕ) → HeldAt g w v → HoldNeeds g w v c x → HeldAt g (upd w (Hold c) x) (hold_view v c x)
hold_kept g w v c x h a =
    record {
      fits = h.fits;
      small = small_stored w (Hold c) x (2 ^ 64) (let m = a.most in let y = h.fits.clients in omega arith) h.small;
      there = there_stored (IsAt g (λ s q. w (Page s q))) w (Hold c) x a.place h.there;
      spare = h.spare;
      unused = h.unused;
      sizes = record { holds = λ i. at1_all (λ (j y : ℕ). y ≤ g.clients) (holds w) c x i a.most (λ _. h.sizes.holds i); latches = h.sizes.latches; segments = h.sizes.segments; classes = h.sizes.classes };
      mine = mine_stored w v.own c g.clients (Hold c) x (eq-eqb c c refl) a.inside h.mine;
      state = h.state;
      latch = λ d l. elim (cases_eq c d) [
        | inl e ↦ subst (λ j. LatchTie (λ i. w (Latch i)) (at1 (holds w) c x) j (v.latch j)) e (record {
          some = λ i z. absurd (let q : None ≡ Some i = sym a.none ∙ z in cc);
          all = (h.latch c a.inside).all;
        })
        | inr n ↦ record {
          some = λ i z. let q = (h.latch d l).some i z in (q.0, at1_other (holds w) c x d n ∙ q.1);
          all = (h.latch d l).all;
        }
      ];
      segments = h.segments;
      dying = h.dying;
      making = h.making;
      blocks = h.blocks;
      era = h.era;
      own = h.own;
      op = h.op;
      redo = h.redo;
      allowed = h.allowed;
      count = h.count;
      slots = h.slots;
      looks = h.looks;
      lanes = h.lanes;
      known = h.known;
      facts = h.facts;
      zeros = h.zeros;
      test = λ d. at1_all (λ (i : ℕ) (y : Option Test). i < g.clients → TestAt g.clients (λ i j. w (Era i j)) (ons v i) i y) v.test c None d (λ l. tt) (λ m. h.test d);
      fresh = others _ _ v.status g.clients c h.fresh a.acts (λ d n x. rw (ne_eqb c d n) x);
      gone = others _ _ v.status g.clients c h.gone a.here (λ d n x. rw (ne_eqb c d n) x);
      self_lanes = h.self_lanes;
      no_queue = h.no_queue;
      tails = h.tails;
      parts = h.parts;
      part = h.part;
      queued = h.queued;
      values = h.values;
      made = h.made;
    }

-- live bits, tags and targets are read by spots, and the hold word's spot is none of theirs
pub hold_quiet : (g : Geometry) (w : Spot → ℕ) (v : View) (c x : ℕ) → HeldAt g w v → HoldNeeds g w v c x → Happens g w Nothing (graph_of g w v) (graph_of g (upd w (Hold c) x) (hold_view v c x))
hold_quiet g w v c x h a = quiet g w (upd w (Hold c) x) v (hold_view v c x) (λ b. refl) (λ b. refl) refl refl
