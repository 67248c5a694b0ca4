-- the store of the own status
use Rattle.std.proofs.Common.{◌≡◌, ◌≢◌, ℕ, ◌^◌, ◌<◌, refl, sym, ◌∙◌, true, inl, inr, arith, lit<}
use Rattle.std.proofs.lemmas.Bool.{cases_eq, eq-eqb, ne_eqb, Decides.nat_tests}
use Rattle.shm_words.specs.declared.geometry.Geometry.{Geometry}
use Rattle.shm_graph.specs.declared.spot.Spot.{Spot}
use Rattle.shm_graph.specs.declared.spot.Spot.TheVariants.{Status, Redo, RedoMore, Hold, Home, Era, Root, Tail, QueueHead, Page}
use Rattle.shm_graph.specs.{declared.memo.Status.Status as AStatus, Spots.{upd, IsAt}, Views.{View, at1, owner_is}}
use Rattle.shm_graph.specs.Held.{HeldAt, Fresh, Gone, status_word}
use Rattle.shm_graph.specs.declared.memo.Status.TheVariants as status
use Rattle.shm_graph.proofs.{Memos.Frames.at1_all, Spots.{Updating.upd_all, Fixed.fixed_is_at}}

-- a status word is no own word
not_own : (w : Spot → ℕ) (c x d : ℕ) (q : Spot) → owner_is d q ≡ true → upd w (Status c) x q ≡ w q
not_own w c x d (Redo e) o = refl
not_own w c x d (RedoMore e) o = refl
not_own w c x d (Hold e) o = refl
not_own w c x d (Home e) o = refl
not_own w c x d (Era i j) o = refl
not_own w c x d (Root e k) o = refl
not_own w c x d (Tail s r) o = refl
not_own w c x d (QueueHead s r) o = refl
not_own w c x d _ o = cc

pub status_small : (s : AStatus) → status_word s < 2 ^ 64
status_small status.New = lit< tt
status_small _ = lit< tt

-- c stores its status: one that is new has nothing, and one that is gone has nothing left to finish
pub status_held : (g : Geometry) (w : Spot → ℕ) (v : View) (c : ℕ) (s : AStatus) → HeldAt g w v → c < g.clients
    → (s ≡ status.New → Fresh c (v.own c) (v.op c) (v.latch c) (v.looks c) (v.making c) (v.owned c) (v.dying c) (v.unsent c) (v.untaken c))
    → (s ≡ status.Gone → Gone c (v.own c) (v.op c) (v.latch c) (v.owned c) (v.dying c) (v.unsent c) (v.untaken c))
    → HeldAt g (upd w (Status c) (status_word s)) (record v { status = at1 v.status c s })
status_held g w v c s h l new gone =
    record {
      fits = h.fits;
      small = λ p. upd_all (λ q x. x < 2 ^ 64) w (Status c) (status_word s) p (status_small s) (λ n. h.small p);
      there = λ p. upd_all (λ q x. x ≢ 0 → IsAt g (λ t k. w (Page t k)) q) w (Status c) (status_word s) p
          (λ n. fixed_is_at g (λ t k. w (Page t k)) (Status c) refl (grind (arith, nat_tests))) (λ n. h.there p);
      spare = h.spare;
      unused = h.unused;
      sizes = h.sizes;
      mine = λ d m q o. h.mine d m q o ∙ sym (not_own w c (status_word s) d q o);
      state = λ d m. elim (cases_eq c d) [
        | inl e ↦ rw (eq-eqb c d e) refl
        | inr n ↦ rw (ne_eqb c d n) (h.state d m)
      ];
      latch = h.latch;
      segments = h.segments;
      dying = h.dying;
      making = h.making;
      blocks = h.blocks;
      era = h.era;
      own = h.own;
      op = h.op;
      redo = h.redo;
      allowed = h.allowed;
      count = h.count;
      slots = h.slots;
      looks = h.looks;
      lanes = h.lanes;
      known = h.known;
      facts = h.facts;
      zeros = h.zeros;
      test = h.test;
      fresh = λ d. at1_all (λ (i : ℕ) (x : AStatus). i < g.clients → x ≡ status.New → Fresh i (v.own i) (v.op i) (v.latch i) (v.looks i) (v.making i) (v.owned i) (v.dying i) (v.unsent i) (v.untaken i))
          v.status c s d (λ m. new) (λ n. h.fresh d);
      gone = λ d. at1_all (λ (i : ℕ) (x : AStatus). i < g.clients → x ≡ status.Gone → Gone i (v.own i) (v.op i) (v.latch i) (v.owned i) (v.dying i) (v.unsent i) (v.untaken i))
          v.status c s d (λ m. gone) (λ n. h.gone d);
      self_lanes = h.self_lanes;
      no_queue = h.no_queue;
      tails = h.tails;
      parts = h.parts;
      part = h.part;
      queued = h.queued;
      values = h.values;
      made = h.made;
    }
