-- what of a call binds changes, and no word
use Rattle.std.proofs.Common.{ℕ, ◌<◌, refl, List, Option}
use Rattle.std.specs.List.{All}
use Rattle.shm_words.specs.{declared.geometry.Geometry.Geometry, Headers.header_of}
use Rattle.shm_graph.specs.declared.spot.Spot.{Spot, TheVariants.{Era, Root, Tail, QueueHead, Segment, Page, Head}}
use Rattle.shm_graph.specs.{declared.memo.{Fact.Fact, Test.Test}, Views.{View, at1, targets, ons}}
use Rattle.shm_graph.specs.Held.{HeldAt, FactAt, ZeroAt, TestAt, MadeAt}
use Rattle.shm_graph.proofs.Memos.{Frames.at1_all, RecallHeld.memo_held}

-- the facts, the words read as 0, the commit test and the new blocks of c hold
abbrev pub FactHolds : Geometry → (Spot → ℕ) → View → Fact → Type 0
FactHolds g w v = FactAt g.clients (λ i j. w (Era i j)) (ons v) (λ s r. w (Tail s r)) (λ s r. w (QueueHead s r)) (λ s q. w (Page s q))

abbrev pub FactsHold : Geometry → (Spot → ℕ) → View → List Fact → Type 0
FactsHold g w v = All (FactHolds g w v)

abbrev pub ZeroHolds : Geometry → (Spot → ℕ) → ℕ → Spot → Type 0
ZeroHolds g w c = ZeroAt g (λ s q. w (Page s q)) (λ s. w (Segment s)) (λ b. w (Head b)) c

abbrev pub ZerosHold : Geometry → (Spot → ℕ) → ℕ → List Spot → Type 0
ZerosHold g w c = All (ZeroHolds g w c)

abbrev pub TestHolds : Geometry → (Spot → ℕ) → View → ℕ → Option Test → Type 0
TestHolds g w v c = TestAt g.clients (λ i j. w (Era i j)) (ons v c) c

abbrev pub MadeHold : Geometry → (Spot → ℕ) → View → ℕ → List ℕ → Type 0
MadeHold g w v c = All (MadeAt (λ b. header_of (w (Head b))) (λ k. targets g w v (Root c k)))

pub call_held : (g : Geometry) (w : Spot → ℕ) (v : View) (c : ℕ) (fs : List Fact) (zs : List Spot) (t : Option Test) (bs : List ℕ) → HeldAt g w v
    → FactsHold g w v fs → ZerosHold g w c zs → TestHolds g w v c t → MadeHold g w v c bs
    → HeldAt g w (record v { facts = at1 v.facts c fs; zeros = at1 v.zeros c zs; test = at1 v.test c t; made = at1 v.made c bs })
call_held g w v c fs zs t bs h facts zeros test made =
    memo_held g w v _ h refl (record {
      making = h.making;
      slots = h.slots;
      looks = h.looks;
      known = h.known;
      facts = λ d. at1_all (λ (i : ℕ) (x : List Fact). i < g.clients → FactsHold g w v x) v.facts c fs d (λ l. facts) (λ n. h.facts d);
      zeros = λ d. at1_all (λ (i : ℕ) (x : List Spot). i < g.clients → ZerosHold g w i x) v.zeros c zs d (λ l. zeros) (λ n. h.zeros d);
      test = λ d. at1_all (λ (i : ℕ) (x : Option Test). i < g.clients → TestHolds g w v i x) v.test c t d (λ l. test) (λ n. h.test d);
      fresh = h.fresh;
      values = h.values;
      made = λ d. at1_all (λ (i : ℕ) (x : List ℕ). i < g.clients → MadeHold g w v i x) v.made c bs d (λ l. made) (λ n. h.made d);
    })
