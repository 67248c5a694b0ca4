-- the parts of the memos of which the invariant speaks, each by identity
use Rattle.std.specs.Prelude.{ℕ, Bool, false, ◌==◌, if◌then◌else◌, List, [], ◌∷◌, Option, slice_index, slice_index_or}
use Rattle.shm_words.specs.declared.geometry.Geometry.{Geometry}
use Rattle.shm_graph.specs.declared.spot.Spot.{Spot}
use Rattle.shm_graph.specs.declared.spot.Spot.TheVariants.{Redo, RedoMore, Hold, Home, Era, Root, Tail, QueueHead}
use Rattle.shm_graph.specs.declared.memo.{Status.Status as AStatus, Op.Op, Stored.Stored, Look.Look, Making.Making}
use Rattle.shm_graph.specs.{declared.{memo.{Fact.Fact, Test.Test, Memo.Memo}, table.Part.Part}, Spots.same_spot}
use Rattle.shm_graph.specs.{References.words_of, Ops.{cover_of, held_over_of, on_of, target}}

-- a function with one value changed, by one key and by two
abbrev pub at1 : {T : Type 0} → (ℕ → T) → ℕ → T → ℕ → T
at1 f c x d = if c == d then x else f d

-- the word that was stored last at a spot
abbrev pub own_word : List Stored → Spot → ℕ
own_word [] q = 0
own_word (s ∷ ss) q = if same_spot s.spot q then s.value else own_word ss q

-- who stores the word alone
abbrev pub owner_is : ℕ → Spot → Bool
owner_is c (Redo d) = c == d
owner_is c (RedoMore d) = c == d
owner_is c (Hold d) = c == d
owner_is c (Home d) = c == d
owner_is c (Era i j) = c == i
owner_is c (Root d k) = c == d
owner_is c (Tail s r) = c == s
owner_is c (QueueHead s r) = c == r
owner_is c _ = false

-- the parts of the memos, each by identity; the lanes by sender and receiver, or receiver and sender
pub record View : Type 0 where
  pub status : ℕ → AStatus
  pub own : ℕ → List Stored
  pub op : ℕ → Op
  pub latch : ℕ → Option ℕ
  pub looks : ℕ → List Look
  pub making : ℕ → Option Making
  pub owned : ℕ → List ℕ
  pub dying : ℕ → List ℕ
  pub sent : ℕ → ℕ → List ℕ
  pub unsent : ℕ → ℕ → ℕ
  pub received : ℕ → ℕ → List ℕ
  pub untaken : ℕ → ℕ → ℕ
  pub facts : ℕ → List Fact
  pub zeros : ℕ → List Spot
  pub test : ℕ → Option Test
  pub known : ℕ → List Stored
  pub part : ℕ → Part
  pub values : ℕ → List ℕ
  pub made : ℕ → List ℕ

-- the parts of these memos
abbrev pub view : (ℕ → Memo) → View
view r =
    record {
      status = λ c. (r c).status;
      own = λ c. (r c).own;
      op = λ c. (r c).op;
      latch = λ c. (r c).latch;
      looks = λ c. (r c).looks;
      making = λ c. (r c).making;
      owned = λ c. (r c).owned;
      dying = λ c. (r c).dying;
      sent = λ s i. slice_index_or (r s).sent i [];
      unsent = λ s i. slice_index (r s).unsent i;
      received = λ c s. slice_index_or (r c).received s [];
      untaken = λ c s. slice_index (r c).untaken s;
      facts = λ c. (r c).facts;
      zeros = λ c. (r c).zeros;
      test = λ c. (r c).test;
      known = λ c. (r c).known;
      part = λ c. (r c).part;
      values = λ c. (r c).values;
      made = λ c. (r c).made;
    }

-- what each spot names
abbrev pub targets : Geometry → (Spot → ℕ) → View → Spot → ℕ
targets g w v = target g.clients (words_of g.wide w) (λ c. cover_of (v.op c))

-- the blocks on which steps of the own eras are committed and not closed, and the references held over
abbrev pub ons : View → ℕ → Option ℕ
ons v c = on_of (v.op c)

abbrev pub held_overs : View → ℕ → ℕ
held_overs v c = held_over_of (v.op c)
