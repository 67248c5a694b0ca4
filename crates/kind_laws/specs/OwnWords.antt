-- the kinds of step that store own words: the words of the redo record, a row, the own era, a tail, a head and the hold word: what each needs, and what it makes of the memos
use Rattle.std.specs.Prelude.{◌≡◌, ◌≢◌, ℕ, ◌+◌, ◌^◌, ◌<◌, ◌≤◌, true, ◌&&◌, ◌==◌, if◌then◌else◌, [], ◌∷◌, ◌++◌, None}
use Rattle.std.specs.List.{Contains}
use Rattle.shm_words.specs.{Headers.header_of, declared.geometry.Geometry.Geometry}
use Rattle.shm_graph.specs.declared.spot.Spot.{Spot}
use Rattle.shm_graph.specs.declared.spot.Spot.TheVariants.{Redo, RedoMore, Hold, Era, Tail, QueueHead, Page, Head, Tag}
use Rattle.shm_graph.specs.declared.memo.{First.TheVariants.Written, Op.Op}
use Rattle.shm_graph.specs.declared.memo.Op.TheVariants.{Nothing, Alloc, Up, Down, Change}
use Rattle.shm_graph.specs.declared.memo.ChangeStage.TheVariants.{Raising, Lowering}
use Rattle.shm_graph.specs.declared.memo.{Second.TheVariants.{Open, Closed}, Fact.TheVariants.Header as HeaderRead}
use Rattle.shm_graph.specs.{Spots.IsAt, References.words_of, Ops.{cover_of, on_of, held_over_of, slot_of, is_op, Quiet}}
use Rattle.shm_graph.specs.Views.{View, targets, at1}
use Rattle.shm_graph.specs.Held.{Allowed, OpTie, RedoTie, IsSecond, room_of, reach_of, SlotOf}
use Rattle.shm_graph.specs.declared.memo.Status.TheVariants as status

-- ---- the store of a redo record, in format 2 of its first word, which begins an op

pub record BeginNeeds (g : Geometry) (w : Spot → ℕ) (v : View) (c x : ℕ) (o : Op) : Type 0 where
  pub inside : c < g.clients
  pub acts : v.status c ≢ status.New
  pub here : v.status c ≢ status.Gone
  pub place : IsAt g (λ s q. w (Page s q)) (Redo c)
  pub small : x < 2 ^ 64
  pub op : v.op c ≡ Nothing
  pub on : on_of o ≡ None
  pub held_over : held_over_of o ≡ 0
  pub quiet : cover_of o ≡ Quiet
  pub room : w (Era c c) + room_of o ≤ 2 ^ 47
  pub tie : OpTie g (λ s q. w (Page s q)) x (w (RedoMore c)) (w (Era c c)) (words_of g.wide w) o
  pub names : RedoTie g (λ s q. w (Page s q)) x (w (RedoMore c))
  pub allowed : Allowed c o
  pub slot : is_op o ≡ true → SlotOf g.wide c (λ i. header_of (w (Head i))) (λ i. w (Tag i)) (v.latch c) (λ s r. w (Tail s r)) (λ s r. w (QueueHead s r)) (reach_of (targets g w v) (λ s r. w (Tail s r)) (λ s r. w (QueueHead s r)) v.looks c) (slot_of o)

abbrev pub begin_view : View → ℕ → ℕ → Op → View
begin_view v c x o =
    record v {
      own = at1 v.own c (record { spot = Redo c; value = x } ∷ v.own c);
      op = at1 v.op c o;
      test = at1 v.test c None;
    }

-- ---- in format 2 the store of the second word of a redo record, which finds no op and begins none

pub record MoreNeeds (g : Geometry) (w : Spot → ℕ) (v : View) (c x : ℕ) : Type 0 where
  pub inside : c < g.clients
  pub acts : v.status c ≢ status.New
  pub here : v.status c ≢ status.Gone
  pub place : IsAt g (λ s q. w (Page s q)) (RedoMore c)
  pub small : x < 2 ^ 64
  pub op : v.op c ≡ Nothing
  pub second : IsSecond g (λ s q. w (Page s q)) x

abbrev pub more_view : View → ℕ → ℕ → View
more_view v c x =
    record v {
      own = at1 v.own c (record { spot = RedoMore c; value = x } ∷ v.own c);
      test = at1 v.test c None;
    }

-- ---- the store of a row

pub record RowNeeds (g : Geometry) (w : Spot → ℕ) (v : View) (c j x : ℕ) : Type 0 where
  pub inside : c < g.clients
  pub acts : v.status c ≢ status.New
  pub here : v.status c ≢ status.Gone
  pub other : c ≢ j
  pub place : IsAt g (λ s q. w (Page s q)) (Era c j)
  pub more : w (Era c j) ≤ x
  pub read : (y : ℕ) × Contains (v.facts c) (HeaderRead y) × ((header_of y).live ≡ true) × ((header_of y).client ≡ j) × (x ≤ (header_of y).era)

abbrev pub row_store_view : View → ℕ → ℕ → ℕ → View
row_store_view v c j x =
    record v {
      own = at1 v.own c (record { spot = Era c j; value = x } ∷ v.own c);
      test = at1 v.test c None;
    }

-- ---- the store of the own era, which closes an op or the first half of a change

abbrev pub Closes : Op → Op → Type 0
Closes (Alloc Written p b e) o = o ≡ Nothing
Closes (Up Written p b e) o = o ≡ Nothing
Closes (Down Written p b e) o = o ≡ Nothing
Closes (Change (Raising Written) p a b e) o = o ≡ Change (Lowering Open) p a b (e + 1)
Closes (Change (Lowering Closed) p a b e) o = o ≡ Nothing
Closes _ o = ⊥

pub record CloseNeeds (g : Geometry) (v : View) (c : ℕ) (o : Op) : Type 0 where
  pub inside : c < g.clients
  pub acts : v.status c ≢ status.New
  pub here : v.status c ≢ status.Gone
  pub op : Closes (v.op c) o

abbrev pub close_view : View → ℕ → ℕ → Op → View
close_view v c x o =
    record v {
      own = at1 v.own c (record { spot = Era c c; value = x } ∷ v.own c);
      op = at1 v.op c o;
      test = at1 v.test c None;
    }

-- ---- the store of a tail, and of a head

abbrev pub at2 : {T : Type 0} → (ℕ → ℕ → T) → ℕ → ℕ → T → ℕ → ℕ → T
at2 f s r x i j = if (s == i) && (r == j) then x else f i j

pub record TailNeeds (g : Geometry) (w : Spot → ℕ) (v : View) (c r : ℕ) : Type 0 where
  pub inside : c < g.clients
  pub to : r < g.clients
  pub other : c ≢ r
  pub acts : v.status c ≢ status.New
  pub here : v.status c ≢ status.Gone
  pub op : v.op c ≡ Nothing
  pub some : v.unsent c r ≢ 0
  pub place : IsAt g (λ s q. w (Page s q)) (Tail c r)

abbrev pub tail_view : View → ℕ → ℕ → ℕ → View
tail_view v c r x =
    record v {
      own = at1 v.own c (record { spot = Tail c r; value = x } ∷ v.own c);
      sent = at2 v.sent c r (v.sent c r ++ v.unsent c r ∷ []);
      unsent = at2 v.unsent c r 0;
      test = at1 v.test c None;
    }

pub record QueueHeadNeeds (g : Geometry) (w : Spot → ℕ) (v : View) (c s : ℕ) : Type 0 where
  pub inside : c < g.clients
  pub from : s < g.clients
  pub other : s ≢ c
  pub acts : v.status c ≢ status.New
  pub here : v.status c ≢ status.Gone
  pub op : v.op c ≡ Nothing
  pub some : v.untaken c s ≢ 0
  pub place : IsAt g (λ i q. w (Page i q)) (QueueHead s c)

abbrev pub head_view : View → ℕ → ℕ → ℕ → View
head_view v c s x =
    record v {
      own = at1 v.own c (record { spot = QueueHead s c; value = x } ∷ v.own c);
      received = at2 v.received c s (v.received c s ++ v.untaken c s ∷ []);
      untaken = at2 v.untaken c s 0;
      test = at1 v.test c None;
    }

-- ---- the store of the own hold word, where no latch is held

-- x is 0, or one more than the identity whose latch is to be taken
pub record HoldNeeds (g : Geometry) (w : Spot → ℕ) (v : View) (c x : ℕ) : Type 0 where
  pub inside : c < g.clients
  pub acts : v.status c ≢ status.New
  pub here : v.status c ≢ status.Gone
  pub none : v.latch c ≡ None
  pub most : x ≤ g.clients
  pub place : IsAt g (λ s q. w (Page s q)) (Hold c)

abbrev pub hold_view : View → ℕ → ℕ → View
hold_view v c x =
    record v {
      own = at1 v.own c (record { spot = Hold c; value = x } ∷ v.own c);
      test = at1 v.test c None;
    }
