-- the kinds of step of a segment's word and of a page's class: what each needs, and what it makes of the memos
use Rattle.std.specs.Prelude.{◌≡◌, ◌≢◌, ℕ, ◌+◌, ◌^◌, ◌<◌, ◌≤◌, ◌&&◌, ◌==◌, if◌then◌else◌, ◌∷◌, ◌++◌, None}
use Rattle.std.specs.List.{Contains, filter}
use Rattle.shm_words.specs.{declared.geometry.Geometry.Geometry, Classes.IsClass}
use Rattle.shm_graph.specs.declared.{spot.Spot.{Spot, TheVariants.{Page, Segment}}, memo.Fact.TheVariants.Class}
use Rattle.shm_graph.specs.{Spots.IsAt, MemoAfterStore.{other_than, not_segment, outside_of}, Views.{View, at1}}
use Rattle.shm_graph.specs.declared.memo.Status.TheVariants as status

-- ---- the exchange by which a segment that nobody owns becomes the identity's

-- pages of the segment may have classes and live blocks, so nothing is known of them
pub record ClaimNeeds (g : Geometry) (w : Spot → ℕ) (v : View) (c s : ℕ) : Type 0 where
  pub inside : c < g.clients
  pub acts : v.status c ≢ status.New
  pub here : v.status c ≢ status.Gone
  pub free : w (Segment s) ≡ 0
  pub place : IsAt g (λ i q. w (Page i q)) (Segment s)

abbrev pub claim_view : View → ℕ → ℕ → View
claim_view v c s =
    record v {
      owned = at1 v.owned c (s ∷ v.owned c);
      test = at1 v.test c None;
    }

-- ---- the store that gives an own segment up

-- no block is prepared, which could stand in the segment
pub record SegmentBackNeeds (g : Geometry) (v : View) (c s : ℕ) : Type 0 where
  pub inside : c < g.clients
  pub acts : v.status c ≢ status.New
  pub here : v.status c ≢ status.Gone
  pub making : v.making c ≡ None
  pub owned : Contains (v.owned c) s

-- classes that were read stay, for a page never loses its class; what was read as 0 may change once another owns the segment
abbrev pub segment_back_view : Geometry → View → ℕ → ℕ → View
segment_back_view g v c s =
    record v {
      owned = at1 v.owned c (filter (not_segment s) (v.owned c));
      zeros = at1 v.zeros c (filter (outside_of g s) (v.zeros c));
      test = at1 v.test c None;
    }

-- ---- the store of a page's class

pub record ClassNeeds (g : Geometry) (w : Spot → ℕ) (v : View) (c s q k : ℕ) : Type 0 where
  pub inside : c < g.clients
  pub acts : v.status c ≡ status.Live
  pub page : IsAt g (λ i j. w (Page i j)) (Page s q)
  pub read : Contains (v.zeros c) (Page s q)
  pub class : IsClass k

abbrev pub class_view : View → ℕ → ℕ → ℕ → ℕ → View
class_view v c s q k =
    record v {
      zeros = at1 v.zeros c (filter (other_than (Page s q)) (v.zeros c));
      facts = at1 v.facts c (Class s q k ∷ v.facts c);
      test = at1 v.test c None;
    }
