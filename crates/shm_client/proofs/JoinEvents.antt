-- a join is no event
use Rattle.std.proofs.{Common.{◌≡◌, ℕ, [], ◌∷◌, refl, ap}, lemmas.Bool.lt-ltb}
use Rattle.shm_words.specs.declared.place.Place.TheVariants as place
use Rattle.shm_graph.specs.{declared.spot.Spot.Spot, Asks.Trail, Blocks.classes, Events.{Event, Nothing}}
use Rattle.shm_graph.specs.{Laws.{Control, event_on, framed}, Tells.{Tells, happens_along}}
use Rattle.shm_graph.proofs.Spots.SpotPlaces.{spot-place}
use Rattle.shm_recover.specs.Join.{JoinFits, join_control}

-- no event
abbrev pub none_of : {S : Type 0} → S → ℕ → Event
none_of m n = Nothing

-- nothing happens along what tells of no event
pub none_along : {S A : Type 0} (k : Control S A) (m : S) (tr : Trail) → happens_along k none_of m tr ≡ []
none_along k m [] = refl
none_along k m (x ∷ tr) = none_along k (k.after m x.word) tr

-- its word step stores its status
pub join_tells : Tells join_control JoinFits none_of
join_tells m r0 tr w r f going st fit =
    ap (λ (p : Spot). event_on (r m.me.who) (framed m.me (join_control.asks m) f 0) p) (spot-place m.me.geometry (classes w) (place.Status m.me.who) (lt-ltb m.me.who m.me.geometry.clients st.who))
