-- the load of the own home as a part, whether the own latch is held or not: what is proved of it
use Rattle.std.proofs.Common.{◌≡◌, ℕ, ◌<◌, refl, sym, ap, ◌∙◌, Bool, not, eqb, ◌&&◌, false, [], ◌∷◌, ◌++◌}
use Rattle.std.proofs.lemmas.Bool.{eq-eqb, lt-ltb}
use Rattle.shm_words.specs.declared.place.Place.TheVariants as place
use Rattle.shm_graph.specs.declared.{ask.{Ask.TheVariants.Load, Me.Me}, memo.{Memo.Memo, Step.Step}}
use Rattle.shm_graph.specs.{declared.spot.Spot.TheVariants.Home, Changes.called, Core.core, Laws.framed}
use Rattle.shm_graph.specs.{MemoAfterRead.{home_read, is_held}, Spots.spot_at, Views.own_word}
use Rattle.shm_graph.proofs.Spots.SpotPlaces.{spot-place}
use Rattle.plans.specs.Proved.WordSteps.{load_at}
use Rattle.kind_parts.proofs.{Cores.core_cond, Words.Own.at_step}
use Rattle.shm_ref.specs.HomeParts.{home_address, OwnHomeRead, home_part}

-- what a home that was read leaves is in the core
home_of_core : (a n : ℕ) (x : Memo) → core (home_read x a n) ≡ core (home_read (core x) a n)
home_of_core a n x = core_cond (is_held x.latch a && not (eqb n 0)) (record x { looks = x.looks ++ record { block = n; from = Home a } ∷ [] }) x _ _ refl refl

pub home_needs : (me : Me) (first : Bool) (m : Memo) → me.who < me.geometry.clients → (home_part me first).needs (record { me = me; ask = Load (home_address me); over = false }) m
home_needs me first m l =
    let c = me.who in
    let there : (class : ℕ → ℕ → ℕ) → spot_at me.geometry class (home_address me) ≡ Home c = λ class. spot-place me.geometry class (place.Home c) (lt-ltb c me.geometry.clients l) in
    load_at first me (home_address me) (OwnHomeRead c) m (Home c) there (λ e. cc) refl tt
    (λ w r f st stands same. let t : Step = framed me (Load (home_address me)) f (w (Home c)) in
    record {
      found = sym (st.held.mine c st.who (Home c) (eq-eqb c c refl)) ∙ ap (λ (y : Memo). own_word y.own (Home c)) same;
      left = home_of_core c (w (Home c)) (called (r c) t) ∙ (ap (λ (y : Memo). core (home_read y c (w (Home c)))) (at_step r c m t same) ∙ sym (home_of_core c (w (Home c)) m));
      read = tt;
    })
