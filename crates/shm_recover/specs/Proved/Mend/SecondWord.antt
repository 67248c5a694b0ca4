-- the load of the second word of the redo record, which a pool of format 2 has
use Rattle.std.proofs.{Common.{◌≡◌, ℕ, ◌<◌, refl, sym, ap, ◌∙◌, true, false}, lemmas.Bool.{and_from, eq-eqb, lt-ltb}}
use Rattle.shm_words.specs.Layout.{address}
use Rattle.shm_words.specs.declared.place.Place.TheVariants as place
use Rattle.shm_graph.specs.{declared.{ask.{Ask.TheVariants.Load, Me.Me}, memo.Memo.Memo}, Laws.framed, Views.own_word}
use Rattle.shm_graph.specs.declared.spot.Spot.TheVariants as spot
use Rattle.shm_graph.proofs.Spots.SpotPlaces.{spot-place}
use Rattle.plans.specs.{Words.IsWord, Proved.WordSteps.load_at}
use Rattle.kind_parts.specs.WordParts.{OwnLoaded}
use Rattle.kind_parts.proofs.Words.Own.{at_step, word_for}

pub more_load : (me : Me) (m : Memo) → me.who < me.geometry.clients → me.geometry.wide ≡ true → IsWord false me (Load (address me.geometry (place.RedoMore me.who))) (OwnLoaded (spot.RedoMore me.who)) (word_for me (Load (address me.geometry (place.RedoMore me.who)))) m
more_load me m l wide =
    let c : ℕ = me.who in
    load_at false me (address me.geometry (place.RedoMore c)) (OwnLoaded (spot.RedoMore c)) m (spot.RedoMore c)
    (λ class. spot-place me.geometry class (place.RedoMore c) (and_from _ _ wide (lt-ltb c me.geometry.clients l))) (λ e. cc) refl tt
    (λ w r f st stands same. record {
      found = sym (st.held.mine c st.who (spot.RedoMore c) (eq-eqb c c refl)) ∙ ap (λ (x : Memo). own_word x.own (spot.RedoMore c)) same;
      left = at_step r c m (framed me (Load (address me.geometry (place.RedoMore c))) f (w (spot.RedoMore c))) same;
      read = tt;
    })
