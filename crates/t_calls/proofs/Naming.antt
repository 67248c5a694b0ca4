-- what a root names, as the words of a pool say it
use Rattle.std.proofs.{Common.{◌≡◌, ℕ, ◌<◌, refl, ◌∙◌}, lemmas.Bool.{and_from, eq-eqb, lt-ltb}}
use Rattle.std.specs.Prelude.{slice_index}
use Rattle.shm_words.specs.Layout.{address, total_of}
use Rattle.shm_words.specs.declared.place.Place.TheVariants as place
use Rattle.shm_graph.specs.{declared.spot.Spot.TheVariants.Root, Spots.{IsAt, classes_in, spot_address}}
use Rattle.shm_graph.proofs.Spots.{Fixed.fixed_is_at, Seeing.see_there, Spotting.at_below}
use Rattle.shm_plain.specs.Pools.{Pool, IsRun, memo_of}
use Rattle.shm_count.specs.Roots.{root_word}

module _ (p : Pool) (c k : ℕ) (l : c < p.start.geometry.clients) (s : k < 16) where
  root_at : IsAt p.start.geometry (classes_in p.start.geometry p.words) (Root c k)
  root_at = fixed_is_at p.start.geometry (classes_in p.start.geometry p.words) (Root c k) refl (and_from _ _ (lt-ltb c p.start.geometry.clients l) (lt-ltb k 16 s))

  pub root_below : address p.start.geometry (place.Root c k) < total_of p.start.geometry
  unfolding spot_address
  root_below = at_below p.start.geometry (classes_in p.start.geometry p.words) (Root c k) root_at

  pub root_read : IsRun p → root_word c (memo_of p c) k ≡ slice_index p.words (address p.start.geometry (place.Root c k))
  unfolding spot_address
  root_read run = run.held.at.mine c l (Root c k) (eq-eqb c c refl) ∙ see_there p.start.geometry p.words (Root c k) root_at
