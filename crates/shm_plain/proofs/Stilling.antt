-- the status words tell whether a pool is still
use Rattle.std.proofs.{Common.{◌≡◌, ℕ, ◌<◌, ◌⊎◌, inl, inr, refl, sym, ap, ◌∙◌, arith}, lemmas.Bool.lt-ltb}
use Rattle.std.specs.Prelude.{slice_index}
use Rattle.shm_words.specs.Layout.{address, total_of}
use Rattle.shm_words.specs.declared.place.Place.TheVariants as place
use Rattle.shm_graph.specs.declared.{spot.Spot.TheVariants.Status, memo.Status.Status as AStatus}
use Rattle.shm_graph.specs.declared.memo.Status.TheVariants.{New, Live, Dead, Gone}
use Rattle.shm_graph.specs.{Spots.{IsAt, classes_in, spot_address}, Held.status_word}
use Rattle.shm_graph.proofs.Spots.{Seeing.see_there, SpotPlaces.status_at, Spotting.at_below}
use Rattle.shm_graph.proofs.States.StillClean.{still_state_clean}
use Rattle.shm_plain.specs.{Pools.{Pool, IsRun, memo_of}, Closings.{IsClosedRun, IsStill}}

status_there : (p : Pool) (c : ℕ) → c < p.start.geometry.clients → IsAt p.start.geometry (classes_in p.start.geometry p.words) (Status c)
status_there p c l = status_at p.start.geometry (classes_in p.start.geometry p.words) c (lt-ltb c p.start.geometry.clients l)

pub status_below : (p : Pool) (c : ℕ) → c < p.start.geometry.clients → address p.start.geometry (place.Status c) < total_of p.start.geometry
unfolding spot_address
status_below p c l = at_below p.start.geometry (classes_in p.start.geometry p.words) (Status c) (status_there p c l)

-- a status word is that of the memo
pub status_read : (p : Pool) (c : ℕ) → IsRun p → c < p.start.geometry.clients → status_word (memo_of p c).status ≡ slice_index p.words (address p.start.geometry (place.Status c))
unfolding spot_address
status_read p c run l = run.held.at.state c l ∙ see_there p.start.geometry p.words (Status c) (status_there p c l)

pub out_by : (s : AStatus) → (status_word s ≡ 0) ⊎ (status_word s ≡ 3) → (s ≡ New) ⊎ (s ≡ Gone)
out_by New e = inl refl
out_by Gone e = inr refl
out_by Live e = elim e [ inl h ↦ absurd (omega (arith, h)) | inr h ↦ absurd (omega (arith, h)) ]
out_by Dead e = elim e [ inl h ↦ absurd (omega (arith, h)) | inr h ↦ absurd (omega (arith, h)) ]

-- an identity whose word is another one is at work, or wasn't recovered
pub still_word : (p : Pool) (c : ℕ) → IsRun p → c < p.start.geometry.clients → IsStill p → let x = slice_index p.words (address p.start.geometry (place.Status c)) in (x ≡ 0) ⊎ (x ≡ 3)
still_word p c run l still = elim (still c l) [
  | inl e ↦ inl (sym (status_read p c run l) ∙ ap status_word e)
  | inr e ↦ inr (sym (status_read p c run l) ∙ ap status_word e)
]

pub still_end : (p : Pool) → IsRun p → IsStill p → IsClosedRun p
still_end p run still = record {
  run = run;
  still = still;
  clean = still_state_clean p.start.geometry p.words p.accounts run.held still;
}
