-- what stays where homes, reference words and plain words are read
use Rattle.std.proofs.Common.{◌≡◌, ◌≢◌, ℕ, ◌==◌, refl, ap, ◌∙◌, true, List, [], ◌∷◌, ◌++◌, Result}
use Rattle.std.specs.Prelude.{Ok, Err, Some, IfOk, IfErr}
use Rattle.shm_graph.specs.{declared.{memo.Memo.Memo, spot.Spot.TheVariants.{Body, Home}}, Asks.Trail, Events.Event}
use Rattle.shm_graph.specs.{Held.is_loose, Idle.{IsIdle, hold_word}, Reach.{is_reached, learnt}}
use Rattle.shm_graph.specs.MemoAfterRead.{values_read}
use Rattle.shm_graph.proofs.StepKinds.Loads.{choice}
use Rattle.shm_ref.specs.declared.answer.LookFault.{LookFault, TheVariants.{NoSuchRef, NotHeld}}
use Rattle.shm_ref.specs.declared.answer.{NoSuchWord.NoSuchWord, NotHeld.NotHeld as Unheld}
use Rattle.shm_ref.specs.declared.{home_of.HomeOfState.HomeOfState, look.LookState.LookState, read.ReadState.ReadState}
use Rattle.shm_ref.specs.{HomeOf.HomeOfLeaves, Look.LookLeaves}
use Rattle.shm_ref.specs.{Proved.OnlyRead.{home_reads, look_reads, read_reads, still_reached}, Read.ReadLeaves}
use Rattle.shm_ref.specs.ReadParts.{tagged}

-- ---- a home

module _ (m : HomeOfState) (r0 r : Memo) (tr : Trail) (es : List Event) where
  pub home_of_reached : (a : Result ℕ Unheld) → HomeOfLeaves m r0 r tr es a → IfOk a (λ b. b ≢ 0 → is_reached m.me.who r b ≡ true)
  home_of_reached (Ok b) h = h.reach
  home_of_reached (Err e) h = tt

  pub home_of_other : (a : Result ℕ Unheld) → HomeOfLeaves m r0 r tr es a → IsIdle m.me.who r0 → IfErr a (λ e. r0.latch ≢ Some m.author)
  home_of_other (Ok b) h idle = tt
  home_of_other (Err e) h idle = λ same. h.other (idle.hold ∙ ap hold_word same)

  pub home_of_stays : (a : Result ℕ Unheld) → HomeOfLeaves m r0 r tr es a → (b : ℕ) → is_reached m.me.who r0 b ≡ true → is_reached m.me.who r b ≡ true
  home_of_stays a h b reach = still_reached m.me.who b r0 r (home_reads m r0 r tr es a h) reach

  pub home_of_loose : (a : Result ℕ Unheld) → HomeOfLeaves m r0 r tr es a → is_loose r.part ≡ is_loose r0.part
  home_of_loose (Ok b) h =
      ap (λ (x : Memo). is_loose x.part) h.memo
      ∙ choice (λ (x : Memo). is_loose x.part ≡ is_loose r0.part) (b == 0) r0 (record r0 { looks = r0.looks ++ record { block = b; from = Home m.author } ∷ [] }) (λ e. refl) (λ e. refl)
  home_of_loose (Err e) h = ap (λ (x : Memo). is_loose x.part) h.memo

-- ---- a reference word

module _ (m : LookState) (r0 r : Memo) (tr : Trail) (es : List Event) where
  pub look_reached : (a : Result ℕ LookFault) → LookLeaves m r0 r tr es a → IfOk a (λ b. b ≢ 0 → is_reached m.me.who r b ≡ true)
  look_reached (Ok b) h = h.reach
  look_reached (Err (NoSuchRef n)) h = tt
  look_reached (Err NotHeld) h = tt

  pub look_stays : (a : Result ℕ LookFault) → LookLeaves m r0 r tr es a → (b : ℕ) → is_reached m.me.who r0 b ≡ true → is_reached m.me.who r b ≡ true
  look_stays a h b reach = still_reached m.me.who b r0 r (look_reads m r0 r tr es a h) reach

  pub look_loose : (a : Result ℕ LookFault) → LookLeaves m r0 r tr es a → is_loose r.part ≡ is_loose r0.part
  look_loose (Ok b) h =
      let m0 : Memo = tagged m.block h.x r0 in
      ap (λ (x : Memo). is_loose x.part) h.memo
      ∙ choice (λ (x : Memo). is_loose x.part ≡ is_loose r0.part) (b == 0) (record m0 { known = learnt (Body m.block m.index) b m0.known })
      (record m0 { looks = m0.looks ++ record { block = b; from = Body m.block m.index } ∷ []; known = learnt (Body m.block m.index) b m0.known; values = values_read m0 m.block m.index b }) (λ e. refl) (λ e. refl)
  look_loose (Err (NoSuchRef n)) h = ap (λ (x : Memo). is_loose x.part) h.memo
  look_loose (Err NotHeld) h = ap (λ (x : Memo). is_loose x.part) h.memo

-- ---- a plain word

module _ (m : ReadState) (r0 r : Memo) (tr : Trail) (es : List Event) where
  pub read_stays : (a : Result ℕ NoSuchWord) → ReadLeaves m r0 r tr es a → (b : ℕ) → is_reached m.me.who r0 b ≡ true → is_reached m.me.who r b ≡ true
  read_stays a h b reach = still_reached m.me.who b r0 r (read_reads m r0 r tr es a h) reach

  pub read_loose : (a : Result ℕ NoSuchWord) → ReadLeaves m r0 r tr es a → is_loose r.part ≡ is_loose r0.part
  read_loose (Ok v) h = ap (λ (x : Memo). is_loose x.part) h.memo
  read_loose (Err e) h = ap (λ (x : Memo). is_loose x.part) h.memo
