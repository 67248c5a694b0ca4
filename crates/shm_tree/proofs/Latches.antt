-- What a client leaves that takes its latch, gives it back, or asks what a root names.
use Rattle.std.proofs.Common.{◌≡◌, ◌≢◌, ℕ, ◌+◌, ◌<◌, Bool, true, false, List, [], ◌∷◌, ◌++◌, refl, sym, ap, ◌∙◌, subst, arith}
use Rattle.std.proofs.lemmas.{Bool.{lt-ltb, false≢true}, List.get_or-set_other}
use Rattle.std.specs.Prelude.{Option, Some, None, Ok, Err, slice_index, slice_set, nat_lt, if◌then◌else◌}
use Rattle.shm_words.specs.{declared.geometry.Geometry.Geometry, Layout.{address, place_at}}
use Rattle.shm_words.specs.declared.place.Place.TheVariants as place
use Rattle.shm_words.proofs.Placing.{place-address}
use Rattle.shm_graph.specs.declared.{ask.Me.Me, memo.Memo.Memo, run.{Move.{Move, TheVariants.Begins}, Start.Start}}
use Rattle.shm_graph.specs.{declared.spot.Spot.TheVariants.Latch, Agents.acts, Asks.Trail, Events.Event}
use Rattle.shm_graph.specs.{Runs.{Leads, first_state}, Spots.{classes_in, see, spot_address}, Tells.machine_steps}
use Rattle.shm_graph.proofs.Spots.{Fixed.fixed_is_at, Seeing.see_there}
use Rattle.plans.specs.{CallsControl.{calls_control, calls_of}, Words.word_control}
use Rattle.shm_plain.specs.{Calls.{TookSteps, state_of, words}, Pools.{Pool, memo_of}, Tracks.kind_next}
use Rattle.shm_plain.proofs.OwnTurns.{leads_after}
use Rattle.shm_count.specs.Roots.{member}
use Rattle.shm_ref.specs.{declared.answer.Busy.Busy, Hold.{Control.{busy_trail, holding, hold_steered}, HoldLeaves}}
use Rattle.shm_ref.specs.{Release.Released, RootOf.Named}
use Rattle.shm_ref.proofs.LatchKeeps.{hold_held, hold_loose, hold_reaches, hold_roots, hold_waiting, release_loose, release_roots, release_waiting}
use Rattle.shm_tree.specs.{Keeping.IsStill, Working.{IsReached, IsSameLatch, IsWorking, Reaches}}
use Rattle.shm_tree.proofs.{Alive.{IsOn, before, homeless_none, still, works}, Findings.{core_quiet, quiet_self}}
use Rattle.shm_tree.proofs.{Nodes.{calm_first, calm_held}, Shares.{same_reaches, same_roots}}

-- the word of the first latch
latch_word : (g : Geometry) (ws : List ℕ) → 0 < g.clients → see g ws (Latch 0) ≡ slice_index ws (address g (place.Latch 0))
unfolding spot_address
latch_word g ws l = see_there g ws (Latch 0) (fixed_is_at g (classes_in g ws) (Latch 0) refl (lt-ltb 0 g.clients l))

module _ (p q : Pool) (es : List Event) (on : IsOn p q es) where
  abbrev me : Me
  me = member p.start.geometry 0

  abbrev r0 : Memo
  r0 = memo_of p 0

  abbrev r : Memo
  r = memo_of q 0

  abbrev tr : Trail
  tr = r.call

  -- ---- what a root names

  module _ (k b : ℕ) (h : Named me k r0 r tr es b) where
    pub named_works : IsWorking q
    named_works = works p q es on (core_quiet r0 r0 r h.memo (quiet_self r0)) (homeless_none es h.none) (ap (λ (x : Memo). x.dying) h.memo)

    pub named_still : IsStill p q
    named_still = still p q es on h.none (same_roots p q es on h.memo) (ap (λ (x : Memo). x.dying) h.memo)

    pub named_latch : IsSameLatch p q
    named_latch = ap (λ (x : Memo). x.latch) h.memo

    pub named_reaches : Reaches p q
    named_reaches = same_reaches p q es on h.memo

    pub named_reached : k < 16 → IsReached q b
    named_reached low some = named_works.reached k b low some (same_roots p q es on h.memo k ∙ sym h.names)

  -- ---- the latch

  module _ (h : Released me r0 r tr es) where
    pub released_works : IsWorking q
    released_works = works p q es on (record { loose = release_loose me r0 r tr es h; unsent = (release_waiting me r0 r tr es h).unsent; untaken = (release_waiting me r0 r tr es h).untaken }) (homeless_none es h.none) (release_waiting me r0 r tr es h).dying

    pub released_still : IsStill p q
    released_still = still p q es on h.none (release_roots me r0 r tr es h) (release_waiting me r0 r tr es h).dying

  module _ (u : Unit {0}) (h : HoldLeaves (holding me 0) r0 r tr es (Ok u)) where
    pub held_works : IsWorking q
    held_works = let w = hold_waiting (holding me 0) r0 r tr es (Ok u) h in works p q es on (record { loose = hold_loose (holding me 0) r0 r tr es (Ok u) h; unsent = w.unsent; untaken = w.untaken }) (homeless_none es h.none) w.dying

    pub held_still : IsStill p q
    held_still = still p q es on h.none (hold_roots (holding me 0) r0 r tr es (Ok u) h) (hold_waiting (holding me 0) r0 r tr es (Ok u) h).dying

    pub held_latch : r.latch ≡ Some 0
    held_latch = hold_held (holding me 0) r0 r tr es (Ok u) h

    pub held_reaches : Reaches p q
    held_reaches d reach = hold_reaches (holding me 0) r0 r tr es (Ok u) h d ∙ reach

  -- the latch word is 0 where none is held
  latch_free : r0.latch ≡ None → slice_index p.words (address p.start.geometry (place.Latch 0)) ≡ 0
  latch_free none =
      let cp = before p q es on in
      let held = calm_held p cp in
      let g = p.start.geometry in
      let word = latch_word g p.words (calm_first p cp) in
      let most = held.sizes.latches 0 in
      let one = cp.one in
      let free : see g p.words (Latch 0) ≢ 1 = λ e. none_some r0.latch none ((held.latch 0 (calm_first p cp)).all 0 e) in
      sym word ∙ omega (arith, most, one, free)
    where
      none_some : (o : Option ℕ) → o ≡ None → o ≡ Some 0 → ⊥
      none_some None a b = cc
      none_some (Some x) a b = cc

  -- so that nobody is found to hold it
  pub hold_free : (e : Busy) → r0.latch ≡ None → HoldLeaves (holding me 0) r0 r tr es (Err e) → TookSteps (calls_control word_control hold_steered) 0 p (calls_of hold_steered (holding me 0)) q → ⊥
  hold_free e none h t =
      let g : Geometry = p.start.geometry in
      let k = calls_control word_control hold_steered in
      let m = calls_of hold_steered (holding me 0) in
      let told : t.trail ≡ busy_trail me 0 e.holder = sym t.call ∙ h.trail in
      let grew : q.turns ≡ p.turns ++ words (machine_steps k m (busy_trail me 0 e.holder)) =
      t.grew ∙ (ap (λ ts. ts ++ words (machine_steps k m t.trail)) (turns_same (acts r0) on.working.work.acts) ∙ ap (λ (z : Trail). p.turns ++ words (machine_steps k m z)) told) in
      let all : Leads g (first_state p.start) q.turns (state_of q) = subst (λ (s : Start). Leads s.geometry (first_state s) q.turns (state_of q)) on.start on.run.leads in
      let led : Leads g (state_of p) (words (machine_steps k m (busy_trail me 0 e.holder))) (state_of q) =
      leads_after g (first_state p.start) p.turns (words (machine_steps k m (busy_trail me 0 e.holder))) (state_of p) (state_of q) on.working.run.leads (subst (λ (ms : List Move). Leads g (first_state p.start) ms (state_of q)) grew all) in
      let free = latch_free none in
      let seen : e.holder + 1 ≡ slice_index (slice_set p.words (address g (place.Hold 0)) 1) (address g (place.Latch 0)) = led.2.0.0 in
      let other : slice_index (slice_set p.words (address g (place.Hold 0)) 1) (address g (place.Latch 0)) ≡ slice_index p.words (address g (place.Latch 0)) = get_or-set_other p.words (address g (place.Hold 0)) (address g (place.Latch 0)) 1 0 apart in
      omega (arith, seen, other, free)
    where
      turns_same : (b : Bool) → b ≡ true → (if b then p.turns else p.turns ++ Begins 0 (kind_next r0) ∷ []) ≡ p.turns
      turns_same true x = refl
      turns_same false x = absurd (false≢true x)

      apart : address p.start.geometry (place.Latch 0) ≢ address p.start.geometry (place.Hold 0)
      apart x = cc_places (sym (place-address p.start.geometry (place.Latch 0) in_pool) ∙ (ap (place_at p.start.geometry) x ∙ place-address p.start.geometry (place.Hold 0) in_pool))
        where
          in_pool : nat_lt 0 p.start.geometry.clients ≡ true
          in_pool = lt-ltb 0 p.start.geometry.clients (calm_first p (before p q es on))

          cc_places : place.Latch 0 ≡ place.Hold 0 → ⊥
          cc_places y = cc
