-- the agents of a trace's scripts, after the turns that it gives
use Rattle.std.proofs.{Common.{◌≡◌, ℕ, ◌<◌, List, [], ◌∷◌, refl, sym, ap, ◌∙◌, subst, inl, inr}, lemmas.Bool.cases_eq}
use Rattle.std.specs.Prelude.{◌⊎◌, Option, Some, None}
use Rattle.shm_graph.specs.{declared.run.Start.Start, Views.at1}
use Rattle.shm_graph.proofs.Runs.Lists.{at1_here, at1_other}
use Rattle.plans.specs.Deciding.{Foretells}
use Rattle.shm_plain.specs.Pools.{IsRun, Pool}
use Rattle.shm_script.specs.Values.{Scripted, Traced}
use Rattle.shm_table.specs.Command.{command_by, command_control, command_effect}
use Rattle.shm_agents.specs.{Agents.Playing, Turns.script_in}
use Rattle.shm_agents.proofs.Dying.{CommandMaps}
use Rattle.shm_replay.specs.{Replays.start_of, Seats.Seat, Turns.{given, life_in, next_of, next_work, worked}}
use Rattle.shm_replay.proofs.Seating.{seat_other, seat_still, seat_turn, standing_cases}
use Rattle.shm_effects.proofs.Turns.{IsTurn, taken}

-- ---- a pool on the way

module _ (maps : CommandMaps) (tells : Foretells command_control (λ a. a) command_effect command_by) (t : Traced) (low : (d : ℕ) (s : Scripted) → script_in t.scripts d ≡ Some s → d < t.clients) where
  -- the agents of all identities
  pub record IsPlayed (p : Pool) (xs : ℕ → Option Playing) : Type 0 where
    pub run : IsRun p
    pub start : p.start ≡ start_of t
    pub seats : (d : ℕ) → d < t.clients → Seat t p d (xs d)

  few : (p : Pool) → p.start ≡ start_of t → (d : ℕ) → d < t.clients → d < p.start.geometry.clients
  few p start d l = subst (λ (s : Start). d < s.geometry.clients) (sym start) l

  -- ---- one turn

  -- nothing changes, or the agents of d take a turn
  abbrev Next : Pool → Pool → ℕ → Type 0
  Next p q d = (q ≡ p) ⊎ IsTurn t p q d

  abbrev after : Pool → ℕ → Pool
  after p d = worked (next_of t p d) (life_in p d (script_in t.scripts d)) d p

  next_pool : (p : Pool) (xs : ℕ → Option Playing) → IsPlayed p xs → (d : ℕ) → Next p (after p d) d
  next_pool p xs is d = go (script_in t.scripts d) refl
    where
      at : (s : Scripted) → script_in t.scripts d ≡ Some s → (o : Option Playing) → Seat t p d o → Next p (after p d) d
      at s e None h = absurd (let z : ◌≡◌ {A = Option Scripted} (Some s) None = sym e ∙ h.0 in cc)
      at s e (Some y) h =
          elim (standing_cases y.standing) [
            | inr n ↦ inl (sym (seat_still t p d y h n.1))
            | inl here ↦ (
                let turn : worked (Some y.work) y.life.left d p ≡ after p d = seat_turn t p d y h (worked (Some y.work) y.life.left d p) here refl in
                inr (subst (λ (q : Pool). IsTurn t p q d) turn (taken maps tells t p is.run d (few p is.start d (low d s e)) y h here))
                )
          ]

      go : (o : Option Scripted) → script_in t.scripts d ≡ o → Next p (after p d) d
      go None e = inl (ap (λ (o : Option Scripted). worked (next_work p d o) (life_in p d o) d p) e)
      go (Some s) e = at s e (xs d) (is.seats d (low d s e))

  played_after : (p q : Pool) (xs : ℕ → Option Playing) → IsPlayed p xs → (d : ℕ) → (turn : IsTurn t p q d) → IsPlayed q (at1 xs d (Some turn.next))
  played_after p q xs is d turn =
      record {
        run = turn.run;
        start = turn.start ∙ is.start;
        seats = λ k l. elim (cases_eq d k) [
          | inl e ↦ subst (λ (n : ℕ). Seat t q n (at1 xs d (Some turn.next) n)) e (subst (Seat t q d) (sym (at1_here xs d (Some turn.next))) turn.seat)
          | inr n ↦ subst (Seat t q k) (sym (at1_other xs d (Some turn.next) k n)) (seat_other t p q k (xs k) turn.start (turn.others k (λ z. n (sym z))) (is.seats k l))
        ];
      }

  -- ---- all turns

  pub all_played : (cs : List ℕ) (p : Pool) (xs : ℕ → Option Playing) → IsPlayed p xs → (fin : Pool) → fin ≡ given t p cs → (ys : ℕ → Option Playing) × IsPlayed fin ys
  all_played [] p xs is fin e = (xs, subst (λ (q : Pool). IsPlayed q xs) (sym e) is)
  all_played (d ∷ cs) p xs is fin e =
      elim (next_pool p xs is d) [
        | inl same ↦ all_played cs p xs is fin (e ∙ ap (λ (q : Pool). given t q cs) same)
        | inr turn ↦ all_played cs (after p d) (at1 xs d (Some turn.next)) (played_after p (after p d) xs is d turn) fin e
      ]
