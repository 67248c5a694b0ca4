-- what follows of the agents of a trace's scripts, each at its identity
use Rattle.std.proofs.Common.{◌≡◌, ◌≢◌, ℕ, zero, suc, ◌+◌, ◌<◌, ◌≤◌, Bool, true, false, List, [], ◌∷◌, length, refl, sym, ap, ◌∙◌, subst, arith, inl, inr}
use Rattle.std.proofs.lemmas.Bool.{cases_eq, eqb-true, true≢false}
use Rattle.std.proofs.lemmas.List.{get_or-set_other, get_or-set_same, length-set}
use Rattle.std.proofs.lemmas.Option.{slice_get_read, slice_get_within}
use Rattle.std.specs.Prelude.{◌==◌, ◌&&◌, ◌⊎◌, Option, Some, None, slice_get, slice_index_or, slice_set}
use Rattle.std.specs.Option.{is_some}
use Rattle.shm_graph.specs.{declared.{ask.Me.Me, run.{Account.Account, Start.Start}}, Runs.{account_at, first_account}}
use Rattle.shm_count.specs.Roots.{member}
use Rattle.shm_plain.specs.{Pools.{Pool, IsOf}, Working.IsWorkOf}
use Rattle.shm_script.specs.{declared.line.Item.Item, Values.{Scripted, Traced}}
use Rattle.shm_agents.specs.declared.agents.Standing.{Standing, TheVariants.{AtWork, Gone, Dead}}
use Rattle.shm_agents.specs.Agents.{Playing, AgentsStand, is_at_work, is_client}
use Rattle.shm_agents.specs.{Turns.{agent_of, answered_of, next_by, script_in}, Work.work_control}
use Rattle.shm_agents.proofs.{Standing.{IsNow, stands_answered, stands_now, stands_still}, Turning.is_of}
use Rattle.shm_replay.specs.{Orders.{IsGiven, IsUntilAnswered}, Seats.{AreSeated, IsSeat, Seat, turns_in, turns_left}}
use Rattle.shm_replay.specs.Turns.{answered, in_a_row, is_busy, is_client_busy, life_in, next_of, next_work, worked}
use Rattle.shm_replay.proofs.Giving.{idle_row}

-- ---- how they stand

-- either one of them acts or comes next, or none does
pub standing_cases : (st : Standing) → (st ≡ AtWork) ⊎ ((is_at_work st ≡ false) × (st ≢ AtWork))
standing_cases AtWork = inl refl
standing_cases Gone = inr (refl, λ e. cc)
standing_cases Dead = inr (refl, λ e. cc)

client_at : (st : Standing) (n : ℕ) → (is_at_work st && (n == 0)) ≡ true → (st ≡ AtWork) × (n ≡ 0)
client_at AtWork n e = (refl, eqb-true n 0 e)
client_at Gone n e = absurd (true≢false (sym e))
client_at Dead n e = absurd (true≢false (sym e))

-- a client at work
pub client_here : (x : Playing) → is_client x ≡ true → (x.standing ≡ AtWork) × (x.agent ≡ 0)
client_here x e = client_at x.standing x.agent e

-- ---- the agents of one identity

module _ (t : Traced) (p : Pool) (c : ℕ) (x : Playing) (h : IsSeat t p c x) where
  abbrev here : Account
  here = account_at p.accounts c

  next_is : next_of t p c ≡ next_by x.me h.script here
  next_is = ap (next_work p c) h.is ∙ ap (λ m. next_by m h.script here) (sym h.me)

  now : x.standing ≡ AtWork → IsNow h.script x here
  now e = stands_now p.start h.script x here h.stands e

  pub seat_here : x.standing ≡ AtWork → next_of t p c ≡ Some x.work
  seat_here e = let n = now e in next_is ∙ n.next

  pub seat_gone : x.standing ≢ AtWork → next_of t p c ≡ None
  seat_gone e = next_is ∙ stands_still p.start h.script x here h.stands e

  seat_life : x.standing ≡ AtWork → life_in p c (script_in t.scripts c) ≡ x.life.left
  seat_life e = let n = now e in ap (life_in p c) h.is ∙ n.life

  -- they have something to do while one of them acts or comes next
  pub seat_busy : is_busy t p c ≡ is_at_work x.standing
  seat_busy = elim (standing_cases x.standing) [
    | inl e ↦ ap is_some (seat_here e) ∙ ap is_at_work (sym e)
    | inr n ↦ ap is_some (seat_gone n.1) ∙ sym n.0
  ]

  -- and so has the client
  pub seat_client : is_client_busy t p c ≡ is_client x
  seat_client = ap (λ (b : Bool). b && (agent_of here.memo == 0)) seat_busy ∙ elim (standing_cases x.standing) [
    | inl e ↦ let n = now e in ap (λ (k : ℕ). is_at_work x.standing && (k == 0)) n.agent
    | inr n ↦ ap (λ (b : Bool). b && (agent_of here.memo == 0)) n.0 ∙ ap (λ (b : Bool). b && (x.agent == 0)) (sym n.0)
  ]

  pub seat_answered : is_client x ≡ true → answered t p c ≡ length x.entries
  seat_answered e =
      let is = client_here x e in
      ap (λ o. answered_of o here) h.is ∙ stands_answered p.start h.script x here h.stands is.0 is.1

  -- what is to be done is the identity's
  pub seat_of : x.standing ≡ AtWork → IsOf p c work_control x.work
  seat_of e = subst (λ (k : ℕ). IsWorkOf p.start k work_control x.work) (ap (λ (m : Me). m.who) h.me) (is_of p.start h.script x here h.stands.may e h.stands.stage)

  -- a word step of its work, or a death, is its turn
  pub seat_turn : (q : Pool) → x.standing ≡ AtWork → q ≡ worked (Some x.work) x.life.left c p → q ≡ in_a_row t p c 1
  seat_turn q e f =
      f ∙ (ap (λ o. worked o x.life.left c p) (sym (seat_here e))
      ∙ ap (λ (k : ℕ). worked (next_of t p c) k c p) (sym (seat_life e)))

  -- and where none has anything left to do a turn is none
  pub seat_still : x.standing ≢ AtWork → p ≡ in_a_row t p c 1
  seat_still e = ap (λ o. worked o (life_in p c (script_in t.scripts c)) c p) (sym (seat_gone e))

-- the script that they read is theirs
pub script_read : (ss : List Scripted) (k j : ℕ) (s r : Scripted) → slice_get ss k ≡ Some s → j ≡ k → r ≡ slice_index_or ss j r → slice_get ss k ≡ Some r
script_read ss k j s r at e is = ap (slice_get ss) (sym e) ∙ slice_get_read ss (length ss) j r refl (let w = slice_get_within ss k s at in omega arith) is

same_script : (a b : Scripted) → ◌≡◌ {A = Option Scripted} (Some a) (Some b) → a ≡ b
same_script a b e = cc

pub seat_stands : (t : Traced) (p : Pool) (c : ℕ) (x : Playing) (r : Scripted) → IsSeat t p c x → slice_get t.scripts x.script ≡ Some r → AgentsStand p.start r x (account_at p.accounts c)
seat_stands t p c x r h at = subst (λ (s : Scripted). AgentsStand p.start s x (account_at p.accounts c)) (same_script h.script r (sym h.at ∙ at)) h.stands

-- and they keep their place where they stand in another pool
pub seat_after : (t : Traced) (p q : Pool) (c : ℕ) (x y : Playing) (r : Scripted) → IsSeat t p c x → slice_get t.scripts x.script ≡ Some r → q.start ≡ p.start → y.me ≡ x.me → y.script ≡ x.script → AgentsStand q.start r y (account_at q.accounts c) → IsSeat t q c y
seat_after t p q c x y r h at start me script stands =
    record {
      me = me ∙ (h.me ∙ ap (λ (s : Start). member s.geometry c) (sym start));
      script = r;
      is = h.is ∙ (sym h.at ∙ at);
      at = ap (slice_get t.scripts) script ∙ at;
      stands = stands;
    }

-- ---- an identity

-- one that has no script does nothing
pub none_busy : (t : Traced) (p : Pool) (c : ℕ) → Seat t p c None → is_busy t p c ≡ false
none_busy t p c h = ap (λ o. is_some (next_work p c o)) h.0

-- turns of others leave it
pub seat_other : (t : Traced) (p q : Pool) (c : ℕ) (o : Option Playing) → q.start ≡ p.start → account_at q.accounts c ≡ account_at p.accounts c → Seat t p c o → Seat t q c o
seat_other t p q c None start same h = (h.0, same ∙ (h.1 ∙ ap (λ (s : Start). first_account s c) (sym start)))
seat_other t p q c (Some x) start same h =
    record {
      me = h.me ∙ ap (λ (s : Start). member s.geometry c) (sym start);
      script = h.script;
      is = h.is;
      at = h.at;
      stands = subst (λ (s : Start). AgentsStand s h.script x (account_at q.accounts c)) (sym start) (subst (AgentsStand p.start h.script x) (sym same) h.stands);
    }

-- ---- all

-- an element of a list is it, whatever stands past the end
pub any_or : {A : Type 0} (xs : List A) (i : ℕ) (d e : A) → i < length xs → slice_index_or xs i d ≡ slice_index_or xs i e
any_or [] i d e l = absurd (omega arith)
any_or (x ∷ xs) zero d e l = refl
any_or (x ∷ xs) (suc i) d e l = any_or xs i d e (omega arith)

pub seats_set : (t : Traced) (p q : Pool) (xs : List (Option Playing)) (c : ℕ) (y : Playing) → AreSeated t p xs → c < t.clients → q.start ≡ p.start → ((d : ℕ) → d ≢ c → account_at q.accounts d ≡ account_at p.accounts d) → IsSeat t q c y → AreSeated t q (slice_set xs c (Some y))
seats_set t p q xs c y h l start others seat =
    record {
      clients = ap (λ (s : Start). s.geometry.clients) start ∙ h.clients;
      many = length-set xs c (Some y) ∙ h.many;
      seats = λ d ld. elim (cases_eq d c) [
        | inl e ↦ subst (λ (n : ℕ). Seat t q n (slice_index_or (slice_set xs c (Some y)) n None)) (sym e) (subst (Seat t q c) (sym (get_or-set_same xs c (Some y) None (subst (λ (n : ℕ). c < n) (sym h.many) l))) seat)
        | inr n ↦ subst (Seat t q d) (sym (get_or-set_other xs c d (Some y) None n)) (seat_other t p q d (slice_index_or xs d None) start (others d n) (h.seats d ld))
      ];
    }

-- the turns left of all, where the agents of one identity have others
pub turns_set : (ss : List Scripted) (xs : List (Option Playing)) (c : ℕ) (x y : Playing) → c < length xs → slice_index_or xs c None ≡ Some x → turns_left ss (slice_set xs c (Some y)) + turns_in ss (Some x) ≡ turns_left ss xs + turns_in ss (Some y)
turns_set ss [] c x y l e = absurd (omega arith)
turns_set ss (o ∷ xs) zero x y l e = let k : turns_in ss o ≡ turns_in ss (Some x) = ap (turns_in ss) e in omega arith
turns_set ss (o ∷ xs) (suc c) x y l e = let k = turns_set ss xs c x y (omega arith) e in omega arith

-- ---- a row of turns

module _ (t : Traced) (p : Pool) (c : ℕ) where
  -- before each of so many turns the client was at work, and no more of its commands had answered
  abbrev pub Goes : ℕ → Type 0
  Goes n = (m : ℕ) → m < n → (answered t (in_a_row t p c m) c ≡ answered t p c) × (is_client_busy t (in_a_row t p c m) c ≡ true)

  pub goes_more : (n : ℕ) (q : Pool) (x : Playing) → Goes n → q ≡ in_a_row t p c n → IsSeat t q c x → is_client x ≡ true → length x.entries ≡ answered t p c → Goes (n + 1)
  goes_more n q x h e seat here same m l = elim (cases_eq m n) [
    | inl f ↦ subst (λ (k : ℕ). (answered t (in_a_row t p c k) c ≡ answered t p c) × (is_client_busy t (in_a_row t p c k) c ≡ true)) (sym f)
        (subst (λ (r : Pool). (answered t r c ≡ answered t p c) × (is_client_busy t r c ≡ true)) e (seat_answered t q c x seat here ∙ same, seat_client t q c x seat ∙ here))
    | inr o ↦ h m (omega arith)
  ]

  -- the last turn left the client nothing to do, or one more of its commands has answered
  pub until_left : (n : ℕ) (q : Pool) (x : Playing) → n ≤ 100000 → Goes n → q ≡ in_a_row t p c n → IsSeat t q c x → is_client x ≡ false → IsUntilAnswered t p c n
  until_left n q x few h e seat gone =
      record { few = few; going = h; last = inr (inr (ap (λ (r : Pool). is_client_busy t r c) (sym e) ∙ (seat_client t q c x seat ∙ gone))) }

  pub until_more : (n : ℕ) (q : Pool) (x : Playing) → n ≤ 100000 → Goes n → q ≡ in_a_row t p c n → IsSeat t q c x → is_client x ≡ true → length x.entries ≡ answered t p c + 1 → IsUntilAnswered t p c n
  until_more n q x few h e seat here more =
      record { few = few; going = h; last = inr (inl (ap (λ (r : Pool). answered t r c) (sym e) ∙ (seat_answered t q c x seat here ∙ more))) }

  pub until_many : Goes 100000 → IsUntilAnswered t p c 100000
  until_many h = record { few = omega arith; going = h; last = inl refl }

-- an identity without a script has no turn
pub none_given : (t : Traced) (p : Pool) (i : Item) → Seat t p i.client None → (n : ℕ) × IsGiven t p i n × (p ≡ in_a_row t p i.client n)
none_given t p i h = go i.turns refl
  where
    idle : is_busy t p i.client ≡ false
    idle = none_busy t p i.client h

    idle_client : is_client_busy t p i.client ≡ false
    idle_client = ap (λ (b : Bool). b && (agent_of (account_at p.accounts i.client).memo == 0)) (none_busy t p i.client h)

    go : (k : ℕ) → i.turns ≡ k → (n : ℕ) × IsGiven t p i n × (p ≡ in_a_row t p i.client n)
    go zero e = (0, record { counted = λ o. absurd (o e); bare = λ z. record { few = omega arith; going = λ m l. absurd (omega arith); last = inr (inr idle_client) } }, refl)
    go (suc k) e = (i.turns, record { counted = λ o. refl; bare = λ z. absurd (let y : i.turns ≡ suc k = e in omega arith) }, sym (idle_row t p i.client i.turns idle))

pub no_script_busy : (t : Traced) (p : Pool) (c : ℕ) → script_in t.scripts c ≡ None → is_busy t p c ≡ false
no_script_busy t p c e = ap (λ o. is_some (next_work p c o)) e
