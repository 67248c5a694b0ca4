-- many word steps at one site: of a machine, by its control, and of a session
use Rattle.std.specs.Prelude.{◌≡◌, ℕ, zero, suc, Bool, true, false, Option, Some, None}
use Rattle.shm_graph.specs.{declared.ask.Ask.Ask, Laws.{Control, Outcome}}
use Rattle.shm_session.specs.{declared.said.Stage.Stage, Sessions.{Operations, Turned, next_said, told}}

-- how those of a machine end: how many more could have been made, the machine, the words, and its answer
pub record Worked (S W A : Type 0) : Type 0 where
  pub left : ℕ
  pub machine : S
  pub words : W
  pub answer : Option A

-- what holds after a word step, by its answer and by whether it is finished: one fact where it goes on, and one of what it answered where it doesn't
abbrev pub OnOrOver : {A : Type 0} → Option A → Bool → Type 0 → (Option A → Type 0) → Type 0
OnOrOver None false P Q = P
OnOrOver None true P Q = Q None
OnOrOver (Some a) over P Q = Q (Some a)

module _ {S A W : Type 0} (k : Control S A) (made : W → Ask → W → Type 0) (seen : W → Ask → W → ℕ) where
  -- so many word steps were made, or those until it was finished
  abbrev pub HasWorked : ℕ → S → W → Worked S W A → Type 0
  HasWorked zero m w z = z ≡ record { left = 0; machine = m; words = w; answer = None }
  HasWorked (suc n) m w z =
      (u : W) × made w (k.asks m) u
      × (let x : ℕ = seen w (k.asks m) u in OnOrOver (k.turns m x) (k.finished (k.after m x)) (HasWorked n (k.after m x) u z) (λ o. z ≡ record { left = n; machine = k.after m x; words = u; answer = o }))

-- how those of a session end: how many more could have been made, the session with what it says, and the words
pub record SessionStop (S W : Type 0) : Type 0 where
  pub left : ℕ
  pub turned : Turned S
  pub words : W

-- a session that says which word step is next
abbrev pub asking : {S A : Type 0} → Operations S A → Stage → Option S → Turned S
asking o t w = record { said = next_said o w; stage = t; work = w }

module _ {S A W : Type 0} (o : Operations S A) (made : W → Ask → W → Type 0) (seen : W → Ask → W → ℕ) where
  -- so many word steps that the session asked for were made, one after the other, and each time it was told what was found; or those until nothing was in progress
  abbrev pub RunsTo : ℕ → Turned S → W → SessionStop S W → Type 0
  RunsTo zero t w r = r ≡ record { left = 0; turned = t; words = w }
  RunsTo (suc n) t w r = Outcome t.work (r ≡ record { left = suc n; turned = t; words = w }) (λ m. (u : W) × made w (o.control.asks m) u × RunsTo n (told o t.stage (Some m) (seen w (o.control.asks m) u)) u r)
