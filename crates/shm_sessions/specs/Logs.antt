-- runs of sessions: what their callers do with them, when that is lawful, and which turns of a pool it comes to
use Rattle.std.specs.Prelude.{◌≡◌, ◌≢◌, ℕ, ◌-◌, ◌^◌, ◌<◌, ◌≤◌, ◌==◌, Bool, true, false, Option, Some, None, List, [], ◌∷◌, ◌++◌, slice_index}
use Rattle.shm_words.specs.declared.geometry.Geometry.{Geometry}
use Rattle.shm_graph.specs.declared.{ask.Me.Me, memo.Kind.{Kind, TheVariants.{Client, Recoverer}}}
use Rattle.shm_graph.specs.declared.{spot.Spot.TheVariants.{Era, Status}, run.Move.Move}
use Rattle.shm_graph.specs.{declared.run.Move.TheVariants.{Word, Dies, Begins}, Asks.{at_of, seen_of, words_set}}
use Rattle.shm_graph.specs.{Laws.step_of, Spots.see, Views.at1}
use Rattle.shm_session.specs.declared.said.{Call.Call, Stage.Stage}
use Rattle.shm_session.specs.Sessions.{Operations, answer_of, called, stage_found, told}
use Rattle.shm_session.specs.declared.said.Stage.TheVariants as stage

-- what a session is at: how its identity stands, the operation in progress, and whether somebody acts for the identity: a client from its join to its leaving, a recoverer as long as it recovers
pub record Sitting (S : Type 0) : Type 0 where
  pub stage : Stage
  pub work : Option S
  pub acts : Bool

-- what is done with the session of an identity: it is opened, and its status word was found so; it is called; the word step that it asks for is made, and finds this word (a store 0), which it is told; it is closed, or its process is killed
pub data Happening : Type 0 where
  Opens : (c found : ℕ) → Happening
  Calls : (c : ℕ) (call : Call) → Happening
  Steps : (c found : ℕ) → Happening
  Closes : (c : ℕ) → Happening

-- no identity has a session
abbrev pub nothing_open : {S : Type 0} → ℕ → Option (Sitting S)
nothing_open c = None

-- an identity of a pool
abbrev pub me_of : Geometry → ℕ → Me
me_of g c = record { geometry = g; who = c }

-- who begins to act for an identity that stands so
abbrev pub kind_at : Stage → Kind
kind_at stage.Vacant = Client
kind_at stage.Live = Client
kind_at stage.Dead = Recoverer

module _ {S : Type 0} where
  abbrev pub acts_in : Option (Sitting S) → Bool
  acts_in None = false
  acts_in (Some x) = x.acts

  abbrev pub kind_in : Option (Sitting S) → Kind
  kind_in None = Client
  kind_in (Some x) = kind_at x.stage

  -- the operation in progress
  abbrev pub work_of : Option (Sitting S) → Option S
  work_of None = None
  work_of (Some x) = x.work

  -- whether somebody acts after a call, by whether it gives up, and by the operation that is in progress then
  abbrev pub acts_called : Bool → Bool → Option S → Bool
  acts_called true b w = false
  acts_called false b None = b
  acts_called false b (Some m) = true

-- whether an identity is dead
abbrev pub is_dead : Stage → Bool
is_dead stage.Vacant = false
is_dead stage.Live = false
is_dead stage.Dead = true

-- whether an operation gives its identity up, by how it stood where that began and how it stands after the answer: it is dead, and wasn't
abbrev pub gives_up : Stage → Stage → Bool
gives_up stage.Vacant u = is_dead u
gives_up stage.Live u = is_dead u
gives_up stage.Dead u = false

-- whether somebody acts after an answer: a client whose identity is given up has died, and who leaves, or has recovered, has ended
abbrev pub acts_by : Bool → Bool → Stage → Bool
acts_by true b u = false
acts_by false b stage.Vacant = false
acts_by false b stage.Live = b
acts_by false b stage.Dead = b

-- the same after a word step, by its answer, if there is one
abbrev pub acts_left : {A : Type 0} → Stage → Bool → Option A → Stage → Bool
acts_left t b None u = b
acts_left t b (Some a) u = acts_by (gives_up t u) b u

-- the own era leaves room for a count step: from 1 on, for 2^47 - 5 of them
abbrev pub HasRoom : ℕ → Type 0
HasRoom e = e ≤ 2 ^ 47 - 4

-- the numbers of a call and its plain words have their sizes: those of a call from C do, whose integers have 32 and 64 bits
abbrev pub IsCall : Call → Type 0
IsCall c = (c.op < 2 ^ 32) × (c.first < 2 ^ 64) × (c.second < 2 ^ 64) × (c.third < 2 ^ 64) × ((i : ℕ) → slice_index c.words i < 2 ^ 64)

-- a client dies whose identity is given up, and otherwise nobody
abbrev pub turns_up : ℕ → Bool → List Move
turns_up c true = Dies c ∷ []
turns_up c false = []

-- the same after a word step, by its answer, if there is one
abbrev pub turns_left : {A : Type 0} → ℕ → Stage → Option A → Stage → List Move
turns_left c t None u = []
turns_left c t (Some a) u = turns_up c (gives_up t u)

-- who acted before and doesn't now has died, and who acts now and didn't has begun
abbrev pub turns_between : ℕ → Kind → Bool → Bool → List Move
turns_between c k true true = []
turns_between c k true false = Dies c ∷ []
turns_between c k false true = Begins c k ∷ []
turns_between c k false false = []

module _ {S A : Type 0} (g : Geometry) (o : Operations S A) where
  -- ---- one session

  -- opened: the identity stands as its status word says
  abbrev pub opened : Option Stage → Option (Sitting S)
  opened None = None
  opened (Some t) = Some (record { stage = t; work = None; acts = false })

  -- called, as a session takes a call
  abbrev pub sitting_called : ℕ → Call → Option (Sitting S) → Option (Sitting S)
  sitting_called c call None = None
  sitting_called c call (Some x) = let y = called o (me_of g c) x.stage x.work call in Some (record { stage = y.stage; work = y.work; acts = acts_called (call.op == 18) x.acts y.work })

  -- told a word
  abbrev pub sitting_told : ℕ → Option (Sitting S) → Option (Sitting S)
  sitting_told n None = None
  sitting_told n (Some x) = let y = told o x.stage x.work n in Some (record { stage = y.stage; work = y.work; acts = acts_left x.stage x.acts (answer_of o x.work n) y.stage })

  -- ---- all sessions, by identity

  abbrev pub sessions_by : Happening → (ℕ → Option (Sitting S)) → ℕ → Option (Sitting S)
  sessions_by (Opens c n) q = at1 q c (opened (stage_found n))
  sessions_by (Calls c call) q = at1 q c (sitting_called c call (q c))
  sessions_by (Steps c n) q = at1 q c (sitting_told n (q c))
  sessions_by (Closes c) q = at1 q c None

  -- the words of the pool: only a word step changes them
  abbrev pub words_made : Option S → List ℕ → List ℕ
  words_made None ws = ws
  words_made (Some m) ws = words_set (o.control.asks m) ws

  abbrev pub words_by : Happening → (ℕ → Option (Sitting S)) → List ℕ → List ℕ
  words_by (Opens c n) q ws = ws
  words_by (Calls c call) q ws = ws
  words_by (Steps c n) q ws = words_made (work_of (q c)) ws
  words_by (Closes c) q ws = ws

  -- the turns that it is
  abbrev pub turns_made : Option S → ℕ → List Move
  turns_made None n = []
  turns_made (Some m) n = Word (step_of o.control m n) ∷ []

  -- those of a word step that a session is told, and of its answer
  abbrev pub turns_told : ℕ → ℕ → Option (Sitting S) → List Move
  turns_told c n None = []
  turns_told c n (Some x) = turns_made x.work n ++ turns_left c x.stage (answer_of o x.work n) (told o x.stage x.work n).stage

  abbrev pub turns_by : Happening → (ℕ → Option (Sitting S)) → List Move
  turns_by (Opens c n) q = []
  turns_by (Calls c call) q = turns_between c (kind_in (q c)) (acts_in (q c)) (acts_in (sitting_called c call (q c)))
  turns_by (Steps c n) q = turns_told c n (q c)
  turns_by (Closes c) q = turns_between c (kind_in (q c)) (acts_in (q c)) false

  abbrev pub turns_in : (ℕ → Option (Sitting S)) → List Happening → List Move
  turns_in q [] = []
  turns_in q (h ∷ hs) = turns_by h q ++ turns_in (sessions_by h q) hs

  -- ---- what is lawful

  -- a session is opened on an identity of the pool whose last session was closed or died, and finds its status word; one that is called by a client, but to give up, has an own era with room; a word step is the one that its session asks for, and what it finds is the word at that address; and a session may be closed, or die, at any time
  abbrev pub MayHappen : Happening → (ℕ → Option (Sitting S)) → List ℕ → Type 0
  MayHappen (Opens c n) q ws = (c < g.clients) × (q c ≡ None) × (n ≡ see g ws (Status c))
  MayHappen (Calls c call) q ws = (x : Sitting S) × (q c ≡ Some x) × IsCall call × (x.stage ≡ stage.Live → (call.op ≢ 18) → HasRoom (see g ws (Era c c)))
  MayHappen (Steps c n) q ws = (m : S) × (work_of (q c) ≡ Some m) × (n ≡ seen_of (o.control.asks m) (slice_index ws (at_of (o.control.asks m))))
  MayHappen (Closes c) q ws = Unit {0}

  -- all of it, in its order, from these sessions and words on; the words are at last these
  abbrev pub IsLog : (ℕ → Option (Sitting S)) → List ℕ → List Happening → List ℕ → Type 0
  IsLog q ws [] vs = ws ≡ vs
  IsLog q ws (h ∷ hs) vs = MayHappen h q ws × IsLog (sessions_by h q) (words_by h q ws) hs vs
