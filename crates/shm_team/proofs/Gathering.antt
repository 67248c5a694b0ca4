-- jobs, what is done of them, and visits, one by one
use Rattle.std.proofs.Common.{◌≡◌, ℕ, zero, suc, ◌+◌, ◌<◌, ◌≤◌, List, [], ◌∷◌, ◌++◌, append-nil, length, refl, sym, ap, ◌∙◌, subst, arith}
use Rattle.std.specs.{List.AllByRecursion, Prelude.{Option, Some, None, slice_index_or}}
use Rattle.shm_graph.specs.{declared.run.{Account.Account, Start.Start}, Runs.{account_at, first_account}}
use Rattle.shm_graph.proofs.States.FirstHeld.{at-accounts_from}
use Rattle.shm_plain.specs.Pools.{first_pool}
use Rattle.shm_agents.specs.Agents.{Playing, AgentsStand}
use Rattle.shm_pool.specs.Tokens.{Its, Token, first_tokens, token_first}
use Rattle.shm_replay.specs.{Replays.start_of, Seats.Seat}
use Rattle.shm_replay.proofs.Starting.{script_client}
use Rattle.shm_script.specs.{Logged.Logged, Values.{Scripted, Traced}}
use Rattle.shm_team.specs.declared.{done.Done.Done, jobs.Job.Job, left.Left.{Left, TheVariants.Vacant}}
use Rattle.shm_team.specs.Dones.{AreDones, AreGivenBack, IsDone, IsDoneBy, IsFinished, logs_done}
use Rattle.shm_team.specs.Jobs.{AreAgentsOf, AreDone, AreJobs, AreTokens, IsJob, MayHaveAgents}
use Rattle.shm_team.specs.{Lefts.{IsGivenBack, account_in, is_corpse}, Visits.{AreVisits, IsVisited}}

pub nothing_left : {X : Type 0} (l : List X) → length l ≡ 0 → l ≡ []
nothing_left [] h = refl
nothing_left (x ∷ xs) h = absurd (omega arith)

-- a vector that was gone through has yielded all its items
pub all_yielded : {X : Type 0} (ys rest all : List X) (n : ℕ) → ys ++ rest ≡ all → n ≡ length rest → n ≡ 0 → ys ≡ all
all_yielded ys rest all n items len none =
    let empty : rest ≡ [] = nothing_left rest (sym len ∙ none) in
    sym (append-nil ys) ∙ subst (λ zs. ys ++ zs ≡ all) empty items

-- ---- jobs

-- each job has one of these tokens, and the agents that its identity begins with
abbrev pub JobsOf : {A : Type 0} → Traced → List Token → List (Job A) → Type 0
JobsOf t [] [] = Unit {0}
JobsOf t (k ∷ ks) (j ∷ js) = (j.token ≡ k) × Seat t (first_pool (start_of t)) k.account.who j.agents × JobsOf t ks js
JobsOf t ks js = ⊥

pub jobs_more : {A : Type 0} (t : Traced) (ks : List Token) (js : List (Job A)) (k : Token) (j : Job A) → JobsOf t ks js → j.token ≡ k → Seat t (first_pool (start_of t)) k.account.who j.agents → JobsOf t (ks ++ k ∷ []) (js ++ j ∷ [])
jobs_more t [] [] k j h is seat = (is, seat, tt)
jobs_more t [] (y ∷ js) k j h is seat = absurd h
jobs_more t (x ∷ ks) [] k j h is seat = absurd h
jobs_more t (x ∷ ks) (y ∷ js) k j h is seat = (h.0, h.1, jobs_more t ks js k j h.2 is seat)

first_there : (s : Start) (c : ℕ) → c < s.geometry.clients → account_at (first_pool s).accounts c ≡ first_account s c
first_there s c l = at-accounts_from s 0 s.geometry.clients c _ l ∙ (let z : 0 + c ≡ c = omega arith in ap (first_account s) z)

seat_first : (t : Traced) (c : ℕ) (o : Option Playing) → c < t.clients → Seat t (first_pool (start_of t)) c o → MayHaveAgents t (start_of t) c (first_account (start_of t) c) o
seat_first t c None l h = (h.0, refl)
seat_first t c (Some x) l h =
    record {
      me = h.me;
      script = h.script;
      is = h.is;
      at = h.at;
      stands = subst (λ (e : Account). AgentsStand (start_of t) h.script x e) (first_there (start_of t) c l) h.stands;
    }

pub jobs_first : {A : Type 0} (t : Traced) (p : Its) → p.start ≡ start_of t → (c n : ℕ) (js : List (Job A)) → c + n ≤ t.clients → JobsOf t (first_tokens p c n) js → AreJobs t p c js
jobs_first t p start c zero [] l h = tt
jobs_first t p start c zero (j ∷ js) l h = absurd h
jobs_first t p start c (suc n) [] l h = absurd h
jobs_first t p start c (suc n) (j ∷ js) l h = (
  ap (λ (k : Token). k.account.who) h.0,
  record {
    of = ap (λ (k : Token). k.of) h.0;
    first = ap (λ (k : Token). k.account) h.0;
    agents = subst (λ (e : Account). MayHaveAgents t p.start c e j.agents) (sym (ap (λ (k : Token). k.account) h.0)) (subst (λ (s : Start). MayHaveAgents t s c (first_account s c) j.agents) (sym start) (seat_first t c j.agents (omega arith) h.1));
  },
  jobs_first t p start (suc c) n js (omega arith) h.2,
)

-- each is of its identity
pub job_there : {A : Type 0} (t : Traced) (p : Its) (c i : ℕ) (js : List (Job A)) (d : Job A) → AreJobs t p c js → i < length js → let x : Job A = slice_index_or js i d in IsJob t p x.token.account.who x
job_there t p c i [] d h l = absurd (omega arith)
job_there t p c zero (j ∷ js) d h l = subst (λ (n : ℕ). IsJob t p n j) (sym h.0) h.1
job_there t p c (suc i) (j ∷ js) d h l = job_there t p (suc c) i js d h.2 (omega arith)

pub first_who : (p : Its) (m c n : ℕ) → c + n ≤ m → AllByRecursion (λ (k : Token). k.account.who < m) (first_tokens p c n)
first_who p m c zero l = tt
first_who p m c (suc n) l = (let z : c < m = omega arith in z, first_who p m (suc c) n (omega arith))

-- the agents of a job
pub agents_in : {A : Type 0} (t : Traced) (p : Its) (j : Job A) (x : Playing) → IsJob t p j.token.account.who j → j.agents ≡ Some x → AreAgentsOf t p.start j.token.account.who j.token.account x
agents_in t p j x h e = subst (MayHaveAgents t p.start j.token.account.who j.token.account) e h.agents

-- none
pub none_in : {A : Type 0} (t : Traced) (p : Its) (j : Job A) → IsJob t p j.token.account.who j → j.agents ≡ None → IsDone t p j.token.account.who (record { log = None; left = Vacant j.token })
none_in t p j h e =
    let none = subst (MayHaveAgents t p.start j.token.account.who j.token.account) e h.agents in
    let first : j.token ≡ token_first p j.token.account.who = (λ i. record { of = h.of i; account = h.first i }) in
    record {
      left = (h.of, ap (λ (e : Account). e.running) h.first);
      who = refl;
      by = subst (λ (o : Option Scripted). IsDoneBy o p j.token.account.who None (Vacant j.token)) (sym none.0) (refl, ap (λ (k : Token). Vacant k) first);
    }

-- what a worker made of them
pub worked : {A : Type 0} (t : Traced) (p : Its) (j : Job A) (x : Playing) (s : Scripted) (l : Logged) (k : Left) → IsJob t p j.token.account.who j → (a : AreAgentsOf t p.start j.token.account.who j.token.account x) → s ≡ a.script → IsFinished j.token.of s l k → IsDone t p j.token.account.who (record { log = Some l; left = k })
worked t p j x s l k h a is f =
    let g : IsFinished p s l k = subst (λ (q : Its). IsFinished q s l k) h.of f in
    record {
      left = g.token;
      who = g.who ∙ script_client t.scripts j.token.account.who s (a.is ∙ ap (λ (z : Scripted). Some z) (sym is));
      by = subst (λ (o : Option Scripted). IsDoneBy o p j.token.account.who (Some l) k) (ap (λ (z : Scripted). Some z) is ∙ sym a.is) (l, refl, g);
    }

-- ---- what is done of them

-- of the jobs from c on, in order
dones_from : {A : Type 0} (t : Traced) (p : Its) (c : ℕ) (js : List (Job A)) (ds : List Done) → AreJobs t p c js → length ds ≡ length js → ((i : ℕ) (j : Job A) (d : Done) → i < length js → IsDone t p (slice_index_or js i j).token.account.who (slice_index_or ds i d)) → AreDones t p c ds
dones_from t p c [] [] jobs many each = tt
dones_from t p c [] (d ∷ ds) jobs many each = absurd (omega arith)
dones_from t p c (j ∷ js) [] jobs many each = absurd (omega arith)
dones_from t p c (j ∷ js) (d ∷ ds) jobs many each = (subst (λ (n : ℕ). IsDone t p n d) jobs.0 (each 0 j d (omega arith)), dones_from t p (suc c) js ds jobs.2 (omega arith) (λ i x y l. each (suc i) x y (omega arith)))

pub dones_of : {A : Type 0} (t : Traced) (p : Its) (js : List (Job A)) (ds : List Done) → AreJobs t p 0 js → AreDone t p js ds → AreDones t p 0 ds
dones_of t p js ds jobs h = dones_from t p 0 js ds jobs h.many h.each

-- they are given back
pub dones_back : (t : Traced) (p : Its) (c : ℕ) (ds : List Done) → AreDones t p c ds → AreGivenBack p c ds
dones_back t p c [] h = tt
dones_back t p c (d ∷ ds) h = (h.0.left, h.0.who, dones_back t p (suc c) ds h.1)

pub done_at : (t : Traced) (p : Its) (c i : ℕ) (ds : List Done) (d : Done) → AreDones t p c ds → i < length ds → IsDone t p (c + i) (slice_index_or ds i d)
done_at t p c i [] d h l = absurd (omega arith)
done_at t p c zero (x ∷ ds) d h l = let z : c ≡ c + 0 = omega arith in subst (λ (n : ℕ). IsDone t p n x) z h.0
done_at t p c (suc i) (x ∷ ds) d h l = let z : suc c + i ≡ c + suc i = omega arith in subst (λ (n : ℕ). IsDone t p n (slice_index_or ds i d)) z (done_at t p (suc c) i ds d h.1 (omega arith))

pub log_done : (ds : List Done) (i : ℕ) (d : Done) → i < length ds → slice_index_or (logs_done ds) i None ≡ (slice_index_or ds i d).log
log_done [] i d l = absurd (omega arith)
log_done (x ∷ ds) zero d l = refl
log_done (x ∷ ds) (suc i) d l = log_done ds i d (omega arith)

-- ---- visits

pub back_all : (p : Its) (c : ℕ) (ds : List Done) → AreGivenBack p c ds → AllByRecursion (λ (d : Done). IsGivenBack p d.left) ds
back_all p c [] h = tt
back_all p c (d ∷ ds) h = (h.0, back_all p (suc c) ds h.2)

pub visits_more : (p : Its) (ds : List Done) (ls : List (Option Logged)) (ts : List Token) (d : Done) (l : Option Logged) (t : Token) → AreVisits p ds ls ts → AreVisits p (d ∷ []) (l ∷ []) (t ∷ []) → AreVisits p (ds ++ d ∷ []) (ls ++ l ∷ []) (ts ++ t ∷ [])
visits_more p [] [] [] d l t h one = one
visits_more p [] [] (u ∷ ts) d l t h one = absurd h
visits_more p [] (y ∷ ls) ts d l t h one = absurd h
visits_more p (z ∷ ds) [] ts d l t h one = absurd h
visits_more p (z ∷ ds) (y ∷ ls) [] d l t h one = absurd h
visits_more p (z ∷ ds) (y ∷ ls) (u ∷ ts) d l t h one = (h.0, h.1, h.2, visits_more p ds ls ts d l t h.3 one)

-- there are as many of all
pub as_many : (p : Its) (ds : List Done) (ls : List (Option Logged)) (ts : List Token) → AreVisits p ds ls ts → (length ls ≡ length ds) × (length ts ≡ length ds)
as_many p [] [] [] v = (refl, refl)
as_many p [] [] (u ∷ ts) v = absurd v
as_many p [] (l ∷ ls) ts v = absurd v
as_many p (d ∷ ds) [] ts v = absurd v
as_many p (d ∷ ds) (l ∷ ls) [] v = absurd v
as_many p (d ∷ ds) (l ∷ ls) (u ∷ ts) v = let h = as_many p ds ls ts v.3 in (ap suc h.0, ap suc h.1)

-- the logs are those that were given
pub visits_logs : (p : Its) (ds : List Done) (ls : List (Option Logged)) (ts : List Token) → AreVisits p ds ls ts → ls ≡ logs_done ds
visits_logs p [] [] [] v = refl
visits_logs p [] [] (u ∷ ts) v = absurd v
visits_logs p [] (l ∷ ls) ts v = absurd v
visits_logs p (d ∷ ds) [] ts v = absurd v
visits_logs p (d ∷ ds) (l ∷ ls) [] v = absurd v
visits_logs p (d ∷ ds) (l ∷ ls) (u ∷ ts) v = let h = visits_logs p ds ls ts v.3 in (λ i. v.0 i ∷ h i)

-- each identity was visited
pub visited_at : (p : Its) (i : ℕ) (ds : List Done) (ls : List (Option Logged)) (ts : List Token) (d : Done) (k : Token) → AreVisits p ds ls ts → i < length ds → IsVisited (is_corpse (slice_index_or ds i d).left) (account_in (slice_index_or ds i d).left) (slice_index_or ts i k).account
visited_at p i [] ls ts d k v l = absurd (omega arith)
visited_at p i (x ∷ ds) [] ts d k v l = absurd v
visited_at p i (x ∷ ds) (y ∷ ls) [] d k v l = absurd v
visited_at p zero (x ∷ ds) (y ∷ ls) (u ∷ ts) d k v l = v.2
visited_at p (suc i) (x ∷ ds) (y ∷ ls) (u ∷ ts) d k v l = visited_at p i ds ls ts d k v.3 (omega arith)

-- the tokens are of the pool, and of the identities in order
tokens_at : (p : Its) (c i : ℕ) (ds : List Done) (ls : List (Option Logged)) (ts : List Token) (k : Token) → AreGivenBack p c ds → AreVisits p ds ls ts → i < length ts → ((slice_index_or ts i k).of ≡ p) × ((slice_index_or ts i k).account.who ≡ c + i)
tokens_at p c i ds ls [] k back v l = absurd (omega arith)
tokens_at p c i [] [] (u ∷ ts) k back v l = absurd v
tokens_at p c i [] (x ∷ ls) (u ∷ ts) k back v l = absurd v
tokens_at p c i (d ∷ ds) [] (u ∷ ts) k back v l = absurd v
tokens_at p c zero (d ∷ ds) (x ∷ ls) (u ∷ ts) k back v l = (v.1, v.2.who ∙ (back.1 ∙ (let z : c ≡ c + 0 = omega arith in z)))
tokens_at p c (suc i) (d ∷ ds) (x ∷ ls) (u ∷ ts) k back v l =
    let h = tokens_at p (suc c) i ds ls ts k back.2 v.3 (omega arith) in
    (h.0, h.1 ∙ (let z : suc c + i ≡ c + suc i = omega arith in z))

-- what the closing is given
pub tokens_of : (p : Its) (ds : List Done) (ls : List (Option Logged)) (ts : List Token) → length ds ≡ p.start.geometry.clients → AreGivenBack p 0 ds → AreVisits p ds ls ts → AreTokens p ts
tokens_of p ds ls ts many back v =
    record {
      many = (as_many p ds ls ts v).1 ∙ many;
      of = λ i k l. (tokens_at p 0 i ds ls ts k back v l).0;
      who = λ i k l. let z : 0 + i ≡ i = omega arith in (tokens_at p 0 i ds ls ts k back v l).1 ∙ z;
    }

-- ---- tokens

-- as many jobs as tokens that they began with
pub jobs_long : {A : Type 0} (t : Traced) (ks : List Token) (js : List (Job A)) → JobsOf t ks js → length js ≡ length ks
jobs_long t [] [] h = refl
jobs_long t [] (j ∷ js) h = absurd h
jobs_long t (k ∷ ks) [] h = absurd h
jobs_long t (k ∷ ks) (j ∷ js) h = ap suc (jobs_long t ks js h.2)

pub first_many : (p : Its) (c n : ℕ) → length (first_tokens p c n) ≡ n
first_many p c zero = refl
first_many p c (suc n) = ap suc (first_many p (suc c) n)
