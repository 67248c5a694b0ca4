-- the log of a client while further agents begin and end, and more is told behind it
use Rattle.std.proofs.Common.{◌≡◌, ℕ, zero, suc, ◌+◌, ◌<◌, Bool, List, [], ◌∷◌, ◌++◌, length, append-nil, refl, sym, ap, ◌∙◌, subst, arith}
use Rattle.std.proofs.lemmas.{List.Sums.sum_by_more, Option.{get_or_from_slice_get, slice_get_within}}
use Rattle.std.specs.Prelude.{Some, slice_get, slice_index, sum, take}
use Rattle.shm_graph.specs.declared.{ask.Me.Me, memo.{Agent.Agent, Fate.Fate, Kind.TheVariants.Client, Seen.Seen}}
use Rattle.shm_graph.specs.{declared.run.LoggedLine.LoggedLine, Agents.{steps_of, with_last}, Runs.{begun_by, told_by}}
use Rattle.shm_graph.specs.declared.memo.Fate.TheVariants as fate
use Rattle.shm_script.specs.{declared.log.{End.{End, TheVariants.{Ended, Died}}, Entry.Entry}, Logged.Logged}
use Rattle.shm_script.specs.Values.{Scripted}
use Rattle.shm_agents.specs.Logs.{BeganWith, HasEnd, IsLogOf, Was, begun_first, steps_first}
use Rattle.shm_agents.specs.Logs.Was.{Between, InCommand, InLeaving}
use Rattle.shm_agents.proofs.Trails.{entries_rest}

-- ---- lists

pub get_more : {A : Type 0} (xs ys : List A) (i : ℕ) (x : A) → slice_get xs i ≡ Some x → slice_get (xs ++ ys) i ≡ Some x
get_more [] ys i x e = absurd (cc)
get_more (y ∷ xs) ys zero x e = e
get_more (y ∷ xs) ys (suc i) x e = get_more xs ys i x e

-- what stands behind a list
pub get_last : {A : Type 0} (xs : List A) (x : A) (i : ℕ) → length xs ≡ i → slice_get (xs ++ x ∷ []) i ≡ Some x
get_last [] x zero e = refl
get_last [] x (suc i) e = absurd (omega arith)
get_last (y ∷ xs) x zero e = absurd (omega arith)
get_last (y ∷ xs) x (suc i) e = get_last xs x i (omega arith)

pub sum_more : (ns : List ℕ) (i n : ℕ) → slice_get ns i ≡ Some n → sum (take (i + 1) ns) ≡ sum (take i ns) + n
sum_more ns i n at = sum_by_more (λ (k : ℕ). k) ns i n (slice_get_within ns i n at) ∙ ap (λ (k : ℕ). sum (take i ns) + k) (get_or_from_slice_get ns i n n at)

pub index_is : (ns : List ℕ) (i n : ℕ) → slice_get ns i ≡ Some n → slice_index ns i ≡ n
index_is [] i n at = absurd (cc)
index_is (x ∷ ns) zero n at = let e : x ≡ n = cc in e
index_is (x ∷ ns) (suc i) n at = index_is ns i n at

-- ---- agents

pub with_last-end : (f : Agent → Agent) (xs : List Agent) (a : Agent) → with_last f (xs ++ a ∷ []) ≡ xs ++ f a ∷ []
with_last-end f [] a = refl
with_last-end f (x ∷ []) a = refl
with_last-end f (x ∷ y ∷ xs) a = ap (λ (zs : List Agent). x ∷ zs) (with_last-end f (y ∷ xs) a)

pub steps_of-end : (xs : List Agent) (a : Agent) → steps_of (xs ++ a ∷ []) ≡ steps_of xs + a.steps
steps_of-end [] a = omega arith
steps_of-end (x ∷ xs) a = let h = steps_of-end xs a in omega arith

pub began_more : (agents rest : List Agent) (n : ℕ) (f : Fate) → BeganWith agents n f → BeganWith (agents ++ rest) n f
began_more agents rest n f (others, is) = (others ++ rest, ap (λ (xs : List Agent). xs ++ rest) is)

pub first_steps : (agents rest : List Agent) → 0 < length agents → steps_first (agents ++ rest) ≡ steps_first agents
first_steps [] rest some = absurd (omega arith)
first_steps (a ∷ agents) rest some = refl

-- the last one isn't the first
pub began_last : (before : List Agent) (a b : Agent) (n : ℕ) (f : Fate) → 0 < length before → BeganWith (before ++ a ∷ []) n f → BeganWith (before ++ b ∷ []) n f
began_last [] a b n f some h = absurd (omega arith)
began_last (x ∷ before) a b n f some (others, is) = (before ++ b ∷ [], (let e : x ≡ record { kind = Client; steps = n; fate = f } = cc in ap (λ (y : Agent). y ∷ before ++ b ∷ []) e))

-- ---- what was begun and told

pub first_more : (begun rest : List (List (List ℕ))) (k : ℕ) → 0 < k → begun_first begun ≡ k → begun_first (begun ++ rest) ≡ k
first_more [] rest k some e = absurd (omega arith)
first_more (b ∷ begun) rest k some e = e

pub begun_end : (line : List ℕ) (begun : List (List (List ℕ))) (b : List (List ℕ)) → begun_by line (begun ++ b ∷ []) ≡ begun ++ (b ++ line ∷ []) ∷ []
begun_end line [] b = refl
begun_end line (x ∷ []) b = refl
begun_end line (x ∷ y ∷ begun) b = ap (λ (zs : List (List (List ℕ))). x ∷ zs) (begun_end line (y ∷ begun) b)

-- ---- the log

module _ (me : Me) (s : Scripted) (life life' : ℕ) (as_long : life' ≡ life) (agents agents' : List Agent) (begun begun' : List (List (List ℕ))) (told told' : List LoggedLine) (l : Logged) (began : (n : ℕ) (f : Fate) → BeganWith agents n f → BeganWith agents' n f)
    (first : (k : ℕ) → 0 < k → begun_first begun ≡ k → begun_first begun' ≡ k) (rest : List LoggedLine) (more : told' ≡ told ++ rest) where
  was_on : (behind : List LoggedLine) (finished entries : List Entry) (done : Bool) → Was me s.lines (begun_first begun) behind finished entries done → Was me s.lines (begun_first begun') (behind ++ rest) finished entries done
  was_on behind finished entries done (Between count same undone) = Between (first _ (omega arith) count) same undone
  was_on behind finished entries done (InCommand line x count next at text cut same shown) = InCommand line x (first _ (omega arith) count) next (get_more behind rest (length finished) x at) text cut same shown
  was_on behind finished entries done (InLeaving x count all at cut same undone) = InLeaving x (first _ (omega arith) count) all (get_more behind rest (length finished) x at) cut same undone

  end_on : (behind : List LoggedLine) (finished entries : List Entry) (e : End) → HasEnd me s life agents begun behind finished entries e → HasEnd me s life' agents' begun' (behind ++ rest) finished entries e
  end_on behind finished entries Ended (all, many, (n, b)) = (all, many, (n, began n fate.Ended b))
  end_on behind finished entries (Died n done) (many, b, was) = (many, subst (λ (k : ℕ). BeganWith agents' k fate.Died) (sym as_long) (began life fate.Died b), was_on behind finished entries done was)

  pub log_on : IsLogOf me s life agents begun told l → IsLogOf me s life' agents' begun' told' l
  log_on h =
      record {
        client = h.client;
        lines = h.lines;
        join = h.join;
        behind = h.behind ++ rest;
        is = more ∙ ap (λ (ts : List LoggedLine). ts ++ rest) h.is;
        finished = h.finished;
        entries = entries_rest me h.behind rest h.finished h.entries;
        end = end_on h.behind h.finished l.entries l.end h.end;
      }
