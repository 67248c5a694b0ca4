-- how the agents of a script stand where none of them has anything left to do
use Rattle.std.proofs.Common.{◌≡◌, ◌≢◌, ℕ, ◌+◌, ◌^◌, ◌≤◌, true, false, List, [], ◌∷◌, length, refl, sym, ap, ◌∙◌, subst, arith, inl, inr}
use Rattle.std.proofs.lemmas.{Bool.true≢false, List.{length-map, take_all, Sums.{sum_by-cons, sum_by-take-le}}}
use Rattle.std.specs.Prelude.{◌⊎◌, Option, Some, None, slice_get, slice_index, sum}
use Rattle.shm_graph.specs.declared.{memo.{Agent.Agent, Kind.TheVariants.Recoverer}, run.Account.Account}
use Rattle.shm_graph.specs.declared.run.{LoggedLine.LoggedLine, Start.Start}
use Rattle.shm_graph.specs.{Agents.{acts_by, last_agent, steps_made, steps_of}, Held.is_loose}
use Rattle.shm_graph.specs.Runs.{account_at, fell_by, first_account, told_left}
use Rattle.shm_graph.specs.declared.memo.Fate.TheVariants as fate
use Rattle.shm_graph.proofs.Memos.MemoSteps.{last-append}
use Rattle.shm_plain.specs.Pools.{Pool, memo_of}
use Rattle.shm_script.specs.{declared.{log.{End.End, Entry.Entry}, line.Line.Line}, Ranges.ScriptFits}
use Rattle.shm_script.specs.Values.{Scripted, Traced}
use Rattle.shm_agents.specs.declared.agents.Standing.{Standing, TheVariants.{AtWork, Dead}}
use Rattle.shm_agents.specs.Agents.{Fallen, Fresh, HasParted, IsFallen, IsFold, IsMended, IsSettled, Mended, Mending, Parted, Playing, Plays, Stage, end_or, is_at_work, logged}
use Rattle.shm_agents.specs.{Logs.{AreUnspent, HasEnd, IsLogOf, steps_first}, Turns.lives_of}
pub use Rattle.shm_agents.proofs.Over.{IsOver, is_over, over_fold, over_log, over_table, over_unspent}
use Rattle.shm_agents.proofs.Mending.{few_lives}
use Rattle.shm_replay.specs.{Closings.{MayVisit, is_dead, is_standing_dead}, Seats.{IsSeat, Seat}, Turns.is_busy}
use Rattle.shm_replay.proofs.Seating.{seat_busy}

-- ---- what the closing asks

-- one life is at most all of them
one_of : (ns : List ℕ) (n : ℕ) → slice_get ns 0 ≡ Some n → n ≤ sum ns
one_of [] n e = absurd (cc)
one_of (k ∷ ns) n e = let same : k ≡ n = cc in let all : sum (k ∷ ns) ≡ k + sum ns = sum_by-cons (λ (i : ℕ). i) k ns in omega arith

module _ (s : Scripted) (x : Playing) (e : Account) (lives : sum (lives_of s.life) ≤ 2 ^ 41) where
  may_parted : HasParted s x e → MayVisit (is_standing_dead x.standing) e.memo
  may_parted p =
      subst (λ (st : Standing). MayVisit (is_standing_dead st) e.memo) (sym p.left) (record {
        status = inr p.status;
        none = ap (λ (xs : List Agent). acts_by (last_agent xs)) p.agents;
        whole = ap (λ (xs : List Agent). fell_by (last_agent xs)) p.agents;
        few = (let made = ap steps_of p.agents in let most = one_of (lives_of s.life) (x.life.left + p.steps) p.life in omega arith);
      })

  may_mended : IsMended s x e → MayVisit (is_standing_dead x.standing) e.memo
  may_mended p =
      let a : Agent = record { kind = Recoverer; steps = p.steps; fate = fate.Ended } in
      let last : last_agent e.memo.agents ≡ Some a = ap last_agent p.agents ∙ last-append p.before a in
      subst (λ (st : Standing). MayVisit (is_standing_dead st) e.memo) (sym p.recovered) (record {
        status = inr p.status;
        none = ap acts_by last;
        whole = ap fell_by last;
        few = (let most = p.few in omega arith);
      })

  may_dead : x.standing ≡ Dead → IsFallen s x e → MayVisit (is_standing_dead x.standing) e.memo
  may_dead dead f =
      subst (λ (st : Standing). MayVisit (is_standing_dead st) e.memo) (sym dead) (record {
        fell = f.fell;
        few = (let made = f.made in let part = sum_by-take-le (λ (i : ℕ). i) (lives_of s.life) x.agent in omega arith);
      })

  may_over : IsOver s x e → MayVisit (is_standing_dead x.standing) e.memo
  may_over (inl p) = may_parted p
  may_over (inr (inl (p, l))) = may_mended p
  may_over (inr (inr (dead, f, l))) = may_dead dead f

pub over_may : (n : ℕ) (s : Scripted) (x : Playing) (e : Account) → ScriptFits n s → IsOver s x e → MayVisit (is_standing_dead x.standing) e.memo
over_may n s x e fits h = may_over s x e (few_lives s.life fits.sum) h

-- ---- the seats of a trace

-- where an identity has nothing to do, none of its agents is at work
pub seat_rest : (t : Traced) (p : Pool) (c : ℕ) (x : Playing) → IsSeat t p c x → is_busy t p c ≡ false → x.standing ≢ AtWork
seat_rest t p c x h done here = true≢false (sym (seat_busy t p c x h ∙ ap is_at_work here) ∙ done)

-- and it may be visited
pub seat_may : (t : Traced) (p : Pool) (c : ℕ) (o : Option Playing) → Seat t p c o → is_busy t p c ≡ false → MayVisit (is_dead o) (memo_of p c)
seat_may t p c None h done =
    subst (λ (a : Account). MayVisit false a.memo) (sym h.1) (record { status = inl refl; none = refl; whole = refl; few = (let z : steps_made (first_account p.start c).memo ≡ 0 = refl in omega arith) })
seat_may t p c (Some x) h done =
    over_may p.start.geometry.clients h.script x (account_at p.accounts c) h.stands.may.script (is_over p.start h.script x (account_at p.accounts c) h.stands.stage (seat_rest t p c x h done))
