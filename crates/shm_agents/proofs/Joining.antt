-- the first word step of a client: it has joined
use Rattle.std.proofs.Common.{◌≡◌, ℕ, ◌+◌, ◌%◌, ◌<◌, ◌&&◌, Bool, true, cond, List, [], ◌∷◌, refl, sym, ap, ◌∙◌, subst, arith, inl}
use Rattle.std.specs.{Prelude.{None, Some, slice_get, slice_index}, List.AllByRecursion, FinMap.get-empty}
use Rattle.std.specs.Ordering.{nat_cmp}
use Rattle.shm_words.specs.Layout.{GeometryFits}
use Rattle.shm_graph.specs.declared.{ask.{Life.Life, Me.Me}, memo.{Fate.TheVariants.Acts, Kind.TheVariants.Client}}
use Rattle.shm_graph.specs.declared.{memo.{Memo.Memo, Status.Status as AStatus, Step.Step}, run.Account.Account}
use Rattle.shm_graph.specs.{declared.{run.Start.Start, table.Entry.Entry as AnEntry}, Agents.is_gone, Asks.call_before}
use Rattle.shm_graph.specs.{Changes.asked_spot, Held.is_loose, Laws.step_of}
use Rattle.shm_graph.specs.{Runs.{account_after, account_entered, first_account, first_part}, Tables.find}
use Rattle.shm_graph.specs.Tells.{after_all}
use Rattle.shm_graph.proofs.{Memos.MemoSteps.{agents_after, recovers_on}, States.FirstHeld.same_everywhere}
use Rattle.plans.specs.Deciding.{StillRuns}
use Rattle.shm_recover.specs.Join.{JoinGives, join_fresh}
use Rattle.shm_script.specs.{declared.line.Line.Line, Ranges.LineFits, Values.Scripted}
use Rattle.kind_parts.specs.Reparting.{map_in}
use Rattle.shm_agents.specs.declared.agents.Standing.TheVariants.{AtWork}
use Rattle.shm_agents.specs.{Agents.{IsFold, IsPlaying, IsReady, Playing, behind, one_agent}, Turns.lives_of}
use Rattle.shm_agents.specs.Work.{WorkFits, join_work, work_control}
use Rattle.shm_agents.proofs.WorkLaws.{behind_fits, behind_fresh, behind_going, behind_me}

-- the map of a partition without entries
empty_map : (key : ℕ) → map_in (first_part true) key ≡ None
empty_map key = ap (find key) (same_everywhere {X = List AnEntry} 16 (key % 16) [])

-- the map of an identity that nobody has joined, in a pool for tables
pub first_fold : (start : Start) (who : ℕ) → start.tables ≡ true → IsFold [] (first_account start who).memo
first_fold start who tables key = ap (λ (b : Bool). map_in (first_part b) key) tables ∙ (empty_map key ∙ sym (get-empty nat_cmp key))

module _ (start : Start) (me : Me) (n : ℕ) where
  -- the account once an agent has begun
  abbrev pub e1 : Account
  e1 = account_entered Client (first_account start me.who)

  abbrev pub t : Step
  t = step_of work_control (join_work me) n

  abbrev pub e2 : Account
  e2 = account_after e1 t

  module _ (g : JoinGives (join_fresh me) e1.memo e2.memo e2.memo.call tt) (tables : start.tables ≡ true) where
    ready : IsReady me.who [] e2.memo
    ready =
        record {
          idle = g.idle;
          client = recovers_on e1.memo t (asked_spot e1.memo t);
          latch = ap (λ (m : Memo). m.latch) g.rest;
          dying = ap (λ (m : Memo). m.dying) g.rest;
          table = ap (λ (m : Memo). is_loose m.part) g.rest ∙ ap (λ (b : Bool). is_loose (first_part b)) tables;
          unsent = λ i. ap (λ (m : Memo). slice_index m.unsent i) g.rest ∙ same_everywhere start.geometry.clients i 0;
          untaken = λ i. ap (λ (m : Memo). slice_index m.untaken i) g.rest ∙ same_everywhere start.geometry.clients i 0;
          fold = λ key. ap (λ (m : Memo). map_in m.part key) g.rest ∙ first_fold start me.who tables key;
        }

    pub joined : (s : Scripted) (x : Playing) (life : Life) → x.agent ≡ 0 → x.end ≡ None → x.standing ≡ AtWork → slice_get (lives_of s.life) 0 ≡ Some x.life.left → life.left + 1 ≡ x.life.left → GeometryFits me.geometry → me.who < me.geometry.clients → AllByRecursion (LineFits me.geometry.clients me.who) s.lines
        → IsPlaying s (record { me = me; script = x.script; agent = x.agent; work = behind me s.lines 0; life = life; entries = []; room = x.room; end = x.end; standing = x.standing }) e2
    joined s x life agent end here full spent geometry who all =
        let lines : List Line = s.lines in
        let first = behind_fresh me lines 0 in
        record {
          agent = agent;
          end = end;
          here = here;
          steps = 1;
          stepped = omega arith;
          agents = ap (λ (s : AStatus). agents_after (is_gone s && t.ends) (one_agent 0 Acts)) g.idle.live;
          life = full ∙ ap Some (sym spent);
          few = omega arith;
          commands = refl;
          unspent = tt;
          start = e2.memo;
          ready = ready;
          me = behind_me me lines 0;
          going = behind_going me lines 0;
          fits = subst (λ (b : Bool). WorkFits (behind me lines 0) e2.memo e2.memo (call_before b e2.memo.call)) (sym first) (behind_fits me geometry who [] e2.memo ready lines 0 all);
          gave = λ r tr b g. g;
          line = refl;
          course = ap (λ (b : Bool). after_all work_control (behind me lines 0) (call_before b e2.memo.call)) first;
          runs = subst (λ (b : Bool). StillRuns work_control (behind me lines 0) (call_before b e2.memo.call)) (sym first) tt;
          over = sym first;
          begun = t.line ∷ [];
          is_begun = refl;
          many = sym (ap (λ (b : Bool). cond b 1 2) first);
          lines = refl;
          told = record { join = record { line = t.line; trail = e2.memo.call; finished = true }; behind = []; is = refl; entries = tt; only = (inl (inl refl), refl) };
          all_told = refl;
          running = sym (ap (λ (b : Bool). cond b [] (work_control.line (behind me lines 0))) first);
        }
