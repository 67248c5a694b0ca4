-- how the agents of a script stand where none of them has anything left to do
use Rattle.std.proofs.Common.{◌≡◌, ◌≢◌, ℕ, true, false, List, [], length, refl, sym, ap, ◌∙◌, subst, arith, inl, inr}
use Rattle.std.proofs.lemmas.List.{length-map, take_all}
use Rattle.std.specs.Prelude.{◌⊎◌, Option, slice_index}
use Rattle.shm_graph.specs.declared.{memo.{Agent.Agent, Kind.TheVariants.Recoverer}, run.Account.Account}
use Rattle.shm_graph.specs.{declared.run.{LoggedLine.LoggedLine, Start.Start}, Agents.{acts, acts_by, last_agent}}
use Rattle.shm_graph.specs.{Held.is_loose, Runs.{fell_by, told_left}}
use Rattle.shm_graph.specs.declared.memo.Fate.TheVariants as fate
use Rattle.shm_graph.specs.declared.memo.Status.TheVariants as status
use Rattle.shm_graph.proofs.Memos.MemoSteps.{last-append}
use Rattle.shm_script.specs.{declared.{log.{End.End, Entry.Entry}, line.Line.Line}, Values.Scripted}
use Rattle.shm_agents.specs.declared.agents.Standing.{Standing, TheVariants.{AtWork, Dead, Gone}}
use Rattle.shm_agents.specs.Agents.{Fallen, Fresh, HasParted, IsFallen, IsFold, IsMended, IsSettled, Mended, Mending, Parted, Playing, Plays, Stage, end_or, is_standing_dead, logged}
use Rattle.shm_agents.specs.{Logs.{AreUnspent, HasEnd, IsLogOf, steps_first}, Turns.lives_of}
use Rattle.shm_agents.proofs.Standing.{fell_quiet}

-- the client left, or a recoverer recovered the identity, or all of them died
abbrev pub IsOver : Scripted → Playing → Account → Type 0
IsOver s x e = HasParted s x e ⊎ ((IsMended s x e × IsSettled s x e e.told) ⊎ ((x.standing ≡ Dead) × IsFallen s x e × IsSettled s x e (told_left true e)))

pub is_over : (start : Start) (s : Scripted) (x : Playing) (e : Account) → Stage start s x e → x.standing ≢ AtWork → IsOver s x e
is_over start s x e (Fresh f) rest = absurd (rest f.here)
is_over start s x e (Plays p) rest = absurd (rest p.here)
is_over start s x e (Mending p l) rest = absurd (rest p.here)
is_over start s x e (Parted p) rest = inl p
is_over start s x e (Mended p l) rest = inr (inl (p, l))
is_over start s x e (Fallen f l) rest = elim f.next [ inl d ↦ inr (inr (d.0, f, l)) | inr w ↦ absurd (rest w.0) ]

-- ---- the log, and the map

module _ (s : Scripted) (x : Playing) (e : Account) (client : s.client ≡ x.me.who) where
  abbrev life : ℕ
  life = slice_index (lives_of s.life) 0

  log_parted : HasParted s x e → IsLogOf x.me s life e.memo.agents e.begun e.told (logged x)
  log_parted p =
      let long : length x.entries ≡ length s.lines = sym (length-map x.entries (λ (y : Entry). y.line)) ∙ ap (λ (ls : List Line). length ls) p.commands in
      record {
        client = sym client;
        lines = p.commands ∙ sym (take_all (length x.entries) s.lines (omega arith));
        join = p.told.join;
        behind = p.told.behind;
        is = p.told.is;
        finished = x.entries;
        entries = p.told.entries;
        end = subst (λ (o : Option End). HasEnd x.me s life e.memo.agents e.begun p.told.behind x.entries x.entries (end_or o)) (sym p.end) (refl, long, (p.steps, ([], p.agents)));
      }

  -- the word steps that the dead client made are those of its life
  log_lived : (told : List LoggedLine) → steps_first e.memo.agents ≡ life → IsSettled s x e told → IsLogOf x.me s life e.memo.agents e.begun told (logged x)
  log_lived told lived h = subst (λ (n : ℕ). IsLogOf x.me s n e.memo.agents e.begun told (logged x)) lived h.log

  pub over_log : IsOver s x e → IsLogOf x.me s life e.memo.agents e.begun (told_left (is_standing_dead x.standing) e) (logged x)
  over_log (inl p) = subst (λ (st : Standing). IsLogOf x.me s life e.memo.agents e.begun (told_left (is_standing_dead st) e) (logged x)) (sym p.left) (log_parted p)
  over_log (inr (inl (p, l))) = subst (λ (st : Standing). IsLogOf x.me s life e.memo.agents e.begun (told_left (is_standing_dead st) e) (logged x)) (sym p.recovered) (log_lived e.told p.lived l)
  over_log (inr (inr (dead, f, l))) = subst (λ (st : Standing). IsLogOf x.me s life e.memo.agents e.begun (told_left (is_standing_dead st) e) (logged x)) (sym dead) (log_lived (told_left true e) f.lived l)

pub over_fold : (s : Scripted) (x : Playing) (e : Account) → IsOver s x e → IsFold x.entries e.memo
over_fold s x e (inl p) = p.fold
over_fold s x e (inr (inl (p, l))) = l.fold
over_fold s x e (inr (inr (dead, f, l))) = l.fold

pub over_unspent : (s : Scripted) (x : Playing) (e : Account) → IsOver s x e → AreUnspent x.entries
over_unspent s x e (inl p) = p.unspent
over_unspent s x e (inr (inl (p, l))) = l.unspent
over_unspent s x e (inr (inr (dead, f, l))) = l.unspent

pub over_table : (s : Scripted) (x : Playing) (e : Account) → IsOver s x e → is_loose e.memo.part ≡ false
over_table s x e (inl p) = p.table
over_table s x e (inr (inl (p, l))) = l.table
over_table s x e (inr (inr (dead, f, l))) = l.table

-- ---- the last agent

-- where they didn't all die the identity is gone, and the last one of them has ended
abbrev pub IsGone : Account → Type 0
IsGone e = (e.memo.status ≡ status.Gone) × ((acts e.memo ≡ false) × (fell_by (last_agent e.memo.agents) ≡ false))

gone_parted : (s : Scripted) (x : Playing) (e : Account) → HasParted s x e → IsGone e
gone_parted s x e h = (h.status, (ap (λ (xs : List Agent). acts_by (last_agent xs)) h.agents, ap (λ (xs : List Agent). fell_by (last_agent xs)) h.agents))

gone_mended : (s : Scripted) (x : Playing) (e : Account) → IsMended s x e → IsGone e
gone_mended s x e h =
    let last = ap last_agent h.agents ∙ last-append h.before (record { kind = Recoverer; steps = h.steps; fate = fate.Ended }) in
    (h.status, (ap acts_by last, ap fell_by last))

pub over_gone : (s : Scripted) (x : Playing) (e : Account) → IsOver s x e → x.standing ≢ Dead → IsGone e
over_gone s x e (inl p) alive = gone_parted s x e p
over_gone s x e (inr (inl (p, l))) alive = gone_mended s x e p
over_gone s x e (inr (inr (dead, f, l))) alive = absurd (alive dead)

pub over_fell : (s : Scripted) (x : Playing) (e : Account) → IsOver s x e → x.standing ≡ Dead → fell_by (last_agent e.memo.agents) ≡ true
over_fell s x e (inl p) dead = absurd (let z : Gone ≡ Dead = sym p.left ∙ dead in cc)
over_fell s x e (inr (inl (p, l))) dead = absurd (let z : Gone ≡ Dead = sym p.recovered ∙ dead in cc)
over_fell s x e (inr (inr (d, f, l))) dead = f.fell

-- none of them acts
pub over_idle : (s : Scripted) (x : Playing) (e : Account) → IsOver s x e → acts e.memo ≡ false
over_idle s x e (inl p) = (over_gone s x e (inl p) (λ dead. let z : Gone ≡ Dead = sym p.left ∙ dead in cc)).1.0
over_idle s x e (inr (inl h)) = (over_gone s x e (inr (inl h)) (λ dead. let z : Gone ≡ Dead = sym h.0.recovered ∙ dead in cc)).1.0
over_idle s x e (inr (inr h)) = fell_quiet (last_agent e.memo.agents) h.1.fell
