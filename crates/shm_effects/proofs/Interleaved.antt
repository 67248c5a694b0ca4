-- where each identity takes the turns that its script gives, in whatever order they come, each log takes effect
use Rattle.std.proofs.Common.{◌≡◌, ℕ, suc, ◌^◌, ◌<◌, Bool, true, false, eqb, List, [], ◌∷◌, ◌++◌, append-nil, refl, sym, ap, ◌∙◌, subst, arith}
use Rattle.std.proofs.lemmas.Bool.{cond-false, cond-true, true≢false}
use Rattle.std.specs.{Prelude.{Option, Some, None, slice_get}, List.AllByRecursion, Option.is_some}
use Rattle.shm_graph.specs.{declared.{ask.Me.Me, run.{Account.Account, Start.Start}}, CallEvents.own_turns}
use Rattle.shm_graph.specs.Runs.{EraFits, account_at, first_account, first_words, state}
use Rattle.shm_graph.proofs.Runs.OwnTurns.{own_turns_are}
use Rattle.plans.specs.Deciding.{Foretells}
use Rattle.shm_count.specs.Roots.{member}
use Rattle.shm_plain.specs.Pools.{Pool}
use Rattle.shm_script.specs.{Logged.Logged, Ranges.{IsTrace, ScriptFits}, Values.{Scripted, Traced}}
use Rattle.shm_table.specs.Command.{command_by, command_control, command_effect}
use Rattle.shm_agents.specs.{Agents.Playing, Logs.{AreLogs, IsLog}, Turns.{next_by, script_in}}
use Rattle.shm_agents.proofs.{Dying.CommandMaps, Over.IsOver}
use Rattle.shm_replay.specs.Turns.{next_work}
use Rattle.shm_replay.proofs.{WholeRun.script_at, Gathering.same_some}
use Rattle.shm_headline.specs.{Headline.{geometry_of, words_first}, TurnsOf.turns_of}
use Rattle.shm_effects.specs.{Effects.TakesEffect, Taken.IsInterleaved}
use Rattle.shm_effects.proofs.{Along.takes_effect, Entries.effective, Given.given, Logs.entries_noted}

-- ---- scripts

-- what holds of all scripts holds of that of an identity
pub script_of : (P : Scripted → Type 0) (ss : List Scripted) (d : ℕ) (s : Scripted) → AllByRecursion P ss → script_in ss d ≡ Some s → P s
script_of P [] d s h e = absurd (cc)
script_of P (r ∷ ss) d s h e = go (eqb r.client d) refl (script_of P ss d s h.1)
  where
    go : (b : Bool) → eqb r.client d ≡ b → (script_in ss d ≡ Some s → P s) → P s
    go true f later = subst P (same_some r s (sym (cond-true (eqb r.client d) (Some r) (script_in ss d) f) ∙ e)) h.0
    go false f later = later (sym (cond-false (eqb r.client d) (Some r) (script_in ss d) f) ∙ e)

-- what holds of the log of each script holds of all
pub all_logs : (scripts : List Scripted) (p : Pool) (P : Logged → Type 0) → ((l : Logged) (s : Scripted) → script_in scripts s.client ≡ Some s → IsLog p s l → P l) → (ss : List Scripted) (logs : List Logged) → ((k : ℕ) (s : Scripted) → slice_get ss k ≡ Some s → script_in scripts s.client ≡ Some s) → AreLogs p ss logs → AllByRecursion P logs
all_logs scripts p P one [] logs at h = subst (AllByRecursion P) (sym h) tt
all_logs scripts p P one (s ∷ ss) [] at h = absurd h
all_logs scripts p P one (s ∷ ss) (l ∷ logs) at h = (one l s (at 0 s refl) h.0, all_logs scripts p P one ss logs (λ k z e. at (suc k) z e) h.1)

is_none : {A : Type 0} (o : Option A) → is_some o ≡ false → o ≡ None
is_none None e = refl
is_none (Some a) e = absurd (true≢false e)

-- ---- the run

module _ (maps : CommandMaps) (tells : Foretells command_control (λ a. a) command_effect command_by) (t : Traced) (trace : IsTrace t) (p : Pool) (ls : List Logged) (r : IsInterleaved t p ls) where
  abbrev start : Start
  start = r.played.start

  low : (s : Scripted) → script_in t.scripts s.client ≡ Some s → s.client < t.clients
  low s e = (script_of (ScriptFits t.clients) t.scripts s.client s trace.scripts e).client

  abbrev Takes : Logged → Type 0
  Takes l = TakesEffect (geometry_of t) l 0 [] (words_first t) (turns_of r.played.turns)

  module _ (l : Logged) (s : Scripted) (script : script_in t.scripts s.client ≡ Some s) (is : IsLog p s l) where
    here : s.client < start.geometry.clients
    here = subst (λ (z : Start). s.client < z.geometry.clients) (sym r.begins) (low s script)

    -- what its agents left, which have nothing left to do
    abbrev left : Account
    left = account_at r.played.accounts s.client

    none : next_by (member start.geometry s.client) s left ≡ None
    none = is_none (next_by (member start.geometry s.client) s left) (ap (λ (o : Option Scripted). is_some (next_work r.played s.client o)) (sym script) ∙ (r.rests s.client (low s script)).1)

    -- all that its client has noted
    ends : (x : Playing) → x.me ≡ member start.geometry s.client → IsOver s x left → l.entries ≡ effective s x
    ends x named over = entries_noted t.clients r.played p r.run (r.start ∙ sym r.begins) r.visits s x (low s script) here (sym (ap (λ (m : Me). m.who) named)) named over l is

    -- its turns are those that the account has
    own : own_turns s.client r.played.turns ≡ left.turns ++ []
    own = sym (own_turns_are start r.played.turns (state r.played.words r.played.accounts) r.run.leads s.client here) ∙ sym (append-nil left.turns)

    takes : Takes l
    takes =
        let fits : ScriptFits start.geometry.clients s = subst (λ (z : Start). ScriptFits z.geometry.clients s) (sym r.begins) (script_of (ScriptFits t.clients) t.scripts s.client s trace.scripts script) in
        let eras : EraFits start.first_era = subst (λ (z : Start). EraFits z.first_era) (sym r.begins) (omega arith, omega arith) in
        let era : start.first_era < 2 ^ 46 = subst (λ (z : Start). z.first_era < 2 ^ 46) (sym r.begins) (omega arith) in
        let (dead, all, h) = r.turns s script in
        let (up, g, m) = given (member start.geometry s.client) s left dead all left.turns (first_account start s.client) h.turns h.made in
        let took = takes_effect maps tells start s here l.entries l.end left none [] tt ends (state r.played.words r.played.accounts) r.run.held.at.fits eras era (ap (λ (z : Start). z.tables) r.begins) fits r.played.turns r.run.leads left.turns (own, g, m) in
        subst (λ (z : Start). TakesEffect z.geometry l 0 [] (first_words z) (turns_of r.played.turns)) r.begins
        (subst (λ (k : ℕ). TakesEffect start.geometry (record { client = k; entries = l.entries; end = l.end }) 0 [] (first_words start) (turns_of r.played.turns)) (sym is.client) took)

  pub interleaved_takes : AllByRecursion Takes ls
  interleaved_takes = all_logs t.scripts p Takes takes t.scripts ls (λ k s e. script_at t.scripts k s trace.apart e) r.logs
