-- the clients of a trace before their first word steps
use Rattle.std.proofs.Common.{◌≡◌, ℕ, ◌+◌, ◌^◌, ◌<◌, Bool, true, false, eqb, List, [], ◌∷◌, refl, sym, ap, ◌∙◌, subst, arith}
use Rattle.std.proofs.lemmas.Bool.{cond-false, cond-true, eqb-true}
use Rattle.std.specs.Prelude.{Some, None, slice_get}
use Rattle.shm_graph.specs.{declared.{ask.Me.Me, run.Start.Start}, Runs.{account_at, first_account}}
use Rattle.shm_graph.proofs.States.FirstHeld.{at-accounts_from}
use Rattle.shm_count.specs.Roots.{member}
use Rattle.shm_plain.specs.Pools.{first_pool}
use Rattle.shm_script.specs.{Ranges.{IsTrace, ScriptFits}, Values.{Scripted, Traced}}
use Rattle.shm_agents.specs.{Agents.{Playing, AgentsStand}, Turns.script_in}
use Rattle.shm_replay.specs.{Replays.start_of, Seats.{IsSeat, Seat}}
use Rattle.shm_replay.proofs.{Gathering.same_some, WholeRun.all_at}

pub account_first : (s : Start) (c : ℕ) → c < s.geometry.clients → account_at (first_pool s).accounts c ≡ first_account s c
account_first s c l = at-accounts_from s 0 s.geometry.clients c _ l ∙ ap (first_account s) (let z : 0 + c ≡ c = omega arith in z)

pub script_client : (ss : List Scripted) (c : ℕ) (s : Scripted) → script_in ss c ≡ Some s → s.client ≡ c
script_client [] c s e = absurd (cc)
script_client (r ∷ ss) c s e = go (eqb r.client c) refl (script_client ss c s)
  where
    go : (b : Bool) → eqb r.client c ≡ b → (script_in ss c ≡ Some s → s.client ≡ c) → s.client ≡ c
    go true f later = ap (λ (x : Scripted). x.client) (sym (same_some r s (sym (cond-true (eqb r.client c) (Some r) (script_in ss c) f) ∙ e))) ∙ eqb-true r.client c f
    go false f later = later (sym (cond-false (eqb r.client c) (Some r) (script_in ss c) f) ∙ e)

-- what is said of agents that have been made for a script
abbrev pub NewStands : Me → Scripted → Playing → Type 0
NewStands me s x = (start : Start) → start.geometry ≡ me.geometry → start.first_era < 2 ^ 46 → start.tables ≡ true → s.client ≡ me.who → ScriptFits me.geometry.clients s → AgentsStand start s x (first_account start me.who)

module _ (t : Traced) (trace : IsTrace t) (who : ℕ) (l : who < t.clients) where
  pub none_seat : script_in t.scripts who ≡ None → Seat t (first_pool (start_of t)) who None
  none_seat e = (e, account_first (start_of t) who l)

  pub new_seat : (at : ℕ) (s : Scripted) (me : Me) (x : Playing) → slice_get t.scripts at ≡ Some s → script_in t.scripts who ≡ Some s → me ≡ member (start_of t).geometry who → x.me ≡ me → x.script ≡ at → NewStands me s x → IsSeat t (first_pool (start_of t)) who x
  new_seat at s me x has is em xm xs new =
      let fits : ScriptFits t.clients s = all_at (ScriptFits t.clients) t.scripts at s trace.scripts has in
      let stands = subst (λ (m : Me). NewStands m s x) em new (start_of t) refl (omega arith) refl (script_client t.scripts who s is) fits in
      record {
        me = xm ∙ em;
        script = s;
        is = is;
        at = ap (slice_get t.scripts) xs ∙ has;
        stands = subst (AgentsStand (start_of t) s x) (sym (account_first (start_of t) who l)) stands;
      }
