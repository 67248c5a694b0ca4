-- logs by scripts, and what was told by logs
use Rattle.std.proofs.{Common.{◌≡◌, ◌⊎◌, true, List, [], ◌∷◌, sym, ◌∙◌, subst, inl, inr}, lemmas.Bool.true≢false}
use Rattle.std.specs.List.{AllByRecursion}
use Rattle.shm_agents.specs.{Courses.{AreCommandsTold, IsAside, TellsEntry, TellsNone}, Logs.{AreLogs, AreUnspent}}
use Rattle.shm_graph.specs.declared.{ask.Me.Me, run.LoggedLine.LoggedLine}
use Rattle.shm_plain.specs.Pools.{Pool}
use Rattle.shm_script.specs.{declared.log.Entry.Entry, Logged.Logged, Values.Scripted}
use Rattle.shm_outcomes.specs.Histories.{AreLogged, IsAnEntry, IsLogOfScript}
use Rattle.shm_outcomes.proofs.Elements.{all_as, contains_first, contains_later}

-- ---- logs

log_later : (s : Scripted) (ss : List Scripted) (l : Logged) → IsLogOfScript ss l → IsLogOfScript (s ∷ ss) l
log_later s ss l h = record { script = h.script; is = contains_later s ss h.script h.is; client = h.client; lines = h.lines; unspent = h.unspent }

pub logs_of : (p : Pool) (ss : List Scripted) (ls : List Logged) → AreLogs p ss ls → AllByRecursion (λ (l : Logged). AreUnspent l.entries) ls → AllByRecursion (IsLogOfScript ss) ls
logs_of p [] ls are unspent = subst (AllByRecursion (IsLogOfScript [])) (sym are) tt
logs_of p (s ∷ ss) [] are unspent = tt
logs_of p (s ∷ ss) (l ∷ ls) are unspent =
    (record { script = s; is = contains_first s ss; client = are.0.client; lines = are.0.lines; unspent = unspent.0 }, all_as (IsLogOfScript ss) (IsLogOfScript (s ∷ ss)) (log_later s ss) ls (logs_of p ss ls are.1 unspent.1))

-- ---- what was told

module _ (me : Me) where
  abbrev IsTold : List Entry → LoggedLine → Type 0
  IsTold es x = x.finished ≡ true → IsAside x.line ⊎ IsAnEntry me es x

  none_told : (es : List Entry) (x : LoggedLine) → TellsNone me x → IsTold es x
  none_told es x (inl aside) f = inl aside
  none_told es x (inr (l, cut)) f = absurd (true≢false (sym f ∙ cut.cut))

  entry_told : (e : Entry) (es : List Entry) (x : LoggedLine) → TellsEntry me x e → IsTold (e ∷ es) x
  entry_told e es x (inl h) f = inr (record { entry = e; is = contains_first e es; tells = h })
  entry_told e es x (inr cut) f = absurd (true≢false (sym f ∙ cut.cut))

  later_told : (e : Entry) (es : List Entry) (x : LoggedLine) → IsTold es x → IsTold (e ∷ es) x
  later_told e es x h f = by (h f)
    where
      by : IsAside x.line ⊎ IsAnEntry me es x → IsAside x.line ⊎ IsAnEntry me (e ∷ es) x
      by (inl aside) = inl aside
      by (inr y) = inr (record { entry = y.entry; is = contains_later e es y.entry y.is; tells = y.tells })

  pub all_logged : (told : List LoggedLine) (es : List Entry) → AreCommandsTold me told es → AreLogged me told es
  all_logged [] es h = tt
  all_logged (x ∷ told) [] h = (none_told [] x h.0, all_logged told [] h.1)
  all_logged (x ∷ told) (e ∷ es) (inl h) = (none_told (e ∷ es) x h.0, all_logged told (e ∷ es) h.1)
  all_logged (x ∷ told) (e ∷ es) (inr h) = (entry_told e es x h.0, all_as (IsTold es) (IsTold (e ∷ es)) (later_told e es) told (all_logged told es h.1))
