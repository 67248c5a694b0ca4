-- who has a log
use Rattle.std.proofs.Common.{◌≡◌, ◌==◌, ℕ, Bool, true, false, cond, List, [], ◌∷◌, Option, Some, None, refl, ap, ◌∙◌}
use Rattle.std.specs.Ordering.{nat_cmp}
use Rattle.std.specs.FinMap as finmap
use Rattle.shm_plain.specs.Pools.{Pool}
use Rattle.shm_agents.specs.{Logs.AreLogs, Turns.script_in}
use Rattle.shm_replay.specs.Replays.{fold_in}
use Rattle.shm_script.specs.{Logged.{Logged, Table}, Values.Scripted}

other : (b : Bool) (s : Scripted) (later : Option Scripted) → cond b (Some s) later ≡ None → (b ≡ false) × (later ≡ None)
other true s later e = cc
other false s later e = (refl, e)

-- an identity without a script has no log
no_script_no_log : (p : Pool) (ss : List Scripted) (ls : List Logged) (c : ℕ) → AreLogs p ss ls → script_in ss c ≡ None → fold_in ls c ≡ finmap.empty
no_script_no_log p [] ls c are none = ap (λ (xs : List Logged). fold_in xs c) are
no_script_no_log p (s ∷ ss) [] c are none = absurd are
no_script_no_log p (s ∷ ss) (l ∷ ls) c are none =
    let o = other (s.client == c) s (script_in ss c) none in
    let same : (l.client == c) ≡ false = ap (λ n. n == c) are.0.client ∙ o.0 in
    rw same (no_script_no_log p ss ls c are.1 o.1)

-- so a map that is the fold of the logs is empty there
pub no_script_empty : (p : Pool) (ss : List Scripted) (ls : List Logged) (c key : ℕ) (found : Option (ℕ × ℕ)) → AreLogs p ss ls → script_in ss c ≡ None → found ≡ finmap.get (fold_in ls c) key → found ≡ None
no_script_empty p ss ls c key found are none e = e ∙ (ap (λ (m : Table). finmap.get m key) (no_script_no_log p ss ls c are none) ∙ finmap.get-empty nat_cmp key)
