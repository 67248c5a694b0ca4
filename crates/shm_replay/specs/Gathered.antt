-- the logs of the clients of a trace's scripts
use Rattle.std.specs.Prelude.{Option, Some, None, List, [], ◌∷◌, ◌++◌, slice_index_or}
use Rattle.shm_script.specs.{Logged.Logged, Values.Scripted}
use Rattle.shm_agents.specs.Agents.{Playing, logged}

-- the log of a client, where there is one
abbrev pub log_at : Option Playing → List Logged
log_at None = []
log_at (Some x) = logged x ∷ []

-- those of the scripts' clients, in the order of the scripts
abbrev pub logs_by : List Scripted → List (Option Playing) → List Logged
logs_by [] xs = []
logs_by (s ∷ ss) xs = log_at (slice_index_or xs s.client None) ++ logs_by ss xs
