-- logs by the scripts of a trace, and by what was told of identities
use Rattle.std.specs.{Prelude.{◌≡◌, ◌⊎◌, true, List, length, map, take}, List.{AllByRecursion, Contains}}
use Rattle.shm_graph.specs.declared.{ask.Me.Me, run.LoggedLine.LoggedLine}
use Rattle.shm_agents.specs.{Courses.IsAside, Logs.{AreUnspent, IsEntry}}
use Rattle.shm_script.specs.{declared.log.Entry.Entry, Logged.Logged, Values.Scripted}

-- the log is of one of these scripts: it is that of its client, its entries are of the first commands of it, in order, and none of them was refused for a spent era
pub record IsLogOfScript (ss : List Scripted) (l : Logged) : Type 0 where
  pub script : Scripted
  pub is : Contains ss script
  pub client : l.client ≡ script.client
  pub lines : map (λ (e : Entry). e.line) l.entries ≡ take (length l.entries) script.lines
  pub unspent : AreUnspent l.entries

-- what was told is one of these entries, with the answer of its trail
pub record IsAnEntry (me : Me) (es : List Entry) (x : LoggedLine) : Type 0 where
  pub entry : Entry
  pub is : Contains es entry
  pub tells : IsEntry me x entry

-- of what was told each line that was finished is a command that is one of these entries, or no command
abbrev pub AreLogged : Me → List LoggedLine → List Entry → Type 0
AreLogged me told es = AllByRecursion (λ (x : LoggedLine). x.finished ≡ true → IsAside x.line ⊎ IsAnEntry me es x) told
