-- the words of a state that holds show the maps of its memos
use Rattle.std.proofs.{Common.{◌≡◌, ℕ, ◌<◌, sym, subst, false, List}, Math.Path.fun_ext, lemmas.Bool.true≢false}
use Rattle.std.specs.Prelude.{Option}
use Rattle.std.specs.FinMap as finmap
use Rattle.shm_words.specs.declared.geometry.Geometry.{Geometry}
use Rattle.shm_graph.specs.declared.{run.Account.Account, spot.Spot.{Spot, TheVariants.Home}, table.Part.Part}
use Rattle.shm_graph.specs.{declared.table.Part.TheVariants.{Loose, Table as TablePart}, Held.{PartTie, is_loose}}
use Rattle.shm_graph.specs.{Runs.{Held, memos_of}, Spots.see, Tables.{Contents, IsPartition, contents_of}}
use Rattle.shm_graph.specs.Views.{View, targets, view}
use Rattle.shm_graph.proofs.States.HeldSound.{held_state_sound}
use Rattle.shm_headline.specs.Now.{names}
use Rattle.shm_headline.proofs.Named.{names_told}
use Rattle.kind_parts.specs.Reparting.{chain_in, map_in}
use Rattle.shm_script.specs.Logged.{Table}
use Rattle.shm_effects.specs.Effects.{AreChains, HoldsAt, HoldsMap}

-- the partition that a part for tables is
table_by : (x : Contents) (c home : ℕ) (part : Part) → is_loose part ≡ false → PartTie x c home part → IsPartition x c home (chain_in part)
table_by x c home Loose e h = absurd (true≢false e)
table_by x c home (TablePart chains) e h = h

module _ (g : Geometry) (ws : List ℕ) (es : List Account) (held : Held g ws es) (c : ℕ) (l : c < g.clients) (tables : is_loose (memos_of es c).part ≡ false) where
  abbrev w : Spot → ℕ
  w = see g ws

  abbrev v : View
  v = view (memos_of es)

  abbrev part : Part
  part = (memos_of es c).part

  named : targets g w v ≡ names g w
  named = fun_ext (λ p. sym (names_told g w v (held_state_sound g ws es held) p))

  tied : AreChains g ws c (chain_in part)
  tied = table_by (contents_of g.wide w (names g w)) c (names g w (Home c)) part tables (subst (λ (t : Spot → ℕ). PartTie (contents_of g.wide w t) c (t (Home c)) part) named (held.at.part c l))

  pub holds_map : (m : Table) → ((key : ℕ) → map_in part key ≡ finmap.get m key) → HoldsMap g ws c m
  holds_map m h = (chain_in part, tied, h)

  pub holds_at : (key : ℕ) (x : Option (ℕ × ℕ)) → map_in part key ≡ x → HoldsAt g ws c key x
  holds_at key x h = (chain_in part, tied, h)
