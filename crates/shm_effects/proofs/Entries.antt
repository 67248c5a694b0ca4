-- the entries of a client that have taken effect: its map is their fold
use Rattle.std.proofs.Common.{◌≡◌, ◌%◌, Bool, true, false, get_or, length, refl, sym, ap, ◌∙◌, subst, List, []}
use Rattle.std.proofs.lemmas.Option.{get_or_from_slice_get}
use Rattle.std.specs.{Prelude.{Option, Some, None, slice_get}, Option.is_some, Ordering.nat_cmp}
use Rattle.std.specs.FinMap as finmap
use Rattle.shm_graph.specs.{declared.run.{Account.Account, Start.Start}, Held.is_loose, Runs.{Stood, first_part}}
use Rattle.shm_graph.specs.Tables.{find}
use Rattle.shm_graph.proofs.States.FirstHeld.{same_everywhere}
use Rattle.kind_parts.specs.Reparting.{map_in}
use Rattle.shm_script.specs.{declared.{line.Line.{Line, TheVariants.Del}, log.{End.End, Entry.Entry}}, Values.Scripted}
use Rattle.shm_agents.specs.Agents.{AgentsStand, IsFold, IsFresh, IsPlaying, Playing, Stage, shown_by}
use Rattle.shm_agents.specs.{Agents.Stage.{Fresh, Plays, Parted, Fallen, Mending, Mended}, Logs.with_effect}
use Rattle.shm_agents.proofs.{Dying.{CommandMaps, dies_commanding, dies_leaving, shows_line}, Loose.has_table}

-- the line that comes next
abbrev pub line_next : Scripted → Playing → Line
line_next s x = get_or s.lines (length x.entries) (Del 0)

abbrev pub entries_by : Option End → Scripted → Playing → List Entry
entries_by None s x = with_effect x.entries (line_next s x) (shown_by x.work)
entries_by (Some e) s x = x.entries

-- those that have answered, and while the client hasn't ended the one that shows its answer
abbrev pub effective : Scripted → Playing → List Entry
effective s x = entries_by x.end s x

pub when_ended : (s : Scripted) (x : Playing) (e : End) → x.end ≡ Some e → effective s x ≡ x.entries
when_ended s x e is = ap (λ (o : Option End). entries_by o s x) is

pub when_going : (s : Scripted) (x : Playing) → x.end ≡ None → effective s x ≡ with_effect x.entries (line_next s x) (shown_by x.work)
when_going s x is = ap (λ (o : Option End). entries_by o s x) is

-- its line, where it shows an answer
pub line_at : (s : Scripted) (x : Playing) (e : Account) → IsPlaying s x e → is_some (shown_by x.work) ≡ true → slice_get s.lines (length x.entries) ≡ Some (line_next s x)
line_at s x e p shown =
    let l = shows_line s x e p shown in
    l.1 ∙ ap (λ (z : Line). Some z) (sym (get_or_from_slice_get s.lines (length x.entries) l.0 (Del 0) l.1))

module _ (maps : CommandMaps) (start : Start) (s : Scripted) (x : Playing) (e : Account) (h : AgentsStand start s x e) (stood : Stood start e) where
  table : is_loose e.memo.part ≡ false
  table = has_table start e stood h.may.tables

  fresh_fold : IsFresh start s x e → IsFold [] e.memo
  fresh_fold f key =
      ap (λ (a : Account). map_in a.memo.part key) f.account
      ∙ (ap (λ (b : Bool). map_in (first_part b) key) h.may.tables
      ∙ (ap (find key) (same_everywhere 16 (key % 16) []) ∙ sym (finmap.get-empty nat_cmp key)))

  plays_fold : (p : IsPlaying s x e) → IsFold (with_effect x.entries (line_next s x) (shown_by x.work)) e.memo
  plays_fold p = go (slice_get s.lines (length x.entries)) refl
    where
      go : (o : Option Line) → slice_get s.lines (length x.entries) ≡ o → IsFold (with_effect x.entries (line_next s x) (shown_by x.work)) e.memo
      go (Some l) is = (dies_commanding s x e p h.may.client table maps (line_next s x) (line_at s x e p) l is).fold
      go None is = (dies_leaving s x e p h.may.client table maps (line_next s x) (line_at s x e p) is).fold

  abbrev Folds : List Entry → Type 0
  Folds es = IsFold es e.memo

  pub effective_fold : IsFold (effective s x) e.memo
  effective_fold = go h.stage
    where
      go : Stage start s x e → IsFold (effective s x) e.memo
      go (Fresh f) = subst Folds (sym (when_going s x f.end ∙ (ap (with_effect x.entries (line_next s x)) (ap shown_by f.work) ∙ f.entries))) (fresh_fold f)
      go (Plays p) = subst Folds (sym (when_going s x p.end)) (plays_fold p)
      go (Parted p) = subst Folds (sym (when_ended s x _ p.end)) p.fold
      go (Fallen f l) = subst Folds (sym (when_ended s x l.end l.ended)) l.fold
      go (Mending f l) = subst Folds (sym (when_ended s x l.end l.ended)) l.fold
      go (Mended f l) = subst Folds (sym (when_ended s x l.end l.ended)) l.fold
